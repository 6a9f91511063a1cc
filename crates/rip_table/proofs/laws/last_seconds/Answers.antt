use Rattle.rip_table.specs.State.{new_state}
use Rattle.rip_table.proofs.LastSecondLemmas.{last-second}
use Rattle.rip_table.proofs.SaidLemmas.{interface_below}
use Rattle.rip_table.proofs.laws.last_seconds.Goals as goal

pub returns : goal.returns
returns c n window said records s lawful within are join =
    let state = c.new_states.ensures n lawful in
    last-second n window said records s (λ capture i found. interface_below n (new_state n) capture.link capture.sender i state.1 (c.senders.ensures.gives n capture.link capture.sender i found)) within are
    ((c.joined_logs.ensures.join n (new_state n) s records lawful state.0 state.1).1 join)
