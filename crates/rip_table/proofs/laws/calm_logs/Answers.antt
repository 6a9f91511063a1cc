use Rattle.std.proofs.Common.{List}
use Rattle.rip_log.specs.Logs.{Numbered}
use Rattle.rip_table.specs.State.{State}
use Rattle.rip_table.proofs.CalmLemmas.{accepted-calm, calm-accepted}
use Rattle.rip_table.proofs.laws.calm_logs.Goals as goal

pub returns : goal.returns
returns c n old new k text log all lawful valid fits is_log is_all =
    let joins = λ (records : List Numbered) (s : State). c.joined_logs.ensures.join n old s records lawful valid fits in (
      accepted-calm c.good_lines.ensures.log c.good_lines.ensures.records n old joins k text log all is_log is_all new,
      calm-accepted c.good_lines.ensures.log c.good_lines.ensures.records n old joins k text log all is_log is_all new,
    )
