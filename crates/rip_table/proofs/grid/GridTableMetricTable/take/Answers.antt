use Rattle.std.proofs.Common.{◌≡◌, ◌∙◌, sym, ap, subst, Err, Ok, true, set, take, ℕ, arith, rules}
use Rattle.std.proofs.Math.ListN.{length-set}
use Rattle.rip_wire.specs.Datagram.{kind_of, message_of}
use Rattle.rip_wire.specs.Message.{response}
use Rattle.rip_wire.specs.declared.datagram.Kind.TheVariants.{Response}
use Rattle.rip_table.specs.declared.error.TableError.TheVariants.{Memory}
use Rattle.rip_table.specs.State.{IsState}
use Rattle.rip_table.specs.Joined.{Takes}
use Rattle.rip_table.specs.Numbers.{AreFaultless, IsChecked}
use Rattle.rip_table.specs.Rows.{IsGrid, grid_state, rows_of}
use Rattle.rip_table.proofs.FitLemmas.{Fits-taken}
use Rattle.rip_table.proofs.NumberLemmas.{response-is}
use Rattle.rip_table.proofs.TakingLemmas.{refused, taken, allocating}
use Rattle.rip_table.proofs.AfterLemmas.{taken-is}
use Rattle.rip_table.proofs.grid.GridTableMetricTable.take.Goals as goal

pub returns-in_err-brings : goal.returns-in_err-brings
returns-in_err-brings g c =
    let s = grid_state c.args.self.now.heard.items (rows_of c.args.self.now.rows.entries) in
    let m = message_of c.args.datagram.now in
    let takes : Takes c.args.plan.now c.args.interface s m s c.from_residual.result =
    let kind : kind_of m ≡ Response = search rules in
    let es = take c.read_entries-count.result c.read_entries-count.new.room in
    let message : m ≡ response es = response-is m kind ∙ ap response (sym c.read_entries-count.ensures.entries) in
    let is : c.from_residual.result ≡ Err (c.in_err-brings.field-0).0 = search rules in
    let checked : IsChecked c.args.plan.now c.args.interface s es (Err (c.in_err-brings.field-0).0) = c.in_err-brings.ensures in
    subst (Takes c.args.plan.now c.args.interface s m s) (sym is) (refused c.args.plan.now c.args.interface s m es (c.in_err-brings.field-0).0 message checked)
    in
    record {
      takes = takes;
      fits = Fits-taken c.args.plan.now c.args.interface s s m c.from_residual.result c.requires.fits takes;
    }

pub returns-in_err-add_new : goal.returns-in_err-add_new
returns-in_err-add_new g c =
    let heard = c.args.self.now.heard.items in
    let s = grid_state heard (rows_of c.args.self.now.rows.entries) in
    let new = grid_state heard (rows_of c.add_new.new.rows.entries) in
    let m = message_of c.args.datagram.now in
    let takes : Takes c.args.plan.now c.args.interface s m new c.from_residual-in_err-add_new.result =
    let kind : kind_of m ≡ Response = search rules in
    let es = take c.read_entries-count.result c.read_entries-count.new.room in
    let message : m ≡ response es = response-is m kind ∙ ap response (sym c.read_entries-count.ensures.entries) in
    let is : c.from_residual-in_err-add_new.result ≡ Err Memory = search rules in
    let checked : AreFaultless c.args.plan.now c.args.interface s es = (c.in_ok-brings.ensures).0 in
    subst (Takes c.args.plan.now c.args.interface s m new) (sym is)
    (allocating c.args.plan.now c.args.interface s m es new message checked (sym (c.in_ok-brings.ensures).1 ∙ c.in_err-add_new.ensures.allocates)
    (ap (grid_state heard) c.in_err-add_new.ensures.written))
    in
    record {
      takes = takes;
      fits = Fits-taken c.args.plan.now c.args.interface s new m c.from_residual-in_err-add_new.result c.requires.fits takes;
    }

pub invariant_of-self-2-clause-valid : goal.invariant_of-self-2-clause-valid
invariant_of-self-2-clause-valid g c =
    let same = taken-is c.args.plan.now c.args.interface c.args.self.now.heard.items (rows_of c.args.self.now.rows.entries) (rows_of c.add_new.new.rows.entries)
    (take c.read_entries-count.result c.read_entries-count.new.room)
    (omega (arith, c.requires.interface, c.requires.fits.interfaces)) c.args.self.now.valid (c.in_ok-brings.ensures).0 c.in_ok-add_new.ensures.written in
    subst IsState (sym same) ((c.in_ok-brings.ensures).0).2

pub invariant_of-self-2-clause-grid : goal.invariant_of-self-2-clause-grid
invariant_of-self-2-clause-grid g c =
    let wide = c.len-width.ensures ∙ c.args.self.now.heard.ok.0 in
    subst (λ (v : ℕ). IsGrid v (rows_of c.add_new.new.rows.entries)) (wide ∙ sym (length-set c.args.self.now.heard.items c.args.interface true)) c.in_ok-add_new.ensures.grid

pub returns : goal.returns
returns g c =
    let heard = c.args.self.now.heard.items in
    let rows = rows_of c.args.self.now.rows.entries in
    let s = grid_state heard rows in
    let new = grid_state (set heard c.args.interface true) (rows_of c.add_new.new.rows.entries) in
    let m = message_of c.args.datagram.now in
    let takes : Takes c.args.plan.now c.args.interface s m new (Ok tt) =
    let kind : kind_of m ≡ Response = search rules in
    let es = take c.read_entries-count.result c.read_entries-count.new.room in
    let message : m ≡ response es = response-is m kind ∙ ap response (sym c.read_entries-count.ensures.entries) in
    let checked : AreFaultless c.args.plan.now c.args.interface s es = (c.in_ok-brings.ensures).0 in
    taken c.args.plan.now c.args.interface s m es new message checked
    (taken-is c.args.plan.now c.args.interface heard rows (rows_of c.add_new.new.rows.entries) es
    (omega (arith, c.requires.interface, c.requires.fits.interfaces)) c.args.self.now.valid checked c.in_ok-add_new.ensures.written)
    in
    record {
      takes = takes;
      fits = Fits-taken c.args.plan.now c.args.interface s new m (Ok tt) c.requires.fits takes;
    }
