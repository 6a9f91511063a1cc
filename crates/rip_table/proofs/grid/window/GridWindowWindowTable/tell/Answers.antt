use Rattle.std.proofs.Common.{◌≡◌, ◌<◌, ◌∙◌, sym, ap, subst, Err, Ok, set, take, length, ℕ, arith, rules}
use Rattle.std.proofs.Math.ListN.{length-set}
use Rattle.rip_wire.specs.Datagram.{kind_of, message_of}
use Rattle.rip_wire.specs.Message.{response}
use Rattle.rip_wire.specs.declared.datagram.Kind.TheVariants.{Response}
use Rattle.rip_table.specs.declared.error.TableError.TheVariants.{Memory}
use Rattle.rip_table.specs.State.{IsState}
use Rattle.rip_table.specs.Numbers.{AreFaultless, IsChecked}
use Rattle.rip_table.specs.Rows.{IsGrid, rows_of}
use Rattle.rip_table.specs.Window.{Tells, Window, shown, without_shown}
use Rattle.rip_table.specs.WindowRows.{window_of}
use Rattle.rip_table.proofs.NumberLemmas.{response-is}
use Rattle.rip_table.proofs.WindowLemmas.{Fits-told, told-is, told-memory, told-refused, told-taken, told-valid}
use Rattle.rip_table.proofs.grid.window.GridWindowWindowTable.tell.Goals as goal

pub returns-in_err-check-clause-tells : goal.returns-in_err-check-clause-tells
returns-in_err-check-clause-tells g c =
    let heard = c.args.self.now.heard.items in
    let rows = rows_of c.args.self.now.rows.entries in
    let n = c.args.plan.now in
    let i = c.args.interface in
    let m = message_of c.args.datagram.now in
    let kind : kind_of m ≡ Response = search rules in
    let es = take c.read_entries-count.result c.read_entries-count.new.room in
    let message : m ≡ response es = response-is m kind ∙ ap response (sym c.read_entries-count.ensures.entries) in
    let is : c.from_residual.result ≡ Err (c.in_err-check.field-0).0 = search rules in
    let checked : IsChecked n i (without_shown i (shown (window_of heard rows))) es (Err (c.in_err-check.field-0).0) = c.in_err-check.ensures in
    subst (Tells n c.args.term i (window_of heard rows) m (window_of heard rows)) (sym is)
    (told-refused n c.args.term i (window_of heard rows) m es (c.in_err-check.field-0).0 message checked)

pub returns-in_err-add-clause-tells : goal.returns-in_err-add-clause-tells
returns-in_err-add-clause-tells g c =
    let heard = c.args.self.now.heard.items in
    let rows = rows_of c.args.self.now.rows.entries in
    let n = c.args.plan.now in
    let i = c.args.interface in
    let m = message_of c.args.datagram.now in
    let kind : kind_of m ≡ Response = search rules in
    let es = take c.read_entries-count.result c.read_entries-count.new.room in
    let message : m ≡ response es = response-is m kind ∙ ap response (sym c.read_entries-count.ensures.entries) in
    let is : c.from_residual-in_err-add.result ≡ Err Memory = search rules in
    let checked : AreFaultless n i (without_shown i (shown (window_of heard rows))) es = (c.in_ok-check.ensures).0 in
    let new = window_of heard (rows_of c.add.new.rows.entries) in
    subst (Tells n c.args.term i (window_of heard rows) m new) (sym is)
    (told-memory n c.args.term i (window_of heard rows) new m es message checked c.in_err-add.ensures.allocates.0 c.in_err-add.ensures.allocates.1 c.in_err-add.ensures.allocates.2 c.in_err-add.ensures.allocates.3
    (ap (window_of heard) c.in_err-add.ensures.made))

pub returns-clause-tells : goal.returns-clause-tells
returns-clause-tells g c =
    let heard = c.args.self.now.heard.items in
    let rows = rows_of c.args.self.now.rows.entries in
    let n = c.args.plan.now in
    let i = c.args.interface in
    let m = message_of c.args.datagram.now in
    let kind : kind_of m ≡ Response = search rules in
    let es = take c.read_entries-count.result c.read_entries-count.new.room in
    let message : m ≡ response es = response-is m kind ∙ ap response (sym c.read_entries-count.ensures.entries) in
    let checked : AreFaultless n i (without_shown i (shown (window_of heard rows))) es = (c.in_ok-check.ensures).0 in
    let new = window_of (set heard i c.get.result) (rows_of c.add.new.rows.entries) in
    told-taken n c.args.term i (window_of heard rows) new m es message checked
    (ap (λ (s : ℕ). window_of (set heard i s) (rows_of c.add.new.rows.entries)) c.get.ensures.seconds
    ∙ told-is n c.args.term i c.len-width.result heard rows (rows_of c.add.new.rows.entries) es (omega (arith, c.requires.interface, c.requires.fits.interfaces)) checked c.in_ok-add.ensures.made)

pub returns-clause-fits : goal.returns-clause-fits
returns-clause-fits g c =
    Fits-told c.args.plan.now c.args.term c.args.interface (window_of c.args.self.now.heard.items (rows_of c.args.self.now.rows.entries)) _ (message_of c.args.datagram.now) (Ok tt)
    c.requires.fits (returns-clause-tells g c)

pub invariant_of-self-2-clause-valid : goal.invariant_of-self-2-clause-valid
invariant_of-self-2-clause-valid g c =
    let heard = c.args.self.now.heard.items in
    let rows = rows_of c.args.self.now.rows.entries in
    let n = c.args.plan.now in
    let i = c.args.interface in
    let es = take c.read_entries-count.result c.read_entries-count.new.room in
    let checked : AreFaultless n i (without_shown i (shown (window_of heard rows))) es = (c.in_ok-check.ensures).0 in
    let within : i < length heard = omega (arith, c.requires.interface, c.requires.fits.interfaces) in
    let same = ap (λ (s : ℕ). window_of (set heard i s) (rows_of c.add.new.rows.entries)) c.get.ensures.seconds ∙ told-is n c.args.term i c.len-width.result heard rows (rows_of c.add.new.rows.entries) es within checked c.in_ok-add.ensures.made in
    subst (λ (v : Window). IsState (shown v)) (sym same) (told-valid n c.args.term i (window_of heard rows) es within c.args.self.now.valid checked)

pub invariant_of-self-2-clause-grid : goal.invariant_of-self-2-clause-grid
invariant_of-self-2-clause-grid g c =
    let wide = c.len-width.ensures ∙ c.args.self.now.heard.ok.0 in
    subst (λ (v : ℕ). IsGrid v (rows_of c.add.new.rows.entries)) (wide ∙ sym (length-set c.args.self.now.heard.items c.args.interface c.get.result)) c.in_ok-add.ensures.grid
