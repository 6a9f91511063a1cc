use Rattle.std.proofs.Common.{◌≡◌, ◌∙◌, sym, ap, subst, Err, Ok, Bool, true, set, List, ℕ, ◌<◌, arith, rules, length}
use Rattle.rip_wire.specs.Prefix.{Block}
use Rattle.rip_wire.specs.declared.entry.Entry.{Entry}
use Rattle.rip_table.specs.declared.error.TableError.TheVariants.{Memory}
use Rattle.rip_table.specs.declared.list.shown.Shown.{Shown}
use Rattle.rip_wire.specs.Datagram.{kind_of, message_of}
use Rattle.rip_wire.specs.Message.{response}
use Rattle.rip_wire.specs.declared.datagram.Kind.TheVariants.{Response}
use Rattle.rip_table.specs.State.{IsState, State}
use Rattle.rip_table.specs.Joined.{Takes, joined_entries}
use Rattle.rip_table.specs.Numbers.{AreFaultless, IsChecked}
use Rattle.rip_table.specs.ListState.{AreAdded, list_state}
use Rattle.rip_table.proofs.FitLemmas.{Fits-taken}
use Rattle.rip_table.proofs.NumberLemmas.{response-is}
use Rattle.rip_table.proofs.TakingLemmas.{refused, taken, allocating}
use Rattle.rip_table.proofs.ListLemmas.{list_state-heard}
use Rattle.rip_plan.specs.Network.{Network}
use Rattle.rip_table.proofs.list.ListTableMetricTable.take.Goals as goal

pub returns-in_err-brings : goal.returns-in_err-brings
returns-in_err-brings c =
    let takes : Takes c.args.plan.now c.args.interface (list_state c.args.self.now.heard.items c.args.self.now.prefixes.items c.args.self.now.shown.items) (message_of c.args.datagram.now)
    (list_state c.args.self.now.heard.items c.args.self.now.prefixes.items c.args.self.now.shown.items) c.from_residual.result =
    let s = list_state c.args.self.now.heard.items c.args.self.now.prefixes.items c.args.self.now.shown.items in
    let m = message_of c.args.datagram.now in
    let kind : kind_of m ≡ Response = search rules in
    let es = c.entries-entries.result.now in
    let message : m ≡ response es = response-is m kind ∙ ap response (sym c.entries-entries.ensures.entries) in
    let is : c.from_residual.result ≡ Err (c.in_err-brings.field-0).0 = search rules in
    let checked : IsChecked c.args.plan.now c.args.interface s es (Err (c.in_err-brings.field-0).0) = c.in_err-brings.ensures in
    subst (Takes c.args.plan.now c.args.interface s m s) (sym is) (refused c.args.plan.now c.args.interface s m es (c.in_err-brings.field-0).0 message checked)
    in
    record {
      takes = takes;
      fits = Fits-taken c.args.plan.now c.args.interface (list_state c.args.self.now.heard.items c.args.self.now.prefixes.items c.args.self.now.shown.items)
          (list_state c.args.self.now.heard.items c.args.self.now.prefixes.items c.args.self.now.shown.items) (message_of c.args.datagram.now) c.from_residual.result c.requires.fits takes;
    }

pub returns-in_err-add_new : goal.returns-in_err-add_new
returns-in_err-add_new c =
    let takes : Takes c.args.plan.now c.args.interface (list_state c.args.self.now.heard.items c.args.self.now.prefixes.items c.args.self.now.shown.items) (message_of c.args.datagram.now)
    (list_state c.args.self.now.heard.items c.add_new.new.prefixes.items c.add_new.new.shown.items) c.from_residual-in_err-add_new.result =
    let heard = c.args.self.now.heard.items in
    let s = list_state heard c.args.self.now.prefixes.items c.args.self.now.shown.items in
    let m = message_of c.args.datagram.now in
    let kind : kind_of m ≡ Response = search rules in
    let es = c.entries-entries.result.now in
    let message : m ≡ response es = response-is m kind ∙ ap response (sym c.entries-entries.ensures.entries) in
    let is : c.from_residual-in_err-add_new.result ≡ Err Memory = search rules in
    let checked : AreFaultless c.args.plan.now c.args.interface s es = (c.in_ok-brings.ensures).0 in
    let new = list_state heard c.add_new.new.prefixes.items c.add_new.new.shown.items in
    let same : new ≡ s = ap (λ (p : List Block). list_state heard p c.add_new.new.shown.items) c.in_err-add_new.ensures.prefixes ∙ ap
    (list_state heard c.args.self.now.prefixes.items) c.in_err-add_new.ensures.shown in
    subst (Takes c.args.plan.now c.args.interface s m new) (sym is)
    (allocating c.args.plan.now c.args.interface s m es new message checked (sym (c.in_ok-brings.ensures).1 ∙ c.in_err-add_new.ensures.allocates) same)
    in
    record {
      takes = takes;
      fits = Fits-taken c.args.plan.now c.args.interface (list_state c.args.self.now.heard.items c.args.self.now.prefixes.items c.args.self.now.shown.items)
          (list_state c.args.self.now.heard.items c.add_new.new.prefixes.items c.add_new.new.shown.items) (message_of c.args.datagram.now) c.from_residual-in_err-add_new.result c.requires.fits takes;
    }

-- what was taken is the join of the entries
joined_is : (n : Network) (i : ℕ) (heard : List Bool) (prefixes new_prefixes : List Block) (shown new_shown : List Shown) (es : List Entry) → i < length heard
    → (checked : AreFaultless n i (list_state heard prefixes shown) es) → AreAdded i es prefixes shown new_prefixes new_shown → list_state (set heard i true) new_prefixes new_shown ≡ checked.0
joined_is n i heard prefixes new_prefixes shown new_shown es lt checked added =
    added (set heard i true) n checked.0 (ap (λ (s : State). joined_entries n i s es) (list_state-heard heard prefixes shown i lt) ∙ checked.1)

pub invariant_of-self-2 : goal.invariant_of-self-2
invariant_of-self-2 c =
    let same = joined_is c.args.plan.now c.args.interface c.args.self.now.heard.items c.args.self.now.prefixes.items c.add_new.new.prefixes.items c.args.self.now.shown.items c.add_new.new.shown.items
    c.entries-entries.result.now (omega (arith, c.requires.interface, c.requires.fits.interfaces)) (c.in_ok-brings.ensures).0 c.in_ok-add_new.ensures.ok in
    record { valid = subst IsState (sym same) ((c.in_ok-brings.ensures).0).2 }

pub returns : goal.returns
returns c =
    let takes : Takes c.args.plan.now c.args.interface (list_state c.args.self.now.heard.items c.args.self.now.prefixes.items c.args.self.now.shown.items) (message_of c.args.datagram.now)
    (list_state (set c.args.self.now.heard.items c.args.interface true) c.add_new.new.prefixes.items c.add_new.new.shown.items) (Ok tt) =
    let heard = c.args.self.now.heard.items in
    let s = list_state heard c.args.self.now.prefixes.items c.args.self.now.shown.items in
    let m = message_of c.args.datagram.now in
    let kind : kind_of m ≡ Response = search rules in
    let es = c.entries-entries.result.now in
    let message : m ≡ response es = response-is m kind ∙ ap response (sym c.entries-entries.ensures.entries) in
    let checked : AreFaultless c.args.plan.now c.args.interface s es = (c.in_ok-brings.ensures).0 in
    taken c.args.plan.now c.args.interface s m es (list_state (set heard c.args.interface true) c.add_new.new.prefixes.items c.add_new.new.shown.items) message checked
    (joined_is c.args.plan.now c.args.interface heard c.args.self.now.prefixes.items c.add_new.new.prefixes.items c.args.self.now.shown.items c.add_new.new.shown.items es
    (omega (arith, c.requires.interface, c.requires.fits.interfaces)) checked c.in_ok-add_new.ensures.ok)
    in
    record {
      takes = takes;
      fits = Fits-taken c.args.plan.now c.args.interface (list_state c.args.self.now.heard.items c.args.self.now.prefixes.items c.args.self.now.shown.items)
          (list_state (set c.args.self.now.heard.items c.args.interface true) c.add_new.new.prefixes.items c.add_new.new.shown.items) (message_of c.args.datagram.now) (Ok tt) c.requires.fits takes;
    }
