use Rattle.std.proofs.Common.{sym, ap, ◌≡◌, ◌∙◌, ◌++◌, ◌∷◌, [], arith}
use Rattle.std.specs.List.{slice_get}
use Rattle.indexmap.proofs.MapLemmas.{OnOk-map}
use Rattle.std.proofs.lemmas.Bool.{lt-leb, le-leb}
use Rattle.rip_table.specs.Tallies.{is_origin_of, new_row, origin_of, rows_of_strangers}
use Rattle.rip_table.specs.declared.tallies.strangers.TheConstants.{MOST_STRANGERS}
use Rattle.rip_table.proofs.StrangerLemmas.{length-is, step-new, step-other, step-told, told-is}
use Rattle.rip_table.proofs.tallies.strangers.Strangers.add.Goals as goal

pub returns-in-Some-clause-ok : goal.returns-in-Some-clause-ok
returns-in-Some-clause-ok g c events h =
    let rows = rows_of_strangers c.args.self.now.told.entries in
    let o = origin_of c.args.link.now c.args.address in
    let at = ap (λ l. slice_get l c.in-Some.k) (sym (told-is rows c.args.self.now.others events h)) ∙ c.in-Some.ensures.some in
    rw (c.add_to.ensures.rows, c.add_to.ensures.others) (step-told rows c.args.self.now.others events c.in-Some.k o c.args.line c.args.bad h at)

pub returns-then-len-lt-MOST_STRANGERS-clause-ok :
    goal.returns-then-len-lt-MOST_STRANGERS-clause-ok
returns-then-len-lt-MOST_STRANGERS-clause-ok g c =
    OnOk-map c.add_new.result (rows_of_strangers c.add_new.new.self.told.entries ≡ rows_of_strangers c.args.self.now.told.entries ++ new_row
    (origin_of c.args.link.now c.args.address) c.args.line c.args.bad ∷ []) _ (λ added events h.
    let es = c.args.self.now.told.entries in
    let none = ap (λ l. is_origin_of l (origin_of c.args.link.now c.args.address)) (sym (told-is (rows_of_strangers es) c.args.self.now.others events h)) ∙ c.in_default.ensures.none in
    rw (added, c.add_new.ensures.others) (step-new (rows_of_strangers es) c.args.self.now.others events (origin_of c.args.link.now c.args.address) c.args.line c.args.bad h none
    (lt-leb MOST_STRANGERS _ (omega (arith, length-is es c.args.self.now.others events h, c.len.ensures.len, c.if-len-lt-MOST_STRANGERS.true))))) c.add_new.ensures.ok

pub returns-clause-ok : goal.returns-clause-ok
returns-clause-ok g c events h =
    let es = c.args.self.now.told.entries in
    let none = ap (λ l. is_origin_of l (origin_of c.args.link.now c.args.address)) (sym (told-is (rows_of_strangers es) c.args.self.now.others events h)) ∙ c.in_default.ensures.none in
    rw c.add.ensures (step-other (rows_of_strangers es) c.args.self.now.others events (origin_of c.args.link.now c.args.address) c.args.line c.args.bad h none
    (le-leb MOST_STRANGERS _ (omega (arith, length-is es c.args.self.now.others events h, c.len.ensures.len, c.if-len-lt-MOST_STRANGERS.false))))
