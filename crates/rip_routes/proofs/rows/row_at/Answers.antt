use Rattle.std.proofs.Common.{◌≡◌, ◌∙◌, ap, sym, false, Some, None, Option, ℕ, List, [], ◌∷◌, ◌++◌, length, refl, replicate}
use Rattle.std.specs.Option.{is_some}
use Rattle.std.specs.declared.vec.Vec.{Vec}
use Rattle.std.specs.declared.alloc.Global.{Global}
use Rattle.rip_wire.specs.Prefix.{Block}
use Rattle.rip_plan.specs.Network.{number_of_prefix}
use Rattle.rip_plan.specs.Passes.{same_prefix}
use Rattle.rip_table.specs.Rows.{heads, rows_of}
use Rattle.rip_table.proofs.NumberLemmas.{number-none, number-some}
use Rattle.rip_table.proofs.TallyLemmas.{on_err}
use Rattle.rip_table.proofs.RowLemmas.{Entries, heads-append, index-number, length-heads, length-rows, number-last, rows-append, with_row-new, with_row-old}
use Rattle.indexmap.proofs.CallerLemmas.{insert_entry-new}
use Rattle.rip_routes.proofs.rows.row_at.Goals as goal

pub returns-in-Some-clause-number : goal.returns-in-Some-clause-number
returns-in-Some-clause-number g c = sym (index-number c.args.prefix c.args.rows.now.entries) ∙ sym c.in-Some.ensures.index

pub returns-in-Some-clause-ok : goal.returns-in-Some-clause-ok
returns-in-Some-clause-ok g c =
    let rows = rows_of c.args.rows.now.entries in
    with_row-old None c.args.width rows c.args.prefix (number-some c.args.prefix (heads rows) c.in-Some.k
    (sym (index-number c.args.prefix c.args.rows.now.entries) ∙ sym c.in-Some.ensures.index))

absent_from : {X : Type 0} (o : Option X) → is_some o ≡ false → o ≡ None
absent_from None h = refl
absent_from (Some x) h = absurd (cc h)

-- the entries with a row that is new
added : {Cell : Type 0} (blank : Cell) (w : ℕ) (p : Block) (row : Vec Cell Global) (es new : Entries Cell) → row.items ≡ replicate w blank → new ≡ es ++ (p, row) ∷ [] → rows_of new ≡ rows_of es ++ (p, replicate w blank) ∷ []
added blank w p row es new empty is = ap rows_of is ∙ rows-append es p row ∙ ap (λ (xs : List _). rows_of es ++ (p, xs) ∷ []) empty

pub returns-clause-ok : goal.returns-clause-ok
returns-clause-ok g c =
    let es = c.args.rows.now.entries in
    let none = sym (index-number c.args.prefix es) ∙ sym c.in_default.ensures.index in
    let absent = absent_from _ (sym c.in_default.ensures.found) in
    added None c.args.width c.args.prefix c.in_ok-row.row es c.insert.new.self.entries c.in_ok-row.ensures
    (c.in_ok-insert.ensures.entries ∙ insert_entry-new same_prefix c.args.rows.now c.args.prefix c.in_ok-row.row absent)
    ∙ with_row-new None c.args.width (rows_of es) c.args.prefix (number-none c.args.prefix (heads (rows_of es)) none)

pub returns-clause-number : goal.returns-clause-number
returns-clause-number g c =
    let es = c.args.rows.now.entries in
    let none = sym (index-number c.args.prefix es) ∙ sym c.in_default.ensures.index in
    let absent = absent_from _ (sym c.in_default.ensures.found) in
    let long : length (heads (rows_of es)) ≡ c.len-k.result = length-heads (rows_of es) ∙ length-rows es ∙ sym c.len-k.ensures.len in
    ap (λ r. number_of_prefix c.args.prefix (heads r)) (added None c.args.width c.args.prefix c.in_ok-row.row es c.insert.new.self.entries c.in_ok-row.ensures
    (c.in_ok-insert.ensures.entries ∙ insert_entry-new same_prefix c.args.rows.now c.args.prefix c.in_ok-row.row absent))
    ∙ ap (number_of_prefix c.args.prefix) (heads-append (rows_of es) (c.args.prefix, replicate c.args.width None))
    ∙ number-last c.args.prefix (heads (rows_of es)) none
    ∙ ap (λ (k : ℕ). Some k) long

pub returns-in_err-row-clause-allocates : goal.returns-in_err-row-clause-allocates
returns-in_err-row-clause-allocates g c =
    let es = c.args.rows.now.entries in
    let none = sym (index-number c.args.prefix es) ∙ sym c.in_default.ensures.index in
    on_err c.from_residual.result _ (number-none c.args.prefix (heads (rows_of es)) none)

pub returns-in_err-insert-clause-allocates : goal.returns-in_err-insert-clause-allocates
returns-in_err-insert-clause-allocates g c =
    let es = c.args.rows.now.entries in
    let none = sym (index-number c.args.prefix es) ∙ sym c.in_default.ensures.index in
    on_err c.from_residual-in_err-insert.result _ (number-none c.args.prefix (heads (rows_of es)) none)
