use Rattle.std.proofs.Common.{◌≡◌, ℕ, ◌+◌, [], ◌∷◌, ◌++◌, length, sym, ap, ◌∙◌, arith}
use Rattle.std.specs.declared.vec.Vec.{Vec}
use Rattle.std.specs.declared.alloc.Global.{Global}
use Rattle.std.proofs.lemmas.List.{length-append, map-append, length-map}
use Rattle.rip_check.specs.ToldCells.{IsToldRow, rows_of}
use Rattle.rip_check.proofs.ToldStateLemmas.{rows_more, told_by, told_state_is}
use Rattle.rip_check.proofs.told_table.ToldTable.find.Goals as goal

pub loop-prefix-preserved : goal.loop-prefix-preserved
loop-prefix-preserved g c =
    let n = c.args.plan.now in
    let t = g.G.RouteTables.tables c.args.tables.now in
    let was = c.loop-prefix.invariant in
    let old = c.loop-prefix.rows.items in
    let row = c.in_ok-told_row.field-0 in
    let size : length (rows_of old) ≡ c.loop-prefix.prefix = length-map old (λ (w : Vec ℕ Global). w.items) ∙ was.items in
    let new : IsToldRow n t (length (rows_of old)) row.items = rw size c.in_ok-told_row.ensures in
    let items : rows_of c.push_reserved.new.self.items ≡ rows_of old ++ row.items ∷ [] = ap rows_of c.push_reserved.ensures.items ∙ map-append (λ (w : Vec ℕ Global). w.items) old (row ∷ []) in
    record {
      told = rw items (rows_more n t (rows_of old) row.items was.told new);
      items = ap length c.push_reserved.ensures.items ∙ length-append old (row ∷ []) ∙ ap (λ k. k + 1) was.items;
      len = omega (arith, c.push_reserved.ensures.len, was.len);
      room = omega (arith, c.push_reserved.ensures.capacity, was.room);
    }

pub invariant_of-result : goal.invariant_of-result
invariant_of-result g c =
    let n = c.args.plan.now in
    let t = g.G.RouteTables.tables c.args.tables.now in
    let rows = c.loop-prefix.rows.items in
    let was = c.loop-prefix.invariant in
    let all : c.loop-prefix.prefix ≡ length t.prefixes = omega (arith, c.loop-prefix-test.false, c.loop-prefix.auto.prefix-end, c.prefix_count-prefix-end.ensures) in
    let size : length (rows_of rows) ≡ length t.prefixes = length-map rows (λ (w : Vec ℕ Global). w.items) ∙ was.items ∙ all in
    record {
      size = was.items ∙ all;
      widths = λ k row at. (was.told k row at).size ∙ sym c.interfaces.ensures;
      valid = rw c.interfaces.ensures (told_state_is n t c.lawful.ensures (g.G.RouteTables.are_tables c.args.tables.now) c.requires (rows_of rows) size was.told);
    }

pub returns-clause-told : goal.returns-clause-told
returns-clause-told g c =
    let n = c.args.plan.now in
    let t = g.G.RouteTables.tables c.args.tables.now in
    let rows = c.loop-prefix.rows.items in
    let was = c.loop-prefix.invariant in
    let all : c.loop-prefix.prefix ≡ length t.prefixes = omega (arith, c.loop-prefix-test.false, c.loop-prefix.auto.prefix-end, c.prefix_count-prefix-end.ensures) in
    let size : length (rows_of rows) ≡ length t.prefixes = length-map rows (λ (w : Vec ℕ Global). w.items) ∙ was.items ∙ all in
    rw c.interfaces.ensures (told_by n t c.lawful.ensures (g.G.RouteTables.are_tables c.args.tables.now) c.requires (rows_of rows) size was.told)
