use Rattle.std.proofs.Common.{◌≤◌, ◌≡◌, ◌<◌, ℕ, ◌+◌, ◌*◌, inl, inr, List, Option, None, take, drop, ◌++◌, get_or, length, sym, ◌∙◌, ap, arith}
use Rattle.std.proofs.Math.Seq.{take-append_seam}
use Rattle.std.proofs.lemmas.Bool.{cases_lt}
use Rattle.std.proofs.lemmas.List.{length-take-le}
use Rattle.rip_check.proofs.marks.marks_of.Goals as goal

pub loop-prefix-init : goal.loop-prefix-init
loop-prefix-init g c =
    let size : length c.in_ok-marks.marks.items ≡ c.routers.result * c.prefix_count-count.result = omega (arith, c.in_ok-marks.ensures.len, c.in_ok-marks.marks.ok.0) in
    record {
      size = rw c.prefix_count-count.ensures at (rw c.routers.ensures at size);
      marks = λ r p at lt. absurd (omega (arith, lt));
      links = let few : c.links.result ≤ 512 = omega (arith, c.lawful.ensures.few_links, c.links.ensures) in length-take-le c.links.result _ few ∙ c.links.ensures;
    }

pub mark_prefix-requires-clause-fits : goal.mark_prefix-requires-clause-fits
mark_prefix-requires-clause-fits g c =
    rw (sym (c.with_links.ensures.plan ∙ c.new-case.ensures.plan), sym (c.with_links.ensures.table ∙ c.new-case.ensures.table)) at c.requires.fits

pub loop-prefix-preserved : goal.loop-prefix-preserved
loop-prefix-preserved g c =
    let n = c.args.plan.now in
    let count = length (g.T.Table.state c.args.table.now).prefixes in
    let is = c.loop-prefix.invariant in
    let new = c.mark_prefix.new.marks in
    let case = c.with_links.result in
    let s = g.T.Table.state case.table.now in
    let these : (r : ℕ) → r < length case.plan.now.routers → g.M.Marking.is_mark c.args.marking.now case.plan.now s r case.prefix (get_or new (r * length s.prefixes + case.prefix) None) =
    c.mark_prefix.ensures.marked in
    let those : (r q : ℕ) → q < length s.prefixes → (q ≡ case.prefix → ⊥) → get_or new (r * length s.prefixes + q) None ≡ get_or _ (r * length s.prefixes + q) None =
    c.mark_prefix.ensures.others in
    let plan = c.with_links.ensures.plan ∙ c.new-case.ensures.plan in
    let table = c.with_links.ensures.table ∙ c.new-case.ensures.table in
    let prefix = c.with_links.ensures.prefix ∙ c.new-case.ensures.prefix in
    let marked = rw (plan, table, prefix) at these in
    let others = rw (table, prefix) at those in
    let e : c.loop-prefix.marks.len ≡ length new = omega (arith, c.mark_prefix.auto.marks, c.as_mut_slice.ensures.len, c.loop-prefix.marks.ok.0) in
    let whole : take c.loop-prefix.marks.len (new ++ drop (length new) c.loop-prefix.marks.items) ≡ new =
    rw e (take-append_seam new (drop (length new) c.loop-prefix.marks.items)) in
    rw whole (record {
      size = omega (arith, e, c.loop-prefix.marks.ok.0, is.size);
      marks = λ r p at lt. elim (cases_lt p c.loop-prefix.prefix) [
        | inl sooner ↦
            let kept : get_or new (r * count + p) None ≡ get_or c.loop-prefix.marks.items (r * count + p) None =
            others r p (omega (arith, sooner, c.loop-prefix-test.true, c.prefix_count-count.ensures)) (λ same. omega (arith, same, sooner))
            ∙ ap (λ (xs : List (Option ℕ)). get_or xs (r * count + p) None) c.as_mut_slice.ensures.value in
            rw kept (is.marks r p at sooner)
        | inr late ↦
            let same : p ≡ c.loop-prefix.prefix = omega arith in
            rw same (marked r at)
      ];
      links = omega (arith, c.fill.auto.links, is.links);
    })

pub returns : goal.returns
returns g c =
    record {
      size = c.loop-prefix.invariant.size;
      each = λ r p at known. c.loop-prefix.invariant.marks r p at (omega (arith, known, c.loop-prefix-test.false, c.prefix_count-count.ensures));
    }
