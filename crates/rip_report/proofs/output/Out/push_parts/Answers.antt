use Rattle.std.proofs.Common.{◌≡◌, ◌++◌, ◌∙◌, List, ℕ, Option, Some, [], ◌∷◌, ap, append_assoc, refl, subst, sym}
use Rattle.rip_report.specs.Held.{held}
use Rattle.rip_report.specs.Outs.{noted}
use Rattle.rip_report.specs.Sent.{Writes, sink_state}
use Rattle.rip_report.proofs.OutLemmas.{noted_more}
use Rattle.rip_report.proofs.output.Out.push_parts.Goals as goal

-- three parts that were noted one after the other
three_more : (o a b c : List (Option (List ℕ))) (x y z : List ℕ) → a ≡ o ++ Some x ∷ [] → b ≡ a ++ Some y ∷ [] → c ≡ b ++ Some z ∷ [] → noted c ≡ noted o ++ (x ++ (y ++ z))
three_more o a b c x y z first second third =
    let front = ap noted first ∙ noted_more o x in
    let middle = ap noted second ∙ noted_more a y in
    let end = ap noted third ∙ noted_more b z in
    simp (front, middle, end, append_assoc)

pub invariant_of-self : goal.invariant_of-self
invariant_of-self g c =
    let o = c.self.inside in
    let start = sink_state g.K.Sink.taken g.K.Sink.broken o.start.value in
    let more = three_more o.added.outcomes _ _ _ _ _ _ c.note.ensures c.note-2.ensures c.note-3.ensures in
    subst (λ (l : List ℕ). Writes start (sink_state g.K.Sink.taken g.K.Sink.broken c.push_parts.new.out) c.push_parts.new.wrote l (held c.push_parts.new.self)) (sym more)
    (c.push_parts.ensures start (noted o.added.outcomes) c.self.invariant)

pub returns : goal.returns
returns g c = rw (← c.self.view_is) (record { start = refl; text = three_more c.self.inside.added.outcomes _ _ _ _ _ _ c.note.ensures c.note-2.ensures c.note-3.ensures })
