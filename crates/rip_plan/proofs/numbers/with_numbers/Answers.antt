use Rattle.std.proofs.Common.{◌≡◌, ℕ, ◌+◌, List, ◌∷◌, ◌++◌, [], length, length-append, drop, arith, Vec, Global, Option, Some, None, refl, sym, ◌∙◌, ap}
use Rattle.std.proofs.lemmas.List.{drop_more}
use Rattle.rip_wire.specs.Prefix.{Block}
use Rattle.rip_plan.specs.declared.draft.DraftPlace.{DraftPlace}
use Rattle.rip_plan.specs.declared.parts.Place.{Place}
use Rattle.rip_plan.specs.Network.{number_of_prefix, number_or_next, numbered, with_prefix}
use Rattle.rip_plan.proofs.NumberingLemmas.{new_number}
use Rattle.rip_plan.proofs.numbers.with_numbers.Goals as goal
use Rattle.rip_plan.proofs.numbers.with_numbers.Goals.{in-Some, in-None+in_ok-push-in-None+in_ok-insert-in-None}

number_step : (ps next : List Block) (qs more : List Place) (d : DraftPlace) (rest : List DraftPlace) (k : ℕ) (o : Option ℕ) → number_of_prefix d.prefix ps ≡ o
    → next ≡ with_prefix ps d.prefix o → k ≡ number_or_next ps o → more ≡ qs ++ record { prefix = k; seat = d.seat } ∷ [] → numbered next more rest ≡ numbered ps qs (d ∷ rest)
number_step ps next qs more d rest k o at new number pushed = rw (pushed, new, number, at) refl

pub loop-place-preserved : goal.loop-place-preserved
loop-place-preserved c =
    let d = c.place-item.result in
    let ps = c.loop-place.prefixes.items in
    let rest = drop (c.loop-place.place-index + 1) c.args.places.now in
    let front : drop c.loop-place.place-index c.args.places.now ≡ d ∷ drop (c.loop-place.place-index + 1) c.args.places.now =
    drop_more c.args.places.now c.loop-place.place-index d (omega arith) ∙ ap (λ (x : DraftPlace). x ∷ drop (c.loop-place.place-index + 1) c.args.places.now) (sym c.place-item.is) in
    let left : numbered ps c.loop-place.numbered.items (d ∷ rest) ≡ numbered [] [] c.args.places.now = sym (ap (numbered ps c.loop-place.numbered.items) front) ∙ c.loop-place.invariant.0 in
    elim c.match-get.branch [
      | in-Some w ↦
          let found : number_of_prefix d.prefix ps ≡ Some w.in-Some.k.now = sym (w.in-Some.ensures.value ∙ c.loop-place.invariant.1 d.prefix) in (
            number_step ps c.match-get.prefixes.items c.loop-place.numbered.items c.push-in-loop-place.new.self.items d rest c.match-get.prefix (Some w.in-Some.k.now) found
                (ap (λ (v : Vec Block Global). v.items) w.prefixes-is) w.prefix-is c.in_ok-push.ensures.items ∙ left,
            λ p. rw (w.numbers-is, w.prefixes-is) (c.loop-place.invariant.1 p),
            rw w.prefixes-is (omega (arith, c.loop-place.invariant.2)),
          )
      | in-None+in_ok-push-in-None+in_ok-insert-in-None w ↦
          let none : number_of_prefix d.prefix ps ≡ None = sym (w.in-None.ensures.value ∙ c.loop-place.invariant.1 d.prefix) in
          let pushed : c.match-get.prefixes.items ≡ ps ++ d.prefix ∷ [] = ap (λ (v : Vec Block Global). v.items) w.prefixes-is ∙ w.in_ok-push-in-None.ensures.items in
          let number : w.len-k.result ≡ length ps = omega (arith, w.len-k.ensures) in (
            number_step ps c.match-get.prefixes.items c.loop-place.numbered.items c.push-in-loop-place.new.self.items d rest c.match-get.prefix None none
                pushed (w.prefix-is ∙ number) c.in_ok-push.ensures.items ∙ left,
            λ p. rw (w.numbers-is, pushed) (w.in_ok-insert-in-None.ensures.updates.0 p ∙ rw (number, c.loop-place.invariant.1 p) (new_number ps d.prefix p none)),
            rw pushed (omega (arith, c.loop-place.invariant.2, length-append ps (d.prefix ∷ []))),
          )
    ]
