use Rattle.std.proofs.Common.{◌≡◌, ◌++◌, ◌∷◌, [], List, length, map, cond, arith, ap, ◌∙◌, Result, string_bytes}
use Rattle.std.specs.Result.{IsOk, is_ok}
use Rattle.std.proofs.lemmas.List.{length-map, map_push}
use Rattle.std.proofs.lemmas.Map.Text.{hash_map_updates_text}
use Rattle.rip_plan.proofs.NameLemmas.{new_name}
use Rattle.rip_plan.proofs.draft.steps.add_link_name.Goals as goal

when_ok : {X A B : Type 0} (r : Result A B) (xs ys zs : List X) → IsOk r → zs ≡ cond (is_ok r) xs ys → zs ≡ xs
when_ok r xs ys zs ok h = h ∙ ap (λ b. cond b xs ys) ok

pub invariant_of-draft-2 : goal.invariant_of-draft-2
invariant_of-draft-2 c =
    let links = c.args.draft.now.links.items in
    let room = c.push-2.ensures.succeeds (omega (arith, c.in_ok-reserve.ensures.ok)) in
    let seen : map string_bytes c.push-2.new.self.items ≡ map string_bytes links ++ c.args.name.now ∷ [] = grind (arith, map_push, when_ok, c.in_ok-kept.ensures.ok) in
    let number : c.len.result ≡ length (map string_bytes links) = grind (arith, length-map) in
    record {
      paired = c.args.draft.now.paired;
      counted = c.args.draft.now.counted;
      few = c.args.draft.now.few;
      numbered = λ bytes.
          hash_map_updates_text (string_bytes c.in_ok-key.key) c.args.draft.now.numbers c.insert.new.self _ c.in_ok-insert.ensures.updates bytes
          ∙ rw (c.in_ok-key.ensures.ok, number, c.args.draft.now.numbered bytes, seen) (new_name (map string_bytes links) c.args.name.now bytes c.requires);
      blocked = λ l. c.args.draft.now.blocked l;
    }
