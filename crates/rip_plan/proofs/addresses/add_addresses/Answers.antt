use Rattle.std.proofs.Common.{◌≡◌, ◌+◌, ◌++◌, ◌∷◌, [], ℕ, List, drop, map, append_assoc, ap, sym, ◌∙◌}
use Rattle.std.proofs.lemmas.List.{append-nil, drop_all}
use Rattle.rip_plan.specs.declared.addresses.Held.{Held}
use Rattle.rip_plan.proofs.ClashLemmas.{rest_from}
use Rattle.rip_plan.proofs.addresses.add_addresses.Goals as goal

pub loop-k-init : goal.loop-k-init
loop-k-init c =
    let held : ℕ → Held = λ a. record { interface = c.args.number; link = c.args.interface.link; address = a } in
    let also = c.args.also.now in
    ap (λ hs. hs ++ map held also) c.in_ok-push.ensures.items ∙ append_assoc c.args.held.now.items (held c.args.interface.address ∷ []) (map held also)

pub loop-k-preserved : goal.loop-k-preserved
loop-k-preserved c =
    let held : ℕ → Held = λ a. record { interface = c.args.number; link = c.args.interface.link; address = a } in
    let also = c.args.also.now in
    let k = c.loop-k.k in
    let x = c.index-also-k.result in
    let front : drop k also ≡ x ∷ drop (k + 1) also = rest_from also k x c.loop-k-test.true c.index-also-k.is in
    rw (c.in_ok-push-2.ensures.items, append_assoc c.loop-k.held.items (held x ∷ []) (map held (drop (k + 1) also))) (rw front at c.loop-k.invariant)

pub returns : goal.returns
returns c =
    let held : ℕ → Held = λ a. record { interface = c.args.number; link = c.args.interface.link; address = a } in
    let none : drop c.loop-k.k c.args.also.now ≡ [] = drop_all c.loop-k.k c.args.also.now c.loop-k-test.false in
    sym (append-nil c.loop-k.held.items) ∙ ap (λ (rest : List ℕ). c.loop-k.held.items ++ map held rest) (sym none) ∙ c.loop-k.invariant
