use Rattle.std.proofs.Common.{◌≡◌, ◌∙◌, ◌≤◌, ◌+◌, ◌++◌, ℕ, Bool, true, false, refl, sym, ap, ap₂, arith, List, length, take, take-take, take_all, append_assoc, ◌-◌, drop, length-append, length-take, length-take-le}
use Rattle.std.proofs.Math.Seq.{take-append-add, take-append_seam}
use Rattle.std.proofs.lemmas.List.{take-append-le}
use Rattle.ripaudit.proofs.commands.read_plan.Goals as goal

-- two marks that are set in the same cases
same_mark : (a b : Bool) → (a ≡ true → b ≡ true) → (b ≡ true → a ≡ true) → a ≡ b
same_mark true b there back = sym (there refl)
same_mark false true there back = back refl
same_mark false false there back = refl

-- what succeeds had not failed
unbroken : (a b : Bool) → false ≡ b → (a ≡ true → b ≡ true) → b ≡ a
unbroken true b ok fails_on = fails_on refl
unbroken false b ok fails_on = sym ok

pub returns-then-count-eq0-clause-mark : goal.returns-then-count-eq0-clause-mark
returns-then-count-eq0-clause-mark g c = λ other.
    unbroken (g.R.Source.broken c.pieces.file) _ c.in-Ok-pull.ensures.failed c.in-Ok-pull.ensures.fails_on ∙ same_mark _ _ c.pieces.invariant.failed c.pieces.invariant.fails_on

pub returns-clause-mark : goal.returns-clause-mark
returns-clause-mark g c = λ other. same_mark _ _ c.pieces.invariant.failed c.pieces.invariant.fails_on

-- what is read behind a list goes on from it
front : (old s b post rest : List ℕ) (l k n : ℕ) → l ≡ length old → take l s ≡ old → k ≤ length b → l + k ≤ n
    → take (l + k) (take n ((take l s ++ (b ++ post)) ++ rest)) ≡ old ++ take k b
front old s b post rest l k n len same few room =
    take-take (l + k) n _ room
    ∙ ap (take (l + k)) (append_assoc (take l s) (b ++ post) rest)
    ∙ ap₂ (λ (m : ℕ) (x : List ℕ). take (m + k) (x ++ ((b ++ post) ++ rest))) len same
    ∙ take-append-add old ((b ++ post) ++ rest) k
    ∙ ap (λ (x : List ℕ). old ++ x) (ap (take k) (append_assoc b post rest) ∙ take-append-le k b (post ++ rest) few)

-- a list with more room begins with what it was
begins : (old more : List ℕ) (l n : ℕ) → l ≡ length old → l ≤ n → take l (take n old ++ more) ≡ old
begins old more l n len room =
    ap₂ (λ (m : ℕ) (x : List ℕ). take m (x ++ more)) len (take_all n old (omega (arith, len, room))) ∙ take-append_seam old more

pub pieces-preserved : goal.pieces-preserved
pieces-preserved g c =
    let old = c.pieces.bytes.items in
    let buffer = c.pull.new.buffer in
    let count = c.in-Ok-pull.count in
    let bound : count ≤ length buffer = c.in-Ok-pull.ensures.bound.0 in
    let len : c.len-len.result ≡ length old = search in
    let same : take c.len-len.result c.as_mut_slice.result.now ≡ old =
    ap (take c.len-len.result) (c.as_mut_slice.ensures.value ∙ c.in-Ok.ensures.items) ∙ begins old _ _ (c.len-len.result + 4096) len (omega arith) in
    let most : length buffer ≤ 4096 = omega (
      arith,
      c.pull.auto.buffer,
      length-take (length c.as_mut_slice.result.now - c.len-len.result) (drop c.len-len.result c.as_mut_slice.result.now),
      c.as_mut_slice.ensures.len,
      c.in-Ok.ensures.len,
    ) in
    let added : c.truncate.new.self.items ≡ old ++ take count buffer =
    c.truncate.ensures.items ∙ front old _ buffer _ _ _ count _ len same bound (omega (arith, bound, most, c.in-Ok.ensures.len)) in
    let more : length c.truncate.new.self.items ≡ length old + count = ap length added ∙ length-append old (take count buffer) ∙ ap (λ (k : ℕ). length old + k) (length-take-le count buffer bound) in
    let mark : g.R.Source.broken c.pull.new.self ≡ g.R.Source.broken c.args.file.now =
    unbroken (g.R.Source.broken c.pieces.file) _ c.in-Ok-pull.ensures.failed c.in-Ok-pull.ensures.fails_on ∙ (same_mark _ _ c.pieces.invariant.failed c.pieces.invariant.fails_on) in
    record {
      given = c.in-Ok-pull.ensures.gave ∙ ap (λ (x : List ℕ). x ++ take count buffer) c.pieces.invariant.given ∙ append_assoc _ old (take count buffer) ∙ ap
          (λ (x : List ℕ). g.R.Source.given c.args.file.now ++ x) (sym added);
      few = omega (arith, more, bound, most, len, c.pieces-test.true);
      failed = λ broke. sym mark ∙ broke;
      fails_on = λ broke. mark ∙ broke;
    }
