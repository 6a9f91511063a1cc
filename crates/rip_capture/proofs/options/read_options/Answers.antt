use Rattle.std.proofs.Common.{◌≡◌, ◌+◌, ◌≤◌, ◌∙◌, ℕ, List, ap, arith, drop, length, refl, subst, sym}
use Rattle.std.proofs.lemmas.List.{drop-drop, length-drop}
use Rattle.std.specs.Prelude.{slice_range}
use Rattle.rip_capture.specs.Options.{Describes, HasBadOption, IsOption, option_len, option_number, option_size, option_value, with_option}
use Rattle.rip_capture.specs.Options.Describes.{end, last, more}
use Rattle.rip_capture.specs.Options.HasBadOption.{later, long, size}
use Rattle.rip_capture.specs.declared.interface.Interface.{Interface}
use Rattle.rip_capture.proofs.OptionLemmas.{drop-min, len-at, number-at, value-at}
use Rattle.rip_capture.proofs.options.read_options.Goals as goal
use Rattle.rip_capture.proofs.options.read_options.Goals.{then-from-len-via-then-from-len, then-from-len-via-else-from-len+then-not-fits_option}

pub options-init : goal.options-init
options-init c = record { within = omega arith; told = λ j h. h; bad = λ h. h }

pub returns-then-number-eq0-clause-ok : goal.returns-then-number-eq0-clause-ok
returns-then-number-eq0-clause-ok c =
    let at = c.options.at in
    let b = c.args.options.now in
    let d = c.options.described in
    c.options.invariant.told d (last (drop at b) d d (omega (arith, c.options-test.true, length-drop at b)) (sym (number-at c.args.order at b) ∙ sym c.short_in-number.ensures ∙ c.if-number-eq0.true) refl)

pub returns-then-from-len-clause-err : goal.returns-then-from-len-clause-err
returns-then-from-len-clause-err c =
    let at = c.options.at in
    let b = c.args.options.now in
    let order = c.args.order in
    let room : 4 ≤ length (drop at b) = omega (arith, c.options-test.true, length-drop at b) in
    let number = c.short_in-number.ensures ∙ number-at order at b in
    let len = c.short_in-len.ensures ∙ len-at order at b in
    let some : ◌≡◌ (option_number order (drop at b)) 0 → ⊥ = λ none. c.if-number-eq0.false (number ∙ none) in (
      refl,
      c.options.invariant.bad (elim c.then-from-len.branch [
        | then-from-len-via-then-from-len w ↦ long (drop at b) room some (omega (arith, w.if-from-len.true, len, length-drop at b))
        | then-from-len-via-else-from-len+then-not-fits_option w ↦
            size (drop at b) room some (omega (arith, w.if-from-len.false, len, length-drop at b)) (rw (number, len) at (sym w.fits_option.ensures ∙ w.if-not-fits_option.true))
      ]),
    )

pub options-preserved : goal.options-preserved
options-preserved c =
    let at = c.options.at in
    let b = c.args.options.now in
    let order = c.args.order in
    let rest = drop at b in
    let inv = c.options.invariant in
    let number = c.short_in-number.ensures ∙ number-at order at b in
    let len = c.short_in-len.ensures ∙ len-at order at b in
    let is : IsOption order rest = record {
      front = omega (arith, c.options-test.true, length-drop at b);
      some = λ none. c.if-number-eq0.false (number ∙ none);
      value = omega (arith, c.if-from-len.false, len, length-drop at b);
      fits = rw (number, len) at (sym c.fits_option.ensures ∙ c.if-not-fits_option.false);
    } in
    let on : drop c.min-at.result b ≡ drop (option_size (option_len order rest)) rest =
    ap (λ n. drop n b) c.min-at.ensures ∙ drop-min (at + c.option_size.result) b ∙ ap (λ n. drop (at + n) b) (c.option_size.ensures ∙ ap option_size len)
    ∙ sym (drop-drop (option_size (option_len order rest)) at b) in
    let next : c.with_option-described.result ≡ with_option order c.options.described (option_number order rest) (option_value order rest) =
    c.with_option-described.ensures ∙ ap (λ n. with_option order c.options.described n (slice_range b (at + 4) (at + 4 + c.short_in-len.result))) number ∙ ap (with_option order c.options.described (option_number order rest))
    (value-at at c.short_in-len.result b ∙ ap (λ n. slice_range rest 4 (4 + n)) len) in
    record {
      within = omega (arith, c.min-at.ensures);
      told = λ j h. inv.told j (more rest c.options.described j is (subst (λ (d : Interface). Describes order (drop (option_size (option_len order rest)) rest) d j) next
          (subst (λ (l : List ℕ). Describes order l c.with_option-described.result j) on h)));
      bad = λ h. inv.bad (later rest is (subst (HasBadOption order) on h));
    }

pub returns-clause-ok : goal.returns-clause-ok
returns-clause-ok c =
    let at = c.options.at in
    let b = c.args.options.now in
    let d = c.options.described in
    c.options.invariant.told d (end (drop at b) d d (omega (arith, c.options-test.false, c.options.invariant.within, length-drop at b)) refl)
