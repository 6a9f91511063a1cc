-- What a source that went on has given of a whole text.
use Rattle.std.proofs.Common.{◌≡◌, ℕ, Bool, true, false, List, [], ◌++◌, length, drop, Option, refl, sym, ap, ◌∙◌, append_assoc, append-nil, subst}
use Rattle.std.specs.Io.KnownBytes.{Consumes, Keeps, IsAtEnd}
use Rattle.std.proofs.KnownBytes.{Consumes-nil, Consumes-trans, Keeps-trans}
use Rattle.std.proofs.Math.Seq.{drop-append_seam}
use Rattle.rip_log.proofs.HeldLemmas.{Keeps-held}
use Rattle.rip_log.specs.Feeds.{held, text}
use Rattle.rip_log.specs.Wholes.{Begins, Went, OfWhole, rest_of}
use Rattle.rip_log.specs.declared.feed.Feed.{Feed}

-- the rest of a whole text behind what was given
pub rest-is : (whole given left : List ℕ) → whole ≡ given ++ left → drop (length given) whole ≡ left
rest-is whole given left e = ap (drop (length given)) e ∙ drop-append_seam given left

module _ {R : Type 0} (given : R → List ℕ) (coming : R → Option (List ℕ)) (at_end : R → Bool) where
  -- a source stays as it is
  pub went_nowhere : (s : R) → Went given coming at_end s s
  went_nowhere s = record { more = []; gave = sym (append-nil (given s)); came = Consumes-nil (coming s); ended = λ _. refl }

  -- it goes on, and on
  pub went_on : (a b c : R) → Went given coming at_end a b → Went given coming at_end b c → Went given coming at_end a c
  went_on a b c p q = record {
    more = p.more ++ q.more;
    gave = q.gave ∙ ap (λ l. l ++ q.more) p.gave ∙ append_assoc (given a) p.more q.more;
    came = Consumes-trans (coming a) (coming b) (coming c) p.more q.more p.came q.came;
    ended = λ h. q.ended (subst (λ s. at_end s ≡ true) (sym (p.ended h)) h) ∙ p.ended h;
  }

  begins_before : (whole : List ℕ) (a b : R) (x : Bool) → at_end a ≡ x → Went given coming at_end a b → Begins whole (given b) (at_end b) → Begins whole (given a) (at_end a)
  begins_before whole a b true e w h = subst (λ s. Begins whole (given s) (at_end s)) (w.ended e) h
  begins_before whole a b false e w h = record {
    left = w.more ++ h.left;
    split = h.split ∙ ap (λ l. l ++ h.left) w.gave ∙ append_assoc (given a) w.more h.left;
    ended = λ end. cc (e, end);
  }

  -- what a source has begun to give now, it had begun before
  pub begins_back : (whole : List ℕ) (a b : R) → Went given coming at_end a b → Begins whole (given b) (at_end b) → Begins whole (given a) (at_end a)
  begins_back whole a b w h = begins_before whole a b (at_end a) refl w h

  -- bytes that it gave leave what is to come
  pub gives_rest : (whole : List ℕ) (a b : R) (more : List ℕ) → given b ≡ given a ++ more → Begins whole (given b) (at_end b)
      → Consumes (rest_of given whole a) (rest_of given whole b) more
  unfolding rest_of
  gives_rest whole a b more gave h =
      rest-is whole (given a) (more ++ h.left) (h.split ∙ ap (λ l. l ++ h.left) gave ∙ append_assoc (given a) more h.left)
      ∙ ap (λ l. more ++ l) (sym (rest-is whole (given b) h.left h.split))

  -- at the end nothing is to come
  pub none_left : (whole : List ℕ) (s : R) → at_end s ≡ true → Begins whole (given s) (at_end s) → IsAtEnd (rest_of given whole s)
  unfolding rest_of
  none_left whole s end h = rest-is whole (given s) h.left h.split ∙ h.ended end

  -- bytes that it gave and that are held stand where they stood
  pub held_rest : (old new : Feed R) → ((more : List ℕ) × (given new.source ≡ given old.source ++ more) × (held new ≡ held old ++ more))
      → OfWhole given at_end new.source (λ coming. Keeps (text coming old) (text coming new))
  held_rest old new p = λ whole h.
      Keeps-held (rest_of given whole old.source) (rest_of given whole new.source) (held old) p.0 (held new) (gives_rest whole old.source new.source p.0 p.1 h) p.2

  -- what stood before a pull stands after it
  pub held_on : (old mid new : Feed R) → Went given coming at_end mid.source new.source → OfWhole given at_end mid.source (λ coming. Keeps (text coming old) (text coming mid))
      → ((more : List ℕ) × (given new.source ≡ given mid.source ++ more) × (held new ≡ held mid ++ more)) → OfWhole given at_end new.source (λ coming. Keeps (text coming old) (text coming new))
  held_on old mid new w kept p = λ whole h.
      Keeps-trans (text (rest_of given whole) old) (text (rest_of given whole) mid) (text (rest_of given whole) new) (kept whole (begins_back whole mid.source new.source w h)) (held_rest mid new p whole h)
