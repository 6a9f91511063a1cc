-- What passing over a line leaves.
use Rattle.std.proofs.Common.{◌≡◌, ◌+◌, ◌-◌, ◌<◌, ℕ, suc, List, [], ◌∷◌, ◌++◌, Option, Some, None, length, take, drop, sym, ap, ◌∙◌, arith, append_assoc, inl, inr}
use Rattle.std.proofs.lemmas.List.{drop-drop, length-append, get_or_append_left, get_or-append-add}
use Rattle.std.proofs.lemmas.Bool.{cases_lt}
use Rattle.std.proofs.Math.Seq.{drop-append_seam, get_or-append_right}
use Rattle.std.specs.Io.KnownBytes.{Keeps, IsAtEnd, prepend_known}
use Rattle.rip_log.specs.Lines.{lines_of}
use Rattle.rip_log.specs.Ends.{NoFeedBelow, FirstFeed}
use Rattle.rip_log.specs.Cuts.{DropsFirst, IsEndless}
use Rattle.rip_log.proofs.CutLemmas.{cut-at, last-cut}
use Rattle.rip_log.proofs.LineLemmas.{lines_of-feed, lines_of-front}

-- bytes without a line feed, and then others
pub none-append : (xs ys : List ℕ) → NoFeedBelow xs (length xs) → NoFeedBelow ys (length ys) → NoFeedBelow (xs ++ ys) (length (xs ++ ys))
none-append xs ys first second k inside feed =
    elim (cases_lt k (length xs)) [
      | inl h ↦ first k h (sym (get_or_append_left xs ys 0 k h) ∙ feed)
      | inr h ↦ second (k - length xs) (omega (arith, length-append xs ys)) (sym (get_or-append_right xs ys k 0 h) ∙ feed)
    ]

-- the first line feed behind bytes without one
pub feed-behind : (xs ys : List ℕ) (k : ℕ) → NoFeedBelow xs (length xs) → FirstFeed ys k → FirstFeed (xs ++ ys) (length xs + k)
feed-behind xs ys k first f = record {
  inside = omega (arith, f.inside, length-append xs ys);
  feed = get_or-append-add xs ys k 0 ∙ f.feed;
  before = λ j below feed. elim (cases_lt j (length xs)) [
    | inl h ↦ first j h (sym (get_or_append_left xs ys 0 j h) ∙ feed)
    | inr h ↦ f.before (j - length xs) (omega arith) (sym (get_or-append_right xs ys j 0 h) ∙ feed)
  ];
}

drop-behind : (xs ys : List ℕ) (k : ℕ) → drop (suc (length xs + k)) (xs ++ ys) ≡ drop (suc k) ys
drop-behind xs ys k =
    ap (λ n. drop n (xs ++ ys)) {x = suc (length xs + k)} {y = length xs + suc k} (omega arith) ∙ sym (drop-drop (suc k) (length xs) (xs ++ ys)) ∙ ap (drop (suc k)) (drop-append_seam xs ys)

-- a line that a line feed ends, of which some bytes came before what is held
pub skip-feed : (old left : Option (List ℕ)) (front held rest : List ℕ) (at : ℕ) → rest ≡ drop (suc at) held
    → Keeps old (prepend_known front (prepend_known held left)) → NoFeedBelow front (length front) → FirstFeed held at → DropsFirst old (prepend_known rest left)
skip-feed None left front held rest at left_is keeps none f = ([], tt)
skip-feed (Some t) None front held rest at left_is keeps none f = absurd keeps
skip-feed (Some t) (Some ys) front held rest at left_is keeps none f =
    let all = front ++ held in
    let behind = drop-behind front held at ∙ sym left_is in
    let whole : t ≡ all ++ ys = sym keeps ∙ sym (append_assoc front held ys) in (
      take (length front + at) all,
      (
        ap lines_of whole ∙ lines_of-feed all ys (length front + at) (feed-behind front held at none f) ∙ ap (λ l. take (length front + at) all ∷ lines_of (l ++ ys)) behind,
        take (suc (length front + at)) all,
        whole ∙ cut-at all ys (suc (length front + at)) ∙ ap (λ l. take (suc (length front + at)) all ++ (l ++ ys)) behind,
      ),
    )

-- bytes that are held are dropped, and stand in front of what is to come then
pub drop-held : (old mid new : Option (List ℕ)) (front held rest : List ℕ) → rest ≡ [] → Keeps old (prepend_known front (prepend_known held mid)) → Keeps (prepend_known rest mid) new
    → Keeps old (prepend_known (front ++ held) new)
drop-held None mid new front held rest empty keeps on = tt
drop-held (Some t) None new front held rest empty keeps on = absurd keeps
drop-held (Some t) (Some m) None front held rest empty keeps on = absurd on
drop-held (Some t) (Some m) (Some n) front held rest empty keeps on =
    append_assoc front held n
    ∙ ap (λ l. front ++ (held ++ l)) (on ∙ ap (λ l. l ++ m) empty)
    ∙ keeps

-- a last line that the end of the text ends
pub skip-last : (old left : Option (List ℕ)) (front rest : List ℕ) → rest ≡ [] → 0 < length front → IsAtEnd left → Keeps old (prepend_known front (prepend_known rest left))
    → NoFeedBelow front (length front) → DropsFirst old (prepend_known rest left)
skip-last old left front rest empty some end keeps none =
    (front, last-cut old left front rest empty some end (onto old left keeps) none) where
      onto : (a b : Option (List ℕ)) → Keeps a (prepend_known front (prepend_known rest b)) → Keeps a (prepend_known front b)
      onto None b k = tt
      onto (Some t) None k = absurd k
      onto (Some t) (Some m) k = ap (λ l. front ++ (l ++ m)) (sym empty) ∙ k

endless-of : (xs ys : List ℕ) (n : ℕ) → NoFeedBelow xs (length xs) → n < length xs → (line : List ℕ) × (rest : List (List ℕ)) × (n < length line) × (lines_of (xs ++ ys) ≡ line ∷ rest)
endless-of [] ys n none long = absurd (omega (arith, long))
endless-of (b ∷ xs) ys n none long =
    let first = lines_of-front b xs ys none in
    ((b ∷ xs) ++ first.0, first.1, omega (arith, long, length-append (b ∷ xs) first.0), first.2)

-- a line that goes on past the bytes that are skipped
pub skip-endless : (old left : Option (List ℕ)) (front held : List ℕ) → Keeps old (prepend_known front (prepend_known held left)) → NoFeedBelow front (length front) → NoFeedBelow held (length held)
    → 18446744073709551615 < length front + length held → IsEndless old
skip-endless None left front held keeps none none_held long = tt
skip-endless (Some t) None front held keeps none none_held long = absurd keeps
skip-endless (Some t) (Some ys) front held keeps none none_held long =
    let found = endless-of (front ++ held) ys 18446744073709551615 (none-append front held none none_held) (omega (arith, long, length-append front held)) in
    (found.0, found.1, found.2, ap lines_of (sym keeps ∙ sym (append_assoc front held ys)) ∙ found.3)
