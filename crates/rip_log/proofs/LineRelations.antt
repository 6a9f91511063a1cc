-- The lines of a text are those that are computed.
use Rattle.std.proofs.Common.{◌≡◌, ◌≢◌, ℕ, Bool, true, false, cond, List, [], ◌∷◌, ◌++◌, refl, sym, ap, ◌∙◌, arith, ◌==◌, eqb-true, append_assoc}
use Rattle.std.specs.List.{AllByRecursion}
use Rattle.rip_log.specs.Fields.{onto}
use Rattle.rip_log.specs.Lines.{lines_of}
use Rattle.rip_log.specs.LogText.{HasNoFeed, AreLines, ended_text, last_line}
use Rattle.rip_log.proofs.LineLemmas.{lines_of-other}

pub not-eq : (a b : ℕ) → (a == b) ≡ false → a ≢ b
not-eq a b e = grind arith

onto-last : (b : ℕ) (last : List ℕ) → onto b (last_line last) ≡ last_line (b ∷ last)
onto-last b [] = refl
onto-last b (c ∷ last) = refl

-- a byte in front of the first line
put : (b : ℕ) (bytes : List ℕ) (lines ended : List (List ℕ)) (last : List ℕ) → b ≢ 10 → AllByRecursion HasNoFeed ended → HasNoFeed last
    → bytes ≡ ended_text ended ++ last → lines ≡ ended ++ last_line last → AreLines (b ∷ bytes) (onto b lines)
put b bytes lines [] last other no_feed after whole parts = record {
  ended = [];
  last = b ∷ last;
  no_feed = tt;
  no_feed_after = (other, after);
  whole = ap (λ l. b ∷ l) whole;
  parts = ap (onto b) parts ∙ onto-last b last;
}
put b bytes lines (line ∷ ended) last other no_feed after whole parts = record {
  ended = (b ∷ line) ∷ ended;
  last = last;
  no_feed = ((other, no_feed.0), no_feed.1);
  no_feed_after = after;
  whole = ap (λ l. b ∷ l) whole;
  parts = ap (onto b) parts;
}

AreLines-byte : (b : ℕ) (bytes : List ℕ) (x : Bool) → (b == 10) ≡ x → AreLines bytes (lines_of bytes) → AreLines (b ∷ bytes) (cond x ([] ∷ lines_of bytes) (onto b (lines_of bytes)))
AreLines-byte b bytes true e rest = record {
  ended = [] ∷ rest.ended;
  last = rest.last;
  no_feed = (tt, rest.no_feed);
  no_feed_after = rest.no_feed_after;
  whole = ap (λ (k : ℕ). k ∷ bytes) (eqb-true b 10 e) ∙ ap (λ l. 10 ∷ l) rest.whole;
  parts = ap (λ l. [] ∷ l) rest.parts;
}
AreLines-byte b bytes false e rest = put b bytes (lines_of bytes) rest.ended rest.last (not-eq b 10 e) rest.no_feed rest.no_feed_after rest.whole rest.parts

pub AreLines-lines_of : (text : List ℕ) → AreLines text (lines_of text)
AreLines-lines_of [] = record { ended = []; last = []; no_feed = tt; no_feed_after = tt; whole = refl; parts = refl }
AreLines-lines_of (b ∷ bytes) = AreLines-byte b bytes (b == 10) refl (AreLines-lines_of bytes)

lines_of-ended : (line rest : List ℕ) → HasNoFeed line → lines_of (line ++ (10 ∷ rest)) ≡ line ∷ lines_of rest
lines_of-ended [] rest none = refl
lines_of-ended (b ∷ line) rest none = lines_of-other b (line ++ (10 ∷ rest)) none.0 ∙ ap (onto b) (lines_of-ended line rest none.1)

lines_of-unended : (last : List ℕ) → HasNoFeed last → lines_of last ≡ last_line last
lines_of-unended [] none = refl
lines_of-unended (b ∷ last) none = lines_of-other b last none.0 ∙ ap (onto b) (lines_of-unended last none.1) ∙ onto-last b last

lines_of-parts : (ended : List (List ℕ)) (last : List ℕ) → AllByRecursion HasNoFeed ended → HasNoFeed last → lines_of (ended_text ended ++ last) ≡ ended ++ last_line last
lines_of-parts [] last no_feed after = lines_of-unended last after
lines_of-parts (line ∷ ended) last no_feed after =
    ap lines_of (append_assoc line (10 ∷ ended_text ended) last)
    ∙ lines_of-ended line (ended_text ended ++ last) no_feed.0
    ∙ ap (λ l. line ∷ l) (lines_of-parts ended last no_feed.1 after)

pub lines_of-AreLines : (text : List ℕ) (lines : List (List ℕ)) → AreLines text lines → lines_of text ≡ lines
lines_of-AreLines text lines are = ap lines_of are.whole ∙ lines_of-parts are.ended are.last are.no_feed are.no_feed_after ∙ sym are.parts
