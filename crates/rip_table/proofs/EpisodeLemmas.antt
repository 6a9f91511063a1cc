-- An episode of refused lines, and for how long it lasts.
use Rattle.std.proofs.Common.{inl, inr, ◌≡◌, ℕ, ◌+◌, ◌-◌, ◌<◌, ◌≤◌, nat_lt, Bool, true, false, cond, List, [], ◌∷◌, ◌++◌, Option, Some, None, refl, ap, ◌∙◌, arith, append_assoc}
use Rattle.std.specs.List.{slice_get}
use Rattle.std.proofs.lemmas.Bool.{ltb-true}
use Rattle.std.proofs.lemmas.Bool.Decides.{nat_tests}
use Rattle.rip_table.specs.Scenes.{first_of, passed_episode}
use Rattle.rip_table.specs.Seen.{AreInRow, IsEpisode, IsEpisodeFrom, RefusedLine}
use Rattle.rip_table.specs.declared.scene.Episode.{Episode}
use Rattle.rip_table.specs.declared.scene.LineRefusal.{LineRefusal}
use Rattle.rip_table.proofs.RememberLemmas.{last_item}

row_less : (window second more : ℕ) (r : RefusedLine) (rest : List RefusedLine) → second ≤ more → AreInRow window more r rest → AreInRow window second r rest
row_less window second more r [] le h = omega (arith, le, h)
row_less window second more r (next ∷ rest) le h = (h.0, row_less window second more next rest le h.1)

row_more : (window second more : ℕ) (first : RefusedLine) (rest : List RefusedLine) (r : RefusedLine) → r.second ≤ second → more < r.second + window → AreInRow window second first rest
    → AreInRow window more first (rest ++ r ∷ [])
row_more window second more first [] r le lt h = (omega (arith, le, h), lt)
row_more window second more first (next ∷ rest) r le lt h = (h.0, row_more window second more next rest r le lt h.1)

episode_less : (window second more : ℕ) (refused : List RefusedLine) (first : LineRefusal) → second ≤ more → IsEpisodeFrom window more refused first → IsEpisodeFrom window second refused first
episode_less window second more refused first le h = record {
  before = h.before;
  begins = h.begins;
  rest = h.rest;
  split = h.split;
  apart = h.apart;
  row = row_less window second more h.begins h.rest le h.row;
  named = h.named;
}

-- each refused line is over in this second
abbrev AreOver : ℕ → ℕ → List RefusedLine → Type 0
AreOver window second refused = (k : ℕ) (r : RefusedLine) → slice_get refused k ≡ Some r → r.second + window ≤ second

-- the episode, and for how long it lasts
abbrev pub Lasts : ℕ → ℕ → List RefusedLine → Option Episode → Type 0
Lasts window second refused None = AreOver window second refused
Lasts window second refused (Some e) = (1 ≤ e.left) × AreOver window (second + e.left) refused × IsEpisodeFrom window (second + e.left - 1) refused e.first

pub lasts_is : (window second : ℕ) (refused : List RefusedLine) (o : Option Episode) → Lasts window second refused o → IsEpisode window second refused o
lasts_is window second refused None h = h
lasts_is window second refused (Some e) h = episode_less window second (second + e.left - 1) refused e.first (omega (arith, h.0)) h.2

pub lasts_passed : (window second : ℕ) (refused : List RefusedLine) (o : Option Episode) → Lasts window second refused o → Lasts window (second + 1) refused (passed_episode o)
lasts_passed window second refused None h = λ k r at. omega (arith, h k r at)
lasts_passed window second refused (Some e) h = by (nat_lt 1 e.left) refl
  where
    by : (b : Bool) → nat_lt 1 e.left ≡ b → Lasts window (second + 1) refused (cond b (Some (record { first = e.first; left = e.left - 1 })) None)
    by true t =
        let more : 1 < e.left = ltb-true 1 e.left t in (
          omega (arith, more),
          λ k r at. omega (arith, more, h.1 k r at),
          episode_less window (second + 1 + (e.left - 1) - 1) (second + e.left - 1) refused e.first (omega (arith, more)) h.2,
        )
    by false t =
        let less : e.left ≤ 1 = grind (arith, nat_tests, t) in
        λ k r at. omega (arith, less, h.1 k r at)

-- one more line is refused
pub lasts_refused : (window second : ℕ) (refused : List RefusedLine) (o : Option Episode) (r : RefusedLine) → 1 ≤ window → r.second ≡ second
    → ((k : ℕ) (q : RefusedLine) → slice_get refused k ≡ Some q → q.second ≤ second) → Lasts window second refused o
    → Lasts window second (refused ++ r ∷ []) (Some (record { first = first_of r.refusal o; left = window }))
lasts_refused window second refused o r some now past h = (
  some,
  λ k q at. elim (last_item refused r q k at) [
    | inl old ↦ omega (arith, past k q old)
    | inr one ↦ omega (arith, now, ap (λ (x : RefusedLine). x.second) one)
  ],
  by o h,
)
  where
    by : (o : Option Episode) → Lasts window second refused o → IsEpisodeFrom window (second + window - 1) (refused ++ r ∷ []) (first_of r.refusal o)
    by None over = record {
      before = refused;
      begins = r;
      rest = [];
      split = refl;
      apart = λ k q at. omega (arith, now, over k q at);
      row = omega (arith, now, some);
      named = refl;
    }
    by (Some e) on = record {
      before = on.2.before;
      begins = on.2.begins;
      rest = on.2.rest ++ r ∷ [];
      split = ap (λ (l : List RefusedLine). l ++ r ∷ []) on.2.split ∙ append_assoc on.2.before (on.2.begins ∷ on.2.rest) (r ∷ []);
      apart = on.2.apart;
      row = row_more window (second + e.left - 1) (second + window - 1) on.2.begins on.2.rest r (omega (arith, now, on.0)) (omega (arith, now, some)) on.2.row;
      named = on.2.named;
    }
