use Rattle.std.proofs.Common.{◌≡◌, ℕ, ◌<◌, Option, None, Some, inl, inr, length, sym, ◌∙◌, refl}
use Rattle.rip_plan.specs.Network.{Network}
use Rattle.rip_table.specs.State.{State}
use Rattle.rip_check.specs.Metrics.{metric_at}
use Rattle.rip_check.specs.Tables.{IsSilent}
use Rattle.rip_check.specs.Told.{told}
use Rattle.rip_check.proofs.ToldTableLemmas.{mute, told_shown}
use Rattle.rip_check.proofs.laws.lists_are_kept.Goals as goal

-- what is told is silent only where what is shown is
shown_silent : (n : Network) (s : State) (i p : ℕ) → p < length s.prefixes → IsSilent (metric_at (told n s) i p) → IsSilent (metric_at s i p)
shown_silent n s i p lt silent = go (metric_at s i p) refl
  where
    go : (o : Option ℕ) → metric_at s i p ≡ o → IsSilent (metric_at s i p)
    go None e = inl e
    go (Some m) e =
        let tells : metric_at (told n s) i p ≡ Some m = told_shown (mute n s) s i p m lt e in
        elim silent [
          | inl none ↦ let clash : None ≡ Some m = sym none ∙ tells in cc clash
          | inr is ↦ inr (e ∙ sym tells ∙ is)
        ]

pub returns : goal.returns
returns c n s i r l d p shows its at known closed =
    shown_silent n s i p known ((shows.1.fits r p at known).quiet i l d its closed)
