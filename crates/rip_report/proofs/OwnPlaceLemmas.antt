-- What the texts of verdicts on the routers' own tables need.
use Rattle.std.proofs.Common.{◌≡◌, ◌∙◌, ℕ, ◌<◌, Result, Ok, Err, length, refl, sym, ap, subst}
use Rattle.std.specs.Prelude.{◌↔◌, IfOk}
use Rattle.std.specs.declared.alloc.AllocError.{AllocError}
use Rattle.rip_plan.specs.Network.{Network}
use Rattle.rip_plan.specs.Relations.{IsLawful}
use Rattle.rip_table.specs.State.{State}
use Rattle.rip_routes.specs.OwnTables.{AreOwnTables, FitsOwn, OwnTables}
use Rattle.rip_check.specs.OwnSettled.{AreRightTables}
use Rattle.rip_check.specs.OwnVerdicts.{IsOwnFailing}
use Rattle.rip_check.specs.declared.own_verdict.OwnPlace.{OwnPlace}
use Rattle.rip_check.specs.declared.own_verdict.OwnVerdict.{OwnVerdict}
use Rattle.rip_check.specs.declared.own_verdict.OwnVerdict.TheVariants as verdicts
use Rattle.rip_check.proofs.OwnJudgeLemmas.{right_arrive}
use Rattle.rip_report.specs.OwnText.{IsKnownOwn, IsOwnJudged, own_status}
use Rattle.rip_report.specs.declared.status.Status.{Status}
use Rattle.rip_report.specs.declared.status.Status.TheVariants.{Settled}
use Rattle.rip_report.proofs.OwnTextLemmas.{known_own}

-- a place that fails, by its router and its prefix
pub failing_own : (n : Network) (s : State) (t : OwnTables) (r p : ℕ) (f : OwnPlace) → IsLawful n → FitsOwn n t → r < length n.routers → p < length s.prefixes → f.router ≡ r → f.prefix ≡ p →
    IsOwnFailing n s t f → IsKnownOwn n s f
failing_own n s t r p f plan fits router prefix same_router same_prefix failing = known_own n s t plan fits f (rw same_router router) (rw same_prefix prefix) failing

is_settled : (v : OwnVerdict) → own_status v ≡ Settled → v ≡ verdicts.Settled
is_settled verdicts.Settled h = refl
is_settled (verdicts.Unsettled f) h = absurd (cc)
is_settled (verdicts.NoRoutes r) h = absurd (cc)

-- what the status of a verdict says of the tables
pub own_judged : (n : Network) (t : OwnTables) (v : OwnVerdict) → IsLawful n → AreOwnTables t → (v ≡ verdicts.Settled) ↔ AreRightTables n t → IsOwnJudged n t (own_status v)
own_judged n t v plan are settled = record {
  settled = (λ h. settled.0 (is_settled v h), λ right. ap own_status (settled.1 right));
  arrive = λ h s told. right_arrive n s t plan are told (settled.0 (is_settled v h));
}

-- and what that of a text that was added says
pub own_judged_added : (n : Network) (t : OwnTables) (v : OwnVerdict) (status : Status) (added : Result Status AllocError) → own_status v ≡ status → IsOwnJudged n t (own_status v) →
    IfOk added (λ answered. answered ≡ status) → IfOk added (IsOwnJudged n t)
own_judged_added n t v status (Ok answered) same judged h = subst (IsOwnJudged n t) (same ∙ sym h) judged
own_judged_added n t v status (Err e) same judged h = tt
