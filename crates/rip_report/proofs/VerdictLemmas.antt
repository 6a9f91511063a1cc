-- Verdicts and their statuses.
use Rattle.std.proofs.Common.{◌≡◌, ◌≢◌, ℕ, ◌<◌, length, inl, inr, Bool, List, None, Result, Ok, Err, refl, sym, ap, subst}
use Rattle.std.specs.Prelude.{◌↔◌, IfOk}
use Rattle.rip_plan.specs.Network.{Network}
use Rattle.rip_plan.specs.PrefixNetworks.{IsNetwork}
use Rattle.rip_plan.specs.Relations.{HasList, IsAttached, IsLawful}
use Rattle.rip_plan.proofs.PrefixNetworkLemmas.{prefix_network, same_network}
use Rattle.rip_table.specs.State.{State}
use Rattle.rip_check.specs.Verdicts.{IsVerdict, ShowsTables, IsNextUnsettled}
use Rattle.rip_check.specs.declared.verdict.Place2.{Place2}
use Rattle.rip_check.specs.declared.verdict.Unclear.{Unclear}
use Rattle.rip_check.specs.declared.verdict.Unclear.TheVariants.{NotHeard, TwoMetrics, Missing, ShownOn, TwoWays}
use Rattle.rip_check.specs.declared.verdict.Verdict.{Verdict}
use Rattle.rip_check.specs.declared.verdict.Verdict.TheVariants as verdicts
use Rattle.rip_report.specs.Lines.{IsKnownReason}
use Rattle.rip_report.specs.AuditText.{AnswersRightly, IsJudged, IsKnownTrouble, ShowsPlainRightTables, UnsettledLines, VerdictText, a_settled, an_unclear, an_unsettled, settled_line, unclear_line, verdict_status}
use Rattle.rip_report.specs.Written.{Written}
use Rattle.rip_report.specs.declared.status.Status.{Status}
use Rattle.rip_report.specs.declared.status.Status.TheVariants.{Refused, Settled, Unsettled, Unclear as IsUnclear}
use Rattle.rip_report.specs.declared.status.RunError.{RunError}
use Rattle.rip_check.specs.Laws.{ShowsRightTables}
use Rattle.rip_check.specs.Settled.{IsPlainRight, IsRight}
use Rattle.rip_check.specs.Tables.{Route}
use Rattle.rip_check.specs.Told.{told}
use Rattle.rip_check.specs.Firsts.{IsCause, IsFirstTrouble, IsReason}
use Rattle.rip_check.specs.Networks.{block_at, network_at}
use Rattle.rip_check.specs.Walks.{PacketsArrive}

-- the link to which a prefix is attached is known
attached_known : (n : Network) (r p l : ℕ) → IsNetwork n → IsAttached n r p l → l < length n.links
attached_known n r p l laws attached = let (c, (i, is)) = laws.attached_there r p l attached in laws.link_known i r l c is

-- the network of a prefix keeps the laws of a network
its : (n : Network) (s : State) (p : ℕ) → IsLawful n → IsNetwork (network_at n s.prefixes p)
its n s p lawful = prefix_network n lawful (block_at s.prefixes p)

-- the link of a reason is known
reason_link : (n : Network) (s : State) (r p : ℕ) (trouble : Unclear) → IsLawful n → IsReason (network_at n s.prefixes p) (told n s) r p trouble → IsKnownReason n trouble
reason_link n s r p (NotHeard t l) lawful h = tt
reason_link n s r p (TwoMetrics t q) lawful h = tt
reason_link n s r p (Missing t q l) lawful h = (its n s p lawful).link_known h.3.interface r l h.3.cost h.3.its
reason_link n s r p (ShownOn t q l) lawful h = attached_known (network_at n s.prefixes p) r p l (its n s p lawful) h.3.0
reason_link n s r p (TwoWays t q) lawful h = tt

-- the router, the prefix and the link of a reason are known
reason_names : (n : Network) (s : State) (r p : ℕ) (trouble : Unclear) → IsLawful n → r < length n.routers → p < length s.prefixes → IsReason (network_at n s.prefixes p) (told n s) r p trouble →
    IsKnownTrouble n s trouble
reason_names n s r p (NotHeard t l) lawful router prefix h = absurd h
reason_names n s r p (TwoMetrics t q) lawful router prefix h = (rw h.0 router, rw h.1 prefix)
reason_names n s r p (Missing t q l) lawful router prefix h = (rw h.0 router, rw h.1 prefix, (its n s p lawful).link_known h.3.interface r l h.3.cost h.3.its)
reason_names n s r p (ShownOn t q l) lawful router prefix h = (rw h.0 router, rw h.1 prefix, attached_known (network_at n s.prefixes p) r p l (its n s p lawful) h.3.0)
reason_names n s r p (TwoWays t q) lawful router prefix h = (rw h.0 router, rw h.1 prefix)

-- so it is of a cause
pub known_reason : (n : Network) (s : State) (r p : ℕ) (trouble : Unclear) → IsLawful n → IsCause n (told n s) r p trouble → IsKnownReason n trouble
known_reason n s r p trouble lawful (inl (l, loud, e)) = subst (IsKnownReason n) (sym e) (lawful.link_known loud.interface r l loud.cost loud.its)
known_reason n s r p trouble lawful (inr (quiet, h)) = reason_link n s r p trouble lawful h

pub reason_known : (n : Network) (s : State) (r p : ℕ) (trouble : Unclear) → IsLawful n → r < length n.routers → p < length s.prefixes → IsCause n (told n s) r p trouble → IsKnownTrouble n s trouble
reason_known n s r p trouble lawful router prefix (inl (l, loud, e)) = subst (IsKnownTrouble n s) (sym e) (router, prefix, lawful.link_known loud.interface r l loud.cost loud.its)
reason_known n s r p trouble lawful router prefix (inr (quiet, h)) = reason_names n s r p trouble lawful router prefix h

-- what a trouble names is known
pub known_trouble : (n : Network) (s : State) (trouble : Unclear) → IsLawful n → IsFirstTrouble n (told n s) trouble → IsKnownTrouble n s trouble
known_trouble n s (NotHeard r l) lawful h = (lawful.router_known h.interface r l h.cost h.its, lawful.link_known h.interface r l h.cost h.its)
known_trouble n s (TwoMetrics r p) lawful (heard, h) = reason_known n s h.router h.prefix (TwoMetrics r p) lawful h.first.router h.first.prefix h.reason
known_trouble n s (Missing r p l) lawful (heard, h) = reason_known n s h.router h.prefix (Missing r p l) lawful h.first.router h.first.prefix h.reason
known_trouble n s (ShownOn r p l) lawful (heard, h) = reason_known n s h.router h.prefix (ShownOn r p l) lawful h.first.router h.first.prefix h.reason
known_trouble n s (TwoWays r p) lawful (heard, h) = reason_known n s h.router h.prefix (TwoWays r p) lawful h.first.router h.first.prefix h.reason

-- what judging answers, of each verdict
pub record Judges (n : Network) (s : State) (v : Verdict) : Type 0 where
  pub settled : (v ≡ verdicts.Settled) ↔ ShowsRightTables n (told n s)
  pub unsettled : (f : Place2) → (v ≡ verdicts.Unsettled f) ↔ (ShowsTables n (told n s) × IsNextUnsettled n (told n s) None f)
  pub unclear : (trouble : Unclear) → (v ≡ verdicts.Unclear trouble) ↔ IsFirstTrouble n (told n s) trouble
  pub no_tables : ((trouble : Unclear) × (v ≡ verdicts.Unclear trouble)) ↔ (ShowsTables n (told n s) → ⊥)
  pub arrive : v ≡ verdicts.Settled → PacketsArrive n (told n s)

pub said : (n : Network) (s : State) (v : Verdict) → Judges n s v → IsVerdict n (told n s) v
said n s verdicts.Settled j = j.settled.0 refl
said n s (verdicts.Unsettled f) j = (j.unsettled f).0 refl
said n s (verdicts.Unclear trouble) j = (j.unclear trouble).0 refl

is_settled : (v : Verdict) → verdict_status v ≡ Settled → v ≡ verdicts.Settled
is_settled verdicts.Settled h = refl
is_settled (verdicts.Unsettled f) h = absurd (cc)
is_settled (verdicts.Unclear trouble) h = absurd (cc)

is_unsettled : (v : Verdict) → verdict_status v ≡ Unsettled → (f : Place2) × (v ≡ verdicts.Unsettled f)
is_unsettled verdicts.Settled h = absurd (cc)
is_unsettled (verdicts.Unsettled f) h = (f, refl)
is_unsettled (verdicts.Unclear trouble) h = absurd (cc)

is_unclear : (v : Verdict) → verdict_status v ≡ IsUnclear → (trouble : Unclear) × (v ≡ verdicts.Unclear trouble)
is_unclear verdicts.Settled h = absurd (cc)
is_unclear (verdicts.Unsettled f) h = absurd (cc)
is_unclear (verdicts.Unclear trouble) h = (trouble, refl)

pub judged : (n : Network) (s : State) (v : Verdict) → Judges n s v → IsJudged n s (verdict_status v)
judged n s v j = record {
  settled = (λ h. j.settled.0 (is_settled v h), λ h. ap verdict_status (j.settled.1 h));
  arrive = λ h. j.arrive (is_settled v h);
  unsettled = (
    λ h. let found = is_unsettled v h in let both = (j.unsettled found.0).0 found.1 in (both.0, (found.0, both.1)),
    λ h. ap verdict_status ((j.unsettled h.1.0).1 (h.0, h.1.1)),
  );
  unclear = (
    λ h. let found = is_unclear v h in (found.0, (j.unclear found.0).0 found.1),
    λ h. ap verdict_status ((j.unclear h.0).1 h.1),
  );
  no_tables = (
    λ h. j.no_tables.0 (is_unclear v h),
    λ h. ap verdict_status (j.no_tables.1 h).1,
  );
}

-- what each verdict writes
pub settled_told : (n : Network) (s : State) (all : Bool) (v : Verdict) → v ≡ verdicts.Settled → IsVerdict n (told n s) v →
    VerdictText n s all (record { text = settled_line n s; status = verdict_status v })
settled_told n s all v e h = rw e (a_settled (rw e at h))

pub unclear_told : (n : Network) (s : State) (all : Bool) (v : Verdict) (trouble : Unclear) → v ≡ verdicts.Unclear trouble → IsVerdict n (told n s) v →
    VerdictText n s all (record { text = unclear_line n s trouble; status = verdict_status v })
unclear_told n s all v trouble e h = rw e (an_unclear trouble (rw e at h))

pub unsettled_told : (n : Network) (s : State) (all : Bool) (v : Verdict) (f : Place2) (text : List ℕ) → v ≡ verdicts.Unsettled f → IsVerdict n (told n s) v → UnsettledLines n s all f text →
    VerdictText n s all (record { text = text; status = verdict_status v })
unsettled_told n s all v f text e h lines = let both = rw e at h in rw e (an_unsettled f text both.0 both.1 lines)

-- no verdict is a refusal
pub verdict_not_refused : (n : Network) (s : State) (all : Bool) (w : Written) → VerdictText n s all w → w.status ≢ Refused
verdict_not_refused n s all w (a_settled right) = λ e. cc e
verdict_not_refused n s all w (an_unclear trouble is) = λ e. cc e
verdict_not_refused n s all w (an_unsettled f text shows is lines) = λ e. cc e

-- the headline, of what is judged where plan and log are accepted
pub headline : (n : Network) (s : State) (IsAccepted : Type 0) (outcome : Result Status RunError) → IfOk outcome (λ status. status ≢ Refused → IsAccepted) → (IsAccepted → IfOk outcome (IsJudged n s)) →
    IfOk outcome (AnswersRightly n s)
headline n s IsAccepted (Ok status) accepted judged = λ other. (let j = judged (accepted other) in (j.settled, j.arrive))
headline n s IsAccepted (Err e) accepted judged = tt

-- a verdict on a plan that says nothing beside the standard, by the paths over any neighbours
pub plain_headline : (n : Network) (s : State) (outcome : Result Status RunError) → ((l : ℕ) → HasList n l → ⊥) → ((r p : ℕ) (route : Route) → IsRight n r p route ↔ IsPlainRight n r p route) → IfOk outcome (IsJudged n s)
    → IfOk outcome (λ status. (status ≡ Settled) ↔ ShowsPlainRightTables n s)
plain_headline n s (Ok status) free plain judged = (
  λ h. let (T, shows, right) = judged.settled.0 h in
      (T, shows, λ r p below within. (plain r p (T r p)).0 (subst (λ (m : Network). IsRight m r p (T r p)) (same_network n (block_at s.prefixes p) free) (right r p below within))),
  λ h. let (T, shows, right) = h in
      judged.settled.1 (T, shows, λ r p below within. subst (λ (m : Network). IsRight m r p (T r p)) (sym (same_network n (block_at s.prefixes p) free)) ((plain r p (T r p)).1 (right r p below within))),
)
plain_headline n s (Err e) free plain judged = tt
