-- Only one verdict can be given.
use Rattle.std.proofs.Common.{◌≡◌, ℕ, ◌⊎◌, ◌↔◌, inl, inr, Option, None, Bool, true, false, IsTrue, refl, sym, ◌∙◌, ap, arith, length}
use Rattle.std.proofs.lemmas.Bool.{cases_lt}
use Rattle.rip_plan.specs.Network.{Network}
use Rattle.rip_plan.specs.Relations.{IsLawful, IsInterface}
use Rattle.rip_plan.specs.PrefixNetworks.{IsNetwork}
use Rattle.rip_plan.proofs.PrefixNetworkLemmas.{prefix_network}
use Rattle.rip_table.specs.State.{State}
use Rattle.rip_check.specs.Networks.{block_at, network_at}
use Rattle.rip_check.specs.Tables.{Route, FitsThere, IsHeard}
use Rattle.rip_check.specs.Laws.{ShowsRightTables}
use Rattle.rip_check.proofs.JudgingLemmas.{places_are_settled, tables_are_right}
use Rattle.rip_check.specs.Metrics.{IsInRange}
use Rattle.rip_check.specs.declared.verdict.Unclear.{Unclear}
use Rattle.rip_check.specs.declared.verdict.Unclear.TheVariants.{NotHeard, TwoMetrics, Missing, ShownOn, TwoWays}
use Rattle.rip_check.specs.declared.verdict.Place2.{Place2}
use Rattle.rip_check.specs.declared.verdict.Verdict.{Verdict}
use Rattle.rip_check.specs.declared.verdict.Verdict.TheVariants.{Settled, Unsettled, Unclear as IsUnclear}
use Rattle.rip_check.specs.Firsts.{AreFine, CanBeRead, IsCause, IsFirstLoud, IsReason, IsFirstGap, IsFirstUnheard, IsFirstUnclear, IsFirstTrouble, ShowsWhereAttached}
use Rattle.rip_check.proofs.PlanLemmas.{attached_once}
use Rattle.rip_check.specs.Verdicts.{ShowsTables, IsSound, IsNextUnsettled, IsVerdict, IsHidden}
use Rattle.rip_check.proofs.OrderLemmas.{one_first, none_first}
use Rattle.rip_check.proofs.OwnedLemmas.{its_link}
use Rattle.rip_check.proofs.ReadableLemmas.{one_there, shown_readable, readable_route}
use Rattle.rip_check.specs.Settled.{IsLeastChoice}

same_bool : (a b : Bool) (P : Type 0) → (IsTrue a ↔ P) → (IsTrue b ↔ P) → a ≡ b
same_bool true true P h k = refl
same_bool false false P h k = refl
same_bool true false P h k = cc (k.1 (h.0 refl))
same_bool false true P h k = cc (h.1 (k.0 refl))

one_gap : (n : Network) (shown : State) (r p l m : ℕ) → IsFirstGap n shown r p l → IsFirstGap n shown r p m → l ≡ m
one_gap n shown r p l m a b =
    elim (cases_lt a.interface b.interface) [
      | inl less ↦ absurd (b.before a.interface l a.cost less a.its a.shows)
      | inr big ↦ elim (cases_lt b.interface a.interface) [
        | inl less ↦ absurd (a.before b.interface m b.cost less b.its b.shows)
        | inr not ↦
            let e : a.interface ≡ b.interface = omega arith in
            let its : IsInterface n b.interface r l a.cost = rw e at a.its in
            (its_link n b.interface r l a.cost r m b.cost its b.its).1
      ]
    ]

one_unheard : (n : Network) (shown : State) (r l s m : ℕ) → IsFirstUnheard n shown r l → IsFirstUnheard n shown s m → NotHeard r l ≡ NotHeard s m
one_unheard n shown r l s m a b =
    elim (cases_lt a.interface b.interface) [
      | inl less ↦ absurd (a.unheard (b.before a.interface r l a.cost less a.its))
      | inr big ↦ elim (cases_lt b.interface a.interface) [
        | inl less ↦ absurd (b.unheard (a.before b.interface s m b.cost less b.its))
        | inr not ↦
            let e : a.interface ≡ b.interface = omega arith in
            let its : IsInterface n b.interface r l a.cost = rw e at a.its in
            let same = its_link n b.interface r l a.cost s m b.cost its b.its in
            λ i. NotHeard (same.0 i) (same.1 i)
      ]
    ]

one_loud : (n : Network) (shown : State) (r p l m : ℕ) → IsFirstLoud n shown r p l → IsFirstLoud n shown r p m → l ≡ m
one_loud n shown r p l m a b =
    elim (cases_lt a.interface b.interface) [
      | inl less ↦ absurd (a.loud (b.before a.interface l a.cost less a.its a.closed))
      | inr big ↦ elim (cases_lt b.interface a.interface) [
        | inl less ↦ absurd (b.loud (a.before b.interface m b.cost less b.its b.closed))
        | inr not ↦
            let e : a.interface ≡ b.interface = omega arith in
            let its : IsInterface n b.interface r l a.cost = rw e at a.its in
            (its_link n b.interface r l a.cost r m b.cost its b.its).1
      ]
    ]

module _ (n : Network) (plan : IsNetwork n) (shown : State) (r p : ℕ) where
  no_gap : (l m : ℕ) → IsFirstGap n shown r p l → ShowsWhereAttached n shown r p m → ⊥
  no_gap l m gap on =
      let h = on.1 gap.interface l gap.cost gap.its in
      cc (gap.shows, h.1)

  one_reason : (u v : Unclear) → IsReason n shown r p u → IsReason n shown r p v → u ≡ v
  one_reason (NotHeard a b) v h k = absurd h
  one_reason (TwoMetrics a b) (NotHeard c d) h k = absurd k
  one_reason (TwoMetrics a b) (TwoMetrics c d) h k = λ i. TwoMetrics ((h.0 ∙ sym k.0) i) ((h.1 ∙ sym k.1) i)
  one_reason (TwoMetrics a b) (Missing c d l) h k = absurd (k.2 h.2)
  one_reason (TwoMetrics a b) (ShownOn c d l) h k = absurd (k.2 h.2)
  one_reason (TwoMetrics a b) (TwoWays c d) h k = absurd (k.2 h.2)
  one_reason (Missing a b l) (NotHeard c d) h k = absurd k
  one_reason (Missing a b l) (TwoMetrics c d) h k = absurd (h.2 k.2)
  one_reason (Missing a b l) (Missing c d m) h k = λ i. Missing ((h.0 ∙ sym k.0) i) ((h.1 ∙ sym k.1) i) (one_gap n shown r p l m h.3 k.3 i)
  one_reason (Missing a b l) (ShownOn c d m) h k = absurd (no_gap l m h.3 k.3)
  one_reason (Missing a b l) (TwoWays c d) h k = absurd (k.3 h.3.interface l h.3.cost h.3.its h.3.shows)
  one_reason (ShownOn a b l) (NotHeard c d) h k = absurd k
  one_reason (ShownOn a b l) (TwoMetrics c d) h k = absurd (h.2 k.2)
  one_reason (ShownOn a b l) (Missing c d m) h k = absurd (no_gap m l k.3 h.3)
  one_reason (ShownOn a b l) (ShownOn c d m) h k = λ i. ShownOn ((h.0 ∙ sym k.0) i) ((h.1 ∙ sym k.1) i) (attached_once n plan r p l m h.3.0 k.3.0 i)
  one_reason (ShownOn a b l) (TwoWays c d) h k = absurd (k.4 l h.3)
  one_reason (TwoWays a b) (NotHeard c d) h k = absurd k
  one_reason (TwoWays a b) (TwoMetrics c d) h k = absurd (h.2 k.2)
  one_reason (TwoWays a b) (Missing c d m) h k = absurd (h.3 k.3.interface m k.3.cost k.3.its k.3.shows)
  one_reason (TwoWays a b) (ShownOn c d m) h k = absurd (h.4 m k.3)
  one_reason (TwoWays a b) (TwoWays c d) h k = λ i. TwoWays ((h.0 ∙ sym k.0) i) ((h.1 ∙ sym k.1) i)

module _ (n : Network) (shown : State) where
  -- an interface that was not heard, or a place that can't be read
  abbrev pub Kind : Unclear → Type 0
  Kind u = ((r l : ℕ) × (u ≡ NotHeard r l) × IsFirstUnheard n shown r l) ⊎ (IsHeard n shown × IsFirstUnclear n shown u)

  pub kind_of : (u : Unclear) → IsFirstTrouble n shown u → Kind u
  kind_of (NotHeard r l) h = inl (r, l, refl, h)
  kind_of (TwoMetrics r p) h = inr h
  kind_of (Missing r p l) h = inr h
  kind_of (ShownOn r p l) h = inr h
  kind_of (TwoWays r p) h = inr h

  pub trouble_from : (u : Unclear) → IsHeard n shown → IsFirstUnclear n shown u → IsFirstTrouble n shown u
  trouble_from (NotHeard r l) heard h = elim h.reason [ inl a ↦ let clash : NotHeard r l ≡ ShownOn h.router h.prefix a.0 = a.2 in cc clash | inr b ↦ absurd b.1 ]
  trouble_from (TwoMetrics r p) heard h = (heard, h)
  trouble_from (Missing r p l) heard h = (heard, h)
  trouble_from (ShownOn r p l) heard h = (heard, h)
  trouble_from (TwoWays r p) heard h = (heard, h)

  not_both : (r l : ℕ) → IsFirstUnheard n shown r l → IsHeard n shown → ⊥
  not_both r l a heard = a.unheard (heard a.interface r l a.cost a.its)

  module _ (plan : IsLawful n) where
    one_cause : (r p : ℕ) (u v : Unclear) → IsCause n shown r p u → IsCause n shown r p v → u ≡ v
    one_cause r p u v (inl a) (inl b) = a.2 ∙ ap (ShownOn r p) (one_loud n shown r p a.0 b.0 a.1 b.1) ∙ sym b.2
    one_cause r p u v (inl a) (inr b) = absurd (a.1.loud (b.0 a.1.interface a.0 a.1.cost a.1.its a.1.closed))
    one_cause r p u v (inr a) (inl b) = absurd (b.1.loud (a.0 b.1.interface b.0 b.1.cost b.1.its b.1.closed))
    one_cause r p u v (inr a) (inr b) = one_reason (network_at n shown.prefixes p) (prefix_network n plan (block_at shown.prefixes p)) shown r p u v a.1 b.1

    one_unclear : (u v : Unclear) → IsFirstUnclear n shown u → IsFirstUnclear n shown v → u ≡ v
    one_unclear u v a b =
        let same = one_first n (length shown.prefixes) None (CanBeRead n shown) a.router a.prefix b.router b.prefix a.first b.first in
        let reason : IsCause n shown b.router b.prefix u = rw same.1 at (rw same.0 at a.reason) in
        one_cause b.router b.prefix u v reason b.reason

    one_kind : (u v : Unclear) → Kind u → Kind v → u ≡ v
    one_kind u v (inl a) (inl b) = a.2 ∙ (one_unheard n shown a.0 a.1 b.0 b.1 a.3 b.3 ∙ sym b.2)
    one_kind u v (inl a) (inr b) = absurd (not_both a.0 a.1 a.3 b.0)
    one_kind u v (inr a) (inl b) = absurd (not_both b.0 b.1 b.3 a.0)
    one_kind u v (inr a) (inr b) = one_unclear u v a.1 b.1

    pub one_trouble : (u v : Unclear) → IsFirstTrouble n shown u → IsFirstTrouble n shown v → u ≡ v
    one_trouble u v a b = one_kind u v (kind_of u a) (kind_of v b)

  module _ (plan : IsLawful n) (range : IsInRange n shown) where
    pub no_trouble : (u : Unclear) → ShowsTables n shown → IsFirstTrouble n shown u → ⊥
    no_trouble u tables trouble =
        elim (kind_of u trouble) [
          | inl a ↦ not_both a.0 a.1 a.3 tables.1.heard
          | inr b ↦ none_first n (length shown.prefixes) None (CanBeRead n shown) b.1.router b.1.prefix b.1.first (shown_readable n plan shown range tables)
        ]

    pub one_failing : (after : Option (ℕ × ℕ)) (a b : Place2) → IsNextUnsettled n shown after a → IsNextUnsettled n shown after b → a ≡ b
    one_failing after a b h k =
        let same = one_first n (length shown.prefixes) after (IsSound n shown) a.router a.prefix b.router b.prefix h.first k.first in
        let ta : Route = record { metric = a.metric; way = a.way } in
        let tb : Route = record { metric = b.metric; way = b.way } in
        let net = network_at n shown.prefixes b.prefix in
        let fits : FitsThere n shown b.router b.prefix ta = rw same.1 at (rw same.0 at h.values.fits) in
        let equation : IsLeastChoice net shown b.router b.prefix a.equation = rw same.1 at (rw same.0 at h.values.equation) in
        let hidden : IsTrue a.hidden ↔ IsHidden net shown b.router b.prefix = rw same.1 at (rw same.0 at h.values.hidden) in
        let t : ta ≡ tb = one_there n plan shown b.router b.prefix ta tb k.first.router fits k.values.fits in
        let e : a.equation ≡ b.equation = omega (arith, equation.least b.equation k.values.equation.chosen, k.values.equation.least a.equation equation.chosen) in
        let f : a.hidden ≡ b.hidden = same_bool a.hidden b.hidden (IsHidden net shown b.router b.prefix) hidden k.values.hidden in
        λ i. record {
          router = same.0 i;
          prefix = same.1 i;
          metric = (t i).metric;
          equation = e i;
          way = (t i).way;
          hidden = f i;
        }

    right_is_shown : ShowsRightTables n shown → ShowsTables n shown
    right_is_shown h = (h.0, h.1)

    not_right : (f : Place2) → ShowsRightTables n shown → IsNextUnsettled n shown None f → ⊥
    not_right f right h =
        let place = (places_are_settled n shown plan right).places f.router f.prefix h.first.router h.first.prefix in
        h.first.fails (λ t fits.
        let e : place.0 ≡ t = one_there n plan shown f.router f.prefix place.0 t h.first.router place.1 fits in
        rw e at place.2)

    pub one_verdict : (v w : Verdict) → IsVerdict n shown v → IsVerdict n shown w → v ≡ w
    one_verdict Settled Settled h k = refl
    one_verdict Settled (Unsettled f) h k = absurd (not_right f h k.1)
    one_verdict Settled (IsUnclear u) h k = absurd (no_trouble u (right_is_shown h) k)
    one_verdict (Unsettled f) Settled h k = absurd (not_right f k h.1)
    one_verdict (Unsettled f) (Unsettled g) h k = ap Unsettled (one_failing None f g h.1 k.1)
    one_verdict (Unsettled f) (IsUnclear u) h k = absurd (no_trouble u h.0 k)
    one_verdict (IsUnclear u) Settled h k = absurd (no_trouble u (right_is_shown k) h)
    one_verdict (IsUnclear u) (Unsettled f) h k = absurd (no_trouble u k.0 h)
    one_verdict (IsUnclear u) (IsUnclear v) h k = ap IsUnclear (one_trouble plan u v h k)

    -- where every place is sound the tables are right
    pub sound_is_right : IsHeard n shown → AreFine n (length shown.prefixes) None (CanBeRead n shown) → AreFine n (length shown.prefixes) None (IsSound n shown) → ShowsRightTables n shown
    sound_is_right heard readable sound =
        tables_are_right n shown plan (record {
          heard = heard;
          places = λ r p at known.
              let t = readable_route n plan shown range r p at (readable r p at known tt) in
              (t.0, t.1, sound r p at known tt t.0 t.1);
        })
