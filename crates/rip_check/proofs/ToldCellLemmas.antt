-- Marks of links, and cells of what is told.
use Rattle.std.proofs.Common.{◌≡◌, ◌≢◌, ◌↔◌, ℕ, zero, suc, ◌+◌, ◌<◌, ◌≤◌, ◌⊎◌, inl, inr, replicate, Bool, Decides, true, false, if◌then◌else◌, List, Contains, Option, Some, slice_get, slice_set, get_or, unwrap_or, length, refl, sym, ap, ◌∙◌, arith}
use Rattle.std.specs.List.Sorted.{IsStrictlyIncreasing}
use Rattle.std.proofs.lemmas.Bool.{cases_eq, cases_lt}
use Rattle.std.proofs.lemmas.Option.{get_or_from_slice_get}
use Rattle.std.proofs.lemmas.List.{get_or-set_other, length-set}
use Rattle.std.proofs.lemmas.Grind.{get_or-set_at}
use Rattle.rip_wire.specs.Prefix.{Block, block}
use Rattle.rip_plan.specs.Network.{Network}
use Rattle.rip_plan.specs.PrefixNetworks.{network_for}
use Rattle.rip_plan.specs.Relations.{Exchanges, IsInterface, IsLawful, IsOn}
use Rattle.rip_plan.specs.declared.parts.Interface.{Interface}
use Rattle.rip_routes.specs.OwnTables.{FitsOwn, OwnTables, route_at}
use Rattle.rip_routes.specs.declared.next_hop.NextHop.{NextHop}
use Rattle.rip_routes.specs.declared.next_hop.NextHop.TheVariants.{Over, Via}
use Rattle.rip_check.specs.Networks.{block_at}
use Rattle.rip_check.specs.OwnTells.{IsMute, IsOver, SendsOver}
use Rattle.rip_check.specs.ToldCells.{AreMarks, IsCell, IsHereOn}
use Rattle.rip_check.proofs.NetLemmas.{its_on}
use Rattle.rip_check.proofs.OwnedLemmas.{ascends_below, each_more, its_link, its_number, its_own}
use Rattle.rip_check.proofs.OwnRouteLemmas.{goes_over}

-- one more mark
pub marked : (Is Then : ℕ → Type 0) (marks : List Bool) (k : ℕ) → k < length marks → AreMarks Is marks → Then k → ((l : ℕ) → Is l → Then l) →
    ((l : ℕ) → Then l → (l ≡ k) ⊎ Is l) → AreMarks Then (slice_set marks k true)
marked Is Then marks k at was here more less l lt =
    let same : (l ≡ k) ⊎ (l ≡ k → ⊥) = cases_eq l k in
    elim same [
      | inl e ↦ (λ t. rw e here, λ h. get_or-set_at marks k l true false e at)
      | inr ne ↦
          let lt' : l < length marks = omega (arith, lt, length-set marks k true) in
          let kept = get_or-set_other marks k l true false ne in (
            λ t. more l ((was l lt').0 (sym kept ∙ t)),
            λ h. elim (less l h) [
              | inl e ↦ absurd (ne e)
              | inr is ↦ kept ∙ (was l lt').1 is
            ],
          )
    ]

-- the marks of another kind that comes to the same
pub same_marks : (Is Then : ℕ → Type 0) (marks : List Bool) → AreMarks Is marks → ((l : ℕ) → Is l → Then l) → ((l : ℕ) → Then l → Is l) → AreMarks Then marks
same_marks Is Then marks was more less l lt = (λ t. more l ((was l lt).0 t), λ h. (was l lt).1 (less l h))

-- a router is on the link over which a next hop of its goes
pub over_on : (n : Network) (laws : IsLawful n) (b : Block) (t : OwnTables) (r p l : ℕ) (h : NextHop) → r < length n.routers → FitsOwn n t → Contains (route_at t r p).hops h →
    IsOver (network_for n b) r p h l → IsOn n r l
over_on n laws b t r p l (Over k) lt fits listed over = rw over at (goes_over n t fits r p k listed)
over_on n laws b t r p l (Via a) lt fits listed over = (its_on n laws b r l lt over.0.1.neighbour.here).0

-- one of the first next hops goes over link l
abbrev pub SendsOverBefore : Network → ℕ → ℕ → List NextHop → ℕ → ℕ → Type 0
SendsOverBefore n r p hops l bound = (h : NextHop) × ((k : ℕ) × (k < bound) × (k < length hops) × (get_or hops k h ≡ h)) × IsOver n r p h l

module _ (n : Network) (r p : ℕ) (hops : List NextHop) (l bound : ℕ) where
  pub sends_later : SendsOverBefore n r p hops l bound → SendsOverBefore n r p hops l (bound + 1)
  sends_later over = (over.0, (over.1.0, omega (arith, over.1.1), over.1.2, over.1.3), over.2)

  pub sends_here : (h : NextHop) → bound < length hops → slice_get hops bound ≡ Some h → IsOver n r p h l → SendsOverBefore n r p hops l (bound + 1)
  sends_here h lt is over = (h, (bound, omega arith, lt, get_or_from_slice_get hops bound h h is), over)

  pub sends_by : (h : NextHop) → slice_get hops bound ≡ Some h → SendsOverBefore n r p hops l (bound + 1) → IsOver n r p h l ⊎ SendsOverBefore n r p hops l bound
  sends_by h is over =
      elim (cases_lt over.1.0 bound) [
        | inl less ↦ inr (over.0, (over.1.0, less, over.1.2, over.1.3), over.2)
        | inr big ↦
            let e : over.1.0 ≡ bound = omega (arith, over.1.1, big) in
            let same : get_or hops bound over.0 ≡ h = get_or_from_slice_get hops bound h over.0 is in
            let same' : over.0 ≡ h = sym over.1.3 ∙ ap (λ k. get_or hops k over.0) e ∙ same in
            inl (rw same' at over.2)
      ]

-- what is written to a cell, by the mark of its link
pub cell_of : (n : Network) (t : OwnTables) (s l p : ℕ) (mark : Bool) (shown v : ℕ) → Decides mark (SendsOver n t s l p ⊎ IsHereOn n t s p l) →
    ((route_at t s p).metric < 16 → shown ≡ (route_at t s p).metric) → (16 ≤ (route_at t s p).metric → shown ≡ 0) → (route_at t s p).metric ≤ 16 →
    v ≡ (if mark then 0 else shown) → IsCell n t s l p v
cell_of n t s l p true shown v marks low high most e = inl (e, inr (marks.0 refl))
cell_of n t s l p false shown v marks low high most e =
    let split : ((route_at t s p).metric < 16) ⊎ (16 ≤ (route_at t s p).metric) = cases_lt (route_at t s p).metric 16 in
    elim split [
      | inl small ↦ inr (e ∙ low small, λ mute. loud small mute)
      | inr big ↦ inl (e ∙ high big, inl (omega (arith, most, big)))
    ]
  where
    loud : (route_at t s p).metric < 16 → IsMute n t s l p → ⊥
    loud small (inl is) = omega (arith, small, is)
    loud small (inr quiet) = let clash : false ≡ true = marks.1 quiet in cc

-- nothing is marked at first
pub none_marked : (count l : ℕ) → get_or (replicate count false) l false ≡ false
none_marked zero l = refl
none_marked (suc count) zero = refl
none_marked (suc count) (suc l) = none_marked count l

-- the prefix that was read
pub block_is : (prefixes : List Block) (p : ℕ) (b : Block) → slice_get prefixes p ≡ Some b → block_at prefixes p ≡ b
block_is prefixes p b at = ap (λ (o : Option Block). unwrap_or o (block 0 0)) at

-- the cells of a router's interfaces at the places before k are written, and those of other routers are as they were
pub record AreWritten (n : Network) (b : Block) (r metric : ℕ) (marks : List Bool) (numbers old : List ℕ) (k : ℕ) (row : List ℕ) : Type 0 where
  pub own : (j l c : ℕ) → j < k → IsInterface n (get_or numbers j 0) r l c → Exchanges n l b → get_or row (get_or numbers j 0) 0 ≡ (if get_or marks l false then 0 else metric)
  pub closed : (j l c : ℕ) → j < k → IsInterface n (get_or numbers j 0) r l c → (Exchanges n l b → ⊥) → get_or row (get_or numbers j 0) 0 ≡ 0
  pub others : (i s l c : ℕ) → IsInterface n i s l c → s ≢ r → get_or row i 0 ≡ get_or old i 0

module _ (n : Network) (b : Block) (r metric : ℕ) (marks : List Bool) (numbers old : List ℕ) (exact : (i : ℕ) → Contains numbers i ↔ ((l c : ℕ) × IsInterface n i r l c)) where
  -- one more
  pub written : IsStrictlyIncreasing numbers → (k v : ℕ) (own : Interface) (row : List ℕ) → k < length numbers → IsInterface n (get_or numbers k 0) own.router own.link own.cost →
      length n.interfaces ≤ length row → AreWritten n b r metric marks numbers old k row → (Exchanges n own.link b → v ≡ (if get_or marks own.link false then 0 else metric)) →
      ((Exchanges n own.link b → ⊥) → v ≡ 0) → AreWritten n b r metric marks numbers old (k + 1) (slice_set row (get_or numbers k 0) v)
  written ascending k v own row lt is size was opens shut = record {
    own = each_more n r numbers exact (λ i l. Exchanges n l b → get_or (slice_set row (get_or numbers k 0) v) i 0 ≡ (if get_or marks l false then 0 else metric)) k own is
        (λ j l c less there opened. same (get_or numbers j 0) (differ j less) ∙ was.own j l c less there opened) (λ opened. written_here ∙ opens opened);
    closed = each_more n r numbers exact (λ i l. (Exchanges n l b → ⊥) → get_or (slice_set row (get_or numbers k 0) v) i 0 ≡ 0) k own is
        (λ j l c less there closed. same (get_or numbers j 0) (differ j less) ∙ was.closed j l c less there closed) (λ closed. written_here ∙ shut closed);
    others = λ j s l c there other. same j (λ e.
        let there' : IsInterface n (get_or numbers k 0) s l c = rw e at there in
        other (its_link n (get_or numbers k 0) s l c r own.link own.cost there' (its_own n r numbers exact k own lt is)).0) ∙ was.others j s l c there other;
  }
    where
      written_here : get_or (slice_set row (get_or numbers k 0) v) (get_or numbers k 0) 0 ≡ v
      written_here = get_or-set_at row (get_or numbers k 0) (get_or numbers k 0) v 0 refl (omega (arith, its_number n r numbers exact k lt, size))

      same : (j : ℕ) → j ≢ get_or numbers k 0 → get_or (slice_set row (get_or numbers k 0) v) j 0 ≡ get_or row j 0
      same j ne = get_or-set_other row (get_or numbers k 0) j v 0 ne

      differ : (j : ℕ) → j < k → get_or numbers j 0 ≢ get_or numbers k 0
      differ j less e = omega (arith, e, ascends_below numbers ascending j k less lt)
