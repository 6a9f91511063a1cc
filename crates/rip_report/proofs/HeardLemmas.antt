-- Who has an address, what is told of strangers, and parts of texts.
use Rattle.std.proofs.Common.{◌≡◌, ℕ, ◌+◌, ◌<◌, List, [], length, get_or, Some, Bool, false, inl, inr, subst, arith, refl}
use Rattle.std.specs.Prelude.{Decides, slice_get}
use Rattle.std.proofs.lemmas.Bool.{cases_lt}
use Rattle.std.proofs.lemmas.Bool.Decides.{not_from_Decides}
use Rattle.std.proofs.lemmas.Option.{slice_get-get_or}
use Rattle.rip_log.specs.Said.{Origin}
use Rattle.rip_table.specs.Events.{EventAt}
use Rattle.rip_table.specs.Tallies.{origin_of, stranger_tally, told_after}
use Rattle.rip_table.specs.declared.tallies.strangers.StrangerTally.{StrangerTally}
use Rattle.rip_report.specs.HeardText.{StrangerLines, ToldLines}
use Rattle.rip_plan.specs.Network.{Network}
use Rattle.rip_plan.specs.Relations.{HasAddress, IsInterface}
use Rattle.rip_plan.specs.declared.parts.Interface.{Interface}

-- a listed interface, by its router and link
pub is_listed : (n : Network) (i : ℕ) (x : Interface) → slice_get n.interfaces i ≡ Some x → IsInterface n i x.router x.link x.cost
is_listed n i x listed = record { interface = x; listed = listed; router = refl; link = refl; cost = refl }

-- what has an address on a link is an interface on it
pub its_link : (n : Network) (i l a : ℕ) → HasAddress n i l a → (r c : ℕ) × IsInterface n i r l c
its_link n i l a h =
    let has = h.1 in
    let x = has.interface in
    (x.router, x.cost, record { interface = x; listed = has.listed; router = refl; link = has.link; cost = refl })

-- no interface up to this one has the address
pub none_more : (n : Network) (a i : ℕ) (b : Bool) → ((j l : ℕ) → j < i → HasAddress n j l a → ⊥)
    → ((r l c : ℕ) → IsInterface n i r l c → Decides b (HasAddress n i l a)) → b ≡ false → (j l : ℕ) → j < i + 1 → HasAddress n j l a → ⊥
none_more n a i b before tells fails j l less has =
    elim (cases_lt j i) [
      | inl lt ↦ before j l lt has
      | inr big ↦
          let e : j ≡ i = omega arith in
          let it : HasAddress n i l a = rw e at has in
          let is = its_link n i l a it in
          not_from_Decides b (tells is.0 l is.1 is.2) fails it
    ]

-- the lines of a stranger that is told
pub its_lines : (n : Network) (events : List EventAt) (k : ℕ) → k < length (told_after [] events) → (link : List ℕ) (address : ℕ) (t : StrangerTally) (text : List ℕ)
    → ((o : Origin) → slice_get (told_after [] events) k ≡ Some o → link ≡ o.link)
    → ((o : Origin) → slice_get (told_after [] events) k ≡ Some o → address ≡ o.sender)
    → ((o : Origin) → slice_get (told_after [] events) k ≡ Some o → t ≡ stranger_tally o events)
    → StrangerLines n (origin_of link address) t text → ToldLines n events k text
its_lines n events k within link address t text linked sent tallied lines =
    let told = told_after [] events in
    let o : Origin = get_or told k (origin_of [] 0) in
    let is : slice_get told k ≡ Some o = slice_get-get_or told k (origin_of [] 0) within in
    let on = subst (λ l. StrangerLines n (origin_of l address) t text) (linked o is) lines in
    let by = subst (λ a. StrangerLines n (origin_of o.link a) t text) (sent o is) on in
    record { origin = o; told = is; lines = subst (λ t. StrangerLines n o t text) (tallied o is) by }
