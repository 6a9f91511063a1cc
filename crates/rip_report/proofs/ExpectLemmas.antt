-- The links of a router's interfaces.
use Rattle.std.proofs.Common.{◌≡◌, ℕ, ◌<◌, ◌↔◌, List, Some, get_or, length, slice_get, refl}
use Rattle.std.specs.List.{Contains}
use Rattle.std.proofs.lemmas.List.Elements.{Contains-get_or}
use Rattle.std.proofs.lemmas.Option.{slice_get_within}
use Rattle.rip_plan.specs.declared.parts.Interface.{Interface}
use Rattle.rip_plan.specs.Network.{Network, is_of, numbers_where}
use Rattle.rip_plan.specs.Relations.{IsInterface}
use Rattle.rip_report.specs.ExpectText.{link_of}

pub its_number : (n : Network) (r : ℕ) (numbers : List ℕ) → ((i : ℕ) → Contains numbers i ↔ ((l c : ℕ) × IsInterface n i r l c)) → (k : ℕ) → k < length numbers →
    get_or numbers k 0 < length n.interfaces
its_number n r numbers exact k lt =
    let h = (exact (get_or numbers k 0)).0 (Contains-get_or numbers k 0 lt) in
    slice_get_within n.interfaces (get_or numbers k 0) _ h.2.listed

pub link_is : (n : Network) (r k : ℕ) (numbers : List ℕ) (x : Interface) → numbers ≡ numbers_where (is_of r) 0 n.interfaces → slice_get n.interfaces (get_or numbers k 0) ≡ Some x →
    link_of n r k ≡ x.link
link_is n r k numbers x is at = rw (← is) (rw at refl)
