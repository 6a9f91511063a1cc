use Rattle.std.proofs.Common.{◌≡◌, ℕ, Option, Some, None, false, arith, ap, sym, ◌∙◌}
use Rattle.std.specs.Prelude.{◌==◌, slice_get, Decides}
use Rattle.std.specs.Option.{option_map_or}
use Rattle.std.proofs.lemmas.Option.{none-some, same_Some}
use Rattle.std.proofs.lemmas.Bool.Decides.{nat_tests}
use Rattle.rip_plan.specs.Addresses.{holder_at}
use Rattle.rip_plan.specs.Network.{Network, addresses_of}
use Rattle.rip_plan.specs.Relations.{HasAddress, IsInterface, IsLawful}
use Rattle.rip_plan.specs.declared.parts.Interface.{Interface}
use Rattle.rip_plan.proofs.HeldAddressLemmas.{holder_gives}
use Rattle.rip_plan.proofs.LookupLemmas.{holder_finds}
use Rattle.rip_plan.proofs.plan.Plan.has_address.Goals as goal

-- the look-up finds the interface exactly where it has the address
decided : (n : Network) → IsLawful n → (i l a : ℕ) (o : Option ℕ) → o ≡ holder_at l a (addresses_of n) → Decides (option_map_or (λ k. k == i) o false) (HasAddress n i l a)
decided n laws i l a None e = (λ h. absurd cc, λ has. absurd (none-some i (e ∙ holder_finds n laws i l a has)))
decided n laws i l a (Some k) e = (λ h. grind (arith, nat_tests, holder_gives n i l a), λ has. grind (arith, nat_tests, holder_finds n laws i l a has))

-- the link of the interface
link_is : (n : Network) (i r l c : ℕ) (x : Interface) → IsInterface n i r l c → slice_get n.interfaces i ≡ Some x → x.link ≡ l
link_is n i r l c x is at = ap (λ (y : Interface). y.link) (same_Some x is.interface (sym at ∙ is.listed)) ∙ is.link

pub returns-in-Some : goal.returns-in-Some
returns-in-Some c =
    λ r l cost is. grind (arith, decided c.args.self.now c.lawful.ensures c.args.i l c.args.address (Some c.in-Some.number), link_is c.args.self.now c.args.i r l cost c.interface-link.result is)

pub returns-in-None : goal.returns-in-None
returns-in-None c = λ r l cost is. grind (arith, decided c.args.self.now c.lawful.ensures c.args.i l c.args.address None, link_is c.args.self.now c.args.i r l cost c.interface-link.result is)
