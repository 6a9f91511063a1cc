use Rattle.rip_plan.specs.PrefixNetworks.{exchanges}
use Rattle.rip_plan.proofs.PrefixNetworkLemmas.{exchange, its_own, prefix_network, same_network, stays_attached, stays_direct, stays_interface, stays_kept, was_attached, was_direct, was_kept}
use Rattle.rip_plan.proofs.laws.prefix_networks.Goals as goal

pub returns-clause-interfaces : goal.returns-clause-interfaces
returns-clause-interfaces c n b i r l d laws lt = (
  λ h. let (is, e) = its_own n (exchanges n b) i r l d lt h in (is, (exchange n laws b l).0 e),
  λ (is, on). stays_interface n (exchanges n b) i r l d is ((exchange n laws b l).1 on),
)

pub returns-clause-direct : goal.returns-clause-direct
returns-clause-direct c n b r p d laws is lt = (was_direct n (exchanges n b) r p d lt, stays_direct n laws b r p d is)

pub returns-clause-kept : goal.returns-clause-kept
returns-clause-kept c n b r p = (was_kept n (exchanges n b) r p, stays_kept n (exchanges n b) r p)

pub returns-clause-attached : goal.returns-clause-attached
returns-clause-attached c n b r p l laws = (
  λ h. let (is, e) = was_attached n (exchanges n b) r p l h in (is, (exchange n laws b l).0 e),
  λ (is, on). stays_attached n (exchanges n b) r p l is ((exchange n laws b l).1 on),
)

pub returns-clause-laws : goal.returns-clause-laws
returns-clause-laws c n b laws = prefix_network n laws b

pub returns-clause-same : goal.returns-clause-same
returns-clause-same c n b free = same_network n b free
