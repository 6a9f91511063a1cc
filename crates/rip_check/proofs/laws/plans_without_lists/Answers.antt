use Rattle.std.proofs.Common.{inl, subst, sym}
use Rattle.rip_plan.specs.Network.{Network}
use Rattle.rip_plan.proofs.PrefixNetworkLemmas.{same_network}
use Rattle.rip_check.specs.Firsts.{IsReadable}
use Rattle.rip_check.specs.Networks.{block_at}
use Rattle.rip_check.specs.Tables.{FitsShown}
use Rattle.rip_check.proofs.laws.plans_without_lists.Goals as goal

pub returns-clause-network : goal.returns-clause-network
returns-clause-network c n prefixes p free = same_network n (block_at prefixes p) free

pub returns-clause-fits : goal.returns-clause-fits
returns-clause-fits c n shown r p t free =
    let same = same_network n (block_at shown.prefixes p) free in (
      λ there. subst (λ (m : Network). FitsShown m shown r p t) same there.fits,
      λ fits. record { quiet = λ i l d at closed. absurd (closed (inl (free l))); fits = subst (λ (m : Network). FitsShown m shown r p t) (sym same) fits },
    )

pub returns-clause-read : goal.returns-clause-read
returns-clause-read c n shown r p free =
    let same = same_network n (block_at shown.prefixes p) free in (
      λ there. subst (λ (m : Network). IsReadable m shown r p) same there.readable,
      λ read. record { quiet = λ i l d at closed. absurd (closed (inl (free l))); readable = subst (λ (m : Network). IsReadable m shown r p) (sym same) read },
    )
