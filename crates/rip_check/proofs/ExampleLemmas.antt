-- Worked examples, from tests of what is written out.
use Rattle.std.proofs.Common.{◌≡◌, ℕ, ◌<◌, true, length, IsTrue}
use Rattle.rip_plan.specs.Network.{Network}
use Rattle.rip_table.specs.State.{State}
use Rattle.rip_check.specs.Tables.{Tables}
use Rattle.rip_check.specs.Settled.{HoldsAll}
use Rattle.rip_check.specs.Networks.{network_at}
use Rattle.rip_check.specs.Examples.{IsSettledNetwork, IsUnsettledNetwork}
use Rattle.rip_check.proofs.CheckingLemmas.{Passes, NamesTested, lawful}
use Rattle.rip_check.proofs.CheckedPlaceLemmas.{all_fit, all_hold, is_no_choice, no_choice, shows, holds_all}
use Rattle.rip_check.proofs.DescentLemmas.{right}
use Rattle.rip_check.proofs.ConverseLemmas.{holds}

pub settled : (n : Network) (shown : State) (T : Tables) → Passes n → NamesTested → ((i : ℕ) → IsTrue (shown.heard i)) →
    all_fit n shown T ≡ true → all_hold n shown T ≡ true → IsSettledNetwork n shown T
settled n shown T passes tested heard fit hold =
    let plan = lawful n passes tested in
    let tables = shows n shown T plan (λ i r l c its. heard i) fit in
    let all = holds_all n shown T hold in
    record { lawful = plan; shows = tables; holds = all; right = right n shown T plan tables all }

-- one place whose metric is no choice makes the tables wrong
pub unsettled : (n : Network) (shown : State) (T : Tables) → Passes n → NamesTested → ((i : ℕ) → IsTrue (shown.heard i)) →
    all_fit n shown T ≡ true → (r p : ℕ) → r < length n.routers → p < length shown.prefixes → is_no_choice (network_at n shown.prefixes p) shown r p (T r p).metric ≡ true → IsUnsettledNetwork n shown T
unsettled n shown T passes tested heard fit r p at known none =
    let plan = lawful n passes tested in
    let tables = shows n shown T plan (λ i r l c its. heard i) fit in
    let fails : HoldsAll n shown T → ⊥ = λ all. no_choice (network_at n shown.prefixes p) shown r p (T r p).metric none (all r p at known).choice.chosen in
    record { lawful = plan; shows = tables; fails = fails; wrong = λ is. fails (holds n shown T plan tables is) }
