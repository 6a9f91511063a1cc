use Rattle.std.proofs.Common.{◌≡◌, ℕ, ◌+◌, ◌*◌, Some, suc, refl, arith, slice_get, min, unwrap_or, ne_of_lt, lt-suc_self}
use Rattle.rip_plan.specs.Relations.{IsInterface, IsNeighbour}
use Rattle.rip_check.specs.Examples.{IsSettledNetwork, chain, chain_shown, chain_tables, interface}
use Rattle.rip_check.specs.Metrics.{metric_at}
use Rattle.rip_check.specs.Walks.{GoesTo}
use Rattle.rip_check.specs.declared.way.Way.TheVariants.{Over}
use Rattle.rip_check.proofs.CheckingLemmas.{Passes, NamesTested}
use Rattle.rip_check.proofs.ExampleLemmas.{settled}
use Rattle.rip_check.proofs.laws.examples.chains.Goals as goal

passes_15 : Passes (chain 15)
passes_15 = record { counts = refl; links = refl; lists = refl; routers = refl; interfaces = refl; inside = refl; prefixes = refl; places = refl; has = refl; also = refl }

passes_16 : Passes (chain 16)
passes_16 = record { counts = refl; links = refl; lists = refl; routers = refl; interfaces = refl; inside = refl; prefixes = refl; places = refl; has = refl; also = refl }

settled_15 : NamesTested → IsSettledNetwork (chain 15) (chain_shown 15) chain_tables
settled_15 tested = settled (chain 15) (chain_shown 15) chain_tables passes_15 tested (λ i. refl) refl refl

settled_16 : NamesTested → IsSettledNetwork (chain 16) (chain_shown 16) chain_tables
settled_16 tested = settled (chain 16) (chain_shown 16) chain_tables passes_16 tested (λ i. refl) refl refl

pub returns-clause-fifteen : goal.returns-clause-fifteen
returns-clause-fifteen c = settled_15 (λ text. (c.names.ensures.exact text).0)

pub returns-clause-metric_15 : goal.returns-clause-metric_15
returns-clause-metric_15 c = ((settled_15 (λ text. (c.names.ensures.exact text).0)).right 14 0 (omega arith) (omega arith)).least

pub returns-clause-sixteen : goal.returns-clause-sixteen
returns-clause-sixteen c = settled_16 (λ text. (c.names.ensures.exact text).0)

pub returns-clause-metric_16 : goal.returns-clause-metric_16
returns-clause-metric_16 c = ((settled_16 (λ text. (c.names.ensures.exact text).0)).right 15 0 (omega arith) (omega arith)).least

-- a router of the row goes to the one before it, whose interface on the link between them is the one before its own
hop : (r a b : ℕ) → slice_get (chain 15).interfaces (2 * r + 2) ≡ Some (interface (suc r) (suc r) a 1)
    → slice_get (chain 15).interfaces (2 * r + 1) ≡ Some (interface r (suc r) b 1)
    → (chain_tables (suc r) 0).way ≡ Over (suc r)
    → (chain_tables (suc r) 0).metric ≡ min 16 (1 + unwrap_or (metric_at (chain_shown 15) (2 * r + 1) 0) 16)
    → GoesTo (chain 15) (chain_shown 15) chain_tables 0 (suc r) r
hop r a b here there way value =
    let own : IsInterface (chain 15) (2 * r + 2) (suc r) (suc r) 1 = record { interface = interface (suc r) (suc r) a 1; listed = here; router = refl; link = refl; cost = refl } in
    let its : IsInterface (chain 15) (2 * r + 1) r (suc r) 1 = record { interface = interface r (suc r) b 1; listed = there; router = refl; link = refl; cost = refl } in
    let neighbour : IsNeighbour (chain 15) (suc r) (suc r) r = record { other = ne_of_lt (lt-suc_self r); here = (1, (2 * r + 2, own)); there = (1, (2 * r + 1, its)) } in
    record { link = suc r; way = way; offer = record { neighbour = neighbour; cost = 1; here = (2 * r + 2, own); interface = 2 * r + 1; its_cost = 1; there = its; value = value } }

pub returns-clause-walk : goal.returns-clause-walk
returns-clause-walk c = (
  omega arith,
  omega arith,
  (
    hop 13 _ _ refl refl refl refl,
    (
      hop 12 _ _ refl refl refl refl,
      (
        hop 11 _ _ refl refl refl refl,
        (
          hop 10 _ _ refl refl refl refl,
          (
            hop 9 _ _ refl refl refl refl,
            (
              hop 8 _ _ refl refl refl refl,
              (
                hop 7 _ _ refl refl refl refl,
                (
                  hop 6 _ _ refl refl refl refl,
                  (
                    hop 5 _ _ refl refl refl refl,
                    (hop 4 _ _ refl refl refl refl, (hop 3 _ _ refl refl refl refl, (hop 2 _ _ refl refl refl refl, (hop 1 _ _ refl refl refl refl, (hop 0 _ _ refl refl refl refl, tt))))),
                  ),
                ),
              ),
            ),
          ),
        ),
      ),
    ),
  ),
)
