-- The tables of which nothing is told.
use Rattle.std.proofs.Common.{◌≡◌, ◌∙◌, ◌≤◌, sym, ap, ℕ, zero, suc, Bool, List, [], length, replicate, false, None, Option, refl}
use mathlib.Core.Path.{fun_ext}
use Rattle.std.specs.Prelude.{slice_index_or}
use Rattle.std.proofs.lemmas.Option.{none-some}
use Rattle.rip_wire.specs.Prefix.{Block}
use Rattle.rip_plan.specs.Network.{Network}
use Rattle.rip_plan.specs.Relations.{IsLawful}
use Rattle.rip_table.specs.State.{new_state}
use Rattle.rip_table.specs.Rows.{cell, planned_rows}
use Rattle.rip_table.proofs.CellLemmas.{cell-planned}
use Rattle.rip_table.proofs.NewLemmas.{empty-is}
use Rattle.rip_table.proofs.RowLemmas.{heads-planned}
use Rattle.rip_routes.specs.OwnTables.{OwnRoute}
use Rattle.rip_routes.specs.Judging.{grid_tables}
use Rattle.rip_routes.specs.TableFacts.{AreGood}
use Rattle.rip_routes.specs.Telling.{has_hop, new_tables}
use Rattle.rip_routes.specs.Ways.{AreWays, WayKey, has_way, hops_of}

none_listed : (w r : ℕ) → slice_index_or (replicate w false) r false ≡ false
none_listed zero r = refl
none_listed (suc w) zero = refl
none_listed (suc w) (suc r) = none_listed w r

pub new_tables_are : (n : Network) → grid_tables (replicate (length n.routers) false) (planned_rows None (length n.routers) n.prefixes) ≡ new_tables n
new_tables_are n =
    let w = length n.routers in
    ap (λ (ps : List Block). record { prefixes = ps; listed = λ (r : ℕ). slice_index_or (replicate w false) r false; routes = cell None (planned_rows None w n.prefixes) }) (heads-planned None w n.prefixes)
    ∙ ap (λ (f : ℕ → Bool). record { prefixes = n.prefixes; listed = f; routes = cell None (planned_rows None w n.prefixes) }) (fun_ext (λ r. none_listed w r))
    ∙ ap (λ (f : ℕ → Block → Option OwnRoute). record { prefixes = n.prefixes; listed = λ (r : ℕ). false; routes = f }) (fun_ext (λ r. fun_ext (λ p. cell-planned None w n.prefixes r p)))

pub new_good : (n : Network) → IsLawful n → AreGood (new_tables n)
new_good n laws = record {
  differ = λ j k p h i. laws.prefixes_differ j k p h i;
  few = few;
  told = λ r p route e. absurd (none-some route e);
  marked = λ r p route e. absurd (none-some route e);
  some = λ r e. absurd (cc e);
}
  where
    few : length n.prefixes ≤ 2048
    few = (empty-is n laws (new_state n) refl (λ i p. refl)).few

pub new_ways : (n : Network) (ways : List WayKey) → ways ≡ [] → AreWays ways (planned_rows None (length n.routers) n.prefixes)
new_ways n ways none = record {
  kept = λ r k p hop number. ap (has_way (r, k, hop)) none ∙ sym (ap (λ (o : Option OwnRoute). has_hop hop (hops_of o)) (cell-planned None (length n.routers) n.prefixes r p));
  others = λ r k hop le. ap (has_way (r, k, hop)) none;
}
