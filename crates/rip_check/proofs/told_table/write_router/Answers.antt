use Rattle.std.proofs.Common.{◌≡◌, ◌≢◌, ℕ, ◌<◌, inl, inr, true, false, replicate, get_or, length, sym, subst, ◌∙◌, arith}
use Rattle.std.proofs.lemmas.Bool.{cases_lt}
use Rattle.rip_wire.specs.Prefix.{Block}
use Rattle.rip_plan.specs.PrefixNetworks.{network_for}
use Rattle.rip_plan.specs.Relations.{Exchanges, IsInterface}
use Rattle.rip_check.specs.Networks.{block_at}
use Rattle.rip_routes.specs.OwnTables.{route_at}
use Rattle.rip_check.specs.ToldCells.{IsCell}
use Rattle.rip_plan.specs.declared.limits.TheConstants.{MOST_LINKS}
use Rattle.rip_check.proofs.OwnRouteLemmas.{route_is}
use Rattle.rip_check.proofs.NetLemmas.{its}
use Rattle.rip_check.proofs.ToldCellLemmas.{block_is, cell_of, none_marked}
use Rattle.rip_check.proofs.told_table.write_router.Goals as goal
use Rattle.rip_check.proofs.told_table.write_router.Goals.{then-metric-lt16, else-metric-lt16}

clash : (l : ℕ) → get_or (replicate MOST_LINKS false) l false ≡ true → ⊥
clash l t = let e : true ≡ false = sym t ∙ none_marked MOST_LINKS l in cc

pub mark_hops-requires-clause-blank : goal.mark_hops-requires-clause-blank
mark_hops-requires-clause-blank g c = λ l lt. (λ t. absurd (clash l t), λ h. absurd h)

pub returns : goal.returns
returns g c =
    let n = c.args.plan.now in
    let t = g.G.RouteTables.tables c.args.tables.now in
    let r = c.args.router in
    let p = c.args.prefix in
    let b = block_at t.prefixes p in
    let read = block_is t.prefixes p _ c.prefix.ensures in
    let is = route_is t (g.G.RouteTables.are_tables c.args.tables.now) r p in
    let metric : c.get-metric.result ≡ (route_at t r p).metric = c.get-metric.ensures.value ∙ c.metric.ensures in
    record {
      size = omega (arith, c.write_cells.auto.row, c.requires.row.size);
      cells = λ i s l d lt there. elim (cases_lt s r) [
        | inl less ↦
            let ne : s ≢ r = λ e. omega (arith, e, less) in
            let was = its n c.lawful.ensures b i s l d (omega (arith, less, c.requires.router)) there in
            let same = c.write_cells.ensures.others i s l d was.0 ne in
            rw same (c.requires.row.cells i s l d less there)
        | inr big ↦
            let e : s ≡ r = omega (arith, lt, big) in
            let there' : IsInterface (network_for n b) i r l d = rw e at there in
            let was = its n c.lawful.ensures b i r l d c.requires.router there' in
            let at : l < length c.mark_attached.new.marks =
            omega (arith, c.lawful.ensures.link_known i r l d was.0, c.lawful.ensures.few_links, c.mark_attached.auto.marks, c.mark_hops.auto.marks) in
            let cell : IsCell (network_for n b) t r l p (get_or c.write_cells.new.row i 0) =
            cell_of (network_for n b) t r l p (get_or c.mark_attached.new.marks l false) c.if-metric-lt16.shown (get_or c.write_cells.new.row i 0) (c.mark_attached.ensures l at)
            (λ small. elim c.if-metric-lt16.branch [
              | then-metric-lt16 w ↦ omega (arith, w.shown-is, metric)
              | else-metric-lt16 w ↦ absurd (omega (arith, w.if-metric-lt16.false, metric, small))
            ])
            (λ large. elim c.if-metric-lt16.branch [
              | then-metric-lt16 w ↦ absurd (omega (arith, w.if-metric-lt16.true, metric, large))
              | else-metric-lt16 w ↦ w.shown-is
            ]) is.most (c.write_cells.ensures.own i l d (subst (λ (x : Block). IsInterface (network_for n x) i r l d) read there')) in
            rw e cell
      ];
      closed = λ i s l d lt there shut. elim (cases_lt s r) [
        | inl less ↦
            let ne : s ≢ r = λ e. omega (arith, e, less) in
            c.write_cells.ensures.others i s l d there ne ∙ c.requires.row.closed i s l d less there shut
        | inr big ↦
            let e : s ≡ r = omega (arith, lt, big) in
            let there' : IsInterface n i r l d = rw e at there in
            c.write_cells.ensures.closed i l d there' (λ yes. shut (subst (λ (x : Block). Exchanges n l x) (sym read) yes))
      ];
    }
