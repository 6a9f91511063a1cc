use Rattle.std.proofs.Common.{◌∙◌, sym, ap, arith, ◌+◌, drop, length, refl}
use Rattle.std.proofs.lemmas.Option.{slice_get_read}
use Rattle.rip_table.specs.Joined.{joined_entries}
use Rattle.rip_table.specs.ListState.{list_state}
use Rattle.rip_table.proofs.PrefixListLemmas.{drop-end, drop-more}
use Rattle.rip_table.proofs.ListLemmas.{added-joins}
use Rattle.rip_table.proofs.list.add_all.Goals as goal

pub loop-j-preserved : goal.loop-j-preserved
loop-j-preserved c =
    let es = c.args.entries.now in
    let inv = c.loop-j.invariant in
    let here = slice_get_read es (length es) c.loop-j.j c.index-entries-j.result refl c.loop-j-test.true c.index-entries-j.is in
    record {
      joined = λ heard net t h.
          added-joins heard net c.args.interface c.loop-j.prefixes.items c.add.new.prefixes.items c.loop-j.shown.items c.add.new.shown.items c.index-entries-j.result
          (drop (c.loop-j.j + 1) es) t c.add.ensures.items
          (ap (joined_entries net c.args.interface (list_state heard c.loop-j.prefixes.items c.loop-j.shown.items)) (sym (drop-more es c.loop-j.j c.index-entries-j.result here))
          ∙ inv.joined heard net t h);
      prefix_room = c.add.ensures.prefix_room ∙ inv.prefix_room;
      prefix_len = omega (arith, c.add.ensures.prefix_len, inv.prefix_len);
      shown_room = c.add.ensures.shown_room ∙ inv.shown_room;
      shown_len = omega (arith, c.add.ensures.shown_len, inv.shown_len);
    }

pub returns : goal.returns
returns c heard net t h =
    let es = c.args.entries.now in
    let rest = drop-end es c.loop-j.j (omega (arith, c.loop-j-test)) in
    let joins = c.loop-j.invariant.joined heard net t h in
    let same = ap (joined_entries net c.args.interface (list_state heard c.loop-j.prefixes.items c.loop-j.shown.items)) (sym rest) ∙ joins in
    cc same
