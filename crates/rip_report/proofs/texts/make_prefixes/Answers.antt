use Rattle.std.proofs.Common.{◌≡◌, ◌<◌, ◌++◌, ◌∙◌, ap, sym, arith, codes, length, length-set}
use Rattle.std.specs.List.{slice_get}
use Rattle.std.proofs.lemmas.Option.{same_Some, slice_get_within}
use Rattle.rip_wire.specs.Prefix.{Block, prefix_text}
use Rattle.rip_report.proofs.TextLemmas.{text-next}
use Rattle.rip_report.proofs.texts.make_prefixes.Goals as goal

pub loop-k-preserved : goal.loop-k-preserved
loop-k-preserved g c =
    let inv = c.loop-k.invariant in
    let ps = (g.T.Table.state c.args.table.now).prefixes in
    let few = (g.T.Table.is_state c.args.table.now).few in
    let within : c.loop-k.k < length c.loop-k.texts = omega (arith, inv.size, few, c.loop-k-test.true, c.prefix_count-k-end.ensures) in
    record {
      size = rw length-set inv.size;
      made = λ j p lt at.
          text-next c.loop-k.texts c.loop-k.k j c.of_prefix.result (prefix_text p ++ codes " ") within lt
          (λ less. inv.made j p less at)
          (λ same.
          let here : p ≡ c.prefix.result = same_Some p c.prefix.result (sym at ∙ ap (slice_get ps) same ∙ c.prefix.ensures) in
          c.of_prefix.ensures ∙ ap (λ (q : Block). prefix_text q ++ codes " ") (sym here));
    }

pub returns : goal.returns
returns g c k p at =
    let within = slice_get_within (g.T.Table.state c.args.table.now).prefixes k p at in
    c.loop-k.invariant.made k p (omega (arith, within, c.loop-k-test.false, c.prefix_count-k-end.ensures)) at
