use Rattle.std.proofs.Common.{◌≡◌, ◌<◌, [], length, arith}
use Rattle.rip_table.specs.Tallies.{told_after}
use Rattle.rip_report.proofs.HeardLemmas.{its_lines}
use Rattle.rip_report.proofs.OutLemmas.{added_also, one_more}
use Rattle.rip_report.proofs.heard.strangers.add_strangers.Goals as goal

pub loop-k-preserved : goal.loop-k-preserved
loop-k-preserved g c =
    let n = c.args.plan.now in
    let k = c.loop-k.k in
    record {
      so_far = λ events heard.
          let told : k < length (told_after [] events) = omega (arith, c.loop-k-test.true, c.loop-k.auto.k-end, c.strangers-k-end.ensures.told events heard) in
          one_more _ k (c.loop-k.invariant.so_far events heard) (added_also (λ text is. its_lines n events k told c.stranger_link-link.result.now c.stranger_address-address.result c.stranger.result text
          (λ o is. c.stranger_link-link.ensures events o heard is) (λ o is. c.stranger_address-address.ensures events o heard is) (λ o is. c.stranger.ensures events o heard is) is) c.add_stranger.ensures);
    }

pub returns : goal.returns
returns g c = λ events heard.
    let all : c.loop-k.k ≡ length (told_after [] events) = omega (arith, c.loop-k-test.false, c.loop-k.auto.k-end, c.strangers-k-end.ensures.told events heard) in
    rw all at c.loop-k.invariant.so_far events heard
