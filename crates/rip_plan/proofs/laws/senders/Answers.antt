use Rattle.rip_plan.proofs.LookupLemmas.{found_finds, found_gives}
use Rattle.rip_plan.proofs.laws.senders.Goals as goal

pub returns : goal.returns
returns c = record {
  gives = λ n name a i. found_gives n name a i;
  finds = λ n name a i laws. found_finds n laws name a i;
}
