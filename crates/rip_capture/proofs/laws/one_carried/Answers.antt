use Rattle.rip_capture.proofs.CarriedLemmas.{Carries-one}
use Rattle.rip_capture.proofs.laws.one_carried.Goals as goal

pub returns : goal.returns
returns c = Carries-one
