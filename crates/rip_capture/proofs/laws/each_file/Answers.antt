use Rattle.std.proofs.Common.{inl, inr}
use Rattle.rip_capture.proofs.EachLemmas.{each}
use Rattle.rip_capture.proofs.laws.each_file.Goals as goal

pub returns : goal.returns
returns c file = elim (each file) [ inl h ↦ inl h | inr f ↦ inr (f.frames, f.code, f.at, f.is) ]
