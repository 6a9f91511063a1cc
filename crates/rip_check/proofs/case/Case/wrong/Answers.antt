use Rattle.std.proofs.Common.{length, ap, arith}
use Rattle.rip_check.proofs.case.Case.wrong.Goals as goal

pub wrong_at-wrong-requires-clause-prefix : goal.wrong_at-wrong-requires-clause-prefix
wrong_at-wrong-requires-clause-prefix g c = omega (arith, c.args.self.now.within, ap length c.requires.told.prefixes)
