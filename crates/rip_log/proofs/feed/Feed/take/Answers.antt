use Rattle.std.proofs.Common.{arith, ◌+◌, ◌≤◌, sym}
use Rattle.rip_log.proofs.CutLemmas.{length-range, range-drop, range-front}
use Rattle.rip_log.proofs.feed.Feed.take.Goals as goal

pub returns-clause-left : goal.returns-clause-left
returns-clause-left g c =
    let f = c.args.self.now in
    let inside : f.start + c.args.count ≤ f.end = omega (arith, length-range f.buffer.items f.start f.end f.ordered (omega (arith, f.within, f.buffer.ok.0)), c.requires, f.ordered) in
    sym (range-drop f.buffer.items f.start f.end c.args.count inside)

pub returns-clause-lies : goal.returns-clause-lies
returns-clause-lies g c =
    let f = c.args.self.now in
    let inside : f.start + c.args.count ≤ f.end = omega (arith, length-range f.buffer.items f.start f.end f.ordered (omega (arith, f.within, f.buffer.ok.0)), c.requires, f.ordered) in
    sym (range-front f.buffer.items f.start f.end c.args.count inside)
