use Rattle.rip_report.specs.ExplainText.{an_unsettled}
use Rattle.rip_report.proofs.EndLemmas.{written_also}
use Rattle.rip_report.proofs.OutLemmas.{added_also}
use Rattle.rip_report.proofs.explain.add_unsettled.Goals as goal

pub returns-then-all : goal.returns-then-all
returns-then-all g c = written_also (λ w is. rw (c.if-all.true, is.1) (an_unsettled c.args.first.now w.text c.requires.shows c.requires.first is.0)) c.add_places.ensures

pub returns : goal.returns
returns g c = record { text = added_also (λ text lines. rw c.if-all.false (an_unsettled c.args.first.now text c.requires.shows c.requires.first lines)) c.add_first_place.ensures; nothing = tt }
