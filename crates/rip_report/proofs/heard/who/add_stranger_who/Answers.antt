use Rattle.std.proofs.lemmas.Bool.Decides.{not_from_Decides}
use Rattle.rip_report.specs.HeardText.{no_link, on_link}
use Rattle.rip_report.proofs.OutLemmas.{adds_one, adds_then}
use Rattle.rip_report.proofs.heard.who.add_stranger_who.Goals.{then-not-is_planned, else-not-is_planned}
use Rattle.rip_report.proofs.heard.who.add_stranger_who.Goals as goal

pub returns : goal.returns
returns g c =
    let who = c.add_who.ensures in
    elim c.if-not-is_planned.branch [
      | then-not-is_planned w ↦
          adds_one (no_link who.text (not_from_Decides _ c.is_planned.ensures w.if-not-is_planned.true) who.is_text) (adds_then w.push.ensures (rw w.out-is at who.adds))
      | else-not-is_planned w ↦ adds_one (on_link who.text (c.is_planned.ensures.0 w.if-not-is_planned.false) who.is_text) (rw w.out-is at who.adds)
    ]
