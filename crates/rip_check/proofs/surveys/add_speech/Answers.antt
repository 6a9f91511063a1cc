use Rattle.std.proofs.Common.{inl, inr, ◌∙◌}
use Rattle.rip_check.proofs.SurveyLemmas.{first_metric, same_metric, other_metric, no_silence, more_telling}
use Rattle.rip_check.proofs.surveys.add_speech.Goals as goal
use Rattle.rip_check.proofs.surveys.add_speech.Goals.{then-found, else-found}

pub returns-then-found-eq16 : goal.returns-then-found-eq16
returns-then-found-eq16 c = λ n t r i l d p was its shows on.
    let m = c.args.metric in
    let old = c.args.found.now in
    record {
      speech = first_metric n t r p i l d its m c.requires.low c.requires.high shows old.metric old.another c.if-found-eq16.true was.speech;
      silence = no_silence n t r p i l d its m c.requires.low c.requires.high shows old.silent old.blocked was.silence;
      telling = more_telling n t r p i l d its m c.requires.low c.requires.high shows old.not_here c.args.on_attached c.if-found.found on was.telling (elim c.if-found.branch [
        | then-found w ↦ inl (w.if-found.true, w.found-is ∙ w.if-found.true)
        | else-found w ↦ inr (w.if-found.false, w.found-is)
      ]);
    }

pub returns-then-metric-found : goal.returns-then-metric-found
returns-then-metric-found c = λ n t r i l d p was its shows on.
    let m = c.args.metric in
    let old = c.args.found.now in
    record {
      speech = other_metric n t r p i l d its m c.requires.low c.requires.high shows old.metric old.another c.if-found-eq16.false c.if-metric-found.true was.speech;
      silence = no_silence n t r p i l d its m c.requires.low c.requires.high shows old.silent old.blocked was.silence;
      telling = more_telling n t r p i l d its m c.requires.low c.requires.high shows old.not_here c.args.on_attached c.if-found.found on was.telling (elim c.if-found.branch [
        | then-found w ↦ inl (w.if-found.true, w.found-is ∙ w.if-found.true)
        | else-found w ↦ inr (w.if-found.false, w.found-is)
      ]);
    }

pub returns-else-metric-found : goal.returns-else-metric-found
returns-else-metric-found c = λ n t r i l d p was its shows on.
    let m = c.args.metric in
    let old = c.args.found.now in
    let e = c.if-metric-found.false in
    record {
      speech = rw e at (same_metric n t r p i l d its m c.requires.low c.requires.high shows old.another (rw (← e) at was.speech));
      silence = no_silence n t r p i l d its m c.requires.low c.requires.high shows old.silent old.blocked was.silence;
      telling = more_telling n t r p i l d its m c.requires.low c.requires.high shows old.not_here c.args.on_attached c.if-found.found on was.telling (elim c.if-found.branch [
        | then-found w ↦ inl (w.if-found.true, w.found-is ∙ w.if-found.true)
        | else-found w ↦ inr (w.if-found.false, w.found-is)
      ]);
    }
