use Rattle.rip_check.proofs.aftermath.is_gone.Goals as goal

pub returns-else-not-is_anywhere : goal.returns-else-not-is_anywhere
returns-else-not-is_anywhere c = (
  λ t. absurd (cc (t, c.if-not-is_anywhere.false)),
  λ h. absurd (let w = c.is_anywhere.ensures.0 c.if-not-is_anywhere.false in h.after w.0 w.1 w.2),
)
