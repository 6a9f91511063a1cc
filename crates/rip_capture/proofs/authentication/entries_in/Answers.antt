use Rattle.std.proofs.Common.{◌∙◌, refl, sym}
use Rattle.rip_capture.specs.Authentication.AreEntries.{of_digest, of_password}
use Rattle.rip_capture.proofs.AuthenticationRelations.{keyed-digest-of, text-password-of}
use Rattle.rip_capture.proofs.authentication.entries_in.Goals as goal

pub returns-then-has_text_password-clause-found : goal.returns-then-has_text_password-clause-found
returns-then-has_text_password-clause-found c =
    of_password (text-password-of c.args.datagram.now (sym c.has_text_password.ensures ∙ c.if-has_text_password.true)) refl refl

pub returns-then-has_keyed_digest-clause-found : goal.returns-then-has_keyed_digest-clause-found
returns-then-has_keyed_digest-clause-found c =
    of_digest (keyed-digest-of c.args.datagram.now (sym c.has_keyed_digest.ensures ∙ c.if-has_keyed_digest.true)) refl (c.from.ensures ∙ c.u16_at.ensures)
