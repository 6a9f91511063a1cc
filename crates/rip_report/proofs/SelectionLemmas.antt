-- Which packets of a capture file are its link's.
use Rattle.std.proofs.Common.{◌≡◌, ◌⊎◌, ◌∙◌, ℕ, true, List, [], ◌∷◌, Option, Some, None, is_some, ap, inl, inr, refl, subst, sym}
use Rattle.std.specs.List.{AllByRecursion}
use Rattle.rip_capture.specs.Carries.{Carries}
use Rattle.rip_capture.specs.Origins.{IsOrigin, Origin}
use Rattle.rip_capture.specs.Pcap.{Frame}
use Rattle.rip_capture.specs.declared.link.LinkType.{LinkType}
use Rattle.rip_capture.specs.declared.packet.Carried.{Carried}
use Rattle.rip_capture.specs.declared.packet.Carried.TheVariants.{Datagram, Cut, Fragment, Malformed, Long, Unknown, Elsewhere, Others}
use Rattle.rip_report.specs.CaptureLogs.{IsOfFirst, IsOwn}
use Rattle.rip_report.specs.CaptureText.{is_datagram, such}
use Rattle.rip_report.specs.Selections.{AreLogged, Carrier, ComesFrom, IsCarrier, IsLogged, OfVlans, Selection, first_behind, first_with, sender_of}
use Rattle.rip_report.specs.Selections.IsLogged.{own, mixed, other}
use Rattle.rip_report.specs.declared.captures.logged.Logged.{Logged}
use Rattle.rip_report.specs.declared.captures.logged.Logged.TheVariants.{As, Mixed}
use Rattle.rip_report.proofs.CapturedLogLemmas.{HasSender, sender-of}
use Rattle.rip_report.proofs.LogLineLemmas.{Bytes}

-- where the line of a packet names a sender, that is known
pub mixed-first : (first : Option Frame) (p : Frame) (carried : Carried) (sender : ℕ) → sender_of carried ≡ Some sender → first_with first p (As carried) ≡ first_with first p (Mixed sender)
mixed-first (Some first) p carried sender known = refl
mixed-first None p carried sender known = rw known refl

-- a packet that does not pass is never the first
pub other-first : (first : Option Frame) (p : Frame) → first_with first p (As Others) ≡ first
other-first (Some first) p = refl
other-first None p = refl

-- what holds of the record of one place
abbrev pub SomeOrigin : Type 0
SomeOrigin = (p : Frame) → (o : Origin) × IsOrigin p o

-- ---- senders

sender-carried : (t : LinkType) (frame : List ℕ) (carried : Carried) → Bytes frame → Carries t frame carried → HasSender (As carried)
sender-carried t frame (Datagram a span) h carries = sender-of t frame a span h carries
sender-carried t frame (Cut a) h carries = tt
sender-carried t frame (Fragment a) h carries = tt
sender-carried t frame (Malformed a) h carries = tt
sender-carried t frame (Long a) h carries = tt
sender-carried t frame Unknown h carries = tt
sender-carried t frame Elsewhere h carries = tt
sender-carried t frame Others h carries = tt

sender-logged : (selection : Selection) (first : Option Frame) (c : Carrier) → Bytes c.frame.bytes → IsCarrier c → IsLogged selection first c.frame c.carried c.logged → HasSender c.logged
sender-logged selection first c h carries (own passes comes is) = subst HasSender (sym is) (sender-carried c.frame.link_type c.frame.bytes c.carried h carries)
sender-logged selection first c h carries (mixed sender passes never known is) = subst HasSender (sym is) tt
sender-logged selection first c h carries (other never is) = subst HasSender (sym is) tt

pub senders-logged : (selection : Selection) (first : Option Frame) (cs : List Carrier) → AllByRecursion (λ c. Bytes c.frame.bytes) cs → AllByRecursion IsCarrier cs → AreLogged selection first cs →
    AllByRecursion (λ c. HasSender c.logged) cs
senders-logged selection first [] h carry logged = tt
senders-logged selection first (c ∷ cs) h carry logged =
    (sender-logged selection first c h.0 carry.0 logged.0, senders-logged selection (first_with first c.frame c.logged) cs h.1 carry.1 logged.1)

-- ---- each datagram is its link's own

known-sender : (carried : Carried) → is_datagram carried ≡ true → is_some (sender_of carried) ≡ true
known-sender (Datagram a span) e = refl
known-sender (Cut a) e = refl
known-sender (Fragment a) e = refl
known-sender (Malformed a) e = refl
known-sender (Long a) e = refl
known-sender Unknown e = cc e
known-sender Elsewhere e = cc e
known-sender Others e = cc e

first-stays : (first : Frame) (cs : List Carrier) → first_behind (Some first) cs ≡ Some first
first-stays first [] = refl
first-stays first (c ∷ cs) = first-stays first cs

-- a packet whose sender is not known comes from where the first one came
pub comes-unknown : (first : Option Frame) (p : Frame) (carried : Carried) → sender_of carried ≡ None → ComesFrom first p carried
comes-unknown None p carried e = tt
comes-unknown (Some first) p carried e = λ known. cc (sym (ap is_some e) ∙ known)

vlans-known : (vlans : List ℕ) (p : Frame) (carried : Carried) → is_datagram carried ≡ true → (carried ≡ Unknown) ⊎ OfVlans vlans p → OfVlans vlans p
vlans-known vlans p carried is (inl unknown) = absurd (cc (sym is ∙ ap is_datagram unknown))
vlans-known vlans p carried is (inr are) = are

module _ (origins : SomeOrigin) where
  first-comes : (first : Option Frame) (p : Frame) (carried : Carried) (cs : List Carrier) → is_datagram carried ≡ true → ComesFrom first p carried → IsOfFirst (first_behind (first_with first p (As carried)) cs) p
  first-comes (Some first) p carried cs is comes = subst (λ (o : Option Frame). IsOfFirst o p) (sym (first-stays first cs)) (comes (known-sender carried is))
  first-comes None p carried cs is comes =
      let it : first_with None p (As carried) ≡ Some p = rw (known-sender carried is) refl in
      let origin = origins p in
      subst (λ (o : Option Frame). IsOfFirst o p) (sym (ap (λ o. first_behind o cs) it ∙ first-stays p cs)) (record { origin = origin.0; first = origin.1; second = origin.1 })

  own-logged : (selection : Selection) (first : Option Frame) (c : Carrier) (cs : List Carrier) → IsLogged selection first c.frame c.carried c.logged → such is_datagram c.logged ≡ true →
      IsOwn selection (first_behind (first_with first c.frame c.logged) cs) c.frame
  own-logged selection first c cs (own passes comes is) datagram =
      let known : is_datagram c.carried ≡ true = sym (ap (such is_datagram) is) ∙ datagram in
      record {
        interface = passes.interface;
        vlans = vlans-known selection.vlans c.frame c.carried known passes.vlans;
        origin = subst (λ (l : Logged). IsOfFirst (first_behind (first_with first c.frame l) cs) c.frame) (sym is) (first-comes first c.frame c.carried cs known comes);
      }
  own-logged selection first c cs (mixed sender passes never known is) datagram = absurd (cc (sym datagram ∙ ap (such is_datagram) is))
  own-logged selection first c cs (other never is) datagram = absurd (cc (sym datagram ∙ ap (such is_datagram) is))

  pub own-all : (selection : Selection) (first : Option Frame) (cs : List Carrier) → AreLogged selection first cs →
      AllByRecursion (λ c. such is_datagram c.logged ≡ true → IsOwn selection (first_behind first cs) c.frame) cs
  own-all selection first [] logged = tt
  own-all selection first (c ∷ cs) logged = (own-logged selection first c cs logged.0, own-all selection (first_with first c.frame c.logged) cs logged.1)
