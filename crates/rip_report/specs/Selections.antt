-- Which packets of a capture file are its link's, and what a log has of each.
use Rattle.std.specs.Prelude.{◌≡◌, ◌⊎◌, ℕ, true, if◌then◌else◌, List, [], ◌∷◌, Option, Some, None, is_some}
use Rattle.rip_capture.specs.Carries.{Carries}
use Rattle.rip_capture.specs.Interfaces.{Named}
use Rattle.rip_capture.specs.Origins.{IsOrigin, Origin}
use Rattle.rip_capture.specs.Pcap.{Frame}
use Rattle.rip_capture.specs.Vlans.{HasVlans}
use Rattle.rip_log.specs.declared.time.date_time.DateTime.{DateTime}
use Rattle.rip_capture.specs.declared.packet.Carried.{Carried}
use Rattle.rip_capture.specs.declared.packet.Carried.TheVariants.{Datagram, Cut, Fragment, Malformed, Long, Unknown, Elsewhere, Others}
use Rattle.rip_report.specs.declared.captures.logged.Logged.{Logged}
use Rattle.rip_report.specs.declared.captures.logged.Logged.TheVariants.{As, Mixed}
use Rattle.rip_report.specs.declared.captures.part.FilePart.{FilePart}
use Rattle.rip_report.specs.declared.captures.part.Selection.{Selection as Given}

-- the packets of a file that are its link's: those of an interface, where one is named, and of just
-- these VLANs, where any are; those of known senders have to come from one place
pub record Selection : Type 0 where
  pub interface : List ℕ
  pub vlans : List ℕ

abbrev pub selection_of : Given → Selection
selection_of given = record { interface = given.interface.now; vlans = given.vlans.now }

-- neither an interface is named nor a VLAN
abbrev pub nothing_named : Selection
nothing_named = record { interface = []; vlans = [] }

-- a link, and which packets of a file are its own
pub record Part : Type 0 where
  pub link : List ℕ
  pub selection : Selection

abbrev pub part_of : FilePart → Part
part_of part = record { link = part.link.now; selection = selection_of part.selection }

-- a packet, what it carries, what a log has of it, and the time in front of its line, if there is
-- one
pub record Carrier : Type 0 where
  pub frame : Frame
  pub carried : Carried
  pub logged : Logged
  pub time : Option DateTime

-- it carries that
abbrev pub IsCarrier : Carrier → Type 0
IsCarrier c = Carries c.frame.link_type c.frame.bytes c.carried

-- ---- where packets come from

-- the sender of a datagram to 224.0.0.9
abbrev pub sender_of : Carried → Option ℕ
sender_of (Datagram sender span) = Some sender
sender_of (Cut sender) = Some sender
sender_of (Fragment sender) = Some sender
sender_of (Malformed sender) = Some sender
sender_of (Long sender) = Some sender
sender_of Unknown = None
sender_of Elsewhere = None
sender_of Others = None

-- two packets come from one place
pub record HaveOneOrigin (p q : Frame) : Type 0 where
  pub origin : Origin
  pub first : IsOrigin p origin
  pub second : IsOrigin q origin

-- a packet comes from where the first one came, if its sender is known
abbrev pub ComesFrom : Option Frame → Frame → Carried → Type 0
ComesFrom None p carried = Unit {0}
ComesFrom (Some first) p carried = is_some (sender_of carried) ≡ true → HaveOneOrigin first p

-- a packet came by the interface of this name, where one is given
abbrev pub OfInterface : List ℕ → Frame → Type 0
OfInterface [] p = Unit {0}
OfInterface (c ∷ name) p = p.interface ≡ Named (c ∷ name)

-- it has just these VLANs, where there are any
abbrev pub OfVlans : List ℕ → Frame → Type 0
OfVlans [] p = Unit {0}
OfVlans (vlan ∷ vlans) p = HasVlans p.link_type p.bytes (vlan ∷ vlans)

-- a packet passes the selection: it is of the interface and the VLANs that are named, but of one
-- that is cut before its sender the tags may not be there
pub record Passes (selection : Selection) (p : Frame) (carried : Carried) : Type 0 where
  pub interface : OfInterface selection.interface p
  pub vlans : (carried ≡ Unknown) ⊎ OfVlans selection.vlans p

-- ---- what a log has of packets

-- What a log has of a packet, after the first one that passed the selection and whose sender is
-- known: what it carries, where it passes and comes from where that one came; that it comes from
-- elsewhere, where it passes; and nothing, where it does not pass.
pub data IsLogged (selection : Selection) (first : Option Frame) (p : Frame) (carried : Carried)
    (logged : Logged) : Type 0 where
  own : Passes selection p carried → ComesFrom first p carried → logged ≡ As carried →
      IsLogged selection first p carried logged
  mixed : (sender : ℕ) → Passes selection p carried → ¬ ComesFrom first p carried →
      sender_of carried ≡ Some sender → logged ≡ Mixed sender →
      IsLogged selection first p carried logged
  other : ¬ Passes selection p carried → logged ≡ As Others →
      IsLogged selection first p carried logged

-- the sender that the line of a packet names
abbrev pub named_sender : Logged → Option ℕ
named_sender (As carried) = sender_of carried
named_sender (Mixed sender) = Some sender

-- the first packet whose line names its sender, after one more
abbrev pub first_with : Option Frame → Frame → Logged → Option Frame
first_with (Some first) p logged = Some first
first_with None p logged = if is_some (named_sender logged) then Some p else None

-- what a log has of packets, one after the other
abbrev pub AreLogged : Selection → Option Frame → List Carrier → Type 0
AreLogged selection first [] = Unit {0}
AreLogged selection first (c ∷ carriers) =
    IsLogged selection first c.frame c.carried c.logged
    × AreLogged selection (first_with first c.frame c.logged) carriers

-- the first packet whose line names its sender, after these
abbrev pub first_behind : Option Frame → List Carrier → Option Frame
first_behind first [] = first
first_behind first (c ∷ carriers) = first_behind (first_with first c.frame c.logged) carriers
