-- What is to be seen of a network in a second, by the lines of a log with times up to it.
use Rattle.std.specs.Prelude.{◌≡◌, ℕ, ◌-◌, ◌≤◌, nat_lt, if◌then◌else◌, Option, Some, None, Result, Ok, Err}
use Rattle.rip_wire.specs.Message.{Message, request, response}
use Rattle.rip_wire.specs.Prefix.{Block}
use Rattle.rip_plan.specs.Network.{Network}
use Rattle.rip_log.specs.Lines.{Capture}
use Rattle.rip_log.specs.TimedCall.{bad_said, timed_capture}
use Rattle.rip_log.specs.TimedText.{TimedSaid, captured, bad, untimed}
use Rattle.rip_log.specs.declared.timed.reader.TimedLine.{TimedLine}
use Rattle.rip_log.specs.declared.timed.reader.TimedLine.TheVariants.{Skipped, Record, Bad}
use Rattle.rip_table.specs.Joined.{interface_of, message_of_capture}
use Rattle.rip_table.specs.Window.{MayGrow, Window, Word, forgotten, new_window, passed, told_message}
use Rattle.rip_table.specs.declared.error.CollectCause.{CollectCause}
use Rattle.rip_table.specs.declared.error.CollectCause.TheVariants as causes
use Rattle.rip_table.specs.declared.error.TableError.{TableError}
use Rattle.rip_table.specs.declared.scene.Episode.{Episode}
use Rattle.rip_table.specs.declared.scene.LineCause.{LineCause}
use Rattle.rip_table.specs.declared.scene.LineCause.TheVariants.{Log, Table, UnknownSender}
use Rattle.rip_table.specs.declared.scene.LineRefusal.{LineRefusal}

-- a table that forgets, and an episode of lines that are refused, if there is one
pub record View : Type 0 where
  pub window : Window
  pub episode : Option Episode

-- the one of a plan of which nothing was heard
abbrev pub new_view : Network → View
new_view n = record { window = new_window n; episode = None }

-- ---- a line

-- why a line refuses a log, without its number
abbrev pub line_cause : CollectCause → LineCause
line_cause (causes.Log e) = Log e.code
line_cause (causes.Table e) = Table e
line_cause causes.UnknownSender = UnknownSender

-- an episode begins with its first refusal, and lasts for so many seconds from each
abbrev pub first_of : LineRefusal → Option Episode → LineRefusal
first_of refusal None = refusal
first_of refusal (Some e) = e.first

abbrev pub with_refusal : ℕ → ℕ → LineCause → View → View
with_refusal seconds line cause v = record v {
  episode = Some (record {
    first = first_of (record { line = line; cause = cause }) v.episode;
    left = seconds;
  });
}

-- what the table makes of a message is there, or its refusal
abbrev pub with_window : ℕ → ℕ → Result Window TableError → View → View
with_window seconds line (Ok w) v = record v { window = w }
with_window seconds line (Err e) v = with_refusal seconds line (Table e) v

-- a message of the interface that sent it; where there is none, a response is refused, and a
-- request changes nothing
abbrev pub after_message : Network → ℕ → ℕ → Option ℕ → Message → View → View
after_message n seconds line None request v = v
after_message n seconds line None (response es) v = with_refusal seconds line UnknownSender v
after_message n seconds line (Some i) m v =
    with_window seconds line (told_message n seconds i v.window m) v

-- the line of this number, which says this
abbrev pub after_said : Network → ℕ → ℕ → TimedSaid → View → View
after_said n seconds line (captured micros c) v =
    after_message n seconds line (interface_of n c) (message_of_capture c) v
after_said n seconds line (bad micros code) v = with_refusal seconds line (Log code) v
after_said n seconds line (untimed code) v = with_refusal seconds line (Log code) v

-- what a line says that is lent
abbrev pub after_line : Network → ℕ → TimedLine → View → View
after_line n seconds Skipped v = v
after_line n seconds (Record r) v =
    after_said n seconds r.line (captured r.micros (timed_capture r)) v
after_line n seconds (Bad fault) v =
    after_said n seconds fault.line (bad_said fault.micros fault.code) v

-- the table may allocate for a capture: for a response of an interface that brings a prefix
abbrev pub MayGrowFor : Network → ℕ → Capture → Window → Type 0
MayGrowFor n seconds c w =
    (i : ℕ) × (interface_of n c ≡ Some i) × MayGrow n seconds i w (message_of_capture c)

-- and for a line that is lent
abbrev pub MayGrowAt : Network → ℕ → TimedLine → Window → Type 0
MayGrowAt n seconds (Record r) w = MayGrowFor n seconds (timed_capture r) w
MayGrowAt n seconds _ w = ⊥

-- ---- a second

abbrev pub passed_episode : Option Episode → Option Episode
passed_episode None = None
passed_episode (Some e) =
    if nat_lt 1 e.left then Some (record { first = e.first; left = e.left - 1 }) else None

-- the next second
abbrev pub passed_view : View → View
passed_view v = record { window = passed v.window; episode = passed_episode v.episode }

-- at the end of the second
abbrev pub closed_view : Network → View → View
closed_view n v = record v { window = forgotten n v.window }

-- nothing in it lasts for more than so many seconds
pub record LastsFor (seconds : ℕ) (v : View) : Type 0 where
  pub words : (i : ℕ) (p : Block) (x : Word) → v.window.words i p ≡ Some x
      → (1 ≤ x.left) × (x.left ≤ seconds)
  pub heard : (i : ℕ) → v.window.heard i ≤ seconds
  pub episode : (e : Episode) → v.episode ≡ Some e → (1 ≤ e.left) × (e.left ≤ seconds)
