-- What is to be seen at the end of a second of a log with times, in the words of the subject: which
-- responses were taken and which lines refused up to it, what is shown then, and the episode.
use Rattle.std.specs.Prelude.{◌≡◌, ◌↔◌, ◌⊎◌, ℕ, ◌+◌, ◌<◌, ◌≤◌, List, [], ◌∷◌, ◌++◌, length, Option, Some, None, slice_get}
use Rattle.rip_wire.specs.Prefix.{Block}
use Rattle.rip_wire.specs.Response.{IsResponseOf}
use Rattle.rip_wire.specs.declared.entry.Entry.{Entry}
use Rattle.rip_plan.specs.Network.{Network}
use Rattle.rip_plan.specs.Relations.{IsAt, IsPrefix}
use Rattle.rip_log.specs.TimedText.{LineSaid, TimedSaid, captured, bad, untimed}
use Rattle.rip_table.specs.State.{AreDistinct, State}
use Rattle.rip_table.specs.LogJoin.{ComesBefore, HasBadEntry, HasEntry, IsListed, IsResponse, IsUnknown}
use Rattle.rip_table.specs.Remembered.{IsShownBy, IsToldBy, ShowsIn, Taken}
use Rattle.rip_table.specs.Scenes.{View}
use Rattle.rip_table.specs.Seconds.{later_second, own_second}
use Rattle.rip_table.specs.Window.{shown, without_shown}
use Rattle.rip_table.specs.declared.error.TableError.{TableError}
use Rattle.rip_table.specs.declared.scene.Episode.{Episode}
use Rattle.rip_table.specs.declared.scene.LineCause.{LineCause}
use Rattle.rip_table.specs.declared.scene.LineCause.TheVariants.{Log, Table, UnknownSender}
use Rattle.rip_table.specs.declared.scene.LineRefusal.{LineRefusal}

-- ---- what is there before a line

-- the prefix is one of the plan's
abbrev pub IsPlanned : Network → Block → Type 0
IsPlanned n p = (k : ℕ) × IsPrefix n k p

-- a response told of the prefix, in this second or in one of so many before it
abbrev pub IsToldSince : ℕ → ℕ → List Taken → Block → Type 0
IsToldSince window second taken p =
    (k m : ℕ) × (t : Taken) × (slice_get taken k ≡ Some t) × IsToldBy t p m
    × (second ≤ t.second + window)

-- A table before a line of this second, where these responses were taken: it shows what is shown
-- then, and lists the plan's prefixes, those of the second before and those that came since.
pub record IsBefore (n : Network) (window second : ℕ) (taken : List Taken) (s : State)
    : Type 0 where
  pub interfaces : s.interfaces ≡ length n.interfaces
  pub shows : ShowsIn window second taken s
  pub listed : (p : Block)
      → IsListed s p ↔ (IsPlanned n p ⊎ IsToldSince window second taken p)
  pub differ : AreDistinct s.prefixes

-- ---- what becomes of a line

-- a line that is refused, and the second in which it counts
pub record RefusedLine : Type 0 where
  pub second : ℕ
  pub refusal : LineRefusal

-- a line is a response that is taken: as if its interface had shown nothing, no entry of it is bad
abbrev pub IsTakenAs : Network → ℕ → List Taken → TimedSaid → Taken → Type 0
IsTakenAs n window taken (captured micros c) t =
    IsResponse n c t.interface t.entries
    × (s : State) × IsBefore n window t.second taken s
    × ((error : TableError) → ¬ HasBadEntry n (without_shown t.interface s) c error)
IsTakenAs n window taken other t = ⊥

-- a line of this second is refused: a stranger's response, one with a bad entry, or a bad line
abbrev pub IsRefusedAs : Network → ℕ → ℕ → List Taken → TimedSaid → LineCause → Type 0
IsRefusedAs n window second taken (captured micros c) UnknownSender = IsUnknown n c
IsRefusedAs n window second taken (captured micros c) (Table error) =
    (i : ℕ) × (s : State) × IsAt n c.link c.sender i × IsBefore n window second taken s
    × HasBadEntry n (without_shown i s) c error
IsRefusedAs n window second taken (captured micros c) (Log code) = ⊥
IsRefusedAs n window second taken (bad micros code) cause = cause ≡ Log code
IsRefusedAs n window second taken (untimed code) cause = cause ≡ Log code

-- a line is no response, and not bad
abbrev pub IsNoResponse : TimedSaid → Type 0
IsNoResponse (captured micros c) = (entries : List Entry) → ¬ IsResponseOf entries c.datagram
IsNoResponse other = ⊥

-- What becomes of lines, of which the first counts in second `first`: the second in which the last
-- one counts, its own or the one before, whichever is later; the responses that are taken, and the
-- lines that are refused. A line that is neither counts for nothing.
pub data Become (n : Network) (window first : ℕ)
    : List LineSaid → ℕ → List Taken → List RefusedLine → Type 0 where
  no_line : Become n window first [] first [] []
  is_taken : (lines : List LineSaid) (second : ℕ) (taken : List Taken)
      (refused : List RefusedLine) (l : LineSaid) (t : Taken)
      → Become n window first lines second taken refused
      → t.second ≡ later_second second (own_second l.said) → IsTakenAs n window taken l.said t
      → Become n window first (lines ++ l ∷ []) t.second (taken ++ t ∷ []) refused
  is_refused : (lines : List LineSaid) (second : ℕ) (taken : List Taken)
      (refused : List RefusedLine) (l : LineSaid) (r : RefusedLine)
      → Become n window first lines second taken refused
      → r.second ≡ later_second second (own_second l.said) → r.refusal.line ≡ l.line
      → IsRefusedAs n window r.second taken l.said r.refusal.cause
      → Become n window first (lines ++ l ∷ []) r.second taken (refused ++ r ∷ [])
  is_neither : (lines : List LineSaid) (second : ℕ) (taken : List Taken)
      (refused : List RefusedLine) (l : LineSaid)
      → Become n window first lines second taken refused → IsNoResponse l.said
      → Become n window first (lines ++ l ∷ []) (later_second second (own_second l.said)) taken
      refused

-- ---- an episode

-- refused lines in a row: each comes less than so many seconds after the one before it, and the
-- last of them less than so many seconds before this second is over
abbrev pub AreInRow : ℕ → ℕ → RefusedLine → List RefusedLine → Type 0
AreInRow window second r [] = second < r.second + window
AreInRow window second r (next ∷ rest) =
    (next.second < r.second + window) × AreInRow window second next rest

-- an episode goes on in this second, which began with this line; each that was refused before it
-- came so many seconds before, or more
pub record IsEpisodeFrom (window second : ℕ) (refused : List RefusedLine) (first : LineRefusal)
    : Type 0 where
  pub before : List RefusedLine
  pub begins : RefusedLine
  pub rest : List RefusedLine
  pub split : refused ≡ before ++ begins ∷ rest
  pub apart : (k : ℕ) (r : RefusedLine) → slice_get before k ≡ Some r
      → r.second + window ≤ begins.second
  pub row : AreInRow window second begins rest
  pub named : begins.refusal ≡ first

-- the episode of a second, or none: then no line was refused in the last so many seconds
abbrev pub IsEpisode : ℕ → ℕ → List RefusedLine → Option Episode → Type 0
IsEpisode window second refused None =
    (k : ℕ) (r : RefusedLine) → slice_get refused k ≡ Some r → r.second + window ≤ second
IsEpisode window second refused (Some e) = IsEpisodeFrom window second refused e.first

-- ---- the order of prefixes

-- a response of this second or one of the last so many told of the prefix
abbrev pub IsToldWithin : ℕ → ℕ → List Taken → Block → Type 0
IsToldWithin window second taken p =
    (k m : ℕ) × (t : Taken) × (slice_get taken k ≡ Some t) × IsToldBy t p m
    × (t.second ≤ second) × (second < t.second + window)

-- A prefix came with entry j of response k and is listed since: what told of it before that entry
-- was over before that second began, and in each second since it was told of in the last so many.
pub record CameWith (window second : ℕ) (taken : List Taken) (p : Block) (k j : ℕ) : Type 0 where
  pub response : Taken
  pub at : slice_get taken k ≡ Some response
  pub metric : ℕ
  pub tells : HasEntry response.entries j p metric
  pub new : (l m x : ℕ) (t : Taken) → slice_get taken l ≡ Some t → HasEntry t.entries m p x
      → ComesBefore l m k j → t.second + window < response.second
  pub kept : (s : ℕ) → response.second ≤ s → s < second → IsToldWithin window s taken p

-- of two prefixes that which came first is listed first
abbrev pub AreAsTheyCame : ℕ → ℕ → List Taken → List Block → Type 0
AreAsTheyCame window second taken prefixes =
    (a b : ℕ) (p q : Block) → a < b → slice_get prefixes a ≡ Some p → slice_get prefixes b ≡ Some q
    → (k j l m : ℕ) × CameWith window second taken p k j × CameWith window second taken q l m
    × ComesBefore k j l m

-- ---- a second

-- the first line has this time's second
abbrev pub BeginsIn : List LineSaid → ℕ → Type 0
BeginsIn said first =
    (l : LineSaid) × (slice_get said 0 ≡ Some l) × (own_second l.said ≡ Some first)

-- a line is of this second, and none is of a later one
abbrev pub EndsIn : List LineSaid → ℕ → Type 0
EndsIn said last =
    ((k : ℕ) × (l : LineSaid) × (slice_get said k ≡ Some l) × (own_second l.said ≡ Some last))
    × ((k own : ℕ) (l : LineSaid) → slice_get said k ≡ Some l → own_second l.said ≡ Some own
    → own ≤ last)

-- these are the lines up to a second: those before the first that is of a later one
pub record AreUpTo (second : ℕ) (said lines : List LineSaid) : Type 0 where
  pub after : List LineSaid
  pub split : said ≡ lines ++ after
  pub early : (k own : ℕ) (l : LineSaid) → slice_get lines k ≡ Some l
      → own_second l.said ≡ Some own → own ≤ second
  pub late : (l : LineSaid) → slice_get after 0 ≡ Some l
      → (own : ℕ) × (own_second l.said ≡ Some own) × (second < own)

-- What is to be seen at the end of a second of a log: what the responses that were taken up to it
-- told last; the plan's prefixes, and then those that are shown, as they came since they were last
-- forgotten; and the episode of the lines that were refused up to it.
pub record IsSeen (n : Network) (window : ℕ) (said : List LineSaid) (second : ℕ) (v : View)
    : Type 0 where
  pub first : ℕ
  pub begins : BeginsIn said first
  pub lines : List LineSaid
  pub up_to : AreUpTo second said lines
  pub last : ℕ
  pub taken : List Taken
  pub refused : List RefusedLine
  pub become : Become n window first lines last taken refused
  pub interfaces : v.window.interfaces ≡ length n.interfaces
  pub shows : ShowsIn window second taken (shown v.window)
  pub listed : (p : Block) → IsListed (shown v.window) p
      ↔ (IsPlanned n p ⊎ ((i m : ℕ) × IsShownBy window second taken i p m))
  pub differ : AreDistinct v.window.prefixes
  pub others : List Block
  pub prefixes : v.window.prefixes ≡ n.prefixes ++ others
  pub order : AreAsTheyCame window second taken others
  pub episode : IsEpisode window second refused v.episode
