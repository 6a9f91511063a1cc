-- A line of a log with times says one thing.
use Rattle.std.proofs.Common.{◌≡◌, ◌<◌, ◌∙◌, ℕ, List, [], ◌∷◌, length, Option, Some, None, Result, Ok, Err, get_or, ap, arith, refl, subst, sym}
use Rattle.rip_log.specs.Lines.{Capture, three_fields}
use Rattle.rip_log.specs.LogText.{BadBy, HasFields, SaysNothing}
use Rattle.rip_log.specs.LogText.BadBy.{no_datagram, long_datagram, no_hex, no_name, no_sender}
use Rattle.rip_log.specs.TimedText.{HasTimed, IsTimedLine, TimedSaid, captured, bad, untimed}
use Rattle.rip_log.specs.TimedText.IsUntimed.{long_line, other_fields}
use Rattle.rip_log.specs.Times.{IsTimeText}
use Rattle.rip_log.specs.declared.error.LogCode.{LogCode}
use Rattle.rip_log.specs.declared.error.LogCode.TheVariants as codes
use Rattle.rip_log.proofs.JudgeRelations.{WireLaws, fields-same, three-judged}
use Rattle.rip_log.proofs.TimeLemmas.{one_time}

-- what three fields behind a time say
abbrev said_at : ℕ → Result (Option Capture) LogCode → Option TimedSaid
said_at micros (Ok None) = None
said_at micros (Ok (Some capture)) = Some (captured micros capture)
said_at micros (Err code) = Some (bad micros code)

same-fields : (line : List ℕ) (a b : List (List ℕ)) → HasFields line a → HasFields line b → a ≡ b
same-fields line a b first second = sym (fields-same line a first) ∙ fields-same line b second

-- a line has one time, and three fields behind it
same-timed : (line : List ℕ) (m n : ℕ) (a b c d e f : List ℕ) → HasTimed line m a b c → HasTimed line n d e f → (m ≡ n) × (three_fields a b c ≡ three_fields d e f)
same-timed line m n a b c d e f first second =
    let fields = same-fields line (first.time ∷ a ∷ b ∷ c ∷ []) (second.time ∷ d ∷ e ∷ f ∷ []) first.has_fields second.has_fields in
    let time : first.time ≡ second.time = cc fields in
    let link : a ≡ d = cc fields in
    let sender : b ≡ e = cc fields in
    let digits : c ≡ f = cc fields in (
      one_time m n second.time (subst (λ (text : List ℕ). IsTimeText m text) time first.is_time) second.is_time,
      ap (λ (l : List ℕ). three_fields l b c) link ∙ ap (λ (l : List ℕ). three_fields d l c) sender ∙ ap (three_fields d e) digits,
    )

-- a line that is bad behind its time has one
bad-timed : (line : List ℕ) (micros : ℕ) (code : LogCode) → BadBy (HasTimed line micros) code → (link sender digits : List ℕ) × HasTimed line micros link sender digits
bad-timed line micros code (no_name link sender digits has is) = (link, sender, digits, has)
bad-timed line micros code (no_sender link sender digits has name is) = (link, sender, digits, has)
bad-timed line micros code (no_hex link digits address front is) = (link, front.sender, digits, front.three)
bad-timed line micros code (long_datagram link digits bytes address front e many) = (link, front.sender, digits, front.three)
bad-timed line micros code (no_datagram link digits bytes address f front e few fault) = (link, front.sender, digits, front.three)

-- the text of a time is no comment
not-skipped : (line : List ℕ) (micros : ℕ) (link sender digits : List ℕ) (fields : List (List ℕ)) → HasTimed line micros link sender digits → HasFields line fields → SaysNothing fields → ⊥
not-skipped line micros link sender digits fields has own says =
    let same = same-fields line fields (has.time ∷ link ∷ sender ∷ digits ∷ []) own has.has_fields in
    let nothing = subst SaysNothing same says in
    let first = ap (λ (l : List ℕ). get_or l 0 0) (has.is_time.spelled ∙ nothing.1) in
    omega (arith, first)

module _ (laws : WireLaws) (line : List ℕ) (micros : ℕ) (link sender digits : List ℕ) (has : HasTimed line micros link sender digits) where
  judged-so : (m : ℕ) (r : Result (Option Capture) LogCode) → ((three_fields link sender digits ≡ r) × (m ≡ micros)) → said_at m r ≡ said_at micros (three_fields link sender digits)
  judged-so m r h = ap (λ (k : ℕ). said_at k r) h.1 ∙ ap (said_at micros) (sym h.0)

  same-three : (m : ℕ) (a b c : List ℕ) → HasTimed line m a b c → three_fields link sender digits ≡ three_fields a b c
  same-three m a b c own = (same-timed line micros m link sender digits a b c has own).1

  -- what a line with a time says is what its three fields say
  timed-says : (said : Option TimedSaid) → IsTimedLine line said → said ≡ said_at micros (three_fields link sender digits)
  timed-says None skipped = absurd (not-skipped line micros link sender digits skipped.fields has skipped.has_fields skipped.says_nothing)
  timed-says (Some (captured m capture)) is =
      judged-so m (Ok (Some capture)) (
        three-judged laws (HasTimed line m) (three_fields link sender digits) (same-three m) (Ok (Some capture)) is,
        (same-timed line m micros _ _ _ link sender digits is.front.three has).0,
      )
  timed-says (Some (bad m code)) is =
      let own = bad-timed line m code is in
      judged-so m (Err code) (
        three-judged laws (HasTimed line m) (three_fields link sender digits) (same-three m) (Err code) is,
        (same-timed line m micros own.0 own.1 own.2 link sender digits own.3 has).0,
      )
  timed-says (Some (untimed code)) (long_line long) = absurd (omega (arith, long, has.has_fields.short))
  timed-says (Some (untimed code)) (other_fields none) = absurd (none.other micros link sender digits has)

-- the line has a time, or says what it says without one
data Finds (line : List ℕ) (said : Option TimedSaid) : Type 0 where
  timed : (micros : ℕ) (link sender digits : List ℕ) → HasTimed line micros link sender digits → Finds line said
  long : said ≡ Some (untimed codes.LongLine) → 2048 < length line → Finds line said
  others : said ≡ Some (untimed codes.Fields) → (fields : List (List ℕ)) → HasFields line fields → ¬ SaysNothing fields → Finds line said
  nothing : said ≡ None → (fields : List (List ℕ)) → HasFields line fields → SaysNothing fields → Finds line said

finds : (line : List ℕ) (said : Option TimedSaid) → IsTimedLine line said → Finds line said
finds line None h = nothing refl h.fields h.has_fields h.says_nothing
finds line (Some (captured m capture)) h = timed m _ _ _ h.front.three
finds line (Some (bad m code)) h = let own = bad-timed line m code h in timed m own.0 own.1 own.2 own.3
finds line (Some (untimed code)) (long_line h) = long refl h
finds line (Some (untimed code)) (other_fields h) = others refl h.fields h.has_fields h.says

-- what is found of two sayings of one line, which agree where it has a time
both : (line : List ℕ) (a b : Option TimedSaid) → ((m : ℕ) (l s d : List ℕ) → HasTimed line m l s d → a ≡ b) → Finds line a → Finds line b → a ≡ b
both line a b agree (timed m l s d has) other = agree m l s d has
both line a b agree (long e h) (timed m l s d has) = agree m l s d has
both line a b agree (long e h) (long f k) = e ∙ sym f
both line a b agree (long e h) (others f fields has says) = absurd (omega (arith, h, has.short))
both line a b agree (long e h) (nothing f fields has says) = absurd (omega (arith, h, has.short))
both line a b agree (others e fields own says) (timed m l s d has) = agree m l s d has
both line a b agree (others e fields own says) (long f k) = absurd (omega (arith, k, own.short))
both line a b agree (others e fields own says) (others f more has says_too) = e ∙ sym f
both line a b agree (others e fields own says) (nothing f more has says_none) = absurd (says (subst SaysNothing (same-fields line more fields has own) says_none))
both line a b agree (nothing e fields own says) (timed m l s d has) = agree m l s d has
both line a b agree (nothing e fields own says) (long f k) = absurd (omega (arith, k, own.short))
both line a b agree (nothing e fields own says) (others f more has says_too) = absurd (says_too (subst SaysNothing (same-fields line fields more own has) says))
both line a b agree (nothing e fields own says) (nothing f more has says_none) = e ∙ sym f

pub one-saying : WireLaws → (line : List ℕ) (a b : Option TimedSaid) → IsTimedLine line a → IsTimedLine line b → a ≡ b
one-saying laws line a b first second =
    both line a b (λ m l s d has. timed-says laws line m l s d has a first ∙ sym (timed-says laws line m l s d has b second))
    (finds line a first) (finds line b second)
