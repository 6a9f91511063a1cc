-- What a line says is what is computed.
use Rattle.std.proofs.Common.{◌≡◌, ◌≢◌, ◌≤◌, ◌<◌, ◌^◌, ◌↔◌, ℕ, Bool, true, false, cond, List, [], ◌∷◌, length, Option, Some, None, Result, Ok, Err, refl, ap, subst, ◌∙◌, arith, eqb-true}
use Rattle.std.specs.Prelude.{nat_lt}
use Rattle.std.specs.Io.BufRead.{strip_last}
use Rattle.hex.specs.Hex.{decode_of}
use Rattle.hex.specs.declared.error.FromHexError.{FromHexError}
use Rattle.rip_wire.specs.Address.{address_in, address_text}
use Rattle.rip_wire.specs.Faults.{WireFault}
use Rattle.rip_wire.specs.Message.{Message, message_in}
use Rattle.rip_wire.specs.Name.{IsName, is_name}
use Rattle.rip_wire.specs.declared.error.WireError.{WireError}
use Rattle.rip_wire.specs.declared.error.WireCode.{WireCode}
use Rattle.rip_log.proofs.FieldRelations.{AreFields-fields_of, fields_of-AreFields, IsBare-strip_last, strip_last-IsBare}
use Rattle.rip_log.specs.Fields.{fields_of, is_comment}
use Rattle.rip_log.specs.Lines.{Capture, sized, bytes_of, checked, capture_in, with_sender, three_fields, said_by, unless_skipped, judge_short, judge}
use Rattle.rip_log.specs.LogText.{AreThreeJudged, BadBy, HasFields, SaysNothing, HasThree, IsSender, HasOthers, IsBad, IsLineJudged, SenderBy}
use Rattle.rip_log.specs.LogText.BadBy.{no_datagram, long_datagram, no_hex, no_name, no_sender}
use Rattle.rip_log.specs.LogText.IsBad.{long_line, other_fields, of_three}
use Rattle.rip_log.proofs.DigitLemmas.{sized-long}
use Rattle.rip_log.proofs.JudgeLemmas.{judge-long, judge-short}
use Rattle.rip_log.specs.declared.error.LogCode.{LogCode}
use Rattle.rip_log.specs.declared.error.LogCode.TheVariants as codes

-- the laws of names, of addresses and of the faults of bytes
pub record WireLaws : Type 0 where
  pub names : (text : List ℕ) → (is_name text ≡ true) ↔ IsName text
  pub addresses : (text : List ℕ) (a : ℕ) → (address_in text ≡ Some a) ↔ ((a < 2 ^ 32) × (text ≡ address_text a))
  pub faults : (b : List ℕ) (code : WireCode) (at : ℕ) → (message_in b ≡ Err (record { code = code; at = at })) ↔ WireFault b code at

-- which three fields there are
abbrev pub Fielding : Type 1
Fielding = List ℕ → List ℕ → List ℕ → Type 0

-- the fields that are computed are those of the line
pub HasFields-line : (line : List ℕ) → length line ≤ 2048 → HasFields line (fields_of (strip_last 13 line))
HasFields-line line short = record {
  short = short;
  bare = strip_last 13 line;
  is_bare = IsBare-strip_last line;
  are_fields = AreFields-fields_of (strip_last 13 line);
}

pub fields-same : (line : List ℕ) (fields : List (List ℕ)) → HasFields line fields → fields_of (strip_last 13 line) ≡ fields
fields-same line fields has = ap fields_of (strip_last-IsBare line has.bare has.is_bare) ∙ fields_of-AreFields has.bare fields has.are_fields

-- the test of a comment
pub says-no : (first : List ℕ) (rest : List (List ℕ)) → is_comment (first ∷ rest) ≡ false → ¬ SaysNothing (first ∷ rest)
says-no first rest h says = cc (h, ap (λ (l : List ℕ). is_comment (l ∷ rest)) says.1)

pub says-yes : (first : List ℕ) (rest : List (List ℕ)) → is_comment (first ∷ rest) ≡ true → SaysNothing (first ∷ rest)
says-yes [] rest h = absurd (cc h)
says-yes (b ∷ first) rest h = (first, ap (λ (k : ℕ). k ∷ first) (eqb-true b 35 h))

comment-no : (first : List ℕ) (rest : List (List ℕ)) (x : Bool) → is_comment (first ∷ rest) ≡ x → ¬ SaysNothing (first ∷ rest) → x ≡ false
comment-no first rest true e says = absurd (says (says-yes first rest e))
comment-no first rest false e says = refl

few-of : (bytes : List ℕ) → nat_lt 504 (length bytes) ≡ false → length bytes ≤ 504
few-of bytes h = grind arith

many-of : (bytes : List ℕ) → nat_lt 504 (length bytes) ≡ true → 504 < length bytes
many-of bytes h = grind arith

others : (line : List ℕ) (fields : List (List ℕ)) → HasFields line fields → ¬ SaysNothing fields → length fields ≢ 3 → HasOthers line
others line fields has says count = record { fields = fields; has_fields = has; says = says; count = count }

short-of : (line : List ℕ) → nat_lt 2048 (length line) ≡ false → length line ≤ 2048
short-of line h = grind arith

long-of : (line : List ℕ) → nat_lt 2048 (length line) ≡ true → 2048 < length line
long-of line h = grind arith

-- what is computed of a line with these fields
judge-fields : (line : List ℕ) (fields : List (List ℕ)) → HasFields line fields → judge line ≡ unless_skipped fields
judge-fields line fields has = judge-short line has.short ∙ ap unless_skipped (fields-same line fields has)

skipped-fields : (fields : List (List ℕ)) → SaysNothing fields → unless_skipped fields ≡ Ok None
skipped-fields [] says = refl
skipped-fields (first ∷ rest) says = ap (λ (l : List ℕ). unless_skipped (l ∷ rest)) says.1

said-fields : (fields : List (List ℕ)) → ¬ SaysNothing fields → unless_skipped fields ≡ said_by fields
said-fields [] says = absurd (says tt)
said-fields (first ∷ rest) says = ap (λ (x : Bool). cond x (Ok None) (said_by (first ∷ rest))) (comment-no first rest (is_comment (first ∷ rest)) refl says)

said-others : (fields : List (List ℕ)) → length fields ≢ 3 → said_by fields ≡ Err codes.Fields
said-others [] count = refl
said-others (a ∷ []) count = refl
said-others (a ∷ b ∷ []) count = refl
said-others (a ∷ b ∷ c ∷ []) count = absurd (count refl)
said-others (a ∷ b ∷ c ∷ d ∷ more) count = refl

judge-three : (line link sender digits : List ℕ) → HasThree line link sender digits → judge line ≡ three_fields link sender digits
judge-three line link sender digits three =
    judge-fields line (link ∷ sender ∷ digits ∷ []) three.has_fields ∙ said-fields (link ∷ sender ∷ digits ∷ []) three.says

sized-bad : (r : Result (List ℕ) FromHexError) → ((bytes : List ℕ) → r ≢ Ok bytes) → sized r ≡ Err codes.Hex
sized-bad (Ok bytes) none = absurd (none bytes refl)
sized-bad (Err f) none = refl

sized-few : (bytes : List ℕ) → length bytes ≤ 504 → sized (Ok bytes) ≡ Ok bytes
sized-few bytes h = grind arith

-- what three fields are judged to be is what their line is
judged-three : (line : List ℕ) (r : Result (Option Capture) LogCode) → AreThreeJudged (HasThree line) r → IsLineJudged line r
judged-three line (Ok None) judged = absurd judged
judged-three line (Ok (Some capture)) judged = judged
judged-three line (Err code) judged = of_three code judged

module _ (laws : WireLaws) where
  -- from the computed to the words
  no_fault : (bytes : List ℕ) (m : Message) → message_in bytes ≡ Ok m → (code : WireCode) (at : ℕ) → ¬ WireFault bytes code at
  no_fault bytes m e code at fault = cc (e, (laws.faults bytes code at).1 fault)

  says-checked : (Has : Fielding) (link digits bytes : List ℕ) (sender : ℕ) (r : Result Message WireError) → SenderBy Has link digits sender → decode_of digits ≡ Ok bytes → length bytes ≤ 504 →
      message_in bytes ≡ r
      → AreThreeJudged Has (checked link sender bytes r)
  says-checked Has link digits bytes sender (Ok m) front e few read = record { digits = digits; front = front; bytes = e; few = few; no_fault = no_fault bytes m read }
  says-checked Has link digits bytes sender (Err f) front e few read = no_datagram link digits bytes sender f front e few ((laws.faults bytes f.code f.at).0 read)

  says-sized : (Has : Fielding) (link digits bytes : List ℕ) (sender : ℕ) (x : Bool) → SenderBy Has link digits sender → decode_of digits ≡ Ok bytes → nat_lt 504 (length bytes) ≡ x
      → AreThreeJudged Has (capture_in link sender (cond x (Err codes.LongDatagram) (Ok bytes)))
  says-sized Has link digits bytes sender true front e h = long_datagram link digits bytes sender front e (many-of bytes h)
  says-sized Has link digits bytes sender false front e h = says-checked Has link digits bytes sender (message_in bytes) front e (few-of bytes h) refl

  says-digits : (Has : Fielding) (link digits : List ℕ) (sender : ℕ) (r : Result (List ℕ) FromHexError) → SenderBy Has link digits sender → decode_of digits ≡ r →
      AreThreeJudged Has (capture_in link sender (sized r))
  says-digits Has link digits sender (Ok bytes) front e = says-sized Has link digits bytes sender (nat_lt 504 (length bytes)) front e refl
  says-digits Has link digits sender (Err f) front e = no_hex link digits sender front (λ bytes is. cc (e, is))

  says-sender : (Has : Fielding) (link sender digits : List ℕ) (o : Option ℕ) → Has link sender digits → IsName link → address_in sender ≡ o → AreThreeJudged Has (with_sender link o digits)
  says-sender Has link sender digits None three name e =
      no_sender link sender digits three name (λ address is. cc (e, (laws.addresses sender address).1 (is.fits, is.spelled)))
  says-sender Has link sender digits (Some a) three name e =
      let found = (laws.addresses sender a).0 e in
      says-digits Has link digits a (decode_of digits) (record { sender = sender; three = three; name = name; is_sender = record { fits = found.0; spelled = found.1 } }) refl

  no-name : (link : List ℕ) → is_name link ≡ false → ¬ IsName link
  no-name link e is = cc (e, (laws.names link).1 is)

  says-named : (Has : Fielding) (link sender digits : List ℕ) (x : Bool) → Has link sender digits → is_name link ≡ x
      → AreThreeJudged Has (cond x (with_sender link (address_in sender) digits) (Err codes.LinkName))
  says-named Has link sender digits true three e = says-sender Has link sender digits (address_in sender) three ((laws.names link).0 e) refl
  says-named Has link sender digits false three e = no_name link sender digits three (no-name link e)

  -- three fields are what is computed of them
  pub says-three : (Has : Fielding) (link sender digits : List ℕ) → Has link sender digits → AreThreeJudged Has (three_fields link sender digits)
  says-three Has link sender digits three = says-named Has link sender digits (is_name link) three refl

  says-said : (line : List ℕ) (fields : List (List ℕ)) → HasFields line fields → ¬ SaysNothing fields → IsLineJudged line (said_by fields)
  says-said line [] has says = absurd (says tt)
  says-said line (a ∷ []) has says = other_fields (others line (a ∷ []) has says (λ e. omega (arith, e)))
  says-said line (a ∷ b ∷ []) has says = other_fields (others line (a ∷ b ∷ []) has says (λ e. omega (arith, e)))
  says-said line (a ∷ b ∷ c ∷ []) has says = judged-three line (three_fields a b c) (says-three (HasThree line) a b c (record { has_fields = has; says = says }))
  says-said line (a ∷ b ∷ c ∷ d ∷ more) has says = other_fields (others line (a ∷ b ∷ c ∷ d ∷ more) has says (λ e. omega (arith, e)))

  says-comment : (line first : List ℕ) (rest : List (List ℕ)) (x : Bool) → HasFields line (first ∷ rest) → is_comment (first ∷ rest) ≡ x → IsLineJudged line (cond x (Ok None) (said_by (first ∷ rest)))
  says-comment line first rest true has e = record { fields = first ∷ rest; has_fields = has; says_nothing = says-yes first rest e }
  says-comment line first rest false has e = says-said line (first ∷ rest) has (says-no first rest e)

  says-fields : (line : List ℕ) (fields : List (List ℕ)) → HasFields line fields → IsLineJudged line (unless_skipped fields)
  says-fields line [] has = record { fields = []; has_fields = has; says_nothing = tt }
  says-fields line (first ∷ rest) has = says-comment line first rest (is_comment (first ∷ rest)) has refl

  says-line : (line : List ℕ) (x : Bool) → nat_lt 2048 (length line) ≡ x → IsLineJudged line (cond x (Err codes.LongLine) (judge_short line))
  says-line line true e = long_line (long-of line e)
  says-line line false e = says-fields line (fields_of (strip_last 13 line)) (HasFields-line line (short-of line e))

  IsLineJudged-judge : (line : List ℕ) → IsLineJudged line (judge line)
  IsLineJudged-judge line = says-line line (nat_lt 2048 (length line)) refl

  pub judged-line : (line : List ℕ) (judged : Result (Option Capture) LogCode) → judge line ≡ judged → IsLineJudged line judged
  judged-line line judged e = subst (IsLineJudged line) e (IsLineJudged-judge line)

  -- from the words to the computed
  name-no : (link : List ℕ) (x : Bool) → is_name link ≡ x → ¬ IsName link → x ≡ false
  name-no link true e is = absurd (is ((laws.names link).0 e))
  name-no link false e is = refl

  address-no : (sender : List ℕ) (o : Option ℕ) → address_in sender ≡ o → ((address : ℕ) → ¬ IsSender sender address) → o ≡ None
  address-no sender None e none = refl
  address-no sender (Some a) e none =
      let found = (laws.addresses sender a).0 e in
      absurd (none a (record { fits = found.0; spelled = found.1 }))

  three-named : (link sender digits : List ℕ) → IsName link → three_fields link sender digits ≡ with_sender link (address_in sender) digits
  three-named link sender digits name = ap (λ (x : Bool). cond x (with_sender link (address_in sender) digits) (Err codes.LinkName)) ((laws.names link).1 name)

  checked-none : (link bytes : List ℕ) (sender : ℕ) (r : Result Message WireError) → message_in bytes ≡ r → ((code : WireCode) (at : ℕ) → ¬ WireFault bytes code at)
      → checked link sender bytes r ≡ Ok (Some (record { link = link; sender = sender; datagram = bytes }))
  checked-none link bytes sender (Ok m) e none = refl
  checked-none link bytes sender (Err f) e none = absurd (none f.code f.at ((laws.faults bytes f.code f.at).0 e))

  -- what is computed, where it is what the three fields say
  module _ (Has : Fielding) (judged : Result (Option Capture) LogCode) (reads : (link sender digits : List ℕ) → Has link sender digits → judged ≡ three_fields link sender digits) where
    by-sender : (link digits : List ℕ) (address : ℕ) → SenderBy Has link digits address → judged ≡ capture_in link address (bytes_of digits)
    by-sender link digits address front =
        reads link front.sender digits front.three
        ∙ three-named link front.sender digits front.name
        ∙ ap (λ (o : Option ℕ). with_sender link o digits) ((laws.addresses front.sender address).1 (front.is_sender.fits, front.is_sender.spelled))

    by-bytes : (link digits bytes : List ℕ) (address : ℕ) → SenderBy Has link digits address → decode_of digits ≡ Ok bytes → length bytes ≤ 504 →
        judged ≡ checked link address bytes (message_in bytes)
    by-bytes link digits bytes address front e few = by-sender link digits address front ∙ ap (capture_in link address) (ap sized e ∙ sized-few bytes few)

    bad-by : (code : LogCode) → BadBy Has code → judged ≡ Err code
    bad-by code (no_name link sender digits three is) =
        reads link sender digits three ∙ ap (λ (x : Bool). cond x (with_sender link (address_in sender) digits) (Err codes.LinkName)) (name-no link (is_name link) refl is)
    bad-by code (no_sender link sender digits three name is) =
        reads link sender digits three ∙ three-named link sender digits name ∙ ap (λ (o : Option ℕ). with_sender link o digits) (address-no sender (address_in sender) refl is)
    bad-by code (no_hex link digits address front is) = by-sender link digits address front ∙ ap (capture_in link address) (sized-bad (decode_of digits) is)
    bad-by code (long_datagram link digits bytes address front e many) = by-sender link digits address front ∙ ap (capture_in link address) (ap sized e ∙ sized-long bytes many)
    bad-by code (no_datagram link digits bytes address f front e few fault) =
        by-bytes link digits bytes address front e few ∙ ap (checked link address bytes) ((laws.faults bytes f.code f.at).1 fault)

    pub three-judged : (r : Result (Option Capture) LogCode) → AreThreeJudged Has r → judged ≡ r
    three-judged (Ok None) h = absurd h
    three-judged (Ok (Some capture)) is =
        by-bytes capture.link is.digits capture.datagram capture.sender is.front is.bytes is.few
        ∙ checked-none capture.link capture.datagram capture.sender (message_in capture.datagram) refl is.no_fault
    three-judged (Err code) bad = bad-by code bad

  bad-line : (line : List ℕ) (code : LogCode) → IsBad line code → judge line ≡ Err code
  bad-line line code (long_line long) = judge-long line long
  bad-line line code (other_fields other) = judge-fields line other.fields other.has_fields ∙ said-fields other.fields other.says ∙ said-others other.fields other.count
  bad-line line code (of_three _ bad) = three-judged (HasThree line) (judge line) (judge-three line) (Err code) bad

  pub judge-IsLineJudged : (line : List ℕ) (r : Result (Option Capture) LogCode) → IsLineJudged line r → judge line ≡ r
  judge-IsLineJudged line (Ok None) skipped = judge-fields line skipped.fields skipped.has_fields ∙ skipped-fields skipped.fields skipped.says_nothing
  judge-IsLineJudged line (Ok (Some capture)) is = three-judged (HasThree line) (judge line) (judge-three line) (Ok (Some capture)) is
  judge-IsLineJudged line (Err code) bad = bad-line line code bad
