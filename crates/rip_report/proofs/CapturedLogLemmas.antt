-- A log of capture files without a bad line says their datagrams, and nothing else.
use Rattle.std.proofs.Common.{◌≡◌, ◌+◌, ◌-◌, ◌^◌, ◌<◌, ◌≤◌, ◌==◌, ◌∙◌, ℕ, Bool, true, false, nat_lt, List, [], ◌∷◌, ◌++◌, Option, Some, None, Result, Ok, Err, length, map, take, drop, replicate, codes, ap, sym, refl, inl, inr, subst, arith, append_assoc}
use Rattle.std.specs.List.{AllByRecursion}
use Rattle.std.specs.Prelude.{◌↔◌, if◌then◌else◌, flat_map}
use Rattle.std.proofs.lemmas.List.{map-append}
use Rattle.std.proofs.lemmas.List.Elements.{recursion_from_All}
use Rattle.hex.specs.Hex.{decode_pairs, encode_lower, encode_with}
use Rattle.hex.proofs.HexLemmas.{decode_of-encode_lower}
use Rattle.rip_wire.specs.Address.{address_in, address_text}
use Rattle.rip_wire.specs.Fields.{number_at}
use Rattle.rip_wire.specs.Message.{Message, message_in}
use Rattle.rip_wire.specs.Name.{IsName, IsNameByte, is_name}
use Rattle.rip_wire.specs.declared.error.WireError.{WireError}
use Rattle.rip_log.specs.Fields.{fields_of, is_comment}
use Rattle.rip_log.specs.Lines.{Capture, bytes_of, capture_in, checked, sized, unless_skipped, with_sender}
use Rattle.rip_log.specs.Logs.{Numbered}
use Rattle.rip_log.specs.declared.error.LogCode.{LogCode}
use Rattle.rip_log.specs.declared.error.LogCode.TheVariants.{Fields, Hex, LongDatagram, Sender, Wire}
use Rattle.rip_capture.specs.Authentication.{entries_end, has_authentication, without_authentication}
use Rattle.rip_capture.specs.Carries.{Carries}
use Rattle.rip_capture.specs.Packets.{source}
use Rattle.rip_capture.specs.Passwords.{has_password, password_end, without_password}
use Rattle.rip_log.specs.Spans.{slice_of}
use Rattle.rip_capture.specs.declared.link.LinkType.{LinkType}
use Rattle.rip_capture.specs.declared.packet.Carried.TheVariants.{Datagram, Cut, Fragment, Malformed, Long, Unknown, Elsewhere, Others}
use Rattle.rip_log.specs.declared.span.Span.{Span}
use Rattle.rip_capture.proofs.ByteLemmas.{all-drop}
use Rattle.rip_report.specs.CaptureLogs.{datagram_in, is_whole}
use Rattle.rip_report.specs.CaptureText.{carried_line, logged_line, packet_lines, sender_part}
use Rattle.rip_report.specs.Selections.{Carrier}
use Rattle.rip_report.specs.declared.captures.logged.Logged.{Logged}
use Rattle.rip_report.specs.declared.captures.logged.Logged.TheVariants.{As, Mixed}
use Rattle.rip_report.specs.LoggedDatagrams.{as_asked, logged_datagram}
use Rattle.rip_report.specs.Written.{line}
use Rattle.rip_report.specs.LineTimes.{time_part}
use Rattle.rip_report.specs.declared.captures.manner.Manner.{Manner}
use Rattle.rip_report.specs.declared.captures.authentication.Authentication.{Authentication}
use Rattle.rip_report.specs.declared.captures.authentication.Authentication.TheVariants.{AsSent, Removed}
use Rattle.rip_report.proofs.LogLineLemmas.{Bytes, ComesTo, HasFirst, High, Reads, Spaced, address-high, address-some, all-both, all-same, all-take, bad-line, bytes-at, comes-to, digits-high, field-first, field-last, if-no, if-yes, name-high, record-line, spaced, tested}

-- ---- bytes of datagrams

abbrev IsByte : ℕ → Type 0
IsByte b = b < 256

pub source-small : (b : List ℕ) → Bytes b → source b < 2 ^ 32
unfolding number_at
source-small b h =
    let at = bytes-at (drop 12 b) (all-drop IsByte 12 b h) in
    let first = at 0 in
    let second = at 1 in
    let third = at 2 in
    let fourth = at 3 in
    omega (arith, first, second, third, fourth)

shown-bytes : (d : List ℕ) → Bytes d → Bytes (without_password d)
shown-bytes d h = by (has_password d) where
  by : (b : Bool) → Bytes (if b then take 8 d ++ replicate (password_end d - 8) 0 ++ drop (password_end d) d else d)
  by true = all-both IsByte (take 8 d ++ replicate (password_end d - 8) 0) (drop (password_end d) d)
      (all-both IsByte (take 8 d) (replicate (password_end d - 8) 0) (all-take IsByte 8 d h) (all-same IsByte (password_end d - 8) 0 (omega arith)))
      (all-drop IsByte (password_end d) d h)
  by false = h

bare-bytes : (d : List ℕ) → Bytes d → Bytes (without_authentication d)
unfolding without_authentication
bare-bytes d h = all-both IsByte (take 4 d) (take (entries_end d - 24) (drop 24 d)) (all-take IsByte 4 d h) (all-take IsByte (entries_end d - 24) (drop 24 d) (all-drop IsByte 24 d h))

asked-bytes : (how : Authentication) (d : List ℕ) → Bytes d → Bytes (as_asked how d)
asked-bytes AsSent d h = h
asked-bytes Removed d h = by (has_authentication d) where
  by : (b : Bool) → Bytes (if b then without_authentication d else d)
  by true = bare-bytes d h
  by false = h

logged-bytes : (how : Authentication) (d : List ℕ) → Bytes d → Bytes (logged_datagram how d)
logged-bytes how d h = shown-bytes (as_asked how d) (asked-bytes how d h)

slice-bytes : (frame : List ℕ) (span : Span) → Bytes frame → Bytes (slice_of frame span)
slice-bytes frame span h = all-take IsByte (span.to - span.from) (drop span.from frame) (all-drop IsByte span.from frame h)

-- words that spell no bytes
fragment-bad : bytes_of (codes "fragment") ≡ Err Hex
unfolding decode_pairs
fragment-bad = refl

mixed-bad : bytes_of (codes "mixed") ≡ Err Hex
unfolding decode_pairs
mixed-bad = refl

long-bad : bytes_of (codes "long") ≡ Err Hex
unfolding decode_pairs
long-bad = refl

-- ---- lines of three fields

sender-line : (link : List ℕ) (a : ℕ) (word : List ℕ) → sender_part link a ++ word ≡ link ++ 32 ∷ (address_text a ++ 32 ∷ word)
sender-line link a word =
    append_assoc ((link ++ 32 ∷ []) ++ address_text a) (32 ∷ []) word
    ∙ append_assoc (link ++ 32 ∷ []) (address_text a) (32 ∷ word)
    ∙ append_assoc link (32 ∷ []) (address_text a ++ 32 ∷ word)

three-spaced : (link sender word : List ℕ) → IsName link → High sender → Spaced word → Spaced (link ++ 32 ∷ (sender ++ 32 ∷ word))
three-spaced link sender word name high h =
    all-both (λ b. 32 ≤ b) link (32 ∷ (sender ++ 32 ∷ word)) (spaced link (name-high link name))
    (omega arith, all-both (λ b. 32 ≤ b) sender (32 ∷ word) (spaced sender high) (omega arith, h))

two-fields : (link sender word : List ℕ) → IsName link → High sender → 0 < length sender → fields_of (link ++ 32 ∷ (sender ++ 32 ∷ word)) ≡ link ∷ (sender ∷ fields_of word)
two-fields link sender word name high some = field-first link (sender ++ 32 ∷ word) name.some (name-high link name) ∙ ap (λ l. link ∷ l) (field-first sender word some high)

digits-none : encode_lower [] ≡ []
unfolding encode_with
digits-none = refl

digits-some : (x : ℕ) (xs : List ℕ) → 0 < length (encode_lower (x ∷ xs))
unfolding encode_with
digits-some x xs = omega arith

name-no-hash : (c : ℕ) → IsNameByte c → (c == 35) ≡ false
name-no-hash c h = grind arith

no-comment : (link : List ℕ) (rest : List (List ℕ)) → IsName link → is_comment (link ∷ rest) ≡ false
no-comment [] rest name = let some = name.some in absurd (omega (arith, some))
no-comment (c ∷ link) rest name = name-no-hash c (recursion_from_All IsNameByte (c ∷ link) name.bytes).0

module _ (names : (t : List ℕ) → (is_name t ≡ true) ↔ IsName t) where
  three-said : (link sender digits : List ℕ) → IsName link → unless_skipped (link ∷ (sender ∷ (digits ∷ []))) ≡ with_sender link (address_in sender) digits
  three-said link sender digits name = if-no (is_comment (link ∷ (sender ∷ (digits ∷ [])))) _ _ (no-comment link (sender ∷ (digits ∷ [])) name) ∙ if-yes (is_name link) _ _ ((names link).1 name)

  -- a third field that spells no bytes
  pub word-bad : (n : ℕ) (link sender word rest : List ℕ) (records : List Numbered) (code : LogCode) → IsName link → High sender → 0 < length sender → High word → 0 < length word →
      bytes_of word ≡ Err code
      → Reads n ((link ++ 32 ∷ (sender ++ 32 ∷ word)) ++ 10 ∷ rest) records → ⊥
  word-bad n link sender word rest records code name high some word_high word_some bad reads =
      let text = link ++ 32 ∷ (sender ++ 32 ∷ word) in
      let safe = three-spaced link sender word name high (spaced word word_high) in
      let fields = two-fields link sender word name high some ∙ ap (λ l. link ∷ (sender ∷ l)) (field-last word word_some word_high) in
      let comes = subst (ComesTo text) (three-said link sender word name) (comes-to text (link ∷ (sender ∷ (word ∷ []))) safe fields) in
      by (address_in sender) comes where
        by : (o : Option ℕ) → ComesTo (link ++ 32 ∷ (sender ++ 32 ∷ word)) (with_sender link o word) → ⊥
        by None comes = bad-line n (link ++ 32 ∷ (sender ++ 32 ∷ word)) rest records Sender (three-spaced link sender word name high (spaced word word_high)) comes reads
        by (Some a) comes = bad-line n (link ++ 32 ∷ (sender ++ 32 ∷ word)) rest records code (three-spaced link sender word name high (spaced word word_high))
            (subst (λ r. ComesTo (link ++ 32 ∷ (sender ++ 32 ∷ word)) (capture_in link a r)) bad comes) reads

  -- the digits of a datagram
  module _ (addresses : (t : List ℕ) (a : ℕ) → (address_in t ≡ Some a) ↔ ((a < 2 ^ 32) × (t ≡ address_text a))) where
    pub datagram-said : (n : ℕ) (link : List ℕ) (a : ℕ) (d rest : List ℕ) (records : List Numbered) → IsName link → a < 2 ^ 32 → Bytes d
        → Reads n ((link ++ 32 ∷ (address_text a ++ 32 ∷ encode_lower d)) ++ 10 ∷ rest) records → HasFirst n rest records (record { link = link; sender = a; datagram = d })
    datagram-said n link a [] rest records name small h reads =
        let text = link ++ 32 ∷ (address_text a ++ 32 ∷ []) in
        let safe = three-spaced link (address_text a) [] name (address-high a) tt in
        let comes = comes-to text (link ∷ (address_text a ∷ [])) safe (two-fields link (address_text a) [] name (address-high a) (address-some a)) in
        let two : unless_skipped (link ∷ (address_text a ∷ [])) ≡ Err Fields = if-no (is_comment (link ∷ (address_text a ∷ []))) _ _ (no-comment link (address_text a ∷ []) name) in
        absurd (bad-line n text rest records Fields safe (subst (ComesTo text) two comes) (subst (λ l. Reads n ((link ++ 32 ∷ (address_text a ++ 32 ∷ l)) ++ 10 ∷ rest) records) digits-none reads))
    datagram-said n link a (x ∷ xs) rest records name small h reads =
        let d = x ∷ xs in
        let digits = encode_lower d in
        let text = link ++ 32 ∷ (address_text a ++ 32 ∷ digits) in
        let high = digits-high d h in
        let some : 0 < length digits = digits-some x xs in
        let safe = three-spaced link (address_text a) digits name (address-high a) (spaced digits high) in
        let fields = two-fields link (address_text a) digits name (address-high a) (address-some a) ∙ ap (λ l. link ∷ (address_text a ∷ l)) (field-last digits some high) in
        let said = three-said link (address_text a) digits name ∙ ap (λ o. with_sender link o digits) ((addresses (address_text a) a).1 (small, refl)) ∙ ap (λ r. capture_in link a (sized r))
        (decode_of-encode_lower d (bytes-at d h)) in
        let comes = subst (ComesTo text) said (comes-to text (link ∷ (address_text a ∷ (digits ∷ []))) safe fields) in
        sized-by text safe reads (nat_lt 504 (length d)) comes where
          message-by : (text : List ℕ) → Spaced text → Reads n (text ++ 10 ∷ rest) records → (m : Result Message WireError) → ComesTo text (checked link a (x ∷ xs) m)
              → HasFirst n rest records (record { link = link; sender = a; datagram = x ∷ xs })
          message-by text safe reads (Ok m) comes = record-line n text rest records _ safe comes reads
          message-by text safe reads (Err e) comes = absurd (bad-line n text rest records (Wire e) safe comes reads)

          sized-by : (text : List ℕ) → Spaced text → Reads n (text ++ 10 ∷ rest) records → (b : Bool) → ComesTo text (capture_in link a (if b then Err LongDatagram else Ok (x ∷ xs)))
              → HasFirst n rest records (record { link = link; sender = a; datagram = x ∷ xs })
          sized-by text safe reads true comes = absurd (bad-line n text rest records LongDatagram safe comes reads)
          sized-by text safe reads false comes = message-by text safe reads (message_in (x ∷ xs)) comes

-- ---- packets

-- records say these captures, and the rest of a text has the other records
pub record Says (rest : List ℕ) (records : List Numbered) (captures : List Capture) : Type 0 where
  pub lines : ℕ
  pub front : List Numbered
  pub later : List Numbered
  pub whole : records ≡ front ++ later
  pub said : map (λ r. r.capture) front ≡ captures
  pub reads : Reads lines rest later

pub says-none : (n : ℕ) (rest : List ℕ) (records : List Numbered) → Reads n rest records → Says rest records []
says-none n rest records reads = record { lines = n; front = []; later = records; whole = refl; said = refl; reads = reads }

pub says-more : (rest later : List ℕ) (records : List Numbered) (xs ys : List Capture) (first : Says rest records xs) → Says later first.later ys → Says later records (xs ++ ys)
says-more rest later records xs ys first second = record {
  lines = second.lines;
  front = first.front ++ second.front;
  later = second.later;
  whole = first.whole ∙ ap (λ l. first.front ++ l) second.whole ∙ sym (append_assoc first.front second.front second.later);
  said = map-append (λ (r : Numbered). r.capture) first.front second.front ∙ ap (λ l. l ++ map (λ (r : Numbered). r.capture) second.front) first.said ∙ ap (λ l. xs ++ l) second.said;
  reads = second.reads;
}

says-first : (n : ℕ) (rest : List ℕ) (records : List Numbered) (c : Capture) → HasFirst n rest records c → Says rest records (c ∷ [])
says-first n rest records c first = record { lines = n + 1; front = (record { line = n + 1; capture = c }) ∷ []; later = first.later; whole = first.first; said = refl; reads = first.reads }

-- a line, and what follows it
ended : (n : ℕ) (text part rest : List ℕ) (records : List Numbered) → text ≡ part → Reads n (line text ++ rest) records → Reads n (part ++ 10 ∷ rest) records
ended n text part rest records e reads = subst (λ l. Reads n l records) (append_assoc text (10 ∷ []) rest ∙ ap (λ l. l ++ 10 ∷ rest) e) reads

pub sender-of : (t : LinkType) (frame : List ℕ) (a : ℕ) (span : Span) → Bytes frame → Carries t frame (Datagram a span) → a < 2 ^ 32
sender-of t frame a span h (inl (from, holds, ip)) = subst (λ s. s < 2 ^ 32) (sym ip.0) (source-small (drop from frame) (all-drop IsByte from frame h))
sender-of t frame a span h (inr (inl (holds, e))) = cc e
sender-of t frame a span h (inr (inr (holds, e))) = cc e

-- a datagram of which a log has a line has an address for its sender
abbrev pub HasSender : Logged → Type 0
HasSender (As (Datagram a span)) = a < 2 ^ 32
HasSender other = Unit {0}

-- a packet is whole, and says its datagram
pub record PacketSays (how : Authentication) (link frame : List ℕ) (logged : Logged) (rest : List ℕ) (records : List Numbered) : Type 0 where
  pub whole : is_whole logged ≡ true
  pub says : Says rest records (datagram_in how link frame logged)

module _ (names : (t : List ℕ) → (is_name t ≡ true) ↔ IsName t) (addresses : (t : List ℕ) (a : ℕ) → (address_in t ≡ Some a) ↔ ((a < 2 ^ 32) × (t ≡ address_text a))) where
  lacking : (n : ℕ) (link : List ℕ) (a : ℕ) (word rest : List ℕ) (records : List Numbered) (code : LogCode) → IsName link → High word → 0 < length word → bytes_of word ≡ Err code
      → Reads n (line (sender_part link a ++ word) ++ rest) records → ⊥
  lacking n link a word rest records code name high some bad reads =
      word-bad names n link (address_text a) word rest records code name (address-high a) (address-some a) high some bad
      (ended n (sender_part link a ++ word) (link ++ 32 ∷ (address_text a ++ 32 ∷ word)) rest records (sender-line link a word) reads)

  packet-says : (how : Authentication) (n : ℕ) (link : List ℕ) (frame : List ℕ) (logged : Logged) (rest : List ℕ) (records : List Numbered) → IsName link → Bytes frame → HasSender logged
      → Reads n (logged_line how link frame logged ++ rest) records → PacketSays how link frame logged rest records
  unfolding carried_line
  packet-says how n link frame (As (Datagram a span)) rest records name h small reads =
      let d = logged_datagram how (slice_of frame span) in
      let first = datagram-said names addresses n link a d rest records name small (logged-bytes how (slice_of frame span) (slice-bytes frame span h))
      (ended n (sender_part link a ++ encode_lower d) (link ++ 32 ∷ (address_text a ++ 32 ∷ encode_lower d)) rest records (sender-line link a (encode_lower d)) reads) in
      record { whole = refl; says = says-first n rest records (record { link = link; sender = a; datagram = d }) first }
  packet-says how n link frame (As (Cut a)) rest records name h small reads = absurd (lacking n link a (codes "cut") rest records Hex name (tested 33 (codes "cut") refl) (omega arith) refl reads)
  packet-says how n link frame (As (Fragment a)) rest records name h small reads =
      absurd (lacking n link a (codes "fragment") rest records Hex name (tested 33 (codes "fragment") refl) (omega arith) fragment-bad reads)
  packet-says how n link frame (As (Malformed a)) rest records name h small reads =
      absurd (lacking n link a (codes "malformed") rest records Hex name (tested 33 (codes "malformed") refl) (omega arith) refl reads)
  packet-says how n link frame (As (Long a)) rest records name h small reads =
      absurd (lacking n link a (codes "long") rest records Hex name (tested 33 (codes "long") refl) (omega arith) long-bad reads)
  packet-says how n link frame (As Unknown) rest records name h small reads =
      absurd (word-bad names n link (codes "unknown") (codes "cut") rest records Hex name (tested 33 (codes "unknown") refl) (omega arith) (tested 33 (codes "cut") refl) (omega arith) refl
      (ended n (link ++ codes " unknown cut") (link ++ 32 ∷ (codes "unknown" ++ 32 ∷ codes "cut")) rest records refl reads))
  packet-says how n link frame (As Elsewhere) rest records name h small reads = record { whole = refl; says = says-none n rest records reads }
  packet-says how n link frame (As Others) rest records name h small reads = record { whole = refl; says = says-none n rest records reads }
  packet-says how n link frame (Mixed a) rest records name h small reads = absurd (lacking n link a (codes "mixed") rest records Hex name (tested 33 (codes "mixed") refl) (omega arith) mixed-bad reads)

  -- packets are whole, and say their datagrams
  pub record PacketsSay (how : Manner) (link : List ℕ) (cs : List Carrier) (rest : List ℕ) (records : List Numbered) : Type 0 where
    pub whole : AllByRecursion (λ c. is_whole c.logged ≡ true) cs
    pub says : Says rest records (flat_map (λ c. datagram_in how.authentication link c.frame.bytes c.logged) cs)

  pub packets-say : (how : Manner) (n : ℕ) (link : List ℕ) (cs : List Carrier) (rest : List ℕ) (records : List Numbered) → IsName link → AllByRecursion (λ c. c.time ≡ None) cs → AllByRecursion (λ c. HasSender c.logged) cs →
      AllByRecursion (λ c. Bytes c.frame.bytes) cs
      → Reads n (packet_lines how link cs ++ rest) records → PacketsSay how link cs rest records
  packets-say how n link [] rest records name bare carry h reads = record { whole = tt; says = says-none n rest records reads }
  packets-say how n link (c ∷ cs) rest records name bare carry h reads =
      let after = packet_lines how link cs ++ rest in
      let line = logged_line how.authentication link c.frame.bytes c.logged in
      let first : time_part c.time ++ line ≡ line = rw bare.0 refl in
      let one = packet-says how.authentication n link c.frame.bytes c.logged after records name h.0 carry.0
      (subst (λ l. Reads n l records) (ap (λ l. l ++ packet_lines how link cs ++ rest) first ∙ append_assoc line (packet_lines how link cs) rest) reads) in
      let more = packets-say how one.says.lines link cs rest one.says.later name bare.1 carry.1 h.1 one.says.reads in
      record {
        whole = (one.whole, more.whole);
        says = says-more after rest records (datagram_in how.authentication link c.frame.bytes c.logged) (flat_map (λ d. datagram_in how.authentication link d.frame.bytes d.logged) cs) one.says more.says;
      }
