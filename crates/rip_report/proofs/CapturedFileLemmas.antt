-- A log of capture files without a bad line is one of whole files.
use Rattle.std.proofs.Common.{◌≡◌, ◌⊎◌, ◌+◌, ◌^◌, ◌<◌, ◌≤◌, ◌==◌, ◌∙◌, ℕ, Bool, true, false, cond, List, [], ◌∷◌, ◌++◌, Option, Some, None, Result, Ok, Err, is_err, length, map, drop, decimal, codes, ap, sym, refl, inl, inr, subst, arith, append_assoc, append-nil}
use Rattle.std.specs.List.{AllByRecursion}
use Rattle.std.specs.Prelude.{◌↔◌, if◌then◌else◌, count_by, flat_map}
use Rattle.std.proofs.lemmas.List.Sums.{sum_by-cons}
use Rattle.rip_wire.specs.Address.{address_in, address_text}
use Rattle.rip_wire.specs.Name.{IsName, is_name}
use Rattle.rip_log.specs.Fields.{fields_of}
use Rattle.rip_log.specs.Lines.{Capture as Captured, judge}
use Rattle.rip_log.specs.LogText.{EndsLine}
use Rattle.rip_log.specs.Logs.{Log, Numbered}
use Rattle.rip_log.specs.declared.error.LogCode.TheVariants.{Fields}
use Rattle.rip_capture.specs.Captures.{CaptureFault, IsCapture}
use Rattle.rip_capture.specs.Pcap.{Frame}
use Rattle.rip_capture.specs.declared.packet.Carried.{Carried}
use Rattle.rip_capture.specs.declared.packet.Carried.TheVariants.{Datagram, Cut, Fragment, Malformed, Long, Unknown, Elsewhere, Others}
use Rattle.rip_report.specs.CaptureLogs.{BeginsWith, File, FileText, HasDatagrams, HaveDatagrams, IsFile, IsRefusedAt, LogOf, SoFar, datagram_in, is_whole, is_whole_one, worse}
use Rattle.rip_report.specs.CaptureLogs.BeginsWith.{none as nothing, some as something}
use Rattle.rip_report.specs.CaptureLogs.IsRefusedAt.{fault, packet, comment, time as timeless}
use Rattle.rip_report.specs.CaptureLogs.FileText.{whole, refused, unread, memory}
use Rattle.rip_report.specs.CaptureLogs.LogOf.{all, stopped}
use Rattle.rip_report.specs.CaptureLogs.SoFar.{none, more}
use Rattle.rip_report.specs.CaptureText.{AreCarriers, comment_front, comment_line, count_of, counted_status, counts_of, file_part, file_refusal_line, is_cut, is_fragment, is_long, is_malformed, is_mixed, is_timed, lacking_part, one, other_part, packet_lines, refusal_code_text, such}
use Rattle.rip_report.specs.LineTimes.{IsTimed, span_behind, span_of, span_part, span_with}
use Rattle.rip_log.specs.declared.time.date_time.DateTime.{DateTime}
use Rattle.rip_report.specs.Selections.{Carrier, Part, Selection}
use Rattle.rip_report.specs.declared.captures.logged.Logged.{Logged}
use Rattle.rip_report.specs.declared.captures.logged.Logged.TheVariants.{As, Mixed}
use Rattle.rip_report.specs.LeftOut.{count_part}
use Rattle.rip_report.specs.Written.{line}
use Rattle.rip_report.specs.declared.captures.manner.Manner.{Manner}
use Rattle.rip_report.specs.declared.captures.counts.PacketCounts.{PacketCounts}
use Rattle.rip_report.specs.declared.captures.ending.RefusalCode.{RefusalCode}
use Rattle.rip_report.specs.declared.captures.ending.RefusalCode.TheVariants.{Capture, Time, TooManyLines}
use Rattle.rip_capture.specs.declared.error.CaptureCode.{CaptureCode}
use Rattle.rip_capture.specs.declared.error.CaptureCode.TheVariants as codes-of
use Rattle.rip_capture.proofs.ByteLemmas.{all-left, all-right}
use Rattle.rip_report.specs.declared.status.RunError.{RunError}
use Rattle.rip_report.specs.declared.status.Status.{Status}
use Rattle.rip_report.specs.declared.status.Status.TheVariants.{Done, Refused}
use Rattle.rip_report.proofs.SelectionLemmas.{SomeOrigin, own-all, senders-logged}
use Rattle.rip_report.proofs.CapturedLogLemmas.{HasSender, Says, packets-say, says-more, says-none}
use Rattle.rip_report.proofs.LogLineLemmas.{Bytes, ComesTo, Reads, Spaced, all-both, bad-line, comes-to, decimal-high, decimal-some, field-first, name-high, skipped-line, spaced, tested}

abbrev IsSpaced : ℕ → Type 0
IsSpaced b = 32 ≤ b

both : (xs ys : List ℕ) → Spaced xs → Spaced ys → Spaced (xs ++ ys)
both xs ys h k = all-both IsSpaced xs ys h k

number-spaced : (n : ℕ) → Spaced (decimal n)
number-spaced n = spaced (decimal n) (decimal-high n)

count-spaced : (separator word : List ℕ) (n : ℕ) → Spaced separator → Spaced word → Spaced (count_part separator n word)
count-spaced separator word n h k = by (n == 0) where
  by : (b : Bool) → Spaced (if b then [] else separator ++ decimal n ++ word)
  by true = tt
  by false = both (separator ++ decimal n) word (both separator (decimal n) h (number-spaced n)) k

counted : (word : List ℕ) (n : ℕ) → Spaced word → Spaced (count_part (codes ", ") n word)
counted word n k = count-spaced (codes ", ") word n (tested 32 (codes ", ") refl) k

file-spaced : (k : ℕ) (link : List ℕ) → IsName link → Spaced (file_part k link)
file-spaced k link name =
    both (codes "file " ++ decimal k ++ codes " link ") link
    (both (codes "file " ++ decimal k) (codes " link ") (both (codes "file ") (decimal k) (tested 32 (codes "file ") refl) (number-spaced k)) (tested 32 (codes " link ") refl))
    (spaced link (name-high link name))

front-spaced : (k : ℕ) (link : List ℕ) (n : PacketCounts) → IsName link → Spaced (comment_front k link n)
unfolding comment_front
front-spaced k link n name =
    let a = both (codes "# ") (file_part k link) (tested 32 (codes "# ") refl) (file-spaced k link name) in
    let b = both (codes "# " ++ file_part k link) (codes ": ") a (tested 32 (codes ": ") refl) in
    let c = both (codes "# " ++ file_part k link ++ codes ": ") (decimal n.packets) b (number-spaced n.packets) in
    let d = both (codes "# " ++ file_part k link ++ codes ": " ++ decimal n.packets) (codes " packets, ") c (tested 32 (codes " packets, ") refl) in
    let e = both (codes "# " ++ file_part k link ++ codes ": " ++ decimal n.packets ++ codes " packets, ") (decimal n.datagrams) d (number-spaced n.datagrams) in
    both (codes "# " ++ file_part k link ++ codes ": " ++ decimal n.packets ++ codes " packets, " ++ decimal n.datagrams) (codes " datagrams") e (tested 32 (codes " datagrams") refl)

lacking-spaced : (n : PacketCounts) → Spaced (lacking_part n)
unfolding lacking_part
lacking-spaced n =
    let cut = counted (codes " cut") n.cut (tested 32 (codes " cut") refl) in
    let fragments = counted (codes " fragments") n.fragments (tested 32 (codes " fragments") refl) in
    let malformed = counted (codes " malformed") n.malformed (tested 32 (codes " malformed") refl) in
    let long = counted (codes " long") n.long (tested 32 (codes " long") refl) in
    let mixed = counted (codes " mixed") n.mixed (tested 32 (codes " mixed") refl) in
    both (count_part (codes ", ") n.cut (codes " cut") ++ count_part (codes ", ") n.fragments (codes " fragments") ++ count_part (codes ", ") n.malformed (codes " malformed")
    ++ count_part (codes ", ") n.long (codes " long")) (count_part (codes ", ") n.mixed (codes " mixed"))
    (both (count_part (codes ", ") n.cut (codes " cut") ++ count_part (codes ", ") n.fragments (codes " fragments") ++ count_part (codes ", ") n.malformed (codes " malformed"))
    (count_part (codes ", ") n.long (codes " long"))
    (both (count_part (codes ", ") n.cut (codes " cut") ++ count_part (codes ", ") n.fragments (codes " fragments")) (count_part (codes ", ") n.malformed (codes " malformed"))
    (both (count_part (codes ", ") n.cut (codes " cut")) (count_part (codes ", ") n.fragments (codes " fragments")) cut fragments) malformed) long) mixed

other-spaced : (n : PacketCounts) → Spaced (other_part n)
unfolding other_part
other-spaced n =
    let passwords = counted (codes " passwords") n.passwords (tested 32 (codes " passwords") refl) in
    let bare = counted (codes " without authentication") n.without_authentication (tested 32 (codes " without authentication") refl) in
    let elsewhere = counted (codes " elsewhere") n.elsewhere (tested 32 (codes " elsewhere") refl) in
    let others = counted (codes " others") n.others (tested 32 (codes " others") refl) in
    both (count_part (codes ", ") n.passwords (codes " passwords") ++ count_part (codes ", ") n.without_authentication (codes " without authentication") ++ count_part (codes ", ") n.elsewhere
    (codes " elsewhere")) (count_part (codes ", ") n.others (codes " others"))
    (both (count_part (codes ", ") n.passwords (codes " passwords") ++ count_part (codes ", ") n.without_authentication (codes " without authentication"))
    (count_part (codes ", ") n.elsewhere (codes " elsewhere"))
    (both (count_part (codes ", ") n.passwords (codes " passwords")) (count_part (codes ", ") n.without_authentication (codes " without authentication")) passwords bare) elsewhere) others

-- a comment begins with a field of # alone
hash-first : (k : ℕ) (link : List ℕ) (n : PacketCounts) → comment_front k link n ≡ 35 ∷ (32 ∷ drop 2 (comment_front k link n))
unfolding comment_front
hash-first k link n = refl

no-span : span_part None ≡ []
unfolding span_part
no-span = refl

comment-skipped : (n k : ℕ) (link : List ℕ) (c : PacketCounts) (rest : List ℕ) (records : List Numbered) → IsName link → Reads n (comment_line k link c None ++ rest) records → Reads (n + 1) rest records
comment-skipped n k link c rest records name reads_so =
    let end = lacking_part c ++ other_part c in
    let bare : lacking_part c ++ (other_part c ++ span_part None) ≡ end = ap (λ l. lacking_part c ++ (other_part c ++ l)) no-span ∙ ap (λ l. lacking_part c ++ l) (append-nil (other_part c)) in
    let reads = subst (λ l. Reads n (line (comment_front k link c ++ l) ++ rest) records) bare reads_so in
    let text = comment_front k link c ++ end in
    let safe = both (comment_front k link c) end (front-spaced k link c name) (both (lacking_part c) (other_part c) (lacking-spaced c) (other-spaced c)) in
    let fields : fields_of text ≡ (35 ∷ []) ∷ fields_of (drop 2 (comment_front k link c) ++ end) = ap (λ l. fields_of (l ++ end)) (hash-first k link c) in
    let comes : ComesTo text (Ok None) = comes-to text ((35 ∷ []) ∷ fields_of (drop 2 (comment_front k link c) ++ end)) safe fields in
    skipped-line n text rest records safe comes (subst (λ l. Reads n l records) (append_assoc text (10 ∷ []) rest) reads)

-- a line that refuses a file has more than three fields
code-spaced : (code : RefusalCode) → Spaced (refusal_code_text code)
unfolding refusal_code_text
code-spaced (Capture codes-of.Magic) = tested 32 (codes "1 Magic") refl
code-spaced (Capture codes-of.Cut) = tested 32 (codes "2 Cut") refl
code-spaced (Capture codes-of.Version) = tested 32 (codes "3 Version") refl
code-spaced (Capture codes-of.LinkType) = tested 32 (codes "4 LinkType") refl
code-spaced (Capture codes-of.Length) = tested 32 (codes "5 Length") refl
code-spaced (Capture codes-of.Interface) = tested 32 (codes "6 Interface") refl
code-spaced (Capture codes-of.OldPacket) = tested 32 (codes "7 OldPacket") refl
code-spaced (Capture codes-of.Read) = tested 32 (codes "Read") refl
code-spaced TooManyLines = tested 32 (codes "8 TooManyLines") refl
code-spaced Time = tested 32 (codes "9 Time") refl

six-parts : (a b c d e f : List ℕ) → a ++ b ++ c ++ d ++ e ++ f ≡ a ++ (b ++ (c ++ (d ++ (e ++ f))))
six-parts a b c d e f = append_assoc (a ++ b ++ c ++ d) e f ∙ append_assoc (a ++ b ++ c) d (e ++ f) ∙ append_assoc (a ++ b) c (d ++ (e ++ f)) ∙ append_assoc a b (c ++ (d ++ (e ++ f)))

five-parts : (a b c d e : List ℕ) → a ++ b ++ c ++ d ++ e ≡ a ++ (b ++ (c ++ (d ++ e)))
five-parts a b c d e = append_assoc (a ++ b ++ c) d e ∙ append_assoc (a ++ b) c (d ++ e) ∙ append_assoc a b (c ++ (d ++ e))

refusal-bad : (n k : ℕ) (link : List ℕ) (code : RefusalCode) (at : ℕ) (rest : List ℕ) (records : List Numbered) → IsName link → Reads n (file_refusal_line k link code at ++ rest) records → ⊥
unfolding file_refusal_line
refusal-bad n k link code at rest records name reads =
    let number = decimal k in
    let word = refusal_code_text code in
    let place = decimal at in
    let text = codes "refused: " ++ file_part k link ++ codes ": " ++ word ++ codes " at " ++ place in
    let a = both (codes "refused: ") (file_part k link) (tested 32 (codes "refused: ") refl) (file-spaced k link name) in
    let b = both (codes "refused: " ++ file_part k link) (codes ": ") a (tested 32 (codes ": ") refl) in
    let c = both (codes "refused: " ++ file_part k link ++ codes ": ") word b (code-spaced code) in
    let d = both (codes "refused: " ++ file_part k link ++ codes ": " ++ word) (codes " at ") c (tested 32 (codes " at ") refl) in
    let safe = both (codes "refused: " ++ file_part k link ++ codes ": " ++ word ++ codes " at ") place d (number-spaced at) in
    let tail = codes ": " ++ (word ++ (codes " at " ++ place)) in
    let parts : text ≡ codes "refused:" ++ 32 ∷ (codes "file" ++ 32 ∷ (number ++ 32 ∷ (codes "link" ++ 32 ∷ (link ++ tail)))) =
    six-parts (codes "refused: ") (file_part k link) (codes ": ") word (codes " at ") place
    ∙ ap (λ l. codes "refused: " ++ l) (five-parts (codes "file ") number (codes " link ") link tail) in
    let fields = ap fields_of parts ∙ field-first (codes "refused:") (codes "file" ++ 32 ∷ (number ++ 32 ∷ (codes "link" ++ 32 ∷ (link ++ tail)))) (omega arith) (tested 33 (codes "refused:") refl)
    ∙ ap (λ l. codes "refused:" ∷ l) (field-first (codes "file") (number ++ 32 ∷ (codes "link" ++ 32 ∷ (link ++ tail))) (omega arith) (tested 33 (codes "file") refl)
    ∙ ap (λ l. codes "file" ∷ l) (field-first number (codes "link" ++ 32 ∷ (link ++ tail)) (decimal-some k) (decimal-high k)
    ∙ ap (λ l. number ∷ l) (field-first (codes "link") (link ++ tail) (omega arith) (tested 33 (codes "link") refl)))) in
    let comes : ComesTo text (Err Fields) = comes-to text (codes "refused:" ∷ (codes "file" ∷ (number ∷ (codes "link" ∷ fields_of (link ++ tail))))) safe fields in
    bad-line n text rest records Fields safe comes (subst (λ l. Reads n l records) (append_assoc text (10 ∷ []) rest) reads)

-- a failure has two
failed-bad : (n : ℕ) (text rest : List ℕ) (records : List Numbered) → Spaced text → judge text ≡ Err Fields → Reads n (line text ++ rest) records → ⊥
failed-bad n text rest records safe bad reads = bad-line n text rest records Fields safe (inr bad) (subst (λ l. Reads n l records) (append_assoc text (10 ∷ []) rest) reads)

-- ---- counts

none-so : (p : Logged → Bool) → ((l : Logged) → is_whole l ≡ true → p l ≡ false) → (cs : List Carrier) → AllByRecursion (λ c. is_whole c.logged ≡ true) cs → count_by (λ c. p c.logged) cs ≡ 0
none-so p never [] h = refl
none-so p never (c ∷ cs) h =
    let here : one (p c.logged) ≡ 0 = ap one (never c.logged h.0) in
    omega (arith, sum_by-cons (λ (d : Carrier). cond (p d.logged) 1 0) c cs, here, none-so p never cs h.1)

none-of : (p : Carried → Bool) → ((c : Carried) → is_whole_one c ≡ true → p c ≡ false) → (cs : List Carrier) → AllByRecursion (λ c. is_whole c.logged ≡ true) cs → count_of p cs ≡ 0
none-of p never cs h = none-so (such p) (such-never p never) cs h where
  such-never : (p : Carried → Bool) → ((c : Carried) → is_whole_one c ≡ true → p c ≡ false) → (l : Logged) → is_whole l ≡ true → such p l ≡ false
  such-never p never (As c) h = never c h
  such-never p never (Mixed a) h = refl

not-mixed : (l : Logged) → is_whole l ≡ true → is_mixed l ≡ false
not-mixed (As c) h = refl
not-mixed (Mixed a) h = cc h

not-cut : (c : Carried) → is_whole_one c ≡ true → is_cut c ≡ false
not-cut (Datagram a span) h = refl
not-cut (Cut a) h = cc h
not-cut (Fragment a) h = refl
not-cut (Malformed a) h = refl
not-cut (Long a) h = refl
not-cut Unknown h = cc h
not-cut Elsewhere h = refl
not-cut Others h = refl

not-fragment : (c : Carried) → is_whole_one c ≡ true → is_fragment c ≡ false
not-fragment (Datagram a span) h = refl
not-fragment (Cut a) h = refl
not-fragment (Fragment a) h = cc h
not-fragment (Malformed a) h = refl
not-fragment (Long a) h = refl
not-fragment Unknown h = refl
not-fragment Elsewhere h = refl
not-fragment Others h = refl

not-malformed : (c : Carried) → is_whole_one c ≡ true → is_malformed c ≡ false
not-malformed (Datagram a span) h = refl
not-malformed (Cut a) h = refl
not-malformed (Fragment a) h = refl
not-malformed (Malformed a) h = cc h
not-malformed (Long a) h = refl
not-malformed Unknown h = refl
not-malformed Elsewhere h = refl
not-malformed Others h = refl

not-long : (c : Carried) → is_whole_one c ≡ true → is_long c ≡ false
not-long (Datagram a span) h = refl
not-long (Cut a) h = refl
not-long (Fragment a) h = refl
not-long (Malformed a) h = refl
not-long (Long a) h = cc h
not-long Unknown h = refl
not-long Elsewhere h = refl
not-long Others h = refl

pub whole-status : (how : Manner) (cs : List Carrier) → AllByRecursion (λ c. is_whole c.logged ≡ true) cs → counted_status (counts_of how cs) ≡ Done
whole-status how cs h = rw (none-of is_cut not-cut cs h, none-of is_fragment not-fragment cs h, none-of is_malformed not-malformed cs h, none-of is_long not-long cs h, none-so is_mixed not-mixed cs h) refl

-- ---- files

-- the datagrams of files and of one more
pub have-more : (how : Manner) (files : List File) (file : File) (xs ys : List Captured) → HaveDatagrams how files xs → HasDatagrams how file ys →
    HaveDatagrams how (files ++ file ∷ []) (xs ++ ys)
have-more how [] file xs ys e h = (ys, [], h, refl, ap (λ l. l ++ ys) e ∙ sym (append-nil ys))
have-more how (f ∷ files) file xs ys (first, rest, has, have, e) h = (first, rest ++ ys, has, have-more how files file rest ys have h, ap (λ l. l ++ ys) e ∙ append_assoc first rest ys)

-- what packet_bytes of rip_capture says
pub record PacketBytes : Type 0 where
  pub right : (file : List ℕ) (frames : List Frame) → IsCapture file frames → Bytes file → AllByRecursion (λ f. Bytes f.bytes) frames
  pub fault : (file : List ℕ) (frames : List Frame) (code : CaptureCode) (at : ℕ) → CaptureFault file frames code at → Bytes file → AllByRecursion (λ f. Bytes f.bytes) frames

of-frames : (cs : List Carrier) → AllByRecursion (λ f. Bytes f.bytes) (map (λ c. c.frame) cs) → AllByRecursion (λ c. Bytes c.frame.bytes) cs
of-frames [] h = tt
of-frames (c ∷ cs) h = (h.0, of-frames cs h.1)

abbrev IsByte : ℕ → Type 0
IsByte b = b < 256

module _ (packet_bytes : PacketBytes) (origins : SomeOrigin) where
  -- no line has a time where none was asked for
  untimed : (how : Manner) (cs : List Carrier) → how.times ≡ false → AllByRecursion (λ c. IsTimed (is_timed how c.logged) c.frame c.time) cs → AllByRecursion (λ c. c.time ≡ None) cs
  untimed how [] plain h = tt
  untimed how (c ∷ cs) plain h =
      let off : is_timed how c.logged ≡ false = rw plain refl in
      let none : h.0.micros ≡ None = h.0.none off in
      (rw none at h.0.shown, untimed how cs plain h.1)

  without-times : (how : Manner) (selection : Selection) (cs : List Carrier) → how.times ≡ false → AreCarriers how selection cs → AllByRecursion (λ c. c.time ≡ None) cs
  without-times how selection cs plain are = untimed how cs plain are.timed

  no-times : (span : Option (DateTime × DateTime)) (cs : List Carrier) → AllByRecursion (λ c. c.time ≡ None) cs → span_behind span cs ≡ span
  no-times span [] h = refl
  no-times span (c ∷ cs) h = ap (λ (o : Option DateTime). span_behind (span_with span o) cs) h.0 ∙ no-times span cs h.1

  senders : (how : Manner) (selection : Selection) (cs : List Carrier) → AllByRecursion (λ c. Bytes c.frame.bytes) cs → AreCarriers how selection cs → AllByRecursion (λ c. HasSender c.logged) cs
  senders how selection cs bytes are = senders-logged selection None cs bytes are.carry are.logged

  refused-bytes : (how : Manner) (selection : Selection) (lines : ℕ) (b : List ℕ) (cs : List Carrier) (code : RefusalCode) (at : ℕ) → IsRefusedAt how selection lines b cs code at → Bytes b → AllByRecursion (λ c. Bytes c.frame.bytes) cs
  refused-bytes how selection lines b cs code at (fault c found carry few is) h = of-frames cs (packet_bytes.fault b (map (λ c. c.frame) cs) c at found h)
  refused-bytes how selection lines b cs code at (packet front bytes rest next is_next split has timed count place is) h =
      of-frames cs (packet_bytes.right front (map (λ c. c.frame) cs) is_next.before.capture (all-left IsByte front bytes (all-left IsByte (front ++ bytes) rest (subst Bytes split h))))
  refused-bytes how selection lines b cs code at (timeless front bytes rest next is_next split lacks few place is) h =
      of-frames cs (packet_bytes.right front (map (λ c. c.frame) cs) is_next.before.capture (all-left IsByte front bytes (all-left IsByte (front ++ bytes) rest (subst Bytes split h))))
  refused-bytes how selection lines b cs code at (comment right count place is) h = of-frames cs (packet_bytes.right b (map (λ c. c.frame) cs) right.capture h)

  refused-carry : (how : Manner) (selection : Selection) (lines : ℕ) (b : List ℕ) (cs : List Carrier) (code : RefusalCode) (at : ℕ) → IsRefusedAt how selection lines b cs code at → AreCarriers how selection cs
  refused-carry how selection lines b cs code at (fault c found carry few is) = carry
  refused-carry how selection lines b cs code at (packet front bytes rest next is_next split has timed count place is) = is_next.before.are
  refused-carry how selection lines b cs code at (timeless front bytes rest next is_next split lacks few place is) = is_next.before.are
  refused-carry how selection lines b cs code at (comment right count place is) = right.are

  begun-bytes : (how : Manner) (selection : Selection) (b : List ℕ) (cs : List Carrier) → BeginsWith how selection b cs → Bytes b → AllByRecursion (λ c. Bytes c.frame.bytes) cs
  begun-bytes how selection b cs (nothing e) h = subst (AllByRecursion (λ (c : Carrier). Bytes c.frame.bytes)) (sym e) tt
  begun-bytes how selection b cs (something front rest split right) h = of-frames cs (packet_bytes.right front (map (λ c. c.frame) cs) right.capture (all-left IsByte front rest (subst Bytes split h)))

  begun-carry : (how : Manner) (selection : Selection) (b : List ℕ) (cs : List Carrier) → BeginsWith how selection b cs → AreCarriers how selection cs
  begun-carry how selection b cs (nothing e) = subst (AreCarriers how selection) (sym e) (record { carry = tt; logged = tt; timed = tt })
  begun-carry how selection b cs (something front rest split right) = right.are

  module _ (names : (t : List ℕ) → (is_name t ≡ true) ↔ IsName t) (addresses : (t : List ℕ) (a : ℕ) → (address_in t ≡ Some a) ↔ ((a < 2 ^ 32) × (t ≡ address_text a))) where
    -- a file is whole, and says its datagrams
    pub record FileSays (how : Manner) (file : File) (answer : Result Status RunError) (rest : List ℕ) (records : List Numbered) : Type 0 where
      pub done : answer ≡ Ok Done
      pub captures : List Captured
      pub has : HasDatagrams how file captures
      pub says : Says rest records captures

    pub file-says : (how : Manner) (n k lines : ℕ) (file : File) (text : List ℕ) (after : ℕ) (answer : Result Status RunError) (rest : List ℕ) (records : List Numbered) → how.times ≡ false → IsFile file
        → FileText how k lines file.part file.bytes text after answer → Reads n (text ++ rest) records → FileSays how file answer rest records
    file-says how n k lines file text after answer rest records plain is (whole cs right count few e f) reads =
        let link = file.part.link in
        let selection = file.part.selection in
        let bare = without-times how selection cs plain right.are in
        let c = comment_line k link (counts_of how cs) None in
        let same : comment_line k link (counts_of how cs) (span_of cs) ≡ c = ap (comment_line k link (counts_of how cs)) (no-times None cs bare) in
        let bytes = of-frames cs (packet_bytes.right file.bytes (map (λ c. c.frame) cs) right.capture is.bytes) in
        let say = packets-say names addresses how n link cs (c ++ rest) records is.name bare (senders how selection cs bytes right.are) bytes
        (subst (λ l. Reads n l records) (ap (λ l. l ++ rest) (e ∙ ap (λ l. packet_lines how link cs ++ l) same) ∙ append_assoc (packet_lines how link cs) c rest) reads) in
        let says = say.says in
        record {
          done = f ∙ ap Ok (whole-status how cs say.whole);
          captures = flat_map (λ c. datagram_in how.authentication link c.frame.bytes c.logged) cs;
          has = record { carriers = cs; capture = right; whole = say.whole; own = own-all origins selection None cs right.are.logged; datagrams = refl };
          says = record {
            lines = says.lines + 1;
            front = says.front;
            later = says.later;
            whole = says.whole;
            said = says.said;
            reads = comment-skipped says.lines k link (counts_of how cs) rest says.later is.name says.reads;
          };
        }
    file-says how n k lines file text after answer rest records plain is (refused cs code at found e f) reads =
        let link = file.part.link in
        let selection = file.part.selection in
        let bad = file_refusal_line k link code at in
        let bytes = refused-bytes how selection lines file.bytes cs code at found is.bytes in
        let say = packets-say names addresses how n link cs (bad ++ rest) records is.name (without-times how selection cs plain (refused-carry how selection lines file.bytes cs code at found)) (senders how selection cs bytes (refused-carry how selection lines file.bytes cs code at found)) bytes
        (subst (λ l. Reads n l records) (ap (λ l. l ++ rest) e ∙ append_assoc (packet_lines how link cs) bad rest) reads) in
        absurd (refusal-bad say.says.lines k link code at rest say.says.later is.name say.says.reads)
    file-says how n k lines file text after answer rest records plain is (unread cs begun few e f) reads =
        let link = file.part.link in
        let selection = file.part.selection in
        let bad = line (codes "failed: read") in
        let bytes = begun-bytes how selection file.bytes cs begun is.bytes in
        let say = packets-say names addresses how n link cs (bad ++ rest) records is.name (without-times how selection cs plain (begun-carry how selection file.bytes cs begun)) (senders how selection cs bytes (begun-carry how selection file.bytes cs begun)) bytes
        (subst (λ l. Reads n l records) (ap (λ l. l ++ rest) e ∙ append_assoc (packet_lines how link cs) bad rest) reads) in
        absurd (failed-bad say.says.lines (codes "failed: read") rest say.says.later (tested 32 (codes "failed: read") refl) refl say.says.reads)
    file-says how n k lines file text after answer rest records plain is (memory e f) reads =
        absurd (failed-bad n (codes "failed: memory") rest records (tested 32 (codes "failed: memory") refl) refl (subst (λ l. Reads n (l ++ rest) records) e reads))

    -- ---- logs

    ok-of : {s t : Status} → ◌≡◌ {A = Result Status RunError} (Ok s) (Ok t) → s ≡ t
    ok-of e = cc e

    pub record FilesSay (how : Manner) (files : List File) (status : Status) (rest : List ℕ) (records : List Numbered) : Type 0 where
      pub done : status ≡ Done
      pub captures : List Captured
      pub have : HaveDatagrams how files captures
      pub says : Says rest records captures

    pub files-say : (how : Manner) (files : List File) (text : List ℕ) (lines : ℕ) (status : Status) (rest : List ℕ) (records : List Numbered) → how.times ≡ false → AllByRecursion IsFile files
        → SoFar how files text lines status → Reads 0 (text ++ rest) records → FilesSay how files status rest records
    files-say how files text lines status rest records plain are none reads = record { done = refl; captures = []; have = refl; says = says-none 0 rest records reads }
    files-say how _ _ _ _ rest records plain are (more files file text part lines after before status so_far go_on is) reads =
        let behind = part ++ rest in
        let front = files-say how files text lines before behind records plain (all-left IsFile files (file ∷ []) are) so_far (subst (λ l. Reads 0 l records) (append_assoc text part rest) reads) in
        let last = file-says how front.says.lines (length files + 1) lines file part after (Ok status) rest front.says.later plain (all-right IsFile files (file ∷ []) are).0 is front.says.reads in
        record {
          done = ap (λ s. worse s status) front.done ∙ ok-of last.done;
          captures = front.captures ++ last.captures;
          have = have-more how files file front.captures last.captures front.have last.has;
          says = says-more behind rest records front.captures last.captures front.says last.says;
        }

    -- at the end of a text nothing is left
    pub at-end : (n : ℕ) (records : List Numbered) → Reads n [] records → records ≡ []
    at-end n records e = sym (ap (λ (l : Log). l.records) e)

    pub log-says : (how : Manner) (files : List File) (text : List ℕ) (answer : Result Status RunError) (records : List Numbered) → how.times ≡ false → AllByRecursion IsFile files → LogOf how files text answer →
        Reads 0 text records
        → (answer ≡ Ok Done) × HaveDatagrams how files (map (λ r. r.capture) records)
    log-says how files text answer records plain are (all lines status so_far f) reads =
        let say = files-say how files text lines status [] records plain are so_far (subst (λ l. Reads 0 l records) (sym (append-nil text)) reads) in
        let says = say.says in
        let whole = says.whole ∙ ap (λ l. says.front ++ l) (at-end says.lines says.later says.reads) ∙ append-nil says.front in
        (f ∙ ap Ok say.done, subst (HaveDatagrams how files) (sym (ap (map (λ (r : Numbered). r.capture)) whole ∙ says.said)) say.have)
    log-says how files text answer records plain are (stopped before after file front part lines more_lines status so_far is stop e f) reads =
        let good = subst (AllByRecursion IsFile) e are in
        let say = files-say how before front lines status part records plain (all-left IsFile before (file ∷ after) good) so_far (subst (λ l. Reads 0 l records) f reads) in
        let last = file-says how say.says.lines (length before + 1) lines file part more_lines answer [] say.says.later plain (all-right IsFile before (file ∷ after) good).0 is
        (subst (λ l. Reads say.says.lines l say.says.later) (sym (append-nil part)) say.says.reads) in
        absurd (not-done stop last.done) where
          not-done : (answer ≡ Ok Refused) ⊎ (is_err answer ≡ true) → answer ≡ Ok Done → ⊥
          not-done (inl e) f = cc (e, f)
          not-done (inr e) f = cc (e, ap is_err f)

    pub file-records : (how : Manner) (k lines : ℕ) (file : File) (text : List ℕ) (after : ℕ) (answer : Result Status RunError) (records : List Numbered) → how.times ≡ false → IsFile file
        → FileText how k lines file.part file.bytes text after answer → Reads 0 text records → (answer ≡ Ok Done) × HasDatagrams how file (map (λ r. r.capture) records)
    file-records how k lines file text after answer records plain is file_text reads =
        let say = file-says how 0 k lines file text after answer [] records plain is file_text (subst (λ l. Reads 0 l records) (sym (append-nil text)) reads) in
        let says = say.says in
        let whole = says.whole ∙ ap (λ l. says.front ++ l) (at-end says.lines says.later says.reads) ∙ append-nil says.front in
        (say.done, subst (HasDatagrams how file) (sym (ap (map (λ (r : Numbered). r.capture)) whole ∙ says.said)) say.has)

-- ---- where a text ends

ends-line : (front text : List ℕ) → EndsLine (front ++ line text)
ends-line front text = inr (front ++ text, sym (append_assoc front text (10 ∷ [])))

pub text-ends : (how : Manner) (k lines : ℕ) (part : Part) (b text : List ℕ) (after : ℕ) (answer : Result Status RunError) → FileText how k lines part b text after answer → EndsLine text
unfolding file_refusal_line
text-ends how k lines part b text after answer (whole cs right count few e f) = subst EndsLine (sym e) (ends-line (packet_lines how part.link cs) _)
text-ends how k lines part b text after answer (refused cs code at found e f) =
    subst EndsLine (sym e)
    (ends-line (packet_lines how part.link cs) (codes "refused: " ++ file_part k part.link ++ codes ": " ++ refusal_code_text code ++ codes " at " ++ decimal at))
text-ends how k lines part b text after answer (unread cs begun few e f) = subst EndsLine (sym e) (ends-line (packet_lines how part.link cs) (codes "failed: read"))
text-ends how k lines part b text after answer (memory e f) = subst EndsLine (sym e) (inr (codes "failed: memory", refl))
