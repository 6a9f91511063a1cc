-- From the parts of a run to what it adds of a file to a log.
use Rattle.std.proofs.Common.{◌≡◌, ◌≢◌, ◌⊎◌, ◌+◌, ◌^◌, ◌≤◌, ◌∙◌, ℕ, Bool, true, Option, List, [], ◌∷◌, ◌++◌, Result, Ok, Err, length, map, ap, sym, refl, inl, inr, is_err, subst, arith, append_assoc, append-nil}
use Rattle.std.proofs.lemmas.Bool.{false≢true}
use Rattle.std.proofs.lemmas.List.{append_cancel_left, length-append}
use Rattle.rip_log.specs.Taken.{Taken, Took}
use Rattle.rip_log.specs.Wholes.{Begins}
use Rattle.rip_capture.specs.Captures.{CaptureFault, HasNoMore, IsCapture, IsRead}
use Rattle.rip_capture.specs.Captures.IsRead.{none as nothing_read, capture as capture_read}
use Rattle.rip_capture.specs.NextCall.{EndsHere, HasRead, IsFar, Stands, held_by, section_by, source_of}
use Rattle.rip_capture.specs.Pcap.{Frame}
use Rattle.rip_capture.specs.Pcapng.{Section}
use Rattle.rip_capture.specs.declared.error.CaptureCode.{CaptureCode}
use Rattle.rip_capture.specs.declared.error.CaptureCode.TheVariants.{Magic, Cut, Version, LinkType as NoLinkType, Length, Interface, OldPacket, Read as NoRead}
use Rattle.rip_capture.specs.declared.reader.CaptureReader.{CaptureReader}
use Rattle.rip_capture.specs.declared.reader.Format.{Format}
use Rattle.rip_report.specs.Finished.{EndsWith}
use Rattle.rip_report.specs.CaptureLogs.{AddsFile, AddsUnread, BeginsWith, File, FileText, Follows, GoesOn, IsLogOf, IsRefusedAt, LogOf, SoFar, worse}
use Rattle.rip_report.specs.CaptureLogs.LogOf.{stopped}
use Rattle.rip_report.specs.CaptureLogs.SoFar.{more}
use Rattle.rip_report.specs.CaptureLogs.BeginsWith.{none, some}
use Rattle.rip_report.specs.CaptureLogs.FileFront.{text as whole_front, packets as some_packets}
use Rattle.rip_report.specs.CaptureLogs.FileText.{whole, refused, unread, memory}
use Rattle.rip_report.specs.CaptureLogs.IsRefusedAt.{fault, packet, comment, time as timeless}
use Rattle.rip_report.specs.CapturePackets.{ClosesFile, EndsSo}
use Rattle.rip_report.specs.Outs.{Adds, Progress}
use Rattle.rip_report.specs.Sent.{SinkState, sink_state}
use Rattle.rip_report.specs.LineTimes.{span_of}
use Rattle.rip_report.specs.CaptureText.{AreCarriers, comment_line, counted_status, line_count, packet_lines}
use Rattle.rip_report.specs.Selections.{Carrier, Part, Selection}
use Rattle.rip_report.specs.Statuses.{fault_line_of}
use Rattle.rip_report.specs.Written.{line}
use Rattle.rip_report.specs.declared.captures.manner.Manner.{Manner}
use Rattle.rip_report.specs.declared.captures.ending.Ending.{Ending}
use Rattle.rip_report.specs.declared.captures.ending.Ending.TheVariants.{Whole, Refused, Unread, Unwritten}
use Rattle.rip_report.specs.declared.captures.ending.RefusalCode.TheVariants.{Capture, Time, TooManyLines}
use Rattle.rip_report.specs.declared.captures.log.CaptureLog.{CaptureLog}
use Rattle.rip_report.specs.declared.status.RunError.{RunError}
use Rattle.rip_report.specs.declared.status.RunError.TheVariants.{Memory, Read, Write}
use Rattle.rip_report.specs.declared.status.Status.{Status}
use Rattle.rip_report.specs.declared.status.Status.TheVariants.{Done, Refused as RefusedFile, Settled, Unclear, Unsettled}
use Rattle.rip_report.proofs.CaptureLemmas.{frames-snoc, length-snoc}

-- a fault is one whatever follows, but for a cut
abbrev Early : Type 0
Early = (file more : List ℕ) (frames : List Frame) (code : CaptureCode) (at : ℕ) → code ≢ Cut → CaptureFault file frames code at → CaptureFault (file ++ more) frames code at

-- what a reader has read is a capture
abbrev ReadCaptures : Type 0
ReadCaptures = (format : Option Format) (now : Section) (taken : List ℕ) (frames : List Frame) → HasRead format now taken frames → IsRead taken frames

-- the text of a file is what was taken, what is held, and what is left
text-split : (before taken held gave left bytes : List ℕ) → gave ≡ before ++ taken ++ held → before ++ bytes ≡ gave ++ left → bytes ≡ (taken ++ held) ++ left
text-split before taken held gave left bytes e f =
    append_cancel_left before bytes ((taken ++ held) ++ left)
    (f ∙ ap (λ l. l ++ left) (e ∙ append_assoc before taken held) ∙ append_assoc before (taken ++ held) left)

no-frames : (cs : List Carrier) → map (λ c. c.frame) cs ≡ [] → cs ≡ []
no-frames [] e = refl
no-frames (c ∷ cs) e = cc e

-- what was read of a file is a beginning of it
begins-read : (how : Manner) (selection : Selection) (cs : List Carrier) (bytes front rest : List ℕ) → AreCarriers how selection cs → IsRead front (map (λ c. c.frame) cs) → bytes ≡ front ++ rest → BeginsWith how selection bytes cs
begins-read how selection cs bytes front rest carry (nothing_read empty none_of) split = none (no-frames cs none_of)
begins-read how selection cs bytes front rest carry (capture_read is) split = some front rest split (record { capture = is; are = carry })

module _ {R : Type 0} (given : R → List ℕ) (at_end : R → Bool) (before bytes : List ℕ) (reader : CaptureReader R)
    (text : Begins (before ++ bytes) (given (source_of reader)) (at_end (source_of reader))) where
  split-by : (front rest : List ℕ) → given (source_of reader) ≡ before ++ front ++ rest → bytes ≡ (front ++ rest) ++ text.left
  split-by front rest gave = text-split before front rest (given (source_of reader)) text.left bytes gave text.split

  split-at : (taken : List ℕ) (frames : List Frame) → Stands given before reader taken frames → bytes ≡ (taken ++ held_by reader) ++ text.left
  split-at taken frames s = split-by taken (held_by reader) s.gave

  -- at the end of a file nothing is held or left
  whole-is : (frames : List Frame) (h : EndsHere given at_end before frames reader) → bytes ≡ h.file
  whole-is frames h =
      split-at h.file frames h.stands ∙ ap (λ l. (h.file ++ held_by reader) ++ l) (text.ended h.ended) ∙ append-nil (h.file ++ held_by reader)
      ∙ ap (λ l. h.file ++ l) h.all ∙ append-nil h.file

  -- what was read is a beginning of the file
  begins-by : (how : Manner) (selection : Selection) (cs : List Carrier) (front rest : List ℕ) → AreCarriers how selection cs → IsRead front (map (λ c. c.frame) cs) → given (source_of reader) ≡ before ++ front ++ rest → BeginsWith how selection bytes cs
  begins-by how selection cs front rest carry read gave = begins-read how selection cs bytes front (rest ++ text.left) carry read (split-by front rest gave ∙ append_assoc front rest text.left)

  -- a file that is refused by its fault
  fault-by : Early → (frames : List Frame) (front rest : List ℕ) (code : CaptureCode) (at : ℕ) → given (source_of reader) ≡ before ++ front ++ rest → CaptureFault (front ++ rest) frames code at
      → (code ≡ Cut → at_end (source_of reader) ≡ true) → CaptureFault bytes frames code at
  fault-by early frames front rest code at gave found ended = by_code code found ended where
    is : bytes ≡ (front ++ rest) ++ text.left
    is = split-by front rest gave

    later : (code : CaptureCode) → code ≢ Cut → CaptureFault (front ++ rest) frames code at → CaptureFault bytes frames code at
    later code other found = subst (λ l. CaptureFault l frames code at) (sym is) (early (front ++ rest) text.left frames code at other found)

    by_code : (code : CaptureCode) → CaptureFault (front ++ rest) frames code at → (code ≡ Cut → at_end (source_of reader) ≡ true) → CaptureFault bytes frames code at
    by_code Cut found ended = subst (λ l. CaptureFault l frames Cut at) (sym (is ∙ ap (λ l. (front ++ rest) ++ l) (text.ended (ended refl)) ∙ append-nil (front ++ rest))) found
    by_code Magic found ended = later Magic (λ e. cc e) found
    by_code Version found ended = later Version (λ e. cc e) found
    by_code NoLinkType found ended = later NoLinkType (λ e. cc e) found
    by_code Length found ended = later Length (λ e. cc e) found
    by_code Interface found ended = later Interface (λ e. cc e) found
    by_code OldPacket found ended = later OldPacket (λ e. cc e) found
    by_code NoRead found ended = later NoRead (λ e. cc e) found

  -- a file that is refused since the log has no room
  many-by : (how : Manner) (selection : Selection) (lines : ℕ) (cs : List Carrier) (at : ℕ) (out : Progress) → AreCarriers how selection cs →
      EndsSo given at_end how selection before lines cs reader out (Refused TooManyLines at)
      → IsRefusedAt how selection lines bytes cs TooManyLines at
  many-by how selection lines cs at out carry (count, inl (next, is, logged, takes, has, timed)) =
      packet takes.front takes.bytes (held_by reader ++ text.left) next
      (record { before = record { capture = takes.right; are = carry }; longer = subst (λ (fs : List Frame). IsCapture (takes.front ++ takes.bytes) fs) (sym (frames-snoc cs next)) takes.longer; behind = takes.next; carries = is; logged = logged })
      (split-at (takes.front ++ takes.bytes) (map (λ c. c.frame) cs ++ next.frame ∷ []) takes.stands ∙ append_assoc (takes.front ++ takes.bytes) (held_by reader) text.left)
      has timed count takes.place_is refl
  many-by how selection lines cs at out carry (count, inr (here, place)) =
      let is = whole-is (map (λ c. c.frame) cs) here in
      comment (record { capture = subst (λ l. IsCapture l (map (λ c. c.frame) cs)) (sym is) here.right; are = carry })
      count (place ∙ here.stands.position ∙ ap length (sym is)) refl

  -- a file that is refused since a packet has no time
  timeless-by : (how : Manner) (selection : Selection) (lines : ℕ) (cs : List Carrier) (at : ℕ) (out : Progress) → AreCarriers how selection cs → lines + line_count cs ≤ 1000000 →
      EndsSo given at_end how selection before lines cs reader out (Refused Time at)
      → IsRefusedAt how selection lines bytes cs Time at
  timeless-by how selection lines cs at out carry few (next, is, logged, takes, lacks) =
      timeless takes.front takes.bytes (held_by reader ++ text.left) next
      (record { before = record { capture = takes.right; are = carry }; longer = subst (λ (fs : List Frame). IsCapture (takes.front ++ takes.bytes) fs) (sym (frames-snoc cs next)) takes.longer; behind = takes.next; carries = is; logged = logged })
      (split-at (takes.front ++ takes.bytes) (map (λ c. c.frame) cs ++ next.frame ∷ []) takes.stands ∙ append_assoc (takes.front ++ takes.bytes) (held_by reader) text.left)
      lacks few takes.place_is refl

-- a run that wrote the text of a file, and then ends, has added it
module _ {K : Type 0} (taken : K → Taken) (broken : K → Bool) (old new : K) (before after : CaptureLog) (part : Part) (bytes : List ℕ) where
  pub adds-text : (text : List ℕ) (lines : ℕ) (answer result : Result Status RunError) → EndsWith (sink_state taken broken old) (sink_state taken broken new) text answer result
      → FileText before.manner (before.files + 1) before.lines part bytes text lines answer → Follows before after lines result → AddsFile taken broken old new before after part bytes result
  adds-text text lines answer result ends is follows = record {
    kept = λ e is_error. subst (Follows before after lines) is_error follows;
    text = λ h. let out = ends.out h in (text, lines, subst (λ r. FileText before.manner (before.files + 1) before.lines part bytes text lines r) (sym out.0) is, out.1, follows);
    write = λ e. let h = ends.write e in (h.0, (text, whole_front lines answer is, h.1));
    sink = ends.sink;
  }

  pub not-followed : (text : List ℕ) (lines : ℕ) (answer result : Result Status RunError) → (answer ≡ Ok RefusedFile) ⊎ (is_err answer ≡ true) → EndsWith (sink_state taken broken old) (sink_state taken broken new) text answer result →
      after ≡ before → Follows before after lines result
  not-followed text lines answer (Err e) h ends same = same
  not-followed text lines answer (Ok s) (inl e) ends same =
      let is : s ≡ RefusedFile = cc ((ends.out (λ f. cc f)).0, e) in
      subst (λ (t : Status). Follows before after lines (Ok t)) (sym is) same
  not-followed text lines answer (Ok s) (inr e) ends same = absurd (false≢true (ap is_err (ends.out (λ f. cc f)).0 ∙ e))

module _ {R K : Type 0} (given : R → List ℕ) (at_end : R → Bool) (start bytes : List ℕ) (reader : CaptureReader R)
    (text : Begins (start ++ bytes) (given (source_of reader)) (at_end (source_of reader)))
    (taken : K → Taken) (broken : K → Bool) (old new : K) (before after : CaptureLog) (part : Part) (out : Progress) (early : Early) (captures : ReadCaptures)
    (cs : List Carrier) (carry : AreCarriers before.manner part.selection cs) (few : before.lines + line_count cs ≤ 1000000) where
  pub adds-file : (ending : Ending) (result : Result Status RunError) → EndsSo given at_end before.manner part.selection start before.lines cs reader out ending
      → ClosesFile (sink_state taken broken old) (sink_state taken broken new) before after part.link (packet_lines before.manner part.link cs) ending result → AddsFile taken broken old new before after part bytes result
  adds-file (Whole tally) result (here, counts, count, room, span) (ends, answers, follows) =
      let is = whole-is given at_end start bytes reader text (map (λ c. c.frame) cs) here in
      adds-text taken broken old new before after part bytes _ (tally.lines + 1) _ result (ends (span_of cs) span)
      (whole cs (record { capture = subst (λ l. IsCapture l (map (λ c. c.frame) cs)) (sym is) here.right; are = carry }) (omega (arith, count)) (omega (arith, room))
      (ap (λ n. packet_lines before.manner part.link cs ++ comment_line (before.files + 1) part.link n (span_of cs)) counts) (ap (λ n. Ok (counted_status n)) counts)) follows
  adds-file (Refused (Capture code) at) result (stops, calm) (ends, same) =
      let found = fault-by given at_end start bytes reader text early (map (λ c. c.frame) cs) stops.front stops.rest code at stops.gave (stops.fault calm) stops.ended in
      adds-text taken broken old new before after part bytes _ 0 _ result ends
      (refused cs (Capture code) at (fault code found carry few refl) refl refl) (not-followed taken broken old new before after part bytes _ 0 _ result (inl refl) ends same)
  adds-file (Refused TooManyLines at) result ends_so (ends, same) =
      adds-text taken broken old new before after part bytes _ 0 _ result ends
      (refused cs TooManyLines at (many-by given at_end start bytes reader text before.manner part.selection before.lines cs at out carry ends_so) refl refl)
      (not-followed taken broken old new before after part bytes _ 0 _ result (inl refl) ends same)
  adds-file (Refused Time at) result ends_so (ends, same) =
      adds-text taken broken old new before after part bytes _ 0 _ result ends
      (refused cs Time at (timeless-by given at_end start bytes reader text before.manner part.selection before.lines cs at out carry few ends_so) refl refl)
      (not-followed taken broken old new before after part bytes _ 0 _ result (inl refl) ends same)
  adds-file Unread result (error, stops, failed) (ends, same) =
      adds-text taken broken old new before after part bytes _ 0 _ result ends
      (unread cs (begins-by given at_end start bytes reader text before.manner part.selection cs stops.front stops.rest carry stops.read stops.gave) few refl refl)
      (not-followed taken broken old new before after part bytes _ 0 _ result (inr refl) ends same)
  adds-file Unwritten result (failed, (so_far, stands)) (is, sink, began, same) = record {
    text = λ h. absurd (h is);
    write = λ e. (
      sink,
      (
        packet_lines before.manner part.link cs,
        some_packets cs
            (begins-by given at_end start bytes reader text before.manner part.selection cs so_far (held_by reader) carry
            (captures reader.format (section_by reader) so_far (map (λ c. c.frame) cs) stands.read) stands.gave) few refl,
        began,
      ),
    );
    sink = λ h. absurd (h is);
    kept = λ e is_error. same;
  }

-- a run that ends with Read had a source that failed
pub unread-only : {K : Type 0} (taken : K → Taken) (broken : K → Bool) (old new : K) (before after : CaptureLog) (link text : List ℕ) (ending : Ending) (result : Result Status RunError)
    → ClosesFile (sink_state taken broken old) (sink_state taken broken new) before after link text ending result → result ≡ Err Read → ending ≡ Unread
unread-only taken broken old new before after link text (Whole tally) result (ends, answers, follows) e = absurd (cc (answers (λ f. cc (e, f)), e))
unread-only taken broken old new before after link text (Refused (Capture code) at) result (ends, same) e = absurd (cc ((ends.out (λ f. cc (e, f))).0, e))
unread-only taken broken old new before after link text (Refused TooManyLines at) result (ends, same) e = absurd (cc ((ends.out (λ f. cc (e, f))).0, e))
unread-only taken broken old new before after link text (Refused Time at) result (ends, same) e = absurd (cc ((ends.out (λ f. cc (e, f))).0, e))
unread-only taken broken old new before after link text Unread result h e = refl
unread-only taken broken old new before after link text Unwritten result (is, sink, began, same) e = absurd (cc (is, e))

-- no run that began a file ends with Memory
pub never-memory : {K : Type 0} (taken : K → Taken) (broken : K → Bool) (old new : K) (before after : CaptureLog) (link text : List ℕ) (ending : Ending) (result : Result Status RunError)
    → ClosesFile (sink_state taken broken old) (sink_state taken broken new) before after link text ending result → result ≡ Err Memory → ⊥
never-memory taken broken old new before after link text (Whole tally) result (ends, answers, follows) e = cc (answers (λ f. cc (e, f)), e)
never-memory taken broken old new before after link text (Refused (Capture code) at) result (ends, same) e = cc ((ends.out (λ f. cc (e, f))).0, e)
never-memory taken broken old new before after link text (Refused TooManyLines at) result (ends, same) e = cc ((ends.out (λ f. cc (e, f))).0, e)
never-memory taken broken old new before after link text (Refused Time at) result (ends, same) e = cc ((ends.out (λ f. cc (e, f))).0, e)
never-memory taken broken old new before after link text Unread result (ends, same) e = cc ((ends.out (λ f. cc (e, f))).0, e)
never-memory taken broken old new before after link text Unwritten result (is, sink, began, same) e = cc (is, e)

module _ {R : Type 0} (given : R → List ℕ) (at_end : R → Bool) (start bytes : List ℕ) (reader : CaptureReader R)
    (text : Begins (start ++ bytes) (given (source_of reader)) (at_end (source_of reader))) (how : Manner) (selection : Selection) (lines : ℕ) (out : Progress) (cs : List Carrier) where
  -- or the file is longer than offsets go
  pub far-bytes : EndsSo given at_end how selection start lines cs reader out Unread → IsFar reader → 2 ^ 64 ≤ length bytes + 2 ^ 32
  far-bytes (error, stops, failed) far =
      let is = split-by given at_end start bytes reader text stops.front stops.rest stops.gave in
      let size : length bytes ≡ length stops.front + length (stops.rest ++ text.left) =
      ap length (is ∙ append_assoc stops.front stops.rest text.left) ∙ length-append stops.front (stops.rest ++ text.left) in
      omega (arith, size, stops.position, far)

-- what went out where the source failed has each packet that it gave whole
pub adds-unread : {R K : Type 0} (given : R → List ℕ) (at_end : R → Bool) (start bytes : List ℕ) (reader : CaptureReader R) (taken : K → Taken) (broken : K → Bool) (old new : K)
    (before after : CaptureLog) (part : Part) (lines : ℕ) (out : Progress) (cs : List Carrier)
    → AreCarriers before.manner part.selection cs → given (source_of reader) ≡ start ++ bytes → EndsSo given at_end before.manner part.selection start lines cs reader out Unread → (result : Result Status RunError)
    → ClosesFile (sink_state taken broken old) (sink_state taken broken new) before after part.link (packet_lines before.manner part.link cs) Unread result
    → result ≡ Err Read → AddsUnread taken old new before.manner part bytes
adds-unread given at_end start bytes reader taken broken old new before after part lines out cs carry gave (error, stops, failed) result (ends, same) e =
    let is : bytes ≡ stops.front ++ stops.rest = append_cancel_left start bytes (stops.front ++ stops.rest) (sym gave ∙ stops.gave ∙ append_assoc start stops.front stops.rest) in
    record {
      carriers = cs;
      begins = begins-read before.manner part.selection cs bytes stops.front stops.rest carry stops.read is;
      all = elim (stops.all failed) [
        | inl no_more ↦ inl (subst (λ (l : List ℕ). HasNoMore l (map (λ (c : Carrier). c.frame) cs)) (sym is) no_more)
        | inr far ↦ inr (omega (arith, far, stops.position, ap length is, length-append stops.front stops.rest))
      ];
      text = (ends.out (λ f. cc (e, f))).1;
    }

-- the end of a run that added a text to nothing
pub ends-behind : (a new : SinkState) (begun out : Progress) (text : List ℕ) (answer result : Result Status RunError) → begun.start ≡ a → begun.text ≡ [] → Adds begun out text
    → EndsWith out.start new out.text answer result → EndsWith a new text answer result
ends-behind a new begun out text answer result start empty adds ends =
    subst (λ (t : List ℕ). EndsWith a new t answer result) (adds.text ∙ ap (λ (l : List ℕ). l ++ text) empty)
    (subst (λ (m : SinkState). EndsWith m new out.text answer result) (adds.start ∙ start) ends)

-- what the last line of a file leaves, behind the lines that were added to nothing
pub closes-behind : (a new : SinkState) (begun out : Progress) (before after : CaptureLog) (link lines : List ℕ) (ending : Ending) (result : Result Status RunError) → begun.start ≡ a → begun.text ≡ []
    → Adds begun out lines → ClosesFile out.start new before after link out.text ending result → ClosesFile a new before after link lines ending result
closes-behind a new begun out before after link lines ending result start empty adds closes =
    subst (λ (t : List ℕ). ClosesFile a new before after link t ending result) (adds.text ∙ ap (λ (l : List ℕ). l ++ lines) empty)
    (subst (λ (m : SinkState). ClosesFile m new before after link out.text ending result) (adds.start ∙ start) closes)

-- ---- a log that goes on

module _ (before after : CaptureLog) (part : Part) (bytes piece : List ℕ) (lines : ℕ) (files : List File) (text : List ℕ) (is : IsLogOf before files text) where
  stops : (answer : Result Status RunError) → FileText before.manner (before.files + 1) before.lines part bytes piece lines answer → (answer ≡ Ok RefusedFile) ⊎ (is_err answer ≡ true)
      → LogOf before.manner (files ++ record { part = part; bytes = bytes } ∷ []) (text ++ piece) answer
  stops answer file stop = stopped files [] (record { part = part; bytes = bytes }) text piece before.lines lines before.status is.so_far
      (subst (λ n. FileText before.manner (n + 1) before.lines part bytes piece lines answer) is.count file) stop refl refl

  one-more : (status : Status) → status ≢ RefusedFile → FileText before.manner (before.files + 1) before.lines part bytes piece lines (Ok status)
      → (after.manner ≡ before.manner) × (after.files ≡ before.files + 1) × (after.lines ≡ lines) × (after.status ≡ worse before.status status)
      → IsLogOf after (files ++ record { part = part; bytes = bytes } ∷ []) (text ++ piece)
  one-more status good file (same, count, ends, answers) = record {
    count = count ∙ ap (λ n. n + 1) is.count ∙ sym (length-snoc files (record { part = part; bytes = bytes }));
    so_far = subst (λ h. SoFar h (files ++ record { part = part; bytes = bytes } ∷ []) (text ++ piece) after.lines after.status) (sym same)
        (subst (λ n. SoFar before.manner (files ++ record { part = part; bytes = bytes } ∷ []) (text ++ piece) n after.status) (sym ends)
        (subst (λ s. SoFar before.manner (files ++ record { part = part; bytes = bytes } ∷ []) (text ++ piece) lines s) (sym answers)
        (more files (record { part = part; bytes = bytes }) text piece before.lines lines before.status status is.so_far good
        (subst (λ n. FileText before.manner (n + 1) before.lines part bytes piece lines (Ok status)) is.count file))));
  }

  still : (answer : Result Status RunError) → after ≡ before → LogOf before.manner (files ++ record { part = part; bytes = bytes } ∷ []) (text ++ piece) answer
      → LogOf after.manner (files ++ record { part = part; bytes = bytes } ∷ []) (text ++ piece) answer
  still answer same log = subst (λ (l : CaptureLog). LogOf l.manner (files ++ record { part = part; bytes = bytes } ∷ []) (text ++ piece) answer) (sym same) log

  pub goes-on : (answer : Result Status RunError) → FileText before.manner (before.files + 1) before.lines part bytes piece lines answer → Follows before after lines answer
      → GoesOn after (files ++ record { part = part; bytes = bytes } ∷ []) (text ++ piece) answer
  goes-on (Ok RefusedFile) file follows = still (Ok RefusedFile) follows (stops (Ok RefusedFile) file (inl refl))
  goes-on (Ok Done) file follows = one-more Done (λ e. cc e) file follows
  goes-on (Ok Unclear) file follows = one-more Unclear (λ e. cc e) file follows
  goes-on (Ok Settled) file follows = one-more Settled (λ e. cc e) file follows
  goes-on (Ok Unsettled) file follows = one-more Unsettled (λ e. cc e) file follows
  goes-on (Err e) file follows = still (Err e) follows (stops (Err e) file (inr refl))

pub log-goes-on : {K : Type 0} (taken : K → Taken) (broken : K → Bool) (old new : K) (before after : CaptureLog) (part : Part) (bytes : List ℕ) (answer : Result Status RunError) →
    AddsFile taken broken old new before after part bytes answer
    → (files : List File) (text : List ℕ) → IsLogOf before files text → answer ≢ Err Write
    → (piece : List ℕ) × Took (taken old) (taken new) piece × GoesOn after (files ++ record { part = part; bytes = bytes } ∷ []) (text ++ piece) answer
log-goes-on taken broken old new before after part bytes answer adds files text is wrote =
    let out = adds.text wrote in
    (out.0, out.3, goes-on before after part bytes out.0 out.1 files text is answer out.2 out.4)

-- a failure before a file is begun, of which nothing was read
pub failed-text : (error : RunError) → error ≢ Write → (how : Manner) (n lines : ℕ) (part : Part) (bytes : List ℕ) → lines ≤ 1000000 →
    FileText how n lines part bytes (line (fault_line_of error)) lines (Err error)
failed-text Read h how n lines part bytes few = unread [] (none refl) (omega (arith, few)) refl refl
failed-text Write h how n lines part bytes few = absurd (h refl)
failed-text Memory h how n lines part bytes few = memory refl refl

pub failure-goes-on : {K : Type 0} (taken : K → Taken) (broken : K → Bool) (old new : K) (error : RunError) (result : Result Status RunError) → error ≢ Write
    → EndsWith (sink_state taken broken old) (sink_state taken broken new) (line (fault_line_of error)) (Err error) result → (log : CaptureLog) (files : List File) (text : List ℕ) (file : File) → IsLogOf log files text → result ≢ Err Write
    → (piece : List ℕ) × Took (taken old) (taken new) piece × LogOf log.manner (files ++ file ∷ []) (text ++ piece) result
failure-goes-on taken broken old new error result good ends log files text file is wrote =
    let out = ends.out wrote in
    let log_of = stopped files [] file text (line (fault_line_of error)) log.lines log.lines log.status is.so_far (failed-text error good log.manner (length files + 1) log.lines file.part file.bytes log.few)
    (inr refl) refl refl in
    (line (fault_line_of error), out.1, subst (λ r. LogOf log.manner (files ++ file ∷ []) (text ++ line (fault_line_of error)) r) (sym out.0) log_of)
