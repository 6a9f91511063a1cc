-- Digits in parts, and packets one after the other.
use Rattle.std.proofs.Common.{◌≡◌, ◌≢◌, ◌==◌, if◌then◌else◌, inr, ◌+◌, ◌-◌, ◌*◌, ◌/◌, ◌%◌, ◌^◌, ◌<◌, ◌≤◌, ◌∙◌, ℕ, Bool, true, false, cond, Option, None, List, [], ◌∷◌, ◌++◌, length, slice_index, map, ap, sym, refl, arith, append_assoc, append-nil}
use Rattle.std.specs.Prelude.{count_by}
use Rattle.std.specs.List.{AllByRecursion}
use Rattle.std.proofs.lemmas.Bool.{eqb-false, eqb-true}
use Rattle.std.proofs.lemmas.Grind.{flat_map-append}
use Rattle.std.proofs.lemmas.List.{length-append, map-append}
use Rattle.std.proofs.lemmas.List.Sums.{count_by-le-length, sum_by-append, sum_by-cons}
use Rattle.hex.specs.Hex.{encode_lower, encode_with, lower_digits}
use Rattle.rip_capture.specs.Captures.{IsCapture, IsRead}
use Rattle.rip_capture.specs.Captures.IsRead.{none as nothing_read, capture as capture_read}
use Rattle.rip_capture.specs.Codes.{is_read}
use Rattle.rip_capture.specs.NextCall.{EndsHere, IsFar, Stands, StopsAt, held_by, position_of}
use Rattle.rip_capture.specs.Pcap.{Frame}
use Rattle.rip_capture.specs.declared.packet.Carried.{Carried}
use Rattle.rip_capture.specs.declared.packet.Carried.TheVariants.{Cut as CutOff, Datagram, Elsewhere, Fragment, Long, Malformed, Others, Unknown}
use Rattle.rip_capture.specs.declared.error.CaptureCode.{CaptureCode}
use Rattle.rip_capture.specs.declared.error.CaptureCode.TheVariants.{Magic, Cut, Version, LinkType as NoLinkType, Length, Interface, OldPacket, Read}
use Rattle.rip_capture.specs.declared.reader.CaptureReader.{CaptureReader}
use Rattle.rip_report.specs.CapturePackets.{EndsSo, ended_at, ended_by}
use Rattle.rip_report.specs.declared.captures.authentication.Authentication.{Authentication}
use Rattle.rip_report.specs.declared.captures.authentication.Authentication.TheVariants.{AsSent}
use Rattle.rip_report.specs.declared.captures.ending.Ending.TheVariants.{Refused as RefusedFile, Unread, Whole}
use Rattle.rip_report.specs.declared.captures.ending.RefusalCode.TheVariants.{TooManyLines}
use Rattle.rip_report.specs.declared.captures.tally.Tally.{Tally}
use Rattle.rip_report.specs.LineTimes.{AreShown, IsTimed, span_of, time_part}
use Rattle.rip_report.specs.declared.captures.manner.Manner.{Manner}
use Rattle.rip_report.specs.CaptureText.{AreCarriers, HasRoom, count_of, counted, counts_of, has_line, is_cut, is_datagram, is_elsewhere, is_fragment, is_long, is_malformed, is_mixed, is_other, is_timed, line_count, logged_line, mixed_count, omitted_of, one, packet_lines, such}
use Rattle.rip_report.specs.LoggedDatagrams.{nothing_omitted}
use Rattle.rip_report.specs.Selections.{AreLogged, Carrier, IsCarrier, IsLogged, Selection, first_behind, first_with}
use Rattle.rip_report.specs.declared.captures.authentication.Omitted.{Omitted}
use Rattle.rip_report.specs.declared.captures.logged.Logged.{Logged}
use Rattle.rip_report.specs.declared.captures.logged.Logged.TheVariants.{As, Mixed}
use Rattle.rip_report.proofs.OutLemmas.{adds_same, adds_then}
use Rattle.rip_report.specs.Outs.{Adds, Progress}
use Rattle.rip_report.specs.declared.captures.counts.PacketCounts.{PacketCounts}

encode-append : (t xs ys : List ℕ) → encode_with t (xs ++ ys) ≡ encode_with t xs ++ encode_with t ys
unfolding encode_with
encode-append t [] ys = refl
encode-append t (x ∷ xs) ys = ap (λ l. slice_index t (x / 16) ∷ slice_index t (x % 16) ∷ l) (encode-append t xs ys)

-- the digits of three parts, one after the other
pub digits-parts : (xs ys zs : List ℕ) → encode_lower xs ++ (encode_lower ys ++ encode_lower zs) ≡ encode_lower ((xs ++ ys) ++ zs)
digits-parts xs ys zs =
    let parts = encode-append lower_digits (xs ++ ys) zs ∙ ap (λ l. l ++ encode_lower zs) (encode-append lower_digits xs ys) in
    sym (parts ∙ append_assoc (encode_lower xs) (encode_lower ys) (encode_lower zs))

-- ---- one packet more

module _ {X : Type 0} where
  pub all-snoc : (P : X → Type 0) (xs : List X) (x : X) → AllByRecursion P xs → P x → AllByRecursion P (xs ++ x ∷ [])
  all-snoc P [] x h p = (p, tt)
  all-snoc P (y ∷ xs) x h p = (h.0, all-snoc P xs x h.1 p)

  pub all-last : (P : X → Type 0) (xs : List X) (x : X) → AllByRecursion P (xs ++ x ∷ []) → P x
  all-last P [] x h = h.0
  all-last P (y ∷ xs) x h = all-last P xs x h.1

  count-snoc : (p : X → Bool) (xs : List X) (x : X) → count_by p (xs ++ x ∷ []) ≡ count_by p xs + cond (p x) 1 0
  count-snoc p xs x = omega (arith, sum_by-append (λ y. cond (p y) 1 0) xs (x ∷ []))

  pub length-snoc : (xs : List X) (x : X) → length (xs ++ x ∷ []) ≡ length xs + 1
  length-snoc xs x = length-append xs (x ∷ [])

logged-snoc : (selection : Selection) (first : Option Frame) (cs : List Carrier) (c : Carrier) → AreLogged selection first cs → IsLogged selection (first_behind first cs) c.frame c.carried c.logged → AreLogged selection first (cs ++ c ∷ [])
logged-snoc selection first [] c are is = (is, tt)
logged-snoc selection first (d ∷ cs) c are is = (are.0, logged-snoc selection (first_with first d.frame d.logged) cs c are.1 is)

pub first-snoc : (first : Option Frame) (cs : List Carrier) (c : Carrier) → first_behind first (cs ++ c ∷ []) ≡ first_with (first_behind first cs) c.frame c.logged
first-snoc first [] c = refl
first-snoc first (d ∷ cs) c = first-snoc (first_with first d.frame d.logged) cs c

pub carriers-snoc : (how : Manner) (selection : Selection) (cs : List Carrier) (c : Carrier) → AreCarriers how selection cs → IsCarrier c → IsLogged selection (first_behind None cs) c.frame c.carried c.logged
    → IsTimed (is_timed how c.logged) c.frame c.time → AreCarriers how selection (cs ++ c ∷ [])
carriers-snoc how selection cs c are is logged timed = record {
  carry = all-snoc IsCarrier cs c are.carry is;
  logged = logged-snoc selection None cs c are.logged logged;
  timed = all-snoc (λ (d : Carrier). IsTimed (is_timed how d.logged) d.frame d.time) cs c are.timed timed;
}

pub frames-snoc : (cs : List Carrier) (c : Carrier) → map (λ d. d.frame) (cs ++ c ∷ []) ≡ map (λ d. d.frame) cs ++ c.frame ∷ []
frames-snoc cs c = map-append (λ d. d.frame) cs (c ∷ [])

pub lines-snoc : (how : Manner) (link : List ℕ) (cs : List Carrier) (c : Carrier) →
    packet_lines how link (cs ++ c ∷ []) ≡ packet_lines how link cs ++ (time_part c.time ++ logged_line how.authentication link c.frame.bytes c.logged)
lines-snoc how link cs c =
    flat_map-append (λ d. time_part d.time ++ logged_line how.authentication link d.frame.bytes d.logged) cs (c ∷ [])
    ∙ ap (λ l. packet_lines how link cs ++ l) (append-nil (time_part c.time ++ logged_line how.authentication link c.frame.bytes c.logged))

pub line_count-snoc : (cs : List Carrier) (c : Carrier) → line_count (cs ++ c ∷ []) ≡ line_count cs + one (has_line c.logged)
line_count-snoc cs c = count-snoc (λ d. has_line d.logged) cs c

pub counts-snoc : (how : Manner) (cs : List Carrier) (c : Carrier) → counts_of how (cs ++ c ∷ []) ≡ counted (counts_of how cs) c.logged (omitted_of how.authentication c.frame.bytes c.logged)
counts-snoc how cs c = rw (
  length-snoc cs c,
  count-snoc (λ d. such is_datagram d.logged) cs c,
  count-snoc (λ d. such is_cut d.logged) cs c,
  count-snoc (λ d. such is_fragment d.logged) cs c,
  count-snoc (λ d. such is_malformed d.logged) cs c,
  count-snoc (λ d. such is_long d.logged) cs c,
  count-snoc (λ d. is_mixed d.logged) cs c,
  count-snoc (λ d. (omitted_of how.authentication d.frame.bytes d.logged).password) cs c,
  count-snoc (λ d. (omitted_of how.authentication d.frame.bytes d.logged).authentication) cs c,
  count-snoc (λ d. such is_elsewhere d.logged) cs c,
  count-snoc (λ d. such is_other d.logged) cs c,
) refl

-- there is room for a packet more while there are fewer than the greatest number
pub has-room : (how : Manner) (n : PacketCounts) (cs : List Carrier) → n ≡ counts_of how cs → n.packets < 2 ^ 64 - 1 → HasRoom n
has-room how n cs is few =
    let at : (p : Carrier → Bool) → count_by p cs ≤ length cs = λ p. count_by-le-length p cs in
    let packets : length cs < 2 ^ 64 - 1 = rw is at few in
    rw is (record {
      packets = omega (arith, packets);
      datagrams = at _;
      cut = at _;
      fragments = at _;
      malformed = at _;
      long = at _;
      mixed = at _;
      passwords = at _;
      without_authentication = at _;
      elsewhere = at _;
      others = at _;
    })

-- what a packet more does to all that was logged before
pub adds-packet : {old mid new : Progress} (how : Manner) (link : List ℕ) (cs : List Carrier) (p : Carrier) → Adds old mid (packet_lines how link cs)
    → Adds mid new (time_part p.time ++ logged_line how.authentication link p.frame.bytes p.logged) → Adds old new (packet_lines how link (cs ++ p ∷ []))
adds-packet how link cs p f g = adds_same (sym (lines-snoc how link cs p)) (adds_then f g)

-- ---- how a file ends

module _ {R : Type 0} (given : R → List ℕ) (at_end : R → Bool) (how : Manner) (selection : Selection) (before : List ℕ) (lines : ℕ) (cs : List Carrier) (new : CaptureReader R) (out : Progress) where
  -- at an error
  pub ends-by : (code : CaptureCode) (at : ℕ) → StopsAt given at_end before (map (λ c. c.frame) cs) (record { code = code; at = at }) new →
      EndsSo given at_end how selection before lines cs new out (ended_by (record { code = code; at = at }))
  ends-by Magic at h = (h, refl)
  ends-by Cut at h = (h, refl)
  ends-by Version at h = (h, refl)
  ends-by NoLinkType at h = (h, refl)
  ends-by Length at h = (h, refl)
  ends-by Interface at h = (h, refl)
  ends-by OldPacket at h = (h, refl)
  ends-by Read at h = (record { code = Read; at = at }, h, refl)

  -- at its end
  pub ends-at : (tally : Tally) → EndsHere given at_end before (map (λ c. c.frame) cs) new → tally.counts ≡ counts_of how cs → tally.lines ≡ lines + line_count cs → tally.lines ≤ 1000000 → AreShown tally.span (span_of cs)
      → EndsSo given at_end how selection before lines cs new out (ended_at tally (position_of new))
  ends-at tally here counts count few span =
      elim (tally.lines == 1000000) as (λ b. (tally.lines == 1000000) ≡ b → EndsSo given at_end how selection before lines cs new out
      (if b then RefusedFile TooManyLines (position_of new) else Whole tally)) [
        | true ↦ λ e. (sym count ∙ eqb-true tally.lines 1000000 e, inr (here, refl))
        | false ↦ λ e. (here, counts, count, omega (arith, few, eqb-false tally.lines 1000000 e), span)
      ] refl

pub never-unread : (tally : Tally) (at : ℕ) → ended_at tally at ≡ Unread → ⊥
never-unread tally at h = elim (tally.lines == 1000000) as (λ b. (if b then RefusedFile TooManyLines at else Whole tally) ≡ Unread → ⊥) [
  | true ↦ λ e. cc e
  | false ↦ λ e. cc e
] h

pub unread-is_read : (code : CaptureCode) (at : ℕ) → ended_by (record { code = code; at = at }) ≡ Unread → is_read code ≡ true
unread-is_read Magic at h = cc h
unread-is_read Cut at h = cc h
unread-is_read Version at h = cc h
unread-is_read NoLinkType at h = cc h
unread-is_read Length at h = cc h
unread-is_read Interface at h = cc h
unread-is_read OldPacket at h = cc h
unread-is_read Read at h = refl

pub read-is_unread : (code : CaptureCode) (at : ℕ) → ended_by (record { code = code; at = at }) ≢ Unread → is_read code ≡ false
read-is_unread Magic at h = refl
read-is_unread Cut at h = refl
read-is_unread Version at h = refl
read-is_unread NoLinkType at h = refl
read-is_unread Length at h = refl
read-is_unread Interface at h = refl
read-is_unread OldPacket at h = refl
read-is_unread Read at h = absurd (h refl)

-- behind 2^64 - 1 packets a reader is far, and stops there
pub far : {R : Type 0} (reader : CaptureReader R) (taken : List ℕ) (fs : List Frame) → ((b : List ℕ) (gs : List Frame) → IsCapture b gs → 16 * length gs ≤ length b)
    → position_of reader ≡ length taken → IsRead taken fs → 2 ^ 64 - 1 ≤ length fs → IsFar reader
far reader taken fs long position (nothing_read none none_of) many = absurd (omega (arith, ap length none_of, many))
far reader taken fs long position (capture_read is) many = omega (arith, long taken fs is, position, many)

pub stops-far : {R : Type 0} (given : R → List ℕ) (at_end : R → Bool) (before taken : List ℕ) (fs : List Frame) (reader : CaptureReader R) → Stands given before reader taken fs → IsRead taken fs →
    IsFar reader
    → StopsAt given at_end before fs (record { code = Read; at = position_of reader }) reader
stops-far given at_end before taken fs reader s read is_far = record {
  front = taken;
  rest = held_by reader;
  gave = s.gave;
  read = read;
  place = s.position;
  position = s.position;
  fault = λ calm. cc calm;
  all = λ failed. inr is_far;
  ended = λ cut. cc cut;
}

-- ---- each packet is of one kind

one-carried : (c : Carried) → one (is_datagram c) + (one (is_cut c) + (one (is_fragment c) + (one (is_malformed c) + (one (is_long c) + (one (is_elsewhere c) + one (is_other c)))))) ≡ 1
one-carried (Datagram a span) = refl
one-carried (CutOff a) = refl
one-carried (Fragment a) = refl
one-carried (Malformed a) = refl
one-carried (Long a) = refl
one-carried Unknown = refl
one-carried Elsewhere = refl
one-carried Others = refl

one-kind : (l : Logged) →
    one (such is_datagram l) + (one (such is_cut l) + (one (such is_fragment l) + (one (such is_malformed l) + (one (such is_long l) + (one (is_mixed l) + (one (such is_elsewhere l) + one (such is_other l))))))) ≡ 1
one-kind (As c) = omega (arith, one-carried c)
one-kind (Mixed a) = refl

at-most : (b : Bool) → one b ≤ 1
at-most true = omega arith
at-most false = omega arith

-- nothing is left out but of a datagram
omitted-of-datagram : (how : Authentication) (frame : List ℕ) (part : Omitted → Bool) → part nothing_omitted ≡ false → (l : Logged) → one (part (omitted_of how frame l)) ≤ one (such is_datagram l)
omitted-of-datagram how frame part none (As (Datagram a span)) = at-most (part (omitted_of how frame (As (Datagram a span))))
omitted-of-datagram how frame part none (As (CutOff a)) = omega (arith, ap one none)
omitted-of-datagram how frame part none (As (Fragment a)) = omega (arith, ap one none)
omitted-of-datagram how frame part none (As (Malformed a)) = omega (arith, ap one none)
omitted-of-datagram how frame part none (As (Long a)) = omega (arith, ap one none)
omitted-of-datagram how frame part none (As Unknown) = omega (arith, ap one none)
omitted-of-datagram how frame part none (As Elsewhere) = omega (arith, ap one none)
omitted-of-datagram how frame part none (As Others) = omega (arith, ap one none)
omitted-of-datagram how frame part none (Mixed a) = omega (arith, ap one none)

none-as-sent : (frame : List ℕ) (l : Logged) → one (omitted_of AsSent frame l).authentication ≡ 0
none-as-sent frame (As (Datagram a span)) = refl
none-as-sent frame (As (CutOff a)) = refl
none-as-sent frame (As (Fragment a)) = refl
none-as-sent frame (As (Malformed a)) = refl
none-as-sent frame (As (Long a)) = refl
none-as-sent frame (As Unknown) = refl
none-as-sent frame (As Elsewhere) = refl
none-as-sent frame (As Others) = refl
none-as-sent frame (Mixed a) = refl

counted-more : (p : Carrier → Bool) (c : Carrier) (cs : List Carrier) → count_by p (c ∷ cs) ≡ one (p c) + count_by p cs
counted-more p c cs = sum_by-cons (λ d. cond (p d) 1 0) c cs

pub kinds-sum : (cs : List Carrier) →
    length cs ≡ count_of is_datagram cs + count_of is_cut cs + count_of is_fragment cs + count_of is_malformed cs + count_of is_long cs + mixed_count cs + count_of is_elsewhere cs + count_of is_other cs
kinds-sum [] = refl
kinds-sum (c ∷ cs) = omega (
  arith,
  kinds-sum cs,
  one-kind c.logged,
  counted-more (λ d. such is_datagram d.logged) c cs,
  counted-more (λ d. such is_cut d.logged) c cs,
  counted-more (λ d. such is_fragment d.logged) c cs,
  counted-more (λ d. such is_malformed d.logged) c cs,
  counted-more (λ d. such is_long d.logged) c cs,
  counted-more (λ d. is_mixed d.logged) c cs,
  counted-more (λ d. such is_elsewhere d.logged) c cs,
  counted-more (λ d. such is_other d.logged) c cs,
)

pub passwords-few : (how : Manner) (cs : List Carrier) → (counts_of how cs).passwords ≤ count_of is_datagram cs
passwords-few how [] = omega arith
passwords-few how (c ∷ cs) = omega (
  arith,
  passwords-few how cs,
  omitted-of-datagram how.authentication c.frame.bytes (λ o. o.password) refl c.logged,
  counted-more (λ d. (omitted_of how.authentication d.frame.bytes d.logged).password) c cs,
  counted-more (λ d. such is_datagram d.logged) c cs,
)

pub authentication-few : (how : Manner) (cs : List Carrier) → (counts_of how cs).without_authentication ≤ count_of is_datagram cs
authentication-few how [] = omega arith
authentication-few how (c ∷ cs) = omega (
  arith,
  authentication-few how cs,
  omitted-of-datagram how.authentication c.frame.bytes (λ o. o.authentication) refl c.logged,
  counted-more (λ d. (omitted_of how.authentication d.frame.bytes d.logged).authentication) c cs,
  counted-more (λ d. such is_datagram d.logged) c cs,
)

none-asked : (how : Authentication) → how ≡ AsSent → (frame : List ℕ) (l : Logged) → one (omitted_of how frame l).authentication ≡ 0
none-asked how e frame l = rw e (none-as-sent frame l)

pub authentication-as-sent : (how : Manner) (cs : List Carrier) → how.authentication ≡ AsSent → (counts_of how cs).without_authentication ≡ 0
authentication-as-sent how [] e = refl
authentication-as-sent how (c ∷ cs) e = omega (
  arith,
  authentication-as-sent how cs e,
  none-asked how.authentication e c.frame.bytes c.logged,
  counted-more (λ d. (omitted_of how.authentication d.frame.bytes d.logged).authentication) c cs,
)
