-- What the bytes of a datagram say of its message.
use Rattle.std.proofs.Common.{◌≡◌, ◌≢◌, ℕ, ◌+◌, ◌*◌, ◌<◌, ◌≤◌, true, List, Some, Result, Ok, Err, length, get_or, refl, sym, ap, subst, ◌∙◌, arith, is_ok}
use Rattle.std.specs.List.{slice_get}
use Rattle.std.proofs.lemmas.Option.{same_Some, slice_get_within}
use Rattle.rip_wire.specs.declared.entry.Entry.{Entry}
use Rattle.rip_wire.specs.declared.error.WireError.{WireError}
use Rattle.rip_wire.specs.declared.datagram.Kind.{Kind}
use Rattle.rip_wire.specs.declared.datagram.Kind.TheVariants.{Request, Response}
use Rattle.rip_wire.specs.Message.{Message, request, response, entries_at, kind_in, groups_in, message_of_kind, message_in}
use Rattle.rip_wire.specs.Datagram.{kind_of, entries_of, message_or_request}
use Rattle.rip_wire.specs.Whole.{IsWhole}
use Rattle.rip_wire.proofs.BindLemmas.{bind_ok, same_Ok}
use Rattle.rip_wire.proofs.SpellingLemmas.{read_metric_bounds}
use Rattle.rip_wire.proofs.MessageLemmas.{command_of, headed, read_message}
use Rattle.rip_wire.proofs.WalkLemmas.{HasEntry, entries_at-get, length-entries_at}

-- what is readable has a message
pub record HasMessage (b : List ℕ) : Type 0 where
  pub message : Message
  pub read : message_in b ≡ Ok message

pub has_message : (b : List ℕ) → is_ok (message_in b) ≡ true → HasMessage b
has_message b h = cases (message_in b) refl h
  where
    cases : (r : Result Message WireError) → message_in b ≡ r → is_ok r ≡ true → HasMessage b
    cases (Ok m) e h = record { message = m; read = e }
    cases (Err f) e h = absurd (cc)

-- what is readable has a header, and at most 504 bytes
pub whole : (b : List ℕ) → is_ok (message_in b) ≡ true → IsWhole b
whole b h =
    let m = has_message b h in
    let r = read_message b m.message m.read in
    let head = headed b r.kind r.kind_is in
    record { readable = h; header = head.header; few = head.few }

-- the kind of a message, by the first byte
kind_read : (b : List ℕ) (m : Message) → message_in b ≡ Ok m → get_or b 0 0 ≡ command_of (kind_of m)
kind_read b m h = let r = read_message b m h in (headed b r.kind r.kind_is).command ∙ ap command_of (by_kind r.kind r.message)
  where
    by_kind : (k : Kind) → message_of_kind b k ≡ Ok m → k ≡ kind_of m
    by_kind Request g = ap kind_of (same_Ok request m g)
    by_kind Response g =
        let e = bind_ok (entries_at (groups_in b) 4 b) _ m g in
        ap kind_of (same_Ok (response e.0) m e.2)

by_command : (k : Kind) (n : ℕ) → n ≡ command_of k → (n ≡ 1 → Request ≡ k) × (n ≢ 1 → Response ≡ k)
by_command Request n h = (λ _. refl, λ other. absurd (other h))
by_command Response n h = (λ one. absurd (omega arith), λ _. refl)

pub kind_by_command : (b : List ℕ) → is_ok (message_in b) ≡ true →
    (get_or b 0 0 ≡ 1 → Request ≡ kind_of (message_or_request (message_in b))) × (get_or b 0 0 ≢ 1 → Response ≡ kind_of (message_or_request (message_in b)))
kind_by_command b h =
    let m = has_message b h in
    rw m.read (by_command (kind_of m.message) (get_or b 0 0) (kind_read b m.message m.read))

-- the entries of a response that is read
record HasEntries (b : List ℕ) (m : Message) : Type 0 where
  entries : entries_at (groups_in b) 4 b ≡ Ok (entries_of m)
  header : 4 ≤ length b

has_entries : (b : List ℕ) (m : Message) → message_in b ≡ Ok m → kind_of m ≡ Response → HasEntries b m
has_entries b m h is = let r = read_message b m h in by_kind r.kind r.kind_is r.message
  where
    by_kind : (k : Kind) → kind_in b ≡ Ok k → message_of_kind b k ≡ Ok m → HasEntries b m
    by_kind Request k g = let clash : Request ≡ Response = ap kind_of (same_Ok request m g) ∙ is in absurd (cc clash)
    by_kind Response k g =
        let e = bind_ok (entries_at (groups_in b) 4 b) _ m g in
        record { entries = e.1 ∙ ap (λ (x : Message). Ok (entries_of x)) (same_Ok (response e.0) m e.2); header = (headed b Response k).header }

pub groups_are_entries : (b : List ℕ) → is_ok (message_in b) ≡ true → kind_of (message_or_request (message_in b)) ≡ Response → groups_in b ≡ length (entries_of (message_or_request (message_in b)))
groups_are_entries b h is =
    let m = has_message b h in
    let es = has_entries b m.message m.read (rw m.read at is) in
    rw m.read (sym (length-entries_at (groups_in b) 4 b (entries_of m.message) es.entries))

-- the entries of a response are those that are read of its bytes
pub entries_whole : (b : List ℕ) → is_ok (message_in b) ≡ true → kind_of (message_or_request (message_in b)) ≡ Response →
    entries_at (groups_in b) 4 b ≡ Ok (entries_of (message_or_request (message_in b)))
entries_whole b h is = let m = has_message b h in rw m.read (has_entries b m.message m.read (rw m.read at is)).entries

-- an entry of a response, by its number
pub record IsNumbered (b : List ℕ) (i : ℕ) : Type 0 where
  pub room : 4 + 20 * i + 20 ≤ length b
  pub has : HasEntry (entries_of (message_or_request (message_in b))) 4 i b

pub numbered : (b : List ℕ) (i : ℕ) → is_ok (message_in b) ≡ true → kind_of (message_or_request (message_in b)) ≡ Response → i < length (entries_of (message_or_request (message_in b))) →
    IsNumbered b i
numbered b i h is lt =
    let m = has_message b h in
    let es = has_entries b m.message m.read (rw m.read at is) in
    let count = groups_are_entries b h is in
    let header = es.header in
    let within : i < groups_in b = omega arith in
    record { room = omega arith; has = rw m.read (entries_at-get (groups_in b) 4 i b (entries_of m.message) es.entries within) }

-- the metrics of a response
pub metric_bounds : (b : List ℕ) (es : List Entry) → message_in b ≡ Ok (response es) → (i : ℕ) (e : Entry) → slice_get es i ≡ Some e → (1 ≤ e.metric) × (e.metric ≤ 16)
metric_bounds b es h i e at =
    let has = (has_entries b (response es) h refl).entries in
    let lt : i < groups_in b = omega (arith, slice_get_within es i e at, length-entries_at (groups_in b) 4 b es has) in
    let found = entries_at-get (groups_in b) 4 i b es has lt in
    let same : found.entry ≡ e = same_Some found.entry e (sym found.here ∙ at) in
    subst (λ (x : Entry). (1 ≤ x.metric) × (x.metric ≤ 16)) same (read_metric_bounds (4 + 20 * i) b found.entry found.read)
