-- A response is read exactly of its fields.
use Rattle.std.proofs.Common.{◌≡◌, ℕ, suc, ◌+◌, ◌*◌, List, [], ◌∷◌, Some, Ok, length, refl, sym, ap, subst, ◌∙◌, arith}
use Rattle.std.specs.List.{slice_get}
use Rattle.std.proofs.lemmas.Option.{same_Some, slice_get_within}
use Rattle.rip_wire.specs.declared.entry.Entry.{Entry}
use Rattle.rip_wire.specs.declared.datagram.Kind.{Kind}
use Rattle.rip_wire.specs.declared.datagram.Kind.TheVariants.{Request, Response}
use Rattle.rip_wire.specs.Response.{IsEntryAt, IsResponseOf}
use Rattle.rip_wire.specs.Message.{request, response, entries_at, kind_in, groups_in, message_of_kind, message_in}
use Rattle.rip_wire.proofs.BindLemmas.{bind_ok, same_Ok}
use Rattle.rip_wire.proofs.SpellingLemmas.{entry_fields, fields_entry}
use Rattle.rip_wire.proofs.MessageLemmas.{IsHeaded, headed, kind_in-headed, read_message}
use Rattle.rip_wire.proofs.WalkLemmas.{entries_at-get, length-entries_at}

pub response_fields : (b : List ℕ) (es : List Entry) → message_in b ≡ Ok (response es) → IsResponseOf es b
response_fields b es h = let r = read_message b (response es) h in by_kind r.kind r.kind_is r.message
  where
    by_kind : (k : Kind) → kind_in b ≡ Ok k → message_of_kind b k ≡ Ok (response es) → IsResponseOf es b
    by_kind Request is m = let clash = same_Ok request (response es) m in absurd (cc clash)
    by_kind Response is m =
        let head = headed b Response is in
        let header = head.header in
        let few = head.few in
        let even = head.even in
        let longer = head.some refl in
        let e = bind_ok (entries_at (groups_in b) 4 b) _ (response es) m in
        let same : e.0 ≡ es = let g = same_Ok (response e.0) (response es) e.2 in cc g in
        let read : entries_at (groups_in b) 4 b ≡ Ok es = e.1 ∙ ap Ok same in
        let count = length-entries_at (groups_in b) 4 b es read in
        record {
          some = omega arith;
          few = omega arith;
          command = head.command;
          version = head.version;
          zeros = head.zeros;
          size = omega arith;
          each = λ i x at.
              let found = entries_at-get (groups_in b) 4 i b es read (omega (arith, slice_get_within es i x at)) in
              let one : found.entry ≡ x = same_Some found.entry x (sym found.here ∙ at) in
              subst (IsEntryAt b (4 + 20 * i)) one (entry_fields (4 + 20 * i) b found.entry found.read);
        }

-- entries whose fields stand one after the other are read
read_all : (es : List Entry) (k : ℕ) (b : List ℕ) → ((i : ℕ) (e : Entry) → slice_get es i ≡ Some e → IsEntryAt b (k + 20 * i) e) → entries_at (length es) k b ≡ Ok es
unfolding entries_at
read_all [] k b each = refl
read_all (e ∷ es) k b each =
    let here : k + 20 * 0 ≡ k = omega arith in
    let first : IsEntryAt b k e = subst (λ (n : ℕ). IsEntryAt b n e) here (each 0 e refl) in
    let rest = read_all es (k + 20) b (λ i x at. let there : k + 20 * suc i ≡ (k + 20) + 20 * i = omega arith in subst (λ (n : ℕ). IsEntryAt b n x) there (each (suc i) x at)) in
    rw (fields_entry k b e first, rest) refl

pub fields_response : (b : List ℕ) (es : List Entry) → IsResponseOf es b → message_in b ≡ Ok (response es)
unfolding message_in
fields_response b es r =
    let some = r.some in
    let few = r.few in
    let size : length b ≡ 4 + 20 * length es = r.size in
    let head : IsHeaded b Response = record {
      header = omega arith;
      command = r.command;
      version = r.version;
      zeros = r.zeros;
      few = omega arith;
      even = omega arith;
      some = λ is. omega arith;
    } in
    let count : groups_in b ≡ length es = omega arith in
    rw (kind_in-headed b Response head, count, read_all es 4 b r.each) refl
