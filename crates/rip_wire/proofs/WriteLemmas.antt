-- What is written into a room, and what stays there.
use Rattle.std.proofs.Common.{◌≡◌, ℕ, ◌+◌, ◌-◌, ◌*◌, ◌≤◌, List, [], ◌∷◌, ◌++◌, length, take, drop, refl, sym, ap, ◌∙◌, arith, append_assoc, append-nil}
use Rattle.std.specs.List.{AllByRecursion}
use Rattle.std.proofs.lemmas.List.{drop-drop, length-append}
use Rattle.rip_wire.specs.declared.entry.Entry.{Entry}
use Rattle.rip_wire.specs.Grammar.{IsEntry, entry_bytes, entries_bytes}

-- what is equal from j on is equal from k on
pub drop_on : (j k : ℕ) (xs ys : List ℕ) → j ≤ k → drop j xs ≡ drop j ys → drop k xs ≡ drop k ys
drop_on j k xs ys le h =
    let split : j + (k - j) ≡ k = omega arith in
    let left : drop k xs ≡ drop (k - j) (drop j xs) = rw (drop-drop (k - j) j xs, split) refl in
    let right : drop k ys ≡ drop (k - j) (drop j ys) = rw (drop-drop (k - j) j ys, split) refl in
    left ∙ ap (drop (k - j)) h ∙ sym right

entries_bytes-push : (es : List Entry) (e : Entry) → entries_bytes (es ++ e ∷ []) ≡ entries_bytes es ++ entry_bytes e
unfolding entries_bytes
entries_bytes-push [] e = append-nil (entry_bytes e)
entries_bytes-push (x ∷ es) e = ap (λ (bs : List ℕ). entry_bytes x ++ bs) (entries_bytes-push es e) ∙ sym (append_assoc (entry_bytes x) (entries_bytes es) (entry_bytes e))

each-push : (es : List Entry) (e : Entry) → AllByRecursion IsEntry es → IsEntry e → AllByRecursion IsEntry (es ++ e ∷ [])
each-push [] e all one = (one, tt)
each-push (x ∷ es) e all one = (all.0, each-push es e all.1 one)

-- the header and these entries are written at the front of the room, and no more
pub record IsWritten (es : List Entry) (old new : List ℕ) : Type 0 where
  pub each : AllByRecursion IsEntry es
  pub front : take (4 + 20 * length es) new ≡ 2 ∷ 2 ∷ 0 ∷ 0 ∷ entries_bytes es
  pub others : drop (4 + 20 * length es) new ≡ drop (4 + 20 * length es) old

pub IsWritten-none : (old new : List ℕ) → take 4 new ≡ 2 ∷ 2 ∷ 0 ∷ 0 ∷ [] → drop 4 new ≡ drop 4 old → IsWritten [] old new
unfolding entries_bytes
IsWritten-none old new front others = record { each = tt; front = front; others = others }

pub IsWritten-push : (at : ℕ) (es : List Entry) (e : Entry) (old mid new : List ℕ) → at ≡ 4 + 20 * length es → IsWritten es old mid → take (at + 20) new ≡ take at mid ++ entry_bytes e →
    drop (at + 20) new ≡ drop (at + 20) mid → IsEntry e → IsWritten (es ++ e ∷ []) old new
IsWritten-push at es e old mid new offset so_far front others one =
    let size : 4 + 20 * length (es ++ e ∷ []) ≡ at + 20 = omega (arith, length-append es (e ∷ [])) in
    let before : take at mid ≡ 2 ∷ 2 ∷ 0 ∷ 0 ∷ entries_bytes es = rw offset so_far.front in
    let after : drop at mid ≡ drop at old = rw offset so_far.others in
    record {
      each = each-push es e so_far.each one;
      front = rw size (front ∙ ap (λ (bs : List ℕ). bs ++ entry_bytes e) before ∙ ap (λ (bs : List ℕ). 2 ∷ 2 ∷ 0 ∷ 0 ∷ bs) (sym (entries_bytes-push es e)));
      others = rw size (others ∙ drop_on at (at + 20) mid old (omega arith) after);
    }
