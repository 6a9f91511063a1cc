-- The fields of a line are those that are computed.
use Rattle.std.proofs.Common.{◌≡◌, ◌≢◌, ◌-◌, ℕ, Bool, true, false, cond, List, [], ◌∷◌, ◌++◌, length, take, get_or, refl, sym, ap, ◌∙◌, arith, subst, ◌&&◌, ◌==◌, eqb-true}
use Rattle.std.specs.List.{AllByRecursion}
use Rattle.std.specs.Io.BufRead.{strip_last, ends_with_byte}
use Rattle.std.proofs.lemmas.Grind.{common_steps}
use Rattle.rip_log.specs.Fields.{is_blank, ends_field, onto, fields_of}
use Rattle.rip_log.specs.LogText.{IsBlank, EndsRun, IsField, FirstField, AreFields, IsBare, returned, whole}

blank : (b : ℕ) → is_blank b ≡ true → IsBlank b
blank b h = grind arith

no-blank : (b : ℕ) → is_blank b ≡ false → ¬ IsBlank b
no-blank b h is = grind arith

is_blank-yes : (b : ℕ) → IsBlank b → is_blank b ≡ true
is_blank-yes b h = grind arith

is_blank-no : (b : ℕ) → ¬ IsBlank b → is_blank b ≡ false
is_blank-no b h = grind arith

ends : (rest : List ℕ) → ends_field rest ≡ true → EndsRun rest
ends [] h = tt
ends (b ∷ rest) h = blank b h

ends_field-yes : (rest : List ℕ) → EndsRun rest → ends_field rest ≡ true
ends_field-yes [] h = refl
ends_field-yes (b ∷ rest) h = is_blank-yes b h

-- a blank in front
after-blank : (b : ℕ) (bytes : List ℕ) (fields : List (List ℕ)) → IsBlank b → AreFields bytes fields → AreFields (b ∷ bytes) fields
after-blank b bytes [] is are = (is, are)
after-blank b bytes (field ∷ fields) is are =
    let first = are.1 in (
      are.0,
      record { before = b ∷ first.before; blanks = (is, first.blanks); is_field = first.is_field; longest = first.longest; whole = ap (λ l. b ∷ l) first.whole },
      are.2,
    )

-- a field of one byte in front
alone : (b : ℕ) (bytes : List ℕ) (fields : List (List ℕ)) → ¬ IsBlank b → EndsRun bytes → AreFields bytes fields → AreFields (b ∷ bytes) ((b ∷ []) ∷ fields)
alone b bytes fields is end are = (
  bytes,
  record { before = []; blanks = tt; is_field = record { some = λ e. cc e; bytes = (is, tt) }; longest = end; whole = refl },
  are,
)

-- no field stands in blanks
begins : (c : ℕ) (bytes : List ℕ) → is_blank c ≡ false → AreFields (c ∷ bytes) [] → ⊥
begins c bytes h are = no-blank c h are.0

-- a byte in front of the first field
joined : (b c : ℕ) (bytes field rest before : List ℕ) → ¬ IsBlank b → is_blank c ≡ false → AllByRecursion IsBlank before → IsField field → EndsRun rest → c ∷ bytes ≡ before ++ (field ++ rest)
    → FirstField (b ∷ c ∷ bytes) (b ∷ field) rest
joined b c bytes field rest [] is h blanks f end parts =
    record { before = []; blanks = tt; is_field = record { some = λ e. cc e; bytes = (is, f.bytes) }; longest = end; whole = ap (λ l. b ∷ l) parts }
joined b c bytes field rest (x ∷ before) is h blanks f end parts =
    let same : c ≡ x = cc parts in
    absurd (no-blank c h (subst IsBlank (sym same) blanks.0))

further : (b c : ℕ) (bytes : List ℕ) (fields : List (List ℕ)) → ¬ IsBlank b → is_blank c ≡ false → AreFields (c ∷ bytes) fields → AreFields (b ∷ c ∷ bytes) (onto b fields)
further b c bytes [] is h are = absurd (begins c bytes h are)
further b c bytes (field ∷ fields) is h are =
    let first = are.1 in
    (are.0, joined b c bytes field are.0 first.before is h first.blanks first.is_field first.longest first.whole, are.2)

more : (b : ℕ) (bytes : List ℕ) (fields : List (List ℕ)) → ¬ IsBlank b → ends_field bytes ≡ false → AreFields bytes fields → AreFields (b ∷ bytes) (onto b fields)
more b [] fields is h are = absurd (cc h)
more b (c ∷ bytes) fields is h are = further b c bytes fields is h are

run : (b : ℕ) (bytes : List ℕ) (fields : List (List ℕ)) (x : Bool) → ends_field bytes ≡ x → ¬ IsBlank b → AreFields bytes fields → AreFields (b ∷ bytes) (cond x ((b ∷ []) ∷ fields) (onto b fields))
run b bytes fields true e is are = alone b bytes fields is (ends bytes e) are
run b bytes fields false e is are = more b bytes fields is e are

AreFields-byte : (b : ℕ) (bytes : List ℕ) (fields : List (List ℕ)) (x : Bool) → is_blank b ≡ x → AreFields bytes fields
    → AreFields (b ∷ bytes) (cond x fields (cond (ends_field bytes) ((b ∷ []) ∷ fields) (onto b fields)))
AreFields-byte b bytes fields true e are = after-blank b bytes fields (blank b e) are
AreFields-byte b bytes fields false e are = run b bytes fields (ends_field bytes) refl (no-blank b e) are

pub AreFields-fields_of : (bare : List ℕ) → AreFields bare (fields_of bare)
AreFields-fields_of [] = tt
AreFields-fields_of (b ∷ bytes) = AreFields-byte b bytes (fields_of bytes) (is_blank b) refl (AreFields-fields_of bytes)

fields_of-skip : (b : ℕ) (bytes : List ℕ) → IsBlank b → fields_of (b ∷ bytes) ≡ fields_of bytes
fields_of-skip b bytes h = rw (is_blank-yes b h)

fields_of-blanks : (bytes : List ℕ) → AllByRecursion IsBlank bytes → fields_of bytes ≡ []
fields_of-blanks [] h = refl
fields_of-blanks (b ∷ bytes) h = fields_of-skip b bytes h.0 ∙ fields_of-blanks bytes h.1

fields_of-after : (before bytes : List ℕ) → AllByRecursion IsBlank before → fields_of (before ++ bytes) ≡ fields_of bytes
fields_of-after [] bytes h = refl
fields_of-after (b ∷ before) bytes h = fields_of-skip b (before ++ bytes) h.0 ∙ fields_of-after before bytes h.1

fields_of-one : (b : ℕ) (rest : List ℕ) → ¬ IsBlank b → EndsRun rest → fields_of (b ∷ rest) ≡ (b ∷ []) ∷ fields_of rest
fields_of-one b rest h end = rw (is_blank-no b h, ends_field-yes rest end)

fields_of-onto : (b c : ℕ) (bytes : List ℕ) → ¬ IsBlank b → ¬ IsBlank c → fields_of (b ∷ c ∷ bytes) ≡ onto b (fields_of (c ∷ bytes))
fields_of-onto b c bytes h k = rw (is_blank-no b h, is_blank-no c k)

fields_of-whole : (b : ℕ) (field rest : List ℕ) → AllByRecursion (λ b. ¬ IsBlank b) (b ∷ field) → EndsRun rest → fields_of ((b ∷ field) ++ rest) ≡ (b ∷ field) ∷ fields_of rest
fields_of-whole b [] rest h end = fields_of-one b rest h.0 end
fields_of-whole b (c ∷ field) rest h end = fields_of-onto b c (field ++ rest) h.0 h.1.0 ∙ ap (onto b) (fields_of-whole c field rest h.1 end)

fields_of-field : (field rest : List ℕ) → IsField field → EndsRun rest → fields_of (field ++ rest) ≡ field ∷ fields_of rest
fields_of-field [] rest f end = absurd (f.some refl)
fields_of-field (b ∷ field) rest f end = fields_of-whole b field rest f.bytes end

pub fields_of-AreFields : (bare : List ℕ) (fields : List (List ℕ)) → AreFields bare fields → fields_of bare ≡ fields
fields_of-AreFields bare [] are = fields_of-blanks bare are
fields_of-AreFields bare (field ∷ fields) are =
    let first = are.1 in
    ap fields_of first.whole
    ∙ fields_of-after first.before (field ++ are.0) first.blanks
    ∙ fields_of-field field are.0 first.is_field first.longest
    ∙ ap (λ l. field ∷ l) (fields_of-AreFields are.0 fields are.2)

-- the last byte, by itself
last-apart : (b : ℕ) (bytes : List ℕ) → b ∷ bytes ≡ take (length bytes) (b ∷ bytes) ++ (get_or (b ∷ bytes) (length bytes) 0 ∷ [])
last-apart b [] = refl
last-apart b (c ∷ bytes) = ap (λ l. b ∷ l) (last-apart c bytes)

ends_with-return : (front : List ℕ) → ends_with_byte 13 (front ++ 13 ∷ []) ≡ true
ends_with-return front = grind (arith, common_steps)

take-return : (front : List ℕ) → take (length (front ++ 13 ∷ []) - 1) (front ++ 13 ∷ []) ≡ front
take-return front = grind (arith, common_steps)

strip-returned : (front : List ℕ) → strip_last 13 (front ++ 13 ∷ []) ≡ front
strip-returned front = rw (ends_with-return front) (take-return front)

both : (p q : Bool) → (p && q) ≡ true → q ≡ true
both true q h = h
both false q h = cc h

ends-apart : (line : List ℕ) → ends_with_byte 13 line ≡ true → line ≡ take (length line - 1) line ++ 13 ∷ []
ends-apart [] h = absurd (cc h)
ends-apart (b ∷ bytes) h =
    let count : length (b ∷ bytes) - 1 ≡ length bytes = omega arith in
    let test : (get_or (b ∷ bytes) (length (b ∷ bytes) - 1) 0 == 13) ≡ true = both _ _ h in
    let last : get_or (b ∷ bytes) (length bytes) 0 ≡ 13 = ap (λ k. get_or (b ∷ bytes) k 0) (sym count) ∙ eqb-true _ _ test in
    last-apart b bytes
    ∙ ap (λ k. take k (b ∷ bytes) ++ (get_or (b ∷ bytes) (length bytes) 0 ∷ [])) (sym count)
    ∙ ap (λ (v : ℕ). take (length (b ∷ bytes) - 1) (b ∷ bytes) ++ (v ∷ [])) last

bare-of : (line : List ℕ) (x : Bool) → ends_with_byte 13 line ≡ x → IsBare line (cond x (take (length line - 1) line) line)
bare-of line true e = returned (ends-apart line e)
bare-of line false e = whole refl (λ front is. absurd (cc (e, ap (ends_with_byte 13) is, ends_with-return front)))

pub IsBare-strip_last : (line : List ℕ) → IsBare line (strip_last 13 line)
IsBare-strip_last line = bare-of line (ends_with_byte 13 line) refl

strip-whole : (line : List ℕ) (x : Bool) → ends_with_byte 13 line ≡ x → ((front : List ℕ) → line ≢ front ++ 13 ∷ []) → cond x (take (length line - 1) line) line ≡ line
strip-whole line true e none = absurd (none _ (ends-apart line e))
strip-whole line false e none = refl

pub strip_last-IsBare : (line bare : List ℕ) → IsBare line bare → strip_last 13 line ≡ bare
strip_last-IsBare line bare (returned is) = ap (strip_last 13) is ∙ strip-returned bare
strip_last-IsBare line bare (whole is none) = strip-whole line (ends_with_byte 13 line) refl none ∙ is
