-- The test of a name and what a name is.
use Rattle.std.proofs.Common.{◌≡◌, ◌∙◌, ◌<◌, ℕ, Bool, true, false, ◌&&◌, leb, List, length, get_or, map, slice_index_or, refl, ap, arith, rules, tests}
use Rattle.std.specs.List.{list_all, range_with_len}
use Rattle.std.proofs.lemmas.Bool.{and_parts}
use Rattle.std.proofs.lemmas.Bool.Decides.{nat_tests}
use Rattle.std.proofs.lemmas.List.Sums.{AllPass-from_list_all, list_all-from_AllPass}
use Rattle.rip_wire.specs.Name.{IsNameByte, IsName, is_name_byte, is_name}
use Rattle.rip_wire.specs.declared.name.TheConstants.{NAME_BYTES}
use Rattle.std.proofs.lemmas.List.FromFn.{get_or-map-range_with_len}

byte-gives : (c : ℕ) → is_name_byte c ≡ true → IsNameByte c
byte-gives c h = search (rules, tests)

byte-holds : (c : ℕ) → IsNameByte c → is_name_byte c ≡ true
byte-holds c h = search (rules, tests)

pub is_name-gives : (text : List ℕ) → is_name text ≡ true → IsName text
is_name-gives text h =
    let low : (leb 1 (length text) ≡ true) × ((leb (length text) 32 && list_all is_name_byte text) ≡ true) = and_parts _ _ h in
    let high : (leb (length text) 32 ≡ true) × (list_all is_name_byte text ≡ true) = and_parts _ _ low.1 in
    record {
      some = grind (arith, nat_tests, low.0);
      few = grind (arith, nat_tests, high.0);
      bytes = λ i d lt. byte-gives _ (AllPass-from_list_all is_name_byte text high.1 i d lt);
    }

pub is_name-holds : (text : List ℕ) → IsName text → is_name text ≡ true
is_name-holds text h =
    let low : leb 1 (length text) ≡ true = grind (arith, nat_tests, h.some) in
    let high : leb (length text) 32 ≡ true = grind (arith, nat_tests, h.few) in
    let each = list_all-from_AllPass is_name_byte text (λ i d lt. byte-holds _ (h.bytes i d lt)) in
    rw (low, high) each

flags : NAME_BYTES ≡ map is_name_byte (range_with_len 0 256)
flags = refl

-- the flag of a byte tells whether it may stand in a name
pub flag-at : (b at : ℕ) → b < 256 → at ≡ b → slice_index_or NAME_BYTES at false ≡ is_name_byte b
flag-at b at small is =
    ap (λ (l : List Bool). get_or l at false) flags ∙ get_or-map-range_with_len is_name_byte 0 256 at b false (omega (arith, is)) (omega (arith, is))
