-- What is read as an entry is spelled so, and what is spelled so is read.
use Rattle.std.proofs.Common.{◌≡◌, ℕ, zero, suc, ◌+◌, ◌-◌, ◌*◌, ◌%◌, ◌^◌, ◌<◌, ◌≤◌, false, not, ◌&&◌, ◌||◌, eqb, ltb, List, [], ◌∷◌, ◌++◌, Option, Some, None, Ok, length, take, drop, refl, sym, ap, subst, ◌∙◌, arith, append_assoc}
use Rattle.std.specs.List.{AllByRecursion}
use Rattle.std.proofs.lemmas.Bool.Decides.{nat_tests}
use Rattle.std.proofs.Math.Nat.{one-le-pow}
use Rattle.std.proofs.lemmas.List.{drop-drop, drop_at, length-append}
use Rattle.rip_wire.specs.declared.entry.Entry.{Entry}
use Rattle.rip_wire.specs.Prefix.{Block, block, size_of, mask_of, IsBlock}
use Rattle.rip_wire.specs.Fields.{number_at, bytes_of_number}
use Rattle.rip_wire.specs.Grammar.{IsEntry, EntryBytes, entry_bytes, entries_bytes}
use Rattle.rip_wire.specs.Response.{IsEntryAt}
use Rattle.rip_wire.specs.Message.{prefix_of, metric_of, entry_at, entries_at, bits_of_mask}
use Rattle.rip_wire.proofs.BindLemmas.{bind_ok, passed, same_Ok}
use Rattle.rip_wire.proofs.MaskLemmas.{bits_of_mask-Some, bits_of_mask-mask_of}
use Rattle.rip_wire.proofs.NumberLemmas.{IsBytes, bytes_of_number-2, bytes_of_number-4, number_at-lt, number_at-bytes, drop-number, length-bytes_of_number, take-two}

-- what a prefix that is read has
record IsReadPrefix (address : ℕ) (found : Option ℕ) (p : Block) : Type 0 where
  bits : ℕ
  found_is : found ≡ Some bits
  hosts : address % size_of bits ≡ 0
  default : bits ≡ 0 → address ≡ 0
  prefix : block address bits ≡ p

read_prefix : (k address : ℕ) (found : Option ℕ) (p : Block) → prefix_of k address found ≡ Ok p → IsReadPrefix address found p
read_prefix k address None p h = absurd (cc)
read_prefix k address (Some bits) p h =
    let one = passed (eqb bits 0 && not (eqb address 0)) _ _ p h in
    let two = passed (not (eqb (address % size_of bits) 0)) _ _ p one.1 in
    record { bits = bits; found_is = refl; hosts = grind (arith, nat_tests); default = λ none. grind (arith, nat_tests); prefix = same_Ok _ _ two.1 }

read_metric : (k metric m : ℕ) → metric_of k metric ≡ Ok m → (1 ≤ metric) × (metric ≤ 16) × (metric ≡ m)
read_metric k metric m h =
    let one = passed (eqb metric 0 || ltb 16 metric) _ _ m h in
    (grind (arith, nat_tests), grind (arith, nat_tests), same_Ok _ _ one.1)

-- what an entry that is read has
record IsRead (k : ℕ) (b : List ℕ) (e : Entry) : Type 0 where
  family : number_at 2 k b ≡ 2
  prefix : IsReadPrefix (number_at 4 (k + 4) b) (bits_of_mask (number_at 4 (k + 8) b)) e.prefix
  metric : (1 ≤ e.metric) × (e.metric ≤ 16) × (number_at 4 (k + 16) b ≡ e.metric)
  tag : number_at 2 (k + 2) b ≡ e.tag
  next_hop : number_at 4 (k + 12) b ≡ e.next_hop

read : (k : ℕ) (b : List ℕ) (e : Entry) → entry_at k b ≡ Ok e → IsRead k b e
unfolding entry_at
read k b e h =
    let one = passed (eqb (number_at 2 k b) 0xFFFF) _ _ e h in
    let two = passed (not (eqb (number_at 2 k b) 2)) _ _ e one.1 in
    let p = bind_ok (prefix_of k (number_at 4 (k + 4) b) (bits_of_mask (number_at 4 (k + 8) b))) _ e two.1 in
    let m = bind_ok (metric_of k (number_at 4 (k + 16) b)) _ e p.2 in
    let prefix = read_prefix k (number_at 4 (k + 4) b) (bits_of_mask (number_at 4 (k + 8) b)) p.0 p.1 in
    let metric = read_metric k (number_at 4 (k + 16) b) m.0 m.1 in
    let same = same_Ok _ e m.2 in
    subst (IsRead k b) same (record {
      family = grind (arith, nat_tests);
      prefix = prefix;
      metric = (rw (← metric.2) metric.0, rw (← metric.2) metric.1, metric.2);
      tag = refl;
      next_hop = refl;
    })

pub read_metric_bounds : (k : ℕ) (b : List ℕ) (e : Entry) → entry_at k b ≡ Ok e → (1 ≤ e.metric) × (e.metric ≤ 16)
read_metric_bounds k b e h = let r = read k b e h in (r.metric.0, r.metric.1)

ok_metric : (k m : ℕ) → 1 ≤ m → m ≤ 16 → metric_of k m ≡ Ok m
ok_metric k m low high =
    let fits : (eqb m 0 || ltb 16 m) ≡ false = grind (arith, nat_tests) in
    rw fits refl

-- an entry is read exactly of its fields
pub entry_fields : (k : ℕ) (b : List ℕ) (e : Entry) → entry_at k b ≡ Ok e → IsEntryAt b k e
entry_fields k b e h =
    let r = read k b e h in
    let mask = bits_of_mask-Some (number_at 4 (k + 8) b) r.prefix.bits r.prefix.found_is in
    let network = ap (λ (p : Block). p.network) r.prefix.prefix in
    let bits = ap (λ (p : Block). p.prefix_len) r.prefix.prefix in
    record {
      family = r.family;
      tag = r.tag;
      address = network;
      mask = mask.1 ∙ ap mask_of bits;
      next_hop = r.next_hop;
      metric = r.metric.2;
      bits = subst (λ (n : ℕ). n ≤ 32) bits mask.0;
      covered = subst (λ (p : Block). p.network % size_of p.prefix_len ≡ 0) r.prefix.prefix r.prefix.hosts;
      default = subst (λ (p : Block). p.prefix_len ≡ 0 → p.network ≡ 0) r.prefix.prefix r.prefix.default;
      reachable = r.metric.0;
      infinity = r.metric.1;
    }

pub fields_entry : (k : ℕ) (b : List ℕ) (e : Entry) → IsEntryAt b k e → entry_at k b ≡ Ok e
unfolding entry_at
fields_entry k b e f =
    let ones = bits_of_mask-mask_of e.prefix.prefix_len f.bits in
    rw (f.family, f.tag, f.address, f.mask, f.next_hop, f.metric, ones, covered_prefix k e.prefix f.covered f.default, ok_metric k e.metric f.reachable f.infinity) refl
  where
    covered_prefix : (k : ℕ) (p : Block) → p.network % size_of p.prefix_len ≡ 0 → (p.prefix_len ≡ 0 → p.network ≡ 0) → prefix_of k p.network (Some p.prefix_len) ≡ Ok p
    covered_prefix k p none zero_bits =
        let has_mask : (eqb p.prefix_len 0 && not (eqb p.network 0)) ≡ false = grind (arith, nat_tests) in
        let has_hosts : not (eqb (p.network % size_of p.prefix_len) 0) ≡ false = grind (arith, nat_tests) in
        rw (has_mask, has_hosts) refl

-- an entry that is read is spelled by its twenty bytes
pub spelled : (k : ℕ) (b : List ℕ) (e : Entry) → IsBytes b → k + 20 ≤ length b → entry_at k b ≡ Ok e → EntryBytes e (take 20 (drop k b))
spelled k b e bytes room h =
    let r = read k b e h in
    let mask = bits_of_mask-Some (number_at 4 (k + 8) b) r.prefix.bits r.prefix.found_is in
    let family = ap (bytes_of_number 2) (sym r.family) ∙ bytes_of_number-2 k b bytes (omega arith) in
    let tag = ap (bytes_of_number 2) (sym r.tag) ∙ bytes_of_number-2 (k + 2) b bytes (omega arith) in
    let network = ap (λ (p : Block). bytes_of_number 4 p.network) (sym r.prefix.prefix) ∙ bytes_of_number-4 (k + 4) b bytes (omega arith) in
    let ones = ap (λ (p : Block). bytes_of_number 4 (mask_of p.prefix_len)) (sym r.prefix.prefix) ∙ ap (bytes_of_number 4) (sym mask.1) ∙ bytes_of_number-4 (k + 8) b bytes (omega arith) in
    let hop = ap (bytes_of_number 4) (sym r.next_hop) ∙ bytes_of_number-4 (k + 12) b bytes (omega arith) in
    let metric = ap (bytes_of_number 4) (sym r.metric.2) ∙ bytes_of_number-4 (k + 16) b bytes (omega arith) in
    let five = take-two 4 4 (k + 12) (k + 16) b _ _ (omega arith) hop metric in
    let four = take-two 4 8 (k + 8) (k + 12) b _ _ (omega arith) ones five in
    let three = take-two 4 12 (k + 4) (k + 8) b _ _ (omega arith) network four in
    let two = take-two 2 16 (k + 2) (k + 4) b _ _ (omega arith) tag three in
    let is_block : IsBlock (block (number_at 4 (k + 4) b) r.prefix.bits) = (mask.0, number_at-lt 4 (k + 4) b bytes, r.prefix.hosts) in
    record {
      entry = record {
        tag = rw (← r.tag) (number_at-lt 2 (k + 2) b bytes);
        prefix = subst IsBlock r.prefix.prefix is_block;
        next_hop = rw (← r.next_hop) (number_at-lt 4 (k + 12) b bytes);
        reachable = r.metric.0;
        infinity = r.metric.1;
      };
      bytes = sym (take-two 2 18 k (k + 2) b _ _ refl family two);
    }

mask_of-lt : (n : ℕ) → mask_of n < 256 ^ 4
mask_of-lt n = omega (arith, one-le-pow (32 - n) 2 (omega arith))

no_bits : (n a : ℕ) → a < 2 ^ 32 → a % size_of n ≡ 0 → n ≡ 0 → a ≡ 0
no_bits n a small none zero_bits =
    let P : ℕ → Type 0 = λ (m : ℕ). a % size_of m ≡ 0 in
    let all : a % size_of 0 ≡ 0 = subst P zero_bits none in
    omega arith

ok_prefix : (k : ℕ) (p : Block) → IsBlock p → prefix_of k p.network (Some p.prefix_len) ≡ Ok p
ok_prefix k p is =
    let small = is.1 in
    let none = is.2 in
    let zero_bits = no_bits p.prefix_len p.network small none in
    let has_mask : (eqb p.prefix_len 0 && not (eqb p.network 0)) ≡ false = grind (arith, nat_tests) in
    let has_hosts : not (eqb (p.network % size_of p.prefix_len) 0) ≡ false = grind (arith, nat_tests) in
    rw (has_mask, has_hosts) refl

-- an entry has twenty bytes
pub length-entry_bytes : (e : Entry) → length (entry_bytes e) ≡ 20
length-entry_bytes e = simp (length-append, length-bytes_of_number) (omega arith)

-- the spelling of an entry is read as the entry
pub read_again : (k : ℕ) (b rest : List ℕ) (e : Entry) → IsEntry e → drop k b ≡ entry_bytes e ++ rest → entry_at k b ≡ Ok e
unfolding entry_at
read_again k b rest e fits here =
    let tail = bytes_of_number 4 (mask_of e.prefix.prefix_len) ++ (bytes_of_number 4 e.next_hop ++ (bytes_of_number 4 e.metric ++ rest)) in
    let flat : drop k b ≡ bytes_of_number 2 2 ++ (bytes_of_number 2 e.tag ++ (bytes_of_number 4 e.prefix.network ++ tail)) = here ∙ simp append_assoc in
    let d2 : drop (k + 2) b ≡ _ = drop-number 2 k 2 b _ flat in
    let d4 : drop (k + 4) b ≡ _ = ap (λ (n : ℕ). drop n b) (omega arith) ∙ drop-number 2 (k + 2) e.tag b _ d2 in
    let d8 : drop (k + 8) b ≡ _ = ap (λ (n : ℕ). drop n b) (omega arith) ∙ drop-number 4 (k + 4) e.prefix.network b _ d4 in
    let d12 : drop (k + 12) b ≡ _ = ap (λ (n : ℕ). drop n b) (omega arith) ∙ drop-number 4 (k + 8) (mask_of e.prefix.prefix_len) b _ d8 in
    let d16 : drop (k + 16) b ≡ _ = ap (λ (n : ℕ). drop n b) (omega arith) ∙ drop-number 4 (k + 12) e.next_hop b _ d12 in
    let low = fits.reachable in
    let high = fits.infinity in
    let family = number_at-bytes 2 k 2 b _ (omega arith) flat in
    let tag = number_at-bytes 2 (k + 2) e.tag b _ fits.tag d2 in
    let network = number_at-bytes 4 (k + 4) e.prefix.network b _ fits.prefix.1 d4 in
    let mask = number_at-bytes 4 (k + 8) (mask_of e.prefix.prefix_len) b _ (mask_of-lt e.prefix.prefix_len) d8 in
    let hop = number_at-bytes 4 (k + 12) e.next_hop b _ fits.next_hop d12 in
    let metric = number_at-bytes 4 (k + 16) e.metric b _ (omega arith) d16 in
    let ones = bits_of_mask-mask_of e.prefix.prefix_len fits.prefix.0 in
    rw (family, tag, network, mask, hop, metric, ones, ok_prefix k e.prefix fits.prefix, ok_metric k e.metric low high) refl

-- entries that are read are spelled by their bytes
pub record AreSpelled (n k : ℕ) (b : List ℕ) (es : List Entry) : Type 0 where
  pub count : length es ≡ n
  pub each : AllByRecursion IsEntry es
  pub bytes : entries_bytes es ≡ take (20 * n) (drop k b)

pub spelled_all : (n k : ℕ) (b : List ℕ) (es : List Entry) → IsBytes b → k + 20 * n ≤ length b → entries_at n k b ≡ Ok es → AreSpelled n k b es
unfolding entries_at entries_bytes
spelled_all zero k b es bytes room h =
    subst (AreSpelled 0 k b) (same_Ok [] es h) (record { count = refl; each = tt; bytes = refl })
spelled_all (suc n) k b es bytes room h =
    let first = bind_ok (entry_at k b) _ es h in
    let rest = bind_ok (entries_at n (k + 20) b) _ es first.2 in
    let one = spelled k b first.0 bytes (omega arith) first.1 in
    let others = spelled_all n (k + 20) b rest.0 bytes (omega arith) rest.1 in
    let whole = take-two 20 (20 * n) k (k + 20) b _ _ refl (sym one.bytes) others.bytes in
    let size : 20 + 20 * n ≡ 20 * suc n = omega arith in
    subst (AreSpelled (suc n) k b) (same_Ok _ es rest.2) (record {
      count = ap suc others.count;
      each = (one.entry, others.each);
      bytes = whole ∙ ap (λ (m : ℕ). take m (drop k b)) size;
    })

-- the spellings of entries are read as the entries
pub read_all_again : (k : ℕ) (b rest : List ℕ) (es : List Entry) → AllByRecursion IsEntry es → drop k b ≡ entries_bytes es ++ rest → entries_at (length es) k b ≡ Ok es
unfolding entries_at entries_bytes
read_all_again k b rest [] all here = refl
read_all_again k b rest (e ∷ es) all here =
    let flat : drop k b ≡ entry_bytes e ++ (entries_bytes es ++ rest) = here ∙ append_assoc (entry_bytes e) (entries_bytes es) rest in
    let after : drop (k + 20) b ≡ entries_bytes es ++ rest = sym (drop-drop 20 k b) ∙ ap (drop 20) flat ∙ drop_at (entry_bytes e) (entries_bytes es ++ rest) 20 (length-entry_bytes e) in
    rw (read_again k b (entries_bytes es ++ rest) e all.0 flat, read_all_again (k + 20) b rest es all.1 after) refl

pub length-entries_bytes : (es : List Entry) → length (entries_bytes es) ≡ 20 * length es
unfolding entries_bytes
length-entries_bytes [] = refl
length-entries_bytes (e ∷ es) = omega (arith, length-append (entry_bytes e) (entries_bytes es), length-entry_bytes e, length-entries_bytes es)
