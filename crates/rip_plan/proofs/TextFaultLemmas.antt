-- The first fault of a text is the one that is told, and a text that is read has none.
use Rattle.std.proofs.Common.{◌≡◌, ◌≢◌, ℕ, ◌<◌, ◌≤◌, ◌⊎◌, ◌↔◌, inl, inr, List, [], ◌∷◌, length, Bool, true, false, cond, not, ◌||◌, Option, Some, None, Result, Ok, Err, refl, sym, ap, subst, ◌∙◌, arith}
use Rattle.std.proofs.lemmas.Bool.{both_ways, cases_Bool, not-false, not-true}
use Rattle.std.specs.Prelude.{pos, nat_lt, ◌==◌, codes as codes_of}
use Rattle.std.specs.Result.{result_err}
use Rattle.std.proofs.lemmas.Option.{none-some, same_Some}
use Rattle.std.proofs.lemmas.Bool.Decides.{nat_tests}
use Rattle.toml.specs.Data.{Data, Members, get_member, table, integer}
use Rattle.rip_plan.specs.declared.error.PlanCode.{PlanCode}
use Rattle.rip_plan.specs.declared.error.PlanCode.TheVariants as codes
use Rattle.rip_plan.specs.declared.error.PlanError.{PlanError}
use Rattle.rip_plan.specs.declared.error.At.{At}
use Rattle.rip_plan.specs.declared.error.At.TheVariants.{Text, Version, Link, LinkOnly, LinkPrefix, Router, RouterInterface, RouterOwn}
use Rattle.rip_plan.specs.Answers.{first_fault}
use Rattle.rip_plan.specs.Codes.{number_of_code}
use Rattle.rip_plan.specs.Draft.{Sketch, link_step, router_step}
use Rattle.rip_plan.specs.Fault.{fault, ◌>>=◌, steps, wanted}
use Rattle.rip_plan.specs.Fields.{is_version, root_fields}
use Rattle.rip_plan.specs.Network.{network_of_sketch}
use Rattle.rip_plan.specs.Passes.{second_passes}
use Rattle.rip_plan.specs.PlanOf.{PlanOf}
use Rattle.rip_plan.specs.PlanText.{empty, document_of, sketch_of_document, sketch_of}
use Rattle.rip_plan.specs.PlanFaults.{IsText, HasTables, TableFault, FaultAt, AstrayAt, GatewayTakenAt, IsFound, IsFault, PlanFault, Before, pass_of, rank}
use Rattle.rip_plan.proofs.FaultRowLemmas.{IsAstrayAt, IsGatewayTakenAt, IsOfTables, IsTold, covers, first_pass, first_rows, links_rows, links_sooner, pass_apart, pass_rows, routers_rows, table_rows, tables_low, told_finds}
use Rattle.rip_plan.proofs.FindingLemmas.{Among, Asks, Found, Finds, InTurn, ask_guard, ask_rest, ask_wanted, bind_finds, bind_ok, finds_in, ranked, row_at, before_not, before_trans, before_or}
use Rattle.rip_plan.proofs.TableFaultLemmas.{links_find, routers_find}
use Rattle.rip_plan.proofs.OnePlanLemmas.{items_same}
use Rattle.rip_plan.proofs.PassFaultLemmas.{passes_find}
use Rattle.rip_plan.proofs.PlanMatchLemmas.{document_matches, tables_read}
use Rattle.rip_plan.proofs.TextLemmas.{TextLaws}
use Rattle.rip_plan.specs.DocumentTables.{IsRoot}
use Rattle.rip_plan.proofs.DocumentTableLemmas.{root_not, root_table}

-- ---- the tables

module _ (laws : TextLaws) (document : Members) (links routers : List Data) (poison : Bool) (root : root_fields document ≡ Some (links, routers, poison)) where
  tables_find : Finds (IsOfTables document links routers) table_rows (steps link_step 1 links (empty poison) >>= steps router_step 1 routers >>= (λ s. second_passes s >>= (λ _. Ok s)))
  tables_find =
      let F = IsOfTables document links routers in
      bind_finds F first_rows pass_rows (steps link_step 1 links (empty poison) >>= steps router_step 1 routers) (λ s. second_passes s >>= (λ _. Ok s))
      (λ e o h later. pass_apart e o (grind (arith, first_pass e h)))
      (told_finds document links routers first_rows (steps link_step 1 links (empty poison) >>= steps router_step 1 routers) (λ o h. (first_pass o h).0)
      (bind_finds (IsTold document links routers) links_rows routers_rows (steps link_step 1 links (empty poison)) (steps router_step 1 routers) links_sooner
      (links_find laws document links routers poison) (λ w is. routers_find laws document links routers poison w is)))
      (λ s taken.
      let (w, first, second) = bind_ok (steps link_step 1 links (empty poison)) (steps router_step 1 routers) s taken in
      let read = tables_read laws links routers poison w s first second in
      let plan : PlanOf document (network_of_sketch s) = document_matches laws document links routers poison s root read in
      let root_is = root_table document links routers poison root in
      let tables : plan.links ≡ links = items_same (codes_of "link") (table document) plan.links links plan.has_links root_is.has_links in
      let others : plan.routers ≡ routers = items_same (codes_of "router") (table document) plan.routers routers plan.has_routers root_is.has_routers in
      then_ok F s (second_passes s) (passes_find laws document links routers s plan read.places_stand read.interfaces_stand (rw (tables, others) refl)))
    where
      then_ok : (F : Found → Type 0) (s : Sketch) (r : Result (Unit {0}) PlanError) → Finds F pass_rows r → Finds F pass_rows (r >>= (λ _. Ok s))
      then_ok F s r h = grind arith

-- ---- the document

abbrev IsTextFault : List ℕ → Found → Type 0
IsTextFault bytes o = IsFound bytes o.pass o.error

-- an error of the pass of its code
pass_same : (pass : ℕ) (c : PlanCode) (place : At) → pass ≡ pass_of c → record { pass = pass; error = fault c place } ≡ row_at c place
pass_same pass c place same = ap (λ (n : ℕ). record { pass = n; error = fault c place }) same

-- a fault of a place where no own prefix is
in_table : (bytes : List ℕ) (pass : ℕ) (c : PlanCode) (place : At) → (GatewayTakenAt bytes place → ⊥) → (AstrayAt bytes place → ⊥) → IsFound bytes pass (fault c place) → FaultAt bytes c place
in_table bytes pass c place g h k = grind arith

-- ---- the version

pub version_is : (o : Option Data) → is_version o ≡ true → o ≡ Some (integer (pos 1))
version_is o h = grind arith

pub version_told : (o : Option Data) → not (is_version o) ≡ true → o ≢ Some (integer (pos 1))
version_told o h same = both_ways (is_version o) (not-true (is_version o) h) (ap is_version same)

-- ---- all faults of a document

pub same_document : (bytes : List ℕ) (document other : Members) → document_of bytes ≡ Some document → IsText bytes other → other ≡ document
same_document bytes document other h text = same_Some other document (sym text.reads ∙ h)

-- bytes have one document, with one list of links and one of routers
module _ (bytes : List ℕ) (document : Members) (links routers : List Data) (has : HasTables bytes document links routers) where
  pub one_tables : (other : Members) (ls rs : List Data) → HasTables bytes other ls rs → ◌≡◌ {A = Members × List Data × List Data} (other, ls, rs) (document, links, routers)
  one_tables other ls rs h = grind arith

  pub whole_fault : (c : PlanCode) (place : At) → TableFault document links routers c place → FaultAt bytes c place
  whole_fault c place h = grind arith

  pub one_fault : (c : PlanCode) (place : At) (other : Members) (ls rs : List Data) → HasTables bytes other ls rs → TableFault other ls rs c place → TableFault document links routers c place
  one_fault c place other ls rs h f = subst (λ (t : Members × List Data × List Data). TableFault t.0 t.1 t.2 c place) (one_tables other ls rs h) f

  pub one_taken : (place : At) (other : Members) (ls rs : List Data) → HasTables bytes other ls rs → IsGatewayTakenAt other ls rs place → IsGatewayTakenAt document links routers place
  one_taken place other ls rs h f = subst (λ (t : Members × List Data × List Data). IsGatewayTakenAt t.0 t.1 t.2 place) (one_tables other ls rs h) f

  pub one_astray : (place : At) (other : Members) (ls rs : List Data) → HasTables bytes other ls rs → IsAstrayAt other ls rs place → IsAstrayAt document links routers place
  one_astray place other ls rs h f = subst (λ (t : Members × List Data × List Data). IsAstrayAt t.0 t.1 t.2 place) (one_tables other ls rs h) f

module _ (laws : TextLaws) (bytes : List ℕ) (document : Members) (short : length bytes ≤ 1048576) (reads : document_of bytes ≡ Some document) where
  text : IsText bytes document
  text = record { short = short; reads = reads }

  -- the rows of the tables, in the words of all faults
  module _ (links routers : List Data) (poison : Bool) (root : root_fields document ≡ Some (links, routers, poison)) where
    tables : HasTables bytes document links routers
    tables = let r = root_table document links routers poison root in record { text = text; has_links = r.has_links; has_routers = r.has_routers }

    -- a fault is one of the text as a whole, or of the tables
    split_fault : (pass : ℕ) (c : PlanCode) (place : At) → IsFound bytes pass (fault c place)
        → Before (rank pass (fault c place)) (0 ∷ 1 ∷ []) ⊎ IsOfTables document links routers (record { pass = pass; error = fault c place })
    split_fault pass codes.Syntax Text (inl h) = inl (inr (h.1, inl (omega arith)))
    split_fault pass codes.Version Version (inl h) = inl (inr (h.1, inl (omega arith)))
    split_fault pass codes.Key Text (inl h) = inl (inr (h.1, inl (omega arith)))
    split_fault pass codes.Limit Text (inl h) = inl (inr (h.1, inl (omega arith)))
    split_fault pass c place (inl h) = inr (inl (one_fault bytes document links routers tables c place h.0.0 h.0.1 h.0.2 h.0.3 h.0.4, h.1))
    split_fault pass c (RouterOwn r j) (inr (inl h)) = inr (inr (inl (one_taken bytes document links routers tables (RouterOwn r j) h.0.0 h.0.1 h.0.2 h.0.3 h.0.4, h.1, h.2)))
    split_fault pass c (RouterOwn r j) (inr (inr h)) = inr (inr (inr (one_astray bytes document links routers tables (RouterOwn r j) h.0.0 h.0.1 h.0.2 h.0.3 h.0.4, h.1, h.2)))
    split_fault pass c place (inr (inl h)) = absurd h.0
    split_fault pass c place (inr (inr h)) = absurd h.0

    -- a fault of the tables is a fault of the bytes
    whole_taken : (place : At) → IsGatewayTakenAt document links routers place → GatewayTakenAt bytes place
    whole_taken (RouterOwn r j) h = (document, links, routers, tables, h)
    whole_taken place h = absurd h

    whole_astray : (place : At) → IsAstrayAt document links routers place → AstrayAt bytes place
    whole_astray (RouterOwn r j) h = (document, links, routers, tables, h)
    whole_astray place h = absurd h

    whole : (o : Found) → IsOfTables document links routers o → IsTextFault bytes o
    whole o (inl h) = inl (whole_fault bytes document links routers tables o.error.code o.error.place h.0, h.1)
    whole o (inr (inl h)) = inr (inl (whole_taken o.error.place h.0, h.1, h.2))
    whole o (inr (inr h)) = inr (inr (whole_astray o.error.place h.0, h.1, h.2))

  -- the rows of the text as a whole, and then those of the tables
  abbrev text_rows : List Found
  text_rows = row_at codes.Version Version ∷ row_at codes.Key Text ∷ row_at codes.Limit Text ∷ []

  text_turn : InTurn text_rows table_rows
  text_turn = grind (arith, tables_low)

  -- too many links or routers
  over : (links routers : List Data) → (nat_lt 512 (length links) || nat_lt 128 (length routers)) ≡ true ↔ ((512 < length links) ⊎ (128 < length routers))
  over links routers = (λ h. grind arith, λ h. grind (arith, nat_tests))

  document_asks : Asks (IsTextFault bytes) text_rows table_rows (sketch_of_document document)
  unfolding sketch_of_document
  document_asks =
      ask_guard (not (is_version (get_member (codes_of "version") document))) _ (λ bad. inl ((document, text, version_told (get_member (codes_of "version") document) bad), refl))
      (λ good f.
      let h = in_table bytes 0 codes.Version Version (λ a. a) (λ a. a) f in
      let same = same_document bytes document h.0 reads h.1 in
      h.2 (ap (get_member (codes_of "version")) same ∙ version_is (get_member (codes_of "version") document) (not-false (is_version (get_member (codes_of "version") document)) good)))
      (λ good.
      ask_wanted (root_fields document) _ (λ none. inl ((document, text, root_not document none), refl))
      (λ r is f.
      let h = in_table bytes 0 codes.Key Text (λ a. a) (λ a. a) f in
      h.2 (subst IsRoot (sym (same_document bytes document h.0 reads h.1)) (root_table document r.0 r.1 r.2 is).shape))
      (λ r is.
      ask_guard (nat_lt 512 (length r.0) || nat_lt 128 (length r.1)) _ (λ more. inl (inr (document, r.0, r.1, tables r.0 r.1 r.2 is, (over r.0 r.1).0 more), refl))
      (λ room f. limit_clear r.0 r.1 r.2 is room (in_table bytes 0 codes.Limit Text (λ a. a) (λ a. a) f))
      (λ room.
      ask_rest (finds_in (IsOfTables document r.0 r.1) (IsTextFault bytes) table_rows table_rows
      (steps link_step 1 r.0 (empty r.2) >>= steps router_step 1 r.1 >>= (λ s. second_passes s >>= (λ _. Ok s))) (λ o t. whole r.0 r.1 r.2 is o t) (λ o here. here)
      (λ o here f. elim (split_fault r.0 r.1 r.2 is o.pass o.error.code o.error.place f) [ inl before ↦ absurd (tables_low o here before) | inr told ↦ (told, here) ])
      (tables_find laws document r.0 r.1 r.2 is)))))
    where
      limit_clear : (links routers : List Data) (poison : Bool) → root_fields document ≡ Some (links, routers, poison) → (nat_lt 512 (length links) || nat_lt 128 (length routers)) ≡ false
          → FaultAt bytes codes.Limit Text → ⊥
      limit_clear links routers poison is room (inl more) = let past : 1048576 < length bytes = more in omega arith
      limit_clear links routers poison is room (inr (other, ls, rs, has, more)) =
          let same = one_tables bytes document links routers (tables links routers poison is) other ls rs has in
          both_ways (nat_lt 512 (length links) || nat_lt 128 (length routers)) room
          ((over links routers).1 (subst (λ (t : Members × List Data × List Data). (512 < length t.1) ⊎ (128 < length t.2)) same more))

  row_covered : (c : PlanCode) (place : At) → FaultAt bytes c place → Among text_rows table_rows (row_at c place)
  row_covered codes.Syntax Text h = absurd (none-some document (sym h.1 ∙ reads))
  row_covered codes.Version Version h = inl refl
  row_covered codes.Key Text h = inr (inl refl)
  row_covered codes.Limit Text h = inr (inr (inl refl))
  row_covered c place h = inr (inr (inr (covers h.0 h.1 h.2 c place h.4)))

  all_covered : (o : Found) → IsTextFault bytes o → Among text_rows table_rows o
  all_covered o (inl h) = subst (Among text_rows table_rows) (sym (pass_same o.pass o.error.code o.error.place h.1)) (row_covered o.error.code o.error.place h.0)
  all_covered o (inr (inl h)) = inr (inr (inr (inr (inr (inr (inr (inl (h.2, h.1))))))))
  all_covered o (inr (inr h)) = inr (inr (inr (inr (inr (inr (inr (inr (inr (h.2, h.1)))))))))

  all_find : Finds (IsTextFault bytes) (λ o. Unit {0}) (sketch_of_document document)
  all_find =
      finds_in (IsTextFault bytes) (IsTextFault bytes) (Among text_rows table_rows) (λ o. Unit {0}) (sketch_of_document document) (λ e f. f) (λ e r. tt) (λ o u f. (f, all_covered o f))
      (document_asks.finds text_turn)

-- ---- the text

-- a fault whose code stands before Limit is one of a short text
short_of : (bytes : List ℕ) (c : PlanCode) (place : At) → number_of_code c < 15 → FaultAt bytes c place → length bytes ≤ 1048576
short_of bytes codes.Syntax Text less h = h.0
short_of bytes codes.Version Version less h = h.1.short
short_of bytes codes.Key Text less h = h.1.short
short_of bytes codes.Limit Text less h = absurd (omega arith)
short_of bytes c place less h = h.3.text.short

text_finds : (laws : TextLaws) (bytes : List ℕ) → Finds (IsTextFault bytes) (λ o. Unit {0}) (sketch_of bytes)
unfolding sketch_of
text_finds laws bytes =
    elim (cases_Bool (nat_lt 1048576 (length bytes))) [
      | inl e ↦
          let more : 1048576 < length bytes = grind (arith, nat_tests) in
          rw e (0, inl (inl more, refl), tt, λ o u f before. past_long more o f before)
      | inr e ↦ rw e (by_document (grind (arith, nat_tests)) (document_of bytes) refl)
    ]
  where
    past_long : 1048576 < length bytes → (o : Found) → IsTextFault bytes o → Before (ranked o) (ranked (row_at codes.Limit Text)) → ⊥
    past_long more o (inl h) before = let short = short_of bytes o.error.code o.error.place (grind arith) h.0 in omega (arith, short)
    past_long more o (inr h) before = grind arith

    none_sooner : (o : Found) → Before (ranked o) (ranked (row_at codes.Syntax Text)) → ⊥
    none_sooner o before = grind arith

    by_document : length bytes ≤ 1048576 → (o : Option Members) → document_of bytes ≡ o → Finds (IsTextFault bytes) (λ o. Unit {0}) (wanted (fault codes.Syntax Text) o >>= sketch_of_document)
    by_document short None e = (0, inl ((short, e), refl), tt, λ o u f before. none_sooner o before)
    by_document short (Some document) e = all_find laws bytes document short e

-- ---- a fault is known by its rank

code_from : ℕ → PlanCode
code_from n =
    cond (n == 1) codes.Syntax (cond (n == 2) codes.Version (cond (n == 3) codes.Key (cond (n == 4) codes.Name (cond (n == 5) codes.DuplicateName (
    cond (n == 6) codes.Address (cond (n == 7) codes.Prefix (cond (n == 8) codes.Cost (cond (n == 9) codes.DuplicatePrefix (cond (n == 10) codes.UnknownLink (
    cond (n == 11) codes.TwiceOnLink (cond (n == 12) codes.DuplicateAddress (cond (n == 13) codes.OutsidePrefix (cond (n == 14) codes.NoInterface (cond (n == 15) codes.Limit codes.Memory))))))))))))))

code_back : (c : PlanCode) → code_from (number_of_code c) ≡ c
unfolding code_from
code_back c = grind arith

error_from : List ℕ → PlanError
error_from (pass ∷ part ∷ i ∷ group ∷ j ∷ code ∷ []) =
    fault (code_from code)
    (cond (part == 0) (cond (code == 2) Version Text) (
    cond (part == 1) (cond (group == 0) (Link i) (cond (group == 1) (LinkPrefix i j) (LinkOnly i j))) (
    cond (group == 0) (Router i) (cond (group == 1) (RouterInterface i j) (RouterOwn i j)))))
error_from ns = fault codes.Memory Text

from_rank : (bytes : List ℕ) (pass : ℕ) (c : PlanCode) (place : At) → IsFound bytes pass (fault c place) → error_from (rank pass (fault c place)) ≡ fault c place
unfolding error_from
from_rank bytes pass codes.Version Text (inl h) = absurd h.0.4
from_rank bytes pass codes.Version Version (inl h) = ap (λ (d : PlanCode). fault d Version) (code_back codes.Version)
from_rank bytes pass c Version (inl h) = absurd h.0.4
from_rank bytes pass c Version (inr (inl h)) = absurd h.0
from_rank bytes pass c Version (inr (inr h)) = absurd h.0
from_rank bytes pass c Text (inr (inl h)) = absurd h.0
from_rank bytes pass c Text (inr (inr h)) = absurd h.0
from_rank bytes pass c place h = ap (λ (d : PlanCode). fault d place) (code_back c)

rank_length : (pass : ℕ) (c : PlanCode) (place : At) → length (rank pass (fault c place)) ≡ 6
rank_length pass c place = grind arith

pub fault_first : (laws : TextLaws) (bytes : List ℕ) (e : PlanError) → sketch_of bytes ≡ Err e → PlanFault bytes e
fault_first laws bytes e h =
    let found : Finds (IsTextFault bytes) {A = Sketch} (λ o. Unit {0}) (Err e) = subst (λ (r : Result Sketch PlanError). Finds (IsTextFault bytes) (λ o. Unit {0}) r) h (text_finds laws bytes) in
    record {
      pass = found.0;
      found = found.1;
      first = λ other o f.
          let lengths : length (rank found.0 e) ≡ length (rank other o) = rank_length found.0 e.code e.place ∙ sym (rank_length other o.code o.place) in
          let later = found.3 (record { pass = other; error = o }) tt f in
          grind (arith, before_or (rank found.0 e) (rank other o) lengths, from_rank bytes other o.code o.place f, from_rank bytes found.0 e.code e.place found.1, later);
    }

pub faultless : (laws : TextLaws) (bytes : List ℕ) (s : Sketch) → sketch_of bytes ≡ Ok s → (e : PlanError) → IsFault bytes e → ⊥
faultless laws bytes s h e f =
    let found : Finds (IsTextFault bytes) {A = Sketch} (λ o. Unit {0}) (Ok s) = subst (λ (r : Result Sketch PlanError). Finds (IsTextFault bytes) (λ o. Unit {0}) r) h (text_finds laws bytes) in
    found (record { pass = f.0; error = e }) tt f.1

-- ---- the laws

-- a text is read, or its first fault is told
pub read_or_told : (laws : TextLaws) (bytes : List ℕ) → ((s : Sketch) × (sketch_of bytes ≡ Ok s)) ⊎ ((d : PlanError) × (sketch_of bytes ≡ Err d) × PlanFault bytes d)
read_or_told laws bytes = by_sketch (sketch_of bytes) refl
  where
    by_sketch : (r : Result Sketch PlanError) → sketch_of bytes ≡ r → ((s : Sketch) × (sketch_of bytes ≡ Ok s)) ⊎ ((d : PlanError) × (sketch_of bytes ≡ Err d) × PlanFault bytes d)
    by_sketch (Ok s) h = inl (s, h)
    by_sketch (Err d) h = inr (d, h, fault_first laws bytes d h)

abbrev fault_in : Result Sketch PlanError → Option PlanError
fault_in r = result_err (r >>= (λ s. Ok (network_of_sketch s)))

one_first : (bytes : List ℕ) (d e : PlanError) → PlanFault bytes d → PlanFault bytes e → d ≡ e
one_first bytes d e p q =
    grind (arith, q.first p.pass d p.found, p.first q.pass e q.found, before_not (rank p.pass d), before_trans (rank p.pass d) (rank q.pass e) (rank p.pass d))

pub fault_told : (laws : TextLaws) (bytes : List ℕ) (e : PlanError) → (first_fault bytes ≡ Some e) ↔ PlanFault bytes e
fault_told laws bytes e =
    elim (read_or_told laws bytes) [
      | inl (s, h) ↦ (λ f. absurd (none-some e (sym (ap fault_in h) ∙ f)), λ p. absurd (faultless laws bytes s h e (p.pass, p.found)))
      | inr (d, h, told) ↦ (λ f. subst (PlanFault bytes) (same_Some d e (sym (ap fault_in h) ∙ f)) told, λ p. ap fault_in h ∙ ap (λ (x : PlanError). Some x) (one_first bytes d e told p))
    ]

pub none_told : (laws : TextLaws) (bytes : List ℕ) → (first_fault bytes ≡ None) ↔ ((e : PlanError) → IsFault bytes e → ⊥)
none_told laws bytes =
    elim (read_or_told laws bytes) [
      | inl (s, h) ↦ (λ f. faultless laws bytes s h, λ p. ap fault_in h)
      | inr (d, h, told) ↦ (λ f. absurd (none-some d (sym f ∙ ap fault_in h)), λ p. absurd (p d (told.pass, told.found)))
    ]

-- no code of a fault is Memory
pub never_memory : (bytes : List ℕ) (e : PlanError) → PlanFault bytes e → e.code ≢ codes.Memory
never_memory bytes e p memory = grind arith
