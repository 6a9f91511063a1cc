-- Blocks at the front of bytes of which more follow.
use Rattle.std.proofs.Common.{◌≡◌, ◌≢◌, ◌⊎◌, ◌+◌, ◌-◌, ◌%◌, ◌<◌, ◌≤◌, ◌∙◌, ◌==◌, if◌then◌else◌, ℕ, Bool, true, false, List, ◌++◌, Option, Some, None, Ok, Err, length, take, drop, ap, sym, subst, refl, inl, inr, arith}
use Rattle.std.proofs.lemmas.Bool.{false≢true}
use Rattle.std.proofs.lemmas.List.{drop-append-le, drop_at, length-drop, length-take}
use Rattle.byteorder.specs.Endian.{big_number}
use Rattle.byteorder.specs.Numbers.{big_from-append}
use Rattle.rip_wire.specs.Fields.{number_at}
use Rattle.std.specs.Prelude.{MatchOption, ok_or}
use Rattle.rip_log.specs.Feeds.{held}
use Rattle.rip_capture.specs.Feeds.{Extends, IsShort}
use Rattle.rip_capture.specs.Finds.{FindsOrder, HoldsBlock, HoldsWhole, NoNextBlock, SaysFront}
use Rattle.rip_capture.specs.Finds.LacksBlock.{front as lacks_front, rest as lacks_rest}
use Rattle.rip_capture.specs.Numbers.{number_in}
use Rattle.rip_capture.specs.Pcapng.{HasLength, HasOrder, IsBlock, OrderedFault, Section, begins_section, block_len, front_len, is_read_whole, kind_numbered, kind_of, least_len, order_number}
use Rattle.rip_capture.specs.Pcapng.BlockFault.{front as short_front, order as no_order, ordered}
use Rattle.rip_capture.specs.Pcapng.HasOrder.{own, inherited}
use Rattle.rip_capture.specs.Pcapng.OrderedFault.{cut as cut_block, end as bad_end, old as old_packet, size as bad_size}
use Rattle.rip_capture.proofs.FeedLemmas.{Extends-length, Extends-take}
use Rattle.rip_capture.proofs.NumberLemmas.{number-stays}
use Rattle.rip_capture.specs.declared.blocks.BlockKind.{BlockKind}
use Rattle.rip_capture.specs.declared.blocks.BlockKind.TheVariants as kinds
use Rattle.rip_capture.specs.declared.blocks.PacketForm.{PacketForm}
use Rattle.rip_capture.specs.declared.blocks.PacketForm.TheVariants.{Simple, Enhanced}
use Rattle.rip_capture.specs.declared.error.CaptureCode.{CaptureCode}
use Rattle.rip_capture.specs.declared.error.CaptureCode.TheVariants as codes
use Rattle.rip_log.specs.declared.feed.Feed.{Feed}
use Rattle.rip_capture.specs.declared.numbers.Order.{Order}
use Rattle.rip_capture.specs.declared.numbers.Order.TheVariants.{Big, Little}

-- ---- what the front says stays, whatever follows

pub place-stays : (k : ℕ) (xs ys : List ℕ) → k + 4 ≤ length xs → Extends xs ys → number_at 4 k ys ≡ number_at 4 k xs
unfolding number_at
place-stays k xs ys h e =
    ap (λ (l : List ℕ). big_number 4 (drop k l)) e.whole ∙ ap (big_number 4) (drop-append-le k xs e.more (omega arith))
    ∙ big_from-append 4 (drop k xs) e.more (omega (arith, length-drop k xs))

pub section-stays : (xs ys : List ℕ) → 4 ≤ length xs → Extends xs ys → begins_section ys ≡ begins_section xs
section-stays xs ys h e = ap (λ n. n == 0x0A0D0D0A) (place-stays 0 xs ys h e)

pub front-stays : (xs ys : List ℕ) → 4 ≤ length xs → Extends xs ys → front_len ys ≡ front_len xs
front-stays xs ys h e = ap (λ (b : Bool). if b then 12 else 8) (section-stays xs ys h e)

pub front-least : (b : List ℕ) → 8 ≤ front_len b
front-least b = elim (begins_section b) as (λ (t : Bool). 8 ≤ (if t then 12 else 8)) [ true ↦ omega arith | false ↦ omega arith ]

pub front-of-section : (b : List ℕ) → begins_section b ≡ true → front_len b ≡ 12
front-of-section b is = ap (λ (t : Bool). if t then 12 else 8) is

pub kind-stays : (order : Order) (xs ys : List ℕ) → 4 ≤ length xs → Extends xs ys → kind_of order ys ≡ kind_of order xs
kind-stays order xs ys h e =
    ap (λ (t : Bool). if t then kinds.Section else kind_numbered (number_in order 0 ys)) (section-stays xs ys h e)
    ∙ ap (λ (n : ℕ). if begins_section xs then kinds.Section else kind_numbered n) (number-stays order 0 xs ys h e)

pub len-stays : (order : Order) (xs ys : List ℕ) → 8 ≤ length xs → Extends xs ys → block_len order ys ≡ block_len order xs
len-stays order xs ys h e = number-stays order 4 xs ys h e

pub order-stays : (within : Option Order) (order : Order) (xs ys : List ℕ) → front_len xs ≤ length xs → Extends xs ys → HasOrder within xs order → HasOrder within ys order
order-stays within order xs ys room e (own begins is) =
    let room : 12 ≤ length xs = omega (arith, room, front-of-section xs begins) in
    own (section-stays xs ys (omega (arith, room)) e ∙ begins) (place-stays 8 xs ys (omega (arith, room)) e ∙ is)
order-stays within order xs ys room e (inherited other is) =
    inherited (section-stays xs ys (omega (arith, room, front-least xs)) e ∙ other) is

pub order-front : (within : Option Order) (order : Order) (xs ys : List ℕ) → front_len xs ≤ length xs → Extends xs ys → HasOrder within ys order → HasOrder within xs order
order-front within order xs ys room e (own begins is) =
    let first : begins_section xs ≡ true = sym (section-stays xs ys (omega (arith, room, front-least xs)) e) ∙ begins in
    let room : 12 ≤ length xs = omega (arith, room, front-of-section xs first) in
    own first (sym (place-stays 8 xs ys (omega (arith, room)) e) ∙ is)
order-front within order xs ys room e (inherited other is) =
    inherited (sym (section-stays xs ys (omega (arith, room, front-least xs)) e) ∙ other) is

pub length-stays : (order : Order) (xs ys : List ℕ) → 8 ≤ length xs → Extends xs ys → HasLength order xs → HasLength order ys
length-stays order xs ys room e h =
    let len : block_len order xs ≡ block_len order ys = sym (len-stays order xs ys room e) in
    let kind : kind_of order xs ≡ kind_of order ys = sym (kind-stays order xs ys (omega (arith, room)) e) in
    record {
      fours = subst (λ (n : ℕ). n % 4 ≡ 0) len h.fours;
      least = subst (λ (k : BlockKind). least_len k ≤ block_len order ys) kind (omega (arith, h.least, len));
      most = λ read. omega (arith, len, h.most (subst (λ (k : BlockKind). is_read_whole k ≡ true) (sym kind) read));
    }

pub length-front : (order : Order) (xs ys : List ℕ) → 8 ≤ length xs → Extends xs ys → HasLength order ys → HasLength order xs
length-front order xs ys room e h =
    let len : block_len order ys ≡ block_len order xs = len-stays order xs ys room e in
    let kind : kind_of order ys ≡ kind_of order xs = kind-stays order xs ys (omega (arith, room)) e in
    record {
      fours = subst (λ (n : ℕ). n % 4 ≡ 0) len h.fours;
      least = subst (λ (k : BlockKind). least_len k ≤ block_len order xs) kind (omega (arith, h.least, len));
      most = λ read. omega (arith, len, h.most (subst (λ (k : BlockKind). is_read_whole k ≡ true) (sym kind) read));
    }

-- ---- one byte order

no-orders : (n : ℕ) → n ≡ order_number Big → n ≡ order_number Little → ⊥
no-orders n a b = omega (arith, a, b)

numbers-one : (o p : Order) (n : ℕ) → n ≡ order_number o → n ≡ order_number p → o ≡ p
numbers-one Big Big n a b = refl
numbers-one Big Little n a b = absurd (no-orders n a b)
numbers-one Little Big n a b = absurd (no-orders n b a)
numbers-one Little Little n a b = refl

pub order-one : (within : Option Order) (b : List ℕ) (o p : Order) → HasOrder within b o → HasOrder within b p → o ≡ p
order-one within b o p (own begins is) (own begins' is') = numbers-one o p (number_at 4 8 b) is is'
order-one within b o p (own begins is) (inherited other is') = absurd (false≢true (sym other ∙ begins))
order-one within b o p (inherited other is) (own begins is') = absurd (false≢true (sym other ∙ begins))
order-one within b o p (inherited other is) (inherited other' is') = cc (is, is')

-- ---- a block has at least twelve bytes

pub least-of : (kind : BlockKind) → 12 ≤ least_len kind
least-of kinds.Section = omega arith
least-of kinds.Interface = omega arith
least-of kinds.OldPacket = omega arith
least-of (kinds.Packet form) = least-packet form where
  least-packet : (form : PacketForm) → 12 ≤ least_len (kinds.Packet form)
  least-packet Simple = omega arith
  least-packet Enhanced = omega arith
least-of kinds.Other = omega arith

pub front-most : (b : List ℕ) → front_len b ≤ 12
front-most b = elim (begins_section b) as (λ (t : Bool). (if t then 12 else 8) ≤ 12) [ true ↦ omega arith | false ↦ omega arith ]

-- ---- what is found behind a front

-- bytes that begin with a front of this order, kind and length
pub record Fronted (within : Option Order) (order : Order) (kind : BlockKind) (len : ℕ) (b : List ℕ) : Type 0 where
  pub room : front_len b ≤ length b
  pub order_is : HasOrder within b order
  pub can : HasLength order b
  pub young : kind_of order b ≢ kinds.OldPacket
  pub kind_is : kind ≡ kind_of order b
  pub len_is : len ≡ block_len order b

pub fronted-on : (within : Option Order) (order : Order) (kind : BlockKind) (len : ℕ) (xs ys : List ℕ) → front_len xs ≤ length xs → HasOrder within xs order → SaysFront order xs (Ok (kind, len)) →
    Extends xs ys → Fronted within order kind len ys
fronted-on within order kind len xs ys room has says e =
    let begun : 8 ≤ length xs = omega (arith, room, front-least xs) in
    let same = kind-stays order xs ys (omega (arith, begun)) e in
    record {
      room = omega (arith, front-stays xs ys (omega (arith, begun)) e, room, Extends-length xs ys e);
      order_is = order-stays within order xs ys room e has;
      can = length-stays order xs ys begun e says.0;
      young = λ old. says.1 (sym same ∙ old);
      kind_is = says.2 ∙ sym same;
      len_is = says.3 ∙ sym (len-stays order xs ys begun e);
    }

module _ (within : Option Order) (order : Order) (kind : BlockKind) (len : ℕ) (b : List ℕ) (at_end : Bool) (f : Fronted within order kind len b) where
  fault-of : (code : CaptureCode) → ((s : Option Section) → OrderedFault s order b code) → (code ≡ codes.Cut → at_end ≡ true) → NoNextBlock within b at_end code
  fault-of code fault ends = inr (λ s e. ordered order f.room (subst (λ (o : Option Order). HasOrder o b order) (sym e) f.order_is) (fault s), ends)

  -- the source failed, or it ended
  pub misses-rest : (code : CaptureCode) → length b < len → (code ≡ codes.Read) ⊎ ((code ≡ codes.Cut) × (at_end ≡ true)) → NoNextBlock within b at_end code
  misses-rest code less (inl read) = inl (read, lacks_rest order f.room f.order_is (omega (arith, less, f.len_is)))
  misses-rest code less (inr cut) = fault-of code (λ s. cut_block f.can f.young (omega (arith, less, f.len_is)) cut.0) (λ e. cut.1)

  pub misses-end : len ≤ length b → number_in order (len - 4) b ≢ len → NoNextBlock within b at_end codes.Length
  misses-end room other =
      fault-of codes.Length (λ s. bad_end f.can f.young (omega (arith, room, f.len_is)) (λ same. other (subst (λ (n : ℕ). number_in order (n - 4) b ≡ n) (sym f.len_is) same)) refl) (λ e. cc e)

  pub block-found : len ≤ length b → number_in order (len - 4) b ≡ len → IsBlock within order (take len b) × (kind ≡ kind_of order (take len b))
  block-found room end =
      let first = take len b in
      let on = Extends-take len b in
      let least : 12 ≤ len = omega (arith, f.can.least, f.len_is, least-of (kind_of order b)) in
      let size : length first ≡ len = length-take len b ∙ omega (arith, room) in
      let begun : 8 ≤ length first = omega (arith, least, size) in (
        record {
          order_is = order-front within order first b (omega (arith, front-most first, least, size)) on f.order_is;
          can = length-front order first b begun on f.can;
          size = sym (len-stays order first b begun on) ∙ sym f.len_is ∙ sym size;
          end = subst (λ (n : ℕ). number_in order (n - 4) first ≡ n) (sym size) (sym (number-stays order (len - 4) first b (omega (arith, least, size)) on) ∙ end);
        },
        f.kind_is ∙ kind-stays order first b (omega (arith, begun)) on,
      )

-- a number behind bytes that were passed over
pub number-behind : (order : Order) (bytes b : List ℕ) (n : ℕ) → length bytes ≡ n → number_in order n (bytes ++ b) ≡ number_in order 0 b
number-behind Big bytes b n is = ap (number_in Big 0) (drop_at bytes b n is)
number-behind Little bytes b n is = ap (number_in Little 0) (drop_at bytes b n is)

-- ---- the front of a section

module _ (within : Option Order) (b : List ℕ) (at_end : Bool) (begins : begins_section b ≡ true) where
  pub misses-section : (code : CaptureCode) → 0 < length b → IsShort 12 b at_end code → NoNextBlock within b at_end code
  misses-section code some (less, inl read) = inl (read, lacks_front (omega (arith, less, front-of-section b begins)))
  misses-section code some (less, inr cut) = inr (λ s e. short_front some (omega (arith, less, front-of-section b begins)) cut.0, λ e. cut.1)

  pub section-order : (r : Option Order) → 12 ≤ length b → MatchOption r ((order : Order) → number_at 4 8 b ≢ order_number order) (λ order. number_at 4 8 b ≡ order_number order) →
      FindsOrder within b at_end (ok_or r codes.Version)
  section-order (Some order) room is = (omega (arith, room, front-most b), own begins is)
  section-order None room is = inr (λ s e. no_order (omega (arith, room, front-most b)) begins is refl, λ e. cc e)

pub least-len : (order : Order) (b : List ℕ) (kind : BlockKind) (len : ℕ) → SaysFront order b (Ok (kind, len)) → 12 ≤ len
least-len order b kind len says = omega (arith, says.3, says.0.least, least-of (kind_of order b))

-- no next block, or only a part of its front
pub misses-next : (within : Option Order) (b : List ℕ) (at_end : Bool) (code : CaptureCode) → (code ≡ codes.Cut → 0 < length b) → IsShort 8 b at_end code → NoNextBlock within b at_end code
misses-next within b at_end code begun (less, inl read) = inl (read, lacks_front (omega (arith, less, front-least b)))
misses-next within b at_end code begun (less, inr cut) = inr (λ s e. short_front (begun cut.0) (omega (arith, less, front-least b)) cut.0, λ e. cut.1)

-- what is wrong with a front
pub front-fault : (within : Option Order) (order : Order) (b : List ℕ) (at_end : Bool) (code : CaptureCode) → front_len b ≤ length b → HasOrder within b order → SaysFront order b (Err code) →
    NoNextBlock within b at_end code
front-fault within order b at_end codes.Length room has says =
    inr (λ s e. ordered order room (subst (λ (o : Option Order). HasOrder o b order) (sym e) has) (bad_size says refl), λ e. cc e)
front-fault within order b at_end codes.OldPacket room has says =
    inr (λ s e. ordered order room (subst (λ (o : Option Order). HasOrder o b order) (sym e) has) (old_packet says.0 says.1 refl), λ e. cc e)
front-fault within order b at_end codes.Magic room has says = absurd says
front-fault within order b at_end codes.Cut room has says = absurd says
front-fault within order b at_end codes.Version room has says = absurd says
front-fault within order b at_end codes.LinkType room has says = absurd says
front-fault within order b at_end codes.Interface room has says = absurd says
front-fault within order b at_end codes.Read room has says = absurd says

-- where a whole block is held whose order was found without a pull, its rest needs none either
pub whole-ready : {R : Type 0} (within : Option Order) (order : Order) (old mid new : Feed R) → HoldsBlock within (held old) → mid ≡ old → HasOrder within (held mid) order
    → (HoldsWhole order (held mid) → new ≡ mid) → new ≡ old
whole-ready {R = R} within order old mid new h first has rest =
    let here : HasOrder within (held old) order = subst (λ (f : Feed R). HasOrder within (held f) order) first has in
    let same : h.order ≡ order = order-one within (held old) h.order order h.order_is here in
    let whole : HoldsWhole order (held old) = subst (λ (o : Order). HoldsWhole o (held old)) same h.holds in
    rest (subst (λ (f : Feed R). HoldsWhole order (held f)) (sym first) whole) ∙ first
