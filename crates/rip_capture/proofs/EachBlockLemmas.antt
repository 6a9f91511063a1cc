-- Bytes begin with a block, or have a fault there, or are none.
use Rattle.std.proofs.Common.{◌≡◌, ◌≢◌, ◌+◌, ◌-◌, ◌%◌, ◌<◌, ◌≤◌, ◌⊎◌, ◌∙◌, ℕ, zero, suc, true, false, List, [], ◌∷◌, ◌++◌, Option, Some, None, length, take, drop, ap, sym, refl, inl, inr, arith, append_assoc}
use Rattle.std.proofs.lemmas.Bool.{cases_Bool, cases_eq, cases_lt, false≢true}
use Rattle.std.proofs.lemmas.List.{length-append, nil_from_length, take-append-drop}
use Rattle.std.specs.List.{slice_get}
use Rattle.std.specs.Prelude.{slice_range}
use Rattle.rip_wire.specs.Fields.{number_at}
use Rattle.rip_capture.specs.LinkTypes.{number_of}
use Rattle.rip_capture.specs.Numbers.{number_in, short_in}
use Rattle.rip_capture.specs.Pcap.{Frame}
use Rattle.rip_capture.specs.Interfaces.{came_by}
use Rattle.rip_capture.specs.Pcapng.{AreBlocks, BlockFault, BodyFault, Does, HasLength, HasOrder, HasPacketLength, IsBlock, IsSectionVersion, Section, begins_section, block_len, front_len, interface_in, interface_of, is_read_whole, kind_of, least_len, order_number, order_of, packet_from, packet_len, options_in, packet_time}
use Rattle.rip_capture.proofs.OptionLemmas.{option-cases}
use Rattle.rip_capture.specs.Pcapng.AreBlocks.{none as no_blocks, more as more_blocks}
use Rattle.rip_capture.specs.Pcapng.BlockFault.{front as short_front, order as no_order, ordered}
use Rattle.rip_capture.specs.Pcapng.BodyFault.{version as bad_version, full as too_many, options as bad_options, packet as bad_packet}
use Rattle.rip_capture.specs.Pcapng.Does.{section as does_section, interface as does_interface, packet as does_packet, other as does_nothing}
use Rattle.rip_capture.specs.Pcapng.HasOrder.{own, inherited as of_section}
use Rattle.rip_capture.specs.Pcapng.OrderedFault.{size as bad_size, old as old_packet, cut as cut_block, end as bad_end, body as bad_body}
use Rattle.rip_capture.specs.Pcapng.PacketFault.{interface as no_interface, size as bad_length, link_type as bad_type}
use Rattle.rip_capture.proofs.BlockLemmas.{block-found}
use Rattle.rip_capture.proofs.LinkLemmas.{type-cases}
use Rattle.rip_capture.proofs.PcapngLemmas.{StopsAtBlock, block-least, section-kind}
use Rattle.rip_capture.specs.declared.blocks.BlockKind.{BlockKind}
use Rattle.rip_capture.specs.declared.blocks.BlockKind.TheVariants as kinds
use Rattle.rip_capture.specs.declared.interface.Interface.{Interface}
use Rattle.rip_capture.specs.declared.blocks.PacketForm.{PacketForm}
use Rattle.rip_capture.specs.declared.error.CaptureCode.{CaptureCode}
use Rattle.rip_capture.specs.declared.error.CaptureCode.TheVariants as codes
use Rattle.rip_capture.specs.declared.link.LinkType.{LinkType}
use Rattle.rip_capture.specs.declared.numbers.Order.{Order}
use Rattle.rip_capture.specs.declared.numbers.Order.TheVariants.{Big, Little}

-- ---- one or the other

some-or-none : {A : Type 0} (o : Option A) → ((x : A) × (o ≡ Some x)) ⊎ (o ≡ None)
some-or-none (Some x) = inl (x, refl)
some-or-none None = inr refl

old-or-not : (k : BlockKind) → (k ≡ kinds.OldPacket) ⊎ (k ≢ kinds.OldPacket)
old-or-not kinds.OldPacket = inl refl
old-or-not kinds.Section = inr (λ e. cc e)
old-or-not kinds.Interface = inr (λ e. cc e)
old-or-not (kinds.Packet form) = inr (λ e. cc e)
old-or-not kinds.Other = inr (λ e. cc e)

most-cases : (order : Order) (b : List ℕ) → block_len order b % 4 ≡ 0 → least_len (kind_of order b) ≤ block_len order b → HasLength order b ⊎ ¬ HasLength order b
most-cases order b fours least =
    elim (cases_Bool (is_read_whole (kind_of order b))) [
      | inr other ↦ inl (record { fours = fours; least = least; most = λ read. absurd (false≢true (sym other ∙ read)) })
      | inl read ↦
          elim (cases_lt 524288 (block_len order b)) [
            | inl many ↦ inr (λ h. omega (arith, many, h.most read))
            | inr few ↦ inl (record { fours = fours; least = least; most = λ is. omega (arith, few) })
          ]
    ]

length-cases : (order : Order) (b : List ℕ) → HasLength order b ⊎ ¬ HasLength order b
length-cases order b =
    elim (cases_eq (block_len order b % 4) 0) [
      | inr ragged ↦ inr (λ h. ragged h.fours)
      | inl fours ↦
          elim (cases_lt (block_len order b) (least_len (kind_of order b))) [
            | inl less ↦ inr (λ h. omega (arith, less, h.least))
            | inr least ↦ most-cases order b fours (omega (arith, least))
          ]
    ]

packet-length-cases : (order : Order) (form : PacketForm) (b : List ℕ) (i : Interface) → HasPacketLength order form b i ⊎ ¬ HasPacketLength order form b i
packet-length-cases order form b i =
    elim (cases_lt 262144 (packet_len order form b i)) [
      | inl many ↦ inr (λ h. omega (arith, many, h.few))
      | inr few ↦
          elim (cases_lt (length b) (packet_from form + packet_len order form b i + 4)) [
            | inl less ↦ inr (λ h. omega (arith, less, h.inside))
            | inr room ↦ inl (record { few = omega (arith, few); inside = omega (arith, room) })
          ]
    ]

section-version-cases : (order : Order) (b : List ℕ) → IsSectionVersion order b ⊎ ¬ IsSectionVersion order b
section-version-cases order b =
    elim (cases_eq (short_in order 12 b) 1) [
      | inr other ↦ inr (λ v. other v.major)
      | inl major ↦
          elim (cases_eq (short_in order 14 b) 0) [
            | inl zeroth ↦ inl (record { major = major; minor = inl zeroth })
            | inr first ↦
                elim (cases_eq (short_in order 14 b) 2) [
                  | inl second ↦ inl (record { major = major; minor = inr second })
                  | inr third ↦ inr (λ v. neither first third v.minor)
                ]
          ]
    ] where
      neither : {n : ℕ} → n ≢ 0 → n ≢ 2 → (n ≡ 0) ⊎ (n ≡ 2) → ⊥
      neither a c (inl e) = a e
      neither a c (inr e) = c e

-- ---- what a whole block does, or what is wrong with its body

abbrev DoesSo : Option Section → Order → List ℕ → BlockKind → Type 0
DoesSo s order b kind = (fs : List Frame) × (t : Section) × Does s order b kind fs t

abbrev HasBodyFault : Option Section → Order → List ℕ → BlockKind → Type 0
HasBodyFault s order b kind = (code : CaptureCode) × BodyFault s order b kind code

packet-cases : (now : Section) (order : Order) (b : List ℕ) (form : PacketForm) → DoesSo (Some now) order b (kinds.Packet form) ⊎ HasBodyFault (Some now) order b (kinds.Packet form)
packet-cases now order b form =
    elim (some-or-none (slice_get now.interfaces (interface_of order form b))) [
      | inr none ↦ inr (codes.Interface, bad_packet now form refl refl (no_interface none refl))
      | inl some ↦
          elim (packet-length-cases order form b some.0) [
            | inr wrong ↦ inr (codes.Length, bad_packet now form refl refl (bad_length some.0 some.1 wrong refl))
            | inl can ↦
                elim (type-cases some.0.link_number) [
                  | inr none ↦ inr (codes.LinkType, bad_packet now form refl refl (bad_type some.0 some.1 can none refl))
                  | inl has ↦
                      inl (packet-does some.0 some.1 can has.0 has.1)
                ]
          ]
    ] where
      packet-does : (i : Interface) → slice_get now.interfaces (interface_of order form b) ≡ Some i → HasPacketLength order form b i → (t : LinkType) → number_of t ≡ i.link_number →
          DoesSo (Some now) order b (kinds.Packet form)
      packet-does i described can t link =
          let frame : Frame = record {
            link_type = t;
            bytes = slice_range b (packet_from form) (packet_from form + packet_len order form b i);
            interface = came_by now.interfaces (interface_of order form b);
            time = packet_time order form b i;
          } in
          (frame ∷ [], now, does_packet now form frame refl refl (record { interface = i; described = described; can = can; link = link; bytes = refl; came = refl; time = refl }) refl refl)

does-cases : (s : Option Section) (order : Order) (b : List ℕ) (kind : BlockKind) → kind ≢ kinds.OldPacket → (s ≡ None → kind ≡ kinds.Section) → DoesSo s order b kind ⊎ HasBodyFault s order b kind
does-cases s order b kinds.Section young only =
    elim (section-version-cases order b) [
      | inl version ↦ inl ([], record { order = order; interfaces = [] }, does_section refl version refl refl)
      | inr none ↦ inr (codes.Version, bad_version refl none refl)
    ]
does-cases s order b kinds.OldPacket young only = absurd (young refl)
does-cases None order b kinds.Interface young only = absurd (cc (only refl))
does-cases None order b (kinds.Packet form) young only = absurd (cc (only refl))
does-cases None order b kinds.Other young only = absurd (cc (only refl))
does-cases (Some now) order b kinds.Interface young only =
    elim (cases_lt (length now.interfaces) 256) [
      | inl few ↦
          elim (option-cases order (options_in b) (interface_in order b)) [
            | inl told ↦ inl ([], record { order = now.order; interfaces = now.interfaces ++ told.0 ∷ [] }, does_interface now told.0 refl refl few told.1 refl refl)
            | inr wrong ↦ inr (codes.Length, bad_options now refl refl few wrong refl)
          ]
      | inr many ↦ inr (codes.Interface, too_many now refl refl (omega (arith, many)) refl)
    ]
does-cases (Some now) order b (kinds.Packet form) young only = packet-cases now order b form
does-cases (Some now) order b kinds.Other young only = inl ([], now, does_nothing now refl refl refl refl)

-- ---- the next block

pub record FirstBlock (s : Option Section) (b : List ℕ) : Type 0 where
  pub order : Order
  pub first : List ℕ
  pub rest : List ℕ
  pub frames : List Frame
  pub next : Section
  pub is : IsBlock (order_of s) order first
  pub does : Does s order first (kind_of order first) frames next
  pub whole : b ≡ first ++ rest

abbrev HasBlockFault : Option Section → List ℕ → Type 0
HasBlockFault s b = (code : CaptureCode) × BlockFault s b code

module _ (s : Option Section) (b : List ℕ) (begins : s ≡ None → begins_section b ≡ true) where
  -- a block, whole
  whole-cases : (order : Order) (room : front_len b ≤ length b) (has : HasOrder (order_of s) b order) → kind_of order b ≢ kinds.OldPacket → (n : ℕ) → n ≡ block_len order b →
      IsBlock (order_of s) order (take n b) → kind_of order b ≡ kind_of order (take n b) → FirstBlock s b ⊎ HasBlockFault s b
  whole-cases order room has young n len is kind =
      elim (does-cases s order (take n b) (kind_of order (take n b)) (λ old. young (kind ∙ old)) (λ none. sym kind ∙ section-kind order b (begins none))) [
        | inl does ↦ inl (record { order = order; first = take n b; rest = drop n b; frames = does.0; next = does.1; is = is; does = does.2; whole = sym (take-append-drop n b) })
        | inr fault ↦ inr (fault.0, ordered order room has (bad_body (take n b) (drop n b) (sym (take-append-drop n b)) is fault.1))
      ]

  ordered-cases : (order : Order) → front_len b ≤ length b → HasOrder (order_of s) b order → FirstBlock s b ⊎ HasBlockFault s b
  ordered-cases order room has =
      elim (length-cases order b) [
        | inr wrong ↦ inr (codes.Length, ordered order room has (bad_size wrong refl))
        | inl can ↦
            elim (old-or-not (kind_of order b)) [
              | inl old ↦ inr (codes.OldPacket, ordered order room has (old_packet can old refl))
              | inr young ↦
                  elim (cases_lt (length b) (block_len order b)) [
                    | inl less ↦ inr (codes.Cut, ordered order room has (cut_block can young less refl))
                    | inr inside ↦
                        elim (cases_eq (number_in order (block_len order b - 4) b) (block_len order b)) [
                          | inr wrong ↦ inr (codes.Length, ordered order room has (bad_end can young (omega (arith, inside)) wrong refl))
                          | inl end ↦ found can young (omega (arith, inside)) end
                        ]
                  ]
            ]
      ] where
        found : HasLength order b → kind_of order b ≢ kinds.OldPacket → block_len order b ≤ length b → number_in order (block_len order b - 4) b ≡ block_len order b →
            FirstBlock s b ⊎ HasBlockFault s b
        found can young inside end =
            let is = block-found (order_of s) order (kind_of order b) (block_len order b) b true
            (record { room = room; order_is = has; can = can; young = young; kind_is = refl; len_is = refl }) inside end in
            whole-cases order room has young (block_len order b) refl is.0 is.1

  -- the byte order
  section-cases : front_len b ≤ length b → begins_section b ≡ true → FirstBlock s b ⊎ HasBlockFault s b
  section-cases room is =
      elim (cases_eq (number_at 4 8 b) (order_number Big)) [
        | inl big ↦ ordered-cases Big room (own is big)
        | inr not_big ↦
            elim (cases_eq (number_at 4 8 b) (order_number Little)) [
              | inl little ↦ ordered-cases Little room (own is little)
              | inr not_little ↦ inr (codes.Version, no_order room is (neither not_big not_little) refl)
            ]
      ] where
        neither : number_at 4 8 b ≢ order_number Big → number_at 4 8 b ≢ order_number Little → (o : Order) → number_at 4 8 b ≢ order_number o
        neither big little Big e = big e
        neither big little Little e = little e

  other-cases : (z : Option Section) → z ≡ s → front_len b ≤ length b → begins_section b ≡ false → FirstBlock s b ⊎ HasBlockFault s b
  other-cases None e room other = absurd (false≢true (sym other ∙ begins (sym e)))
  other-cases (Some now) e room other = ordered-cases now.order room (of_section other (ap order_of (sym e)))

  pub block-cases : 0 < length b → FirstBlock s b ⊎ HasBlockFault s b
  block-cases some =
      elim (cases_lt (length b) (front_len b)) [
        | inl less ↦ inr (codes.Cut, short_front some less refl)
        | inr room ↦
            elim (cases_Bool (begins_section b)) [ inl is ↦ section-cases (omega (arith, room)) is | inr other ↦ other-cases s refl (omega (arith, room)) other ]
      ]

-- ---- blocks, up to their end

pub record BlockWalk (s : Option Section) (b : List ℕ) : Type 0 where
  pub frames : List Frame
  pub blocks : List ℕ
  pub rest : List ℕ
  pub last : Option Section
  pub ends : Option CaptureCode
  pub are : AreBlocks s blocks frames last
  pub stops : StopsAtBlock last rest ends
  pub whole : b ≡ blocks ++ rest

walk-ends : (s : Option Section) (b : List ℕ) (ends : Option CaptureCode) → StopsAtBlock s b ends → BlockWalk s b
walk-ends s b ends stops = record { frames = []; blocks = []; rest = b; last = s; ends = ends; are = no_blocks s [] [] s refl refl refl; stops = stops; whole = refl }

walk-block : (s : Option Section) (b : List ℕ) (f : FirstBlock s b) → BlockWalk (Some f.next) f.rest → BlockWalk s b
walk-block s b f w = record {
  frames = f.frames ++ w.frames;
  blocks = f.first ++ w.blocks;
  rest = w.rest;
  last = w.last;
  ends = w.ends;
  are = more_blocks s (f.first ++ w.blocks) (f.frames ++ w.frames) w.last f.order f.first w.blocks f.frames w.frames f.next f.is f.does w.are refl refl;
  stops = w.stops;
  whole = f.whole ∙ ap (λ (l : List ℕ). f.first ++ l) w.whole ∙ sym (append_assoc f.first w.blocks w.rest);
}

pub walk-blocks : (fuel : ℕ) (s : Option Section) (b : List ℕ) → (s ≡ None → begins_section b ≡ true) → length b < fuel → BlockWalk s b
walk-blocks zero s b begins less = absurd (omega (arith, less))
walk-blocks (suc fuel) s b begins less =
    elim (cases_lt 0 (length b)) [
      | inr none ↦ walk-ends s b None (nil_from_length b (omega (arith, none)))
      | inl some ↦
          elim (block-cases s b begins some) [
            | inr fault ↦ walk-ends s b (Some fault.0) fault.1
            | inl f ↦
                walk-block s b f (walk-blocks fuel (Some f.next) f.rest (λ e. cc e)
                (omega (arith, less, ap length f.whole, length-append f.first f.rest, block-least (order_of s) f.order f.first f.is)))
          ]
    ]

-- blocks that are some stand in a section behind them
pub last-section : (s l : Option Section) (b : List ℕ) (fs : List Frame) → AreBlocks s b fs l → ((b ≡ []) × (l ≡ s)) ⊎ ((now : Section) × (l ≡ Some now))
last-section s l b fs (no_blocks _ _ _ _ empty none is) = inl (empty, is)
last-section s l b fs (more_blocks _ _ _ _ q first rest mine theirs next is does are whole split) = behind (last-section (Some next) l rest theirs are) where
  behind : ((rest ≡ []) × (l ≡ Some next)) ⊎ ((now : Section) × (l ≡ Some now)) → ((b ≡ []) × (l ≡ s)) ⊎ ((now : Section) × (l ≡ Some now))
  behind (inl e) = inr (next, e.1)
  behind (inr h) = inr h
