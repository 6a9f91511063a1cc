-- What a packet carries is one thing: it is what the tests of its headers tell, one after the other.
use Rattle.std.proofs.Common.{◌≡◌, ◌≢◌, ◌+◌, ◌/◌, ◌%◌, ◌<◌, ◌≤◌, ◌⊎◌, ◌∙◌, ℕ, Bool, true, false, cond, eqb, ltb, List, [], length, drop, slice_index, ap, arith, inl, inr, refl, sym, subst}
use Rattle.std.proofs.lemmas.Bool.{eq-eqb, ne_eqb, lt-ltb, le-ltb}
use Rattle.rip_wire.specs.Fields.{number_at}
use Rattle.rip_capture.specs.Carries.{Carries}
use Rattle.rip_capture.specs.Packets.{IpCarries, IsIpv4, IsUdp, IsToGroup, IsToRip, IsRip, IsWholeRip, IsGoodRip, IsCaptured, HasMore, destination, header_len, offset, port, source, source_port, total_len, udp_len}
use Rattle.rip_capture.proofs.FrameLemmas.{Holds-one}
use Rattle.rip_capture.specs.declared.frame.Network.{Network}
use Rattle.rip_capture.specs.declared.frame.Network.TheVariants.{Ip, Short, Other}
use Rattle.rip_capture.specs.declared.link.LinkType.{LinkType}
use Rattle.rip_capture.specs.declared.packet.Carried.{Carried}
use Rattle.rip_capture.specs.declared.packet.Carried.TheVariants.{Datagram, Cut, Fragment, Malformed, Long, Unknown, Elsewhere, Others}
use Rattle.rip_log.specs.declared.span.Span.{Span}

-- ---- what is told, from the last test to the first

told_captured : ℕ → List ℕ → Carried
told_captured place b =
    cond (ltb 1007 (udp_len b)) (Long (source b))
    (Datagram (source b) (record { from = place + header_len b + 8; to = place + header_len b + udp_len b }))

told_good : ℕ → List ℕ → Carried
told_good place b = cond (ltb (length b) (header_len b + udp_len b)) (Cut (source b)) (told_captured place b)

told_whole : ℕ → List ℕ → Carried
told_whole place b =
    cond (ltb (udp_len b) 8) (Malformed (source b))
    (cond (ltb (total_len b) (header_len b + udp_len b)) (Malformed (source b)) (told_good place b))

told_rip : ℕ → List ℕ → Carried
told_rip place b = cond (eqb (number_at 2 6 b / 8192 % 2) 1) (Fragment (source b)) (told_whole place b)

told_to_rip : ℕ → List ℕ → Carried
told_to_rip place b = cond (eqb (source_port b) 520) (told_rip place b) Elsewhere

told_first : ℕ → List ℕ → Carried
told_first place b =
    cond (ltb (length b) (header_len b + 8)) (Cut (source b))
    (cond (eqb (port b) 520) (told_to_rip place b) Others)

told_group : ℕ → List ℕ → Carried
told_group place b = cond (eqb (offset b) 0) (told_first place b) (Fragment (source b))

told_away : List ℕ → Carried
told_away b =
    cond (eqb (offset b) 0)
    (cond (ltb (length b) (header_len b + 4)) Others (cond (eqb (port b) 520) Elsewhere Others)) Others

told_udp : ℕ → List ℕ → Carried
told_udp place b = cond (eqb (destination b) 0xE0000009) (told_group place b) (told_away b)

told_header : ℕ → List ℕ → Carried
told_header place b = cond (eqb (slice_index b 9) 17) (told_udp place b) Others

told_ipv4 : ℕ → List ℕ → Carried
told_ipv4 place b = cond (ltb (length b) 20) Unknown (told_header place b)

told_some : ℕ → List ℕ → Carried
told_some place b =
    cond (eqb (slice_index b 0 / 16) 4)
    (cond (ltb (slice_index b 0 % 16) 5) Others (told_ipv4 place b)) Others

told : ℕ → List ℕ → Carried
told place b = cond (ltb 0 (length b)) (told_some place b) Unknown

-- ---- each test, where it is known

on_true : {X : Type 0} (t : Bool) (x y : X) → t ≡ true → cond t x y ≡ x
on_true t x y e = ap (λ (b : Bool). cond b x y) e

on_false : {X : Type 0} (t : Bool) (x y : X) → t ≡ false → cond t x y ≡ y
on_false t x y e = ap (λ (b : Bool). cond b x y) e

same : {X : Type 0} (a b : ℕ) (x y : X) → a ≡ b → cond (eqb a b) x y ≡ x
same a b x y e = on_true (eqb a b) x y (eq-eqb a b e)

differ : {X : Type 0} (a b : ℕ) (x y : X) → a ≢ b → cond (eqb a b) x y ≡ y
differ a b x y e = on_false (eqb a b) x y (ne_eqb a b e)

below : {X : Type 0} (a b : ℕ) (x y : X) → a < b → cond (ltb a b) x y ≡ x
below a b x y e = on_true (ltb a b) x y (lt-ltb a b e)

above : {X : Type 0} (a b : ℕ) (x y : X) → b ≤ a → cond (ltb a b) x y ≡ y
above a b x y e = on_false (ltb a b) x y (le-ltb a b e)

-- ---- each part of what holds

past_some : (place : ℕ) (b : List ℕ) → 0 < length b → told place b ≡ told_some place b
unfolding told
past_some place b h = below 0 (length b) (told_some place b) Unknown h

past_ipv4 : (place : ℕ) (b : List ℕ) → IsIpv4 b → told place b ≡ told_ipv4 place b
unfolding told_some
past_ipv4 place b h =
    past_some place b h.some
    ∙ same (slice_index b 0 / 16) 4 (cond (ltb (slice_index b 0 % 16) 5) Others (told_ipv4 place b)) Others h.version
    ∙ above (slice_index b 0 % 16) 5 Others (told_ipv4 place b) h.header

past_header : (place : ℕ) (b : List ℕ) → IsIpv4 b → 20 ≤ length b → told place b ≡ told_header place b
unfolding told_ipv4
past_header place b h room = past_ipv4 place b h ∙ above (length b) 20 Unknown (told_header place b) room

past_udp : (place : ℕ) (b : List ℕ) → IsUdp b → told place b ≡ told_udp place b
unfolding told_header
past_udp place b h = past_header place b h.ipv4 h.header ∙ same (slice_index b 9) 17 (told_udp place b) Others h.protocol

past_group : (place : ℕ) (b : List ℕ) → IsToGroup b → told place b ≡ told_group place b
unfolding told_udp
past_group place b h = past_udp place b h.udp ∙ same (destination b) 0xE0000009 (told_group place b) (told_away b) h.group

past_offset : (place : ℕ) (b : List ℕ) → IsToGroup b → offset b ≡ 0 → told place b ≡ told_first place b
unfolding told_group
past_offset place b h first = past_group place b h ∙ same (offset b) 0 (told_first place b) (Fragment (source b)) first

past_port : (place : ℕ) (b : List ℕ) → IsToRip b → told place b ≡ told_to_rip place b
unfolding told_first
past_port place b h =
    past_offset place b h.to_group h.first
    ∙ above (length b) (header_len b + 8) (Cut (source b)) (cond (eqb (port b) 520) (told_to_rip place b) Others) h.header
    ∙ same (port b) 520 (told_to_rip place b) Others h.port

past_rip : (place : ℕ) (b : List ℕ) → IsRip b → told place b ≡ told_rip place b
unfolding told_to_rip
past_rip place b h = past_port place b h.to_rip ∙ same (source_port b) 520 (told_rip place b) Elsewhere h.from

past_whole : (place : ℕ) (b : List ℕ) → IsWholeRip b → told place b ≡ told_whole place b
unfolding told_rip
past_whole place b h =
    past_rip place b h.rip ∙ differ (number_at 2 6 b / 8192 % 2) 1 (Fragment (source b)) (told_whole place b) h.whole

past_good : (place : ℕ) (b : List ℕ) → IsGoodRip b → told place b ≡ told_good place b
unfolding told_whole
past_good place b h =
    past_whole place b h.whole
    ∙ above (udp_len b) 8 (Malformed (source b)) (cond (ltb (total_len b) (header_len b + udp_len b)) (Malformed (source b)) (told_good place b)) h.header
    ∙ above (total_len b) (header_len b + udp_len b) (Malformed (source b)) (told_good place b) h.within

past_captured : (place : ℕ) (b : List ℕ) → IsCaptured b → told place b ≡ told_captured place b
unfolding told_good
past_captured place b h =
    past_good place b h.good ∙ above (length b) (header_len b + udp_len b) (Cut (source b)) (told_captured place b) h.captured

-- ---- each answer

span_is : (span : Span) (from to : ℕ) → span.from ≡ from → span.to ≡ to → span ≡ record { from = from; to = to }
span_is span from to e f =
    let made : ℕ → ℕ → Span = λ x y. record { from = x; to = y } in
    ap (λ (x : ℕ). made x span.to) e ∙ ap (λ (y : ℕ). made from y) f

told_datagram : (place : ℕ) (b : List ℕ) (sender : ℕ) (span : Span) → IpCarries place b (Datagram sender span) → told place b ≡ Datagram sender span
unfolding told_captured
told_datagram place b sender span h =
    past_captured place b h.1
    ∙ above 1007 (udp_len b) (Long (source b)) (Datagram (source b) (record { from = place + header_len b + 8; to = place + header_len b + udp_len b })) h.2
    ∙ ap (λ (n : ℕ). Datagram n (record { from = place + header_len b + 8; to = place + header_len b + udp_len b })) (sym h.0)
    ∙ ap (λ (s : Span). Datagram sender s) (sym (span_is span (place + header_len b + 8) (place + header_len b + udp_len b) h.3 h.4))

told_long : (place : ℕ) (b : List ℕ) (sender : ℕ) → IpCarries place b (Long sender) → told place b ≡ Long sender
unfolding told_captured
told_long place b sender h =
    past_captured place b h.1
    ∙ below 1007 (udp_len b) (Long (source b)) (Datagram (source b) (record { from = place + header_len b + 8; to = place + header_len b + udp_len b })) h.2
    ∙ ap Long (sym h.0)

told_cut : (place : ℕ) (b : List ℕ) (sender : ℕ) → sender ≡ source b
    → (IsToGroup b × (offset b ≡ 0) × (length b < header_len b + 8)) ⊎ (IsGoodRip b × (length b < header_len b + udp_len b))
    → told place b ≡ Cut sender
unfolding told_first told_good
told_cut place b sender is (inl h) =
    past_offset place b h.0 h.1
    ∙ below (length b) (header_len b + 8) (Cut (source b)) (cond (eqb (port b) 520) (told_to_rip place b) Others) h.2
    ∙ ap Cut (sym is)
told_cut place b sender is (inr h) =
    past_good place b h.0
    ∙ below (length b) (header_len b + udp_len b) (Cut (source b)) (told_captured place b) h.1
    ∙ ap Cut (sym is)

two_ways : {X : Type 0} (s : Bool) (t : Bool) (x y : X) → (s ≡ true) ⊎ (t ≡ true) → cond s x (cond t x y) ≡ x
two_ways true t x y h = refl
two_ways false t x y (inl e) = cc e
two_ways false t x y (inr e) = on_true t x y e

told_malformed : (place : ℕ) (b : List ℕ) (sender : ℕ) → sender ≡ source b → IsWholeRip b
    → (udp_len b < 8) ⊎ (total_len b < header_len b + udp_len b) → told place b ≡ Malformed sender
unfolding told_whole
told_malformed place b sender is h (inl less) =
    past_whole place b h
    ∙ two_ways (ltb (udp_len b) 8) (ltb (total_len b) (header_len b + udp_len b)) (Malformed (source b)) (told_good place b) (inl (lt-ltb _ _ less))
    ∙ ap Malformed (sym is)
told_malformed place b sender is h (inr less) =
    past_whole place b h
    ∙ two_ways (ltb (udp_len b) 8) (ltb (total_len b) (header_len b + udp_len b)) (Malformed (source b)) (told_good place b) (inr (lt-ltb _ _ less))
    ∙ ap Malformed (sym is)

not_zero : (n : ℕ) → 0 < n → n ≢ 0
not_zero n h e = omega arith

told_fragment : (place : ℕ) (b : List ℕ) (sender : ℕ) → sender ≡ source b → (IsToGroup b × (0 < offset b)) ⊎ (IsRip b × HasMore b) → told place b ≡ Fragment sender
unfolding told_group told_rip
told_fragment place b sender is (inl h) =
    past_group place b h.0 ∙ differ (offset b) 0 (told_first place b) (Fragment (source b)) (not_zero (offset b) h.1) ∙ ap Fragment (sym is)
told_fragment place b sender is (inr h) =
    past_rip place b h.0 ∙ same (number_at 2 6 b / 8192 % 2) 1 (Fragment (source b)) (told_whole place b) h.1 ∙ ap Fragment (sym is)

told_unknown : (place : ℕ) (b : List ℕ) → (b ≡ []) ⊎ (IsIpv4 b × (length b < 20)) → told place b ≡ Unknown
unfolding told told_ipv4
told_unknown place b (inl e) = above 0 (length b) (told_some place b) Unknown (omega (arith, ap length e))
told_unknown place b (inr h) = past_ipv4 place b h.0 ∙ below (length b) 20 Unknown (told_header place b) h.1

told_elsewhere : (place : ℕ) (b : List ℕ) → (IsUdp b × (destination b ≢ 0xE0000009) × (offset b ≡ 0) × (header_len b + 4 ≤ length b) × (port b ≡ 520)) ⊎ (IsToRip b × (source_port b ≢ 520)) → told place b ≡ Elsewhere
unfolding told_udp told_away told_to_rip
told_elsewhere place b (inr h) = past_port place b h.0 ∙ differ (source_port b) 520 (told_rip place b) Elsewhere h.1
told_elsewhere place b (inl h) =
    past_udp place b h.0
    ∙ differ (destination b) 0xE0000009 (told_group place b) (told_away b) h.1
    ∙ same (offset b) 0 (cond (ltb (length b) (header_len b + 4)) Others (cond (eqb (port b) 520) Elsewhere Others)) Others h.2
    ∙ above (length b) (header_len b + 4) Others (cond (eqb (port b) 520) Elsewhere Others) h.3
    ∙ same (port b) 520 Elsewhere Others h.4

alike : (t : Bool) → cond t Others Others ≡ Others
alike true = refl
alike false = refl

no_version : (place : ℕ) (b : List ℕ) → (slice_index b 0 / 16 ≢ 4) ⊎ (slice_index b 0 % 16 < 5) → told_some place b ≡ Others
unfolding told_some
no_version place b (inl h) = differ (slice_index b 0 / 16) 4 (cond (ltb (slice_index b 0 % 16) 5) Others (told_ipv4 place b)) Others h
no_version place b (inr h) =
    ap (λ (x : Carried). cond (eqb (slice_index b 0 / 16) 4) x Others) (below (slice_index b 0 % 16) 5 Others (told_ipv4 place b) h)
    ∙ alike (eqb (slice_index b 0 / 16) 4)

away_others : (b : List ℕ) → (0 < offset b) ⊎ ((length b < header_len b + 4) ⊎ (port b ≢ 520)) → told_away b ≡ Others
unfolding told_away
away_others b (inl h) =
    differ (offset b) 0 (cond (ltb (length b) (header_len b + 4)) Others (cond (eqb (port b) 520) Elsewhere Others)) Others (not_zero (offset b) h)
away_others b (inr (inl h)) =
    ap (λ (x : Carried). cond (eqb (offset b) 0) x Others) (below (length b) (header_len b + 4) Others (cond (eqb (port b) 520) Elsewhere Others) h)
    ∙ alike (eqb (offset b) 0)
away_others b (inr (inr h)) =
    ap (λ (x : Carried). cond (eqb (offset b) 0) (cond (ltb (length b) (header_len b + 4)) Others x) Others) (differ (port b) 520 Elsewhere Others h)
    ∙ ap (λ (x : Carried). cond (eqb (offset b) 0) x Others) (alike (ltb (length b) (header_len b + 4)))
    ∙ alike (eqb (offset b) 0)

told_others : (place : ℕ) (b : List ℕ) → IpCarries place b Others → told place b ≡ Others
unfolding told_header told_udp told_first
told_others place b (inl h) = past_some place b h.0 ∙ no_version place b h.1
told_others place b (inr (inl h)) = past_header place b h.0 h.1 ∙ differ (slice_index b 9) 17 (told_udp place b) Others h.2
told_others place b (inr (inr (inl h))) =
    past_udp place b h.0 ∙ differ (destination b) 0xE0000009 (told_group place b) (told_away b) h.1 ∙ away_others b h.2
told_others place b (inr (inr (inr h))) =
    past_offset place b h.0 h.1
    ∙ above (length b) (header_len b + 8) (Cut (source b)) (cond (eqb (port b) 520) (told_to_rip place b) Others) h.2
    ∙ differ (port b) 520 (told_to_rip place b) Others h.3

told_is : (place : ℕ) (b : List ℕ) (c : Carried) → IpCarries place b c → told place b ≡ c
told_is place b (Datagram sender span) h = told_datagram place b sender span h
told_is place b (Long sender) h = told_long place b sender h
told_is place b (Cut sender) h = told_cut place b sender h.0 h.1
told_is place b (Malformed sender) h = told_malformed place b sender h.0 h.1 h.2
told_is place b (Fragment sender) h = told_fragment place b sender h.0 h.1
told_is place b Unknown h = told_unknown place b h
told_is place b Elsewhere h = told_elsewhere place b h
told_is place b Others h = told_others place b h

-- ---- and so of a frame

at_one : (frame : List ℕ) (n : Network) (from there : ℕ) (c d : Carried) → n ≡ Ip from → n ≡ Ip there → IpCarries from (drop from frame) c → IpCarries there (drop there frame) d → c ≡ d
at_one frame n from there c d e f h k =
    let same_place : there ≡ from = cc (e, f) in
    sym (told_is from (drop from frame) c h)
    ∙ told_is from (drop from frame) d (subst (λ (i : ℕ). IpCarries i (drop i frame) d) same_place k)

pub Carries-one : (t : LinkType) (frame : List ℕ) (c d : Carried) → Carries t frame c → Carries t frame d → c ≡ d
Carries-one t frame c d (inl h) (inl k) =
    at_one frame (Ip h.0) h.0 k.0 c d refl (Holds-one t frame (Ip h.0) (Ip k.0) h.1 k.1) h.2 k.2
Carries-one t frame c d (inl h) (inr (inl k)) = cc (Holds-one t frame (Ip h.0) Short h.1 k.0)
Carries-one t frame c d (inl h) (inr (inr k)) = cc (Holds-one t frame (Ip h.0) Other h.1 k.0)
Carries-one t frame c d (inr (inl h)) (inl k) = cc (Holds-one t frame Short (Ip k.0) h.0 k.1)
Carries-one t frame c d (inr (inl h)) (inr (inl k)) = h.1 ∙ sym k.1
Carries-one t frame c d (inr (inl h)) (inr (inr k)) = cc (Holds-one t frame Short Other h.0 k.0)
Carries-one t frame c d (inr (inr h)) (inl k) = cc (Holds-one t frame Other (Ip k.0) h.0 k.1)
Carries-one t frame c d (inr (inr h)) (inr (inl k)) = cc (Holds-one t frame Other Short h.0 k.0)
Carries-one t frame c d (inr (inr h)) (inr (inr k)) = h.1 ∙ sym k.1
