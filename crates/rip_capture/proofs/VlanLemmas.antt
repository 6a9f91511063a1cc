-- The VLANs of a frame are one list.
use Rattle.std.proofs.Common.{◌≡◌, ◌≢◌, ◌⊎◌, ◌+◌, ◌++◌, ◌∷◌, ◌%◌, ◌<◌, ◌≤◌, ◌∙◌, ℕ, true, List, [], ap, append-nil, append_assoc, arith, get_or, inl, inr, length, nat_eq, Option, Some, None, subst, take, refl, sym, suc, zero}
use Rattle.std.proofs.lemmas.Bool.{both_ways, cases_Bool, cases_lt, eq-eqb, eqb-true, ne_eqb}
use Rattle.std.proofs.lemmas.List.{length-append, length-take-le, take_all}
use Rattle.std.proofs.Math.Seq.{get_or-append_seam, take-suc}
use Rattle.rip_wire.specs.Fields.{number_at}
use Rattle.rip_capture.specs.Frames.{header_of, is_tag}
use Rattle.rip_capture.specs.Interfaces.{CameBy}
use Rattle.rip_capture.specs.Origins.{IsOrigin, Origin, header_number}
use Rattle.rip_capture.specs.Pcap.{Frame}
use Rattle.rip_capture.specs.Vlans.{HasVlansAt, HasVlansFrom, type_place, with_vlan}
use Rattle.rip_capture.specs.Vlans.HasVlansAt.{none, cut, tag}

pub Vlans-one : (frame : List ℕ) (at from : ℕ) (xs ys : List ℕ) → HasVlansAt frame at from xs → HasVlansAt frame at from ys → xs ≡ ys
Vlans-one frame at from xs ys (none _ _ _ off e) (none _ _ _ off' e') = e ∙ sym e'
Vlans-one frame at from xs ys (none _ _ _ off e) (cut _ _ _ on less e') = absurd (both_ways (is_tag (number_at 2 at frame)) off on)
Vlans-one frame at from xs ys (none _ _ _ off e) (tag _ _ _ more on room next e') = absurd (both_ways (is_tag (number_at 2 at frame)) off on)
Vlans-one frame at from xs ys (cut _ _ _ on less e) (none _ _ _ off e') = absurd (both_ways (is_tag (number_at 2 at frame)) off on)
Vlans-one frame at from xs ys (cut _ _ _ on less e) (cut _ _ _ on' less' e') = e ∙ sym e'
Vlans-one frame at from xs ys (cut _ _ _ on less e) (tag _ _ _ more on' room next e') = absurd (omega arith)
Vlans-one frame at from xs ys (tag _ _ _ more on room next e) (none _ _ _ off e') = absurd (both_ways (is_tag (number_at 2 at frame)) off on)
Vlans-one frame at from xs ys (tag _ _ _ more on room next e) (cut _ _ _ on' less e') = absurd (omega arith)
Vlans-one frame at from xs ys (tag _ _ _ more on room next e) (tag _ _ _ more' on' room' next' e') =
    e ∙ ap (with_vlan (number_at 2 from frame % 4096)) (Vlans-one frame (from + 2) (from + 4) more more' next next') ∙ sym e'

-- and each frame has them
vlans-from : (fuel : ℕ) (frame : List ℕ) (at from : ℕ) → length frame < from + fuel → (vlans : List ℕ) × HasVlansAt frame at from vlans
vlans-from zero frame at from less =
    elim (cases_Bool (is_tag (number_at 2 at frame))) [
      | inr off ↦ ([], none at from [] off refl)
      | inl on ↦ ([], cut at from [] on (omega (arith, less)) refl)
    ]
vlans-from (suc n) frame at from less =
    elim (cases_Bool (is_tag (number_at 2 at frame))) [
      | inr off ↦ ([], none at from [] off refl)
      | inl on ↦
          elim (cases_lt (length frame) (from + 4)) [
            | inl short ↦ ([], cut at from [] on short refl)
            | inr room ↦
                let more = vlans-from n frame (from + 2) (from + 4) (omega (arith, less)) in
                (with_vlan (number_at 2 from frame % 4096) more.0, tag at from _ more.0 on (omega (arith, room)) more.1 refl)
          ]
    ]

pub some-vlans : (frame : List ℕ) (at from : ℕ) → (vlans : List ℕ) × HasVlansAt frame at from vlans
some-vlans frame at from = vlans-from (suc (length frame)) frame at from (omega arith)

-- ---- where the last tag was passed, with so many of these VLANs seen

pub seen-all : (frame : List ℕ) (at from : ℕ) (vlans : List ℕ) (seen : ℕ) → seen ≤ length vlans → HasVlansAt frame at from (take seen vlans ++ []) →
    (nat_eq seen (length vlans) ≡ true → HasVlansAt frame at from vlans) × (HasVlansAt frame at from vlans → nat_eq seen (length vlans) ≡ true)
seen-all frame at from vlans seen few has = (
  λ all. subst (HasVlansAt frame at from) (append-nil (take seen vlans) ∙ take_all seen vlans (omega (arith, eqb-true seen (length vlans) all))) has,
  λ are.
      let same = Vlans-one frame at from (take seen vlans ++ []) vlans has are in
      eq-eqb seen (length vlans) (omega (arith, ap length same, length-append (take seen vlans) [], length-take-le seen vlans few)),
)

-- another VLAN, or one too many
pub no-vlans : (frame : List ℕ) (at from : ℕ) (vlans others : List ℕ) (seen vlan : ℕ) → seen ≤ length vlans → HasVlansAt frame at from (take seen vlans ++ vlan ∷ others) →
    (seen ≡ length vlans) ⊎ (get_or vlans seen 0 ≢ vlan) → HasVlansAt frame at from vlans → ⊥
no-vlans frame at from vlans others seen vlan few has (inl all) are =
    let same = Vlans-one frame at from (take seen vlans ++ vlan ∷ others) vlans has are in
    omega (arith, all, ap length same, length-append (take seen vlans) (vlan ∷ others), length-take-le seen vlans few)
no-vlans frame at from vlans others seen vlan few has (inr other) are =
    let same = Vlans-one frame at from (take seen vlans ++ vlan ∷ others) vlans has are in
    other (sym (ap (λ l. get_or l seen 0) same) ∙ ap (λ n. get_or (take seen vlans ++ vlan ∷ others) n 0) (sym (length-take-le seen vlans few)) ∙ get_or-append_seam (take seen vlans) vlan others 0)

-- a VLAN, or none, in front of others
pub some-vlan : (vlan : ℕ) (others : List ℕ) → vlan ≢ 0 → with_vlan vlan others ≡ vlan ∷ others
some-vlan vlan others some = rw (ne_eqb vlan 0 some) refl

pub no-vlan : (vlan : ℕ) (others : List ℕ) → vlan ≡ 0 → with_vlan vlan others ≡ others
no-vlan vlan others zero_is = rw zero_is refl

-- one of the VLANs more was seen
pub take-more : (vlans : List ℕ) (seen vlan : ℕ) (others : List ℕ) → seen < length vlans → get_or vlans seen 0 ≡ vlan → take seen vlans ++ vlan ∷ others ≡ take (seen + 1) vlans ++ others
take-more vlans seen vlan others few is =
    let next : take (seen + 1) vlans ≡ take seen vlans ++ vlan ∷ [] = (let e : seen + 1 ≡ suc seen = omega arith in rw e (take-suc vlans seen 0 few)) ∙ ap (λ v. take seen vlans ++ v ∷ []) is in
    sym (ap (λ l. l ++ others) next ∙ append_assoc (take seen vlans) (vlan ∷ []) others)

-- ---- a packet comes from one place

from-one : (at : Option (ℕ × ℕ)) (frame xs ys : List ℕ) → HasVlansFrom at frame xs → HasVlansFrom at frame ys → xs ≡ ys
from-one None frame xs ys h k = h ∙ sym k
from-one (Some place) frame xs ys h k = Vlans-one frame place.0 place.1 xs ys h k

pub origin-one : (p : Frame) (o other : Origin) → IsOrigin p o → IsOrigin p other → o ≡ other
origin-one p o other h k =
    let vlans = from-one (type_place (header_of p.link_type) p.bytes) p.bytes o.vlans other.vlans h.vlans k.vlans in
    let made : CameBy → Option ℕ → List ℕ → Origin = λ i n v. record { interface = i; number = n; vlans = v } in
    ap (λ i. made i o.number o.vlans) (h.interface ∙ sym k.interface) ∙ ap (λ n. made other.interface n o.vlans) (h.number ∙ sym k.number) ∙ ap (made other.interface other.number) vlans

from-some : (at : Option (ℕ × ℕ)) (frame : List ℕ) → (vlans : List ℕ) × HasVlansFrom at frame vlans
from-some None frame = ([], refl)
from-some (Some place) frame = some-vlans frame place.0 place.1

pub origin-some : (p : Frame) → (o : Origin) × IsOrigin p o
origin-some p =
    let vlans = from-some (type_place (header_of p.link_type) p.bytes) p.bytes in
    (record { interface = p.interface; number = header_number p.link_type p.bytes; vlans = vlans.0 }, record { interface = refl; number = refl; vlans = vlans.1 })
