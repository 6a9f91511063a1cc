use Rattle.std.proofs.Common.{◌≡◌, ◌≤◌, ◌+◌, ◌++◌, ◌∷◌, ◌%◌, ◌<◌, ◌∙◌, [], ℕ, List, ap, append-nil, append_assoc, arith, length, refl, subst, sym, take}
use Rattle.std.proofs.lemmas.List.{length-set, take_more_set}
use Rattle.rip_wire.specs.Fields.{number_at}
use Rattle.rip_capture.specs.Frames.{is_tag}
use Rattle.rip_capture.specs.Vlans.{HasVlansAt, with_vlan}
use Rattle.rip_capture.specs.Vlans.HasVlansAt.{none, cut, tag}
use Rattle.rip_capture.proofs.VlanLemmas.{no-vlan, some-vlan}
use Rattle.rip_capture.proofs.vlans.write_vlans_at.Goals as goal
use Rattle.rip_capture.proofs.vlans.write_vlans_at.Goals.{then-number-ne0, else-number-ne0}

pub tags-init : goal.tags-init
tags-init c = record { seen = λ others h. h; few = omega arith; len = refl; behind = omega (arith, c.requires.place); within = c.requires.header }

pub returns-then-frame-from-lt-TAG-clause-few : goal.returns-then-frame-from-lt-TAG-clause-few
returns-then-frame-from-lt-TAG-clause-few c = let inv = c.tags.invariant in omega (arith, inv.few, inv.within, inv.len, c.requires.room)

pub returns-then-frame-from-lt-TAG-clause-vlans : goal.returns-then-frame-from-lt-TAG-clause-vlans
returns-then-frame-from-lt-TAG-clause-vlans c =
    let inv = c.tags.invariant in
    let is = ap is_tag (sym c.u16_at.ensures) ∙ sym c.is_tag.ensures ∙ c.tags-test.true in
    subst (HasVlansAt c.args.frame.now c.args.place c.args.header) (append-nil (take c.tags.count c.tags.vlans))
    (inv.seen [] (cut c.tags.at c.tags.from [] is (omega (arith, c.if-frame-from-lt-TAG.true, inv.within)) refl))

pub returns-clause-few : goal.returns-clause-few
returns-clause-few c = let inv = c.tags.invariant in omega (arith, inv.few, inv.within, inv.len, c.requires.room)

pub returns-clause-vlans : goal.returns-clause-vlans
returns-clause-vlans c =
    let inv = c.tags.invariant in
    let is = ap is_tag (sym c.u16_at.ensures) ∙ sym c.is_tag.ensures ∙ c.tags-test.false in
    subst (HasVlansAt c.args.frame.now c.args.place c.args.header) (append-nil (take c.tags.count c.tags.vlans)) (inv.seen [] (none c.tags.at c.tags.from [] is refl))

pub offset_bounds-vlans-count : goal.offset_bounds-vlans-count
offset_bounds-vlans-count c = let inv = c.tags.invariant in omega (arith, inv.few, inv.within, inv.len, c.requires.room, c.if-frame-from-lt-TAG.false)

pub bounds-vlans-count : goal.bounds-vlans-count
bounds-vlans-count c = let inv = c.tags.invariant in omega (arith, inv.few, inv.within, inv.len, c.requires.room, c.if-frame-from-lt-TAG.false)

pub tags-preserved : goal.tags-preserved
tags-preserved c =
    let inv = c.tags.invariant in
    let frame = c.args.frame.now in
    let vlans = c.tags.vlans in
    let vlan = c.vlan_at-number.result in
    let is = ap is_tag (sym c.u16_at.ensures) ∙ sym c.is_tag.ensures ∙ c.tags-test.true in
    let room : c.tags.from + 4 ≤ length frame = omega (arith, c.if-frame-from-lt-TAG.false, inv.within) in
    let number : number_at 2 c.tags.from frame % 4096 ≡ vlan = sym c.vlan_at-number.ensures in
    let has : (others : List ℕ) → HasVlansAt frame (c.tags.from + 2) (c.tags.from + 4) others → HasVlansAt frame c.args.place c.args.header (take c.tags.count vlans ++ with_vlan vlan others) =
    λ others h. inv.seen (with_vlan vlan others) (tag c.tags.at c.tags.from (with_vlan vlan others) others is room h (ap (λ n. with_vlan n others) (sym number))) in
    elim c.if-number-ne0.branch [
      | then-number-ne0 w ↦
          let here : c.tags.count < length vlans = omega (arith, inv.few, inv.within, inv.len, c.requires.room, c.if-frame-from-lt-TAG.false) in
          record {
            seen = λ others h. subst (HasVlansAt frame c.args.place c.args.header)
                (ap (λ l. take c.tags.count vlans ++ l) (some-vlan vlan others w.if-number-ne0.true) ∙ sym (append_assoc (take c.tags.count vlans) (vlan ∷ []) others)
                ∙ ap (λ l. l ++ others) (sym (take_more_set vlans c.tags.count vlan here)) ∙ ap (λ l. take (c.tags.count + 1) l ++ others) (sym w.vlans-is) ∙ ap (λ n. take n c.if-number-ne0.vlans ++ others) (sym w.count-is))
                (has others h);
            few = omega (arith, inv.few, w.count-is);
            len = ap length w.vlans-is ∙ length-set vlans c.tags.count vlan ∙ inv.len;
            behind = omega arith;
            within = room;
          }
      | else-number-ne0 w ↦ record {
        seen = λ others h. subst (HasVlansAt frame c.args.place c.args.header)
            (ap (λ l. take c.tags.count vlans ++ l) (no-vlan vlan others w.if-number-ne0.false) ∙ ap (λ l. take c.tags.count l ++ others) (sym w.vlans-is) ∙ ap (λ n. take n c.if-number-ne0.vlans ++ others) (sym w.count-is))
            (has others h);
        few = omega (arith, inv.few, w.count-is);
        len = ap length w.vlans-is ∙ inv.len;
        behind = omega arith;
        within = room;
      }
    ]
