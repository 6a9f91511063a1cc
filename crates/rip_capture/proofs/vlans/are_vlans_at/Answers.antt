use Rattle.std.proofs.Common.{◌≡◌, ◌≤◌, ◌+◌, ◌++◌, ◌∷◌, ◌%◌, ◌∙◌, [], ap, arith, inl, inr, length, refl, subst, sym, take}
use Rattle.rip_wire.specs.Fields.{number_at}
use Rattle.rip_capture.specs.Frames.{is_tag}
use Rattle.rip_capture.specs.Vlans.{HasVlansAt, with_vlan}
use Rattle.rip_capture.specs.Vlans.HasVlansAt.{none, cut, tag}
use Rattle.rip_capture.proofs.VlanLemmas.{no-vlans, seen-all, some-vlan, some-vlans, no-vlan, take-more}
use Rattle.rip_capture.proofs.vlans.are_vlans_at.Goals as goal
use Rattle.rip_capture.proofs.vlans.are_vlans_at.Goals.{then-seen-vlans-via-then-seen-vlans, then-seen-vlans-via-else-seen-vlans+then-vlans-seen, then-vlan-ne0+else-seen-vlans+else-vlans-seen, else-vlan-ne0}

pub returns-then-frame-from-lt-TAG : goal.returns-then-frame-from-lt-TAG
returns-then-frame-from-lt-TAG c =
    let inv = c.tags.invariant in
    let is = ap is_tag (sym c.u16_at.ensures) ∙ sym c.is_tag.ensures ∙ c.tags-test.true in
    seen-all c.args.frame.now c.args.place c.args.header c.args.vlans.now c.tags.seen inv.few (inv.seen [] (cut c.tags.at c.tags.from [] is (omega (arith, c.if-frame-from-lt-TAG.true, inv.within)) refl))

pub returns : goal.returns
returns c =
    let inv = c.tags.invariant in
    let is = ap is_tag (sym c.u16_at.ensures) ∙ sym c.is_tag.ensures ∙ c.tags-test.false in
    seen-all c.args.frame.now c.args.place c.args.header c.args.vlans.now c.tags.seen inv.few (inv.seen [] (none c.tags.at c.tags.from [] is refl))

pub returns-then-seen-vlans : goal.returns-then-seen-vlans
returns-then-seen-vlans c =
    let inv = c.tags.invariant in
    let frame = c.args.frame.now in
    let vlans = c.args.vlans.now in
    let vlan = c.vlan_at-vlan.result in
    let is = ap is_tag (sym c.u16_at.ensures) ∙ sym c.is_tag.ensures ∙ c.tags-test.true in
    let more = some-vlans frame (c.tags.from + 2) (c.tags.from + 4) in
    let number : number_at 2 c.tags.from frame % 4096 ≡ vlan = sym c.vlan_at-vlan.ensures in
    let has = inv.seen (vlan ∷ more.0) (tag c.tags.at c.tags.from (vlan ∷ more.0) more.0 is (omega (arith, c.if-frame-from-lt-TAG.false, inv.within)) more.1
    (sym (some-vlan vlan more.0 c.if-vlan-ne0.true) ∙ ap (λ n. with_vlan n more.0) (sym number))) in (
      λ e. cc e,
      λ are. absurd (no-vlans frame c.args.place c.args.header vlans more.0 c.tags.seen vlan inv.few has (elim c.then-seen-vlans.branch [
        | then-seen-vlans-via-then-seen-vlans w ↦ inl w.if-seen-vlans.true
        | then-seen-vlans-via-else-seen-vlans+then-vlans-seen w ↦ inr w.if-vlans-seen.true
      ]) are),
    )

pub tags-preserved : goal.tags-preserved
tags-preserved c =
    let inv = c.tags.invariant in
    let frame = c.args.frame.now in
    let vlans = c.args.vlans.now in
    let vlan = c.vlan_at-vlan.result in
    let is = ap is_tag (sym c.u16_at.ensures) ∙ sym c.is_tag.ensures ∙ c.tags-test.true in
    let room : c.tags.from + 4 ≤ length frame = omega (arith, c.if-frame-from-lt-TAG.false, inv.within) in
    let number : number_at 2 c.tags.from frame % 4096 ≡ vlan = sym c.vlan_at-vlan.ensures in
    record {
      seen = λ others h.
          let has = inv.seen (with_vlan vlan others) (tag c.tags.at c.tags.from (with_vlan vlan others) others is room h (ap (λ n. with_vlan n others) (sym number))) in
          elim c.if-vlan-ne0.branch [
            | then-vlan-ne0+else-seen-vlans+else-vlans-seen w ↦ subst (HasVlansAt frame c.args.place c.args.header)
                (ap (λ l. take c.tags.seen vlans ++ l) (some-vlan vlan others w.if-vlan-ne0.true) ∙ take-more vlans c.tags.seen vlan others (omega (arith, inv.few, w.if-seen-vlans.false)) w.if-vlans-seen.false
                ∙ ap (λ n. take n vlans ++ others) (sym w.seen-is)) has
            | else-vlan-ne0 w ↦ subst (HasVlansAt frame c.args.place c.args.header)
                (ap (λ l. take c.tags.seen vlans ++ l) (no-vlan vlan others w.if-vlan-ne0.false) ∙ ap (λ n. take n vlans ++ others) (sym w.seen-is)) has
          ];
      few = elim c.if-vlan-ne0.branch [
        | then-vlan-ne0+else-seen-vlans+else-vlans-seen w ↦ omega (arith, inv.few, w.if-seen-vlans.false, w.seen-is)
        | else-vlan-ne0 w ↦ omega (arith, inv.few, w.seen-is)
      ];
      behind = omega arith;
      within = room;
    }
