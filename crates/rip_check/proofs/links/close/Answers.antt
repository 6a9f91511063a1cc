use Rattle.std.proofs.Common.{◌≡◌, ◌<◌, inl, inr, length, ap, arith}
use Rattle.std.proofs.lemmas.Bool.{cases_Bool, cases_lt}
use Rattle.std.proofs.lemmas.Bool.Decides.{not_from_Decides}
use Rattle.std.proofs.lemmas.Grind.{common_steps}
use Rattle.rip_plan.specs.PrefixNetworks.{exchanges}
use Rattle.rip_plan.specs.Relations.{Exchanges}
use Rattle.rip_plan.proofs.PrefixNetworkLemmas.{exchange}
use Rattle.rip_check.specs.Networks.{block_at}
use Rattle.rip_check.specs.declared.links.TwoLeast.{TwoLeast}
use Rattle.rip_check.proofs.ClosedLemmas.{closed_link, open_link}
use Rattle.rip_check.proofs.StepLemmas.{after_write}
use Rattle.rip_check.proofs.links.close.Goals as goal
use Rattle.rip_check.proofs.links.close.Goals.{then-not-exchanges, else-not-exchanges}

abbrev shut : TwoLeast
shut = record { least = 16; by = 255; next = 16 }

pub loop-k-preserved : goal.loop-k-preserved
loop-k-preserved c =
    let n = c.args.plan.now in
    let links = c.loop-k.links in
    let k = c.loop-k.k in
    let was = c.loop-k.invariant in
    let at : k < length links = omega (arith, c.loop-k-test.true, was.size) in
    elim c.if-not-exchanges.branch [
      | then-not-exchanges w ↦ rw w.links-is (record {
        size = grind (arith, common_steps, was.size);
        kept = λ j two e is. elim (after_write links k j shut two shut at e) [
          | inl h ↦ absurd (not_from_Decides _ c.exchanges.ensures w.if-not-exchanges.true (rw h.0 at is))
          | inr h ↦ was.kept j two h.1 is
        ];
        left = λ j two more e. elim (after_write links k j shut two shut at e) [
          | inl h ↦ absurd (omega (arith, more, h.0))
          | inr h ↦ was.left j two (omega (arith, more)) h.1
        ];
        shut = λ j two lt e not. elim (after_write links k j shut two shut at e) [
          | inl h ↦ (ap (λ (x : TwoLeast). x.by) h.1, ap (λ (x : TwoLeast). x.least) h.1, ap (λ (x : TwoLeast). x.next) h.1)
          | inr h ↦ was.shut j two (omega (arith, lt, h.0)) h.1 not
        ];
      })
      | else-not-exchanges w ↦ rw w.links-is (record {
        size = was.size;
        kept = was.kept;
        left = λ j two more e. was.left j two (omega (arith, more)) e;
        shut = λ j two lt e not. elim (cases_lt j k) [
          | inl less ↦ was.shut j two less e not
          | inr more ↦
              let same : j ≡ k = omega (arith, lt, more) in
              absurd (not (rw same (c.exchanges.ensures.0 w.if-not-exchanges.false)))
        ];
      })
    ]

pub returns : goal.returns
returns c = λ shown p same free least.
    let n = c.args.plan.now in
    let was = c.loop-k.invariant in
    record {
      size = omega (arith, was.size, c.requires);
      each = λ l two lt e. elim (cases_Bool (exchanges n (block_at shown.prefixes p) l)) [
        | inl on ↦
            let is = (exchange n c.lawful.ensures (block_at shown.prefixes p) l).0 on in
            let old = was.kept l two e (rw same at is) in
            open_link n shown p l two c.lawful.ensures is (free l two old) (least l two old)
        | inr off ↦
            let not : Exchanges n l (block_at shown.prefixes p) → ⊥ = not_from_Decides _ (exchange n c.lawful.ensures (block_at shown.prefixes p) l) off in
            let h = was.shut l two (omega (arith, lt, c.loop-k-test.false, c.requires)) e (rw same at not) in
            closed_link n shown p l two not h.0 h.1 h.2
      ];
    }
