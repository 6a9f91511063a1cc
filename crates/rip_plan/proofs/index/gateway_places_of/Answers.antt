use Rattle.std.proofs.Common.{◌≡◌, ◌≢◌, ℕ, true, false, is_some, arith, Vec, Global}
use Rattle.std.proofs.lemmas.Bool.Decides.{nat_tests}
use Rattle.rip_plan.specs.declared.parts.Place.{Place}
use Rattle.rip_plan.specs.Seats.{gateway_of}
use Rattle.rip_plan.specs.Network.{has_gateway}
use Rattle.rip_plan.proofs.BelowLemmas.{grouped_less, grouped_with, kept_within}
use Rattle.rip_plan.proofs.index.gateway_places_of.Goals as goal
use Rattle.rip_plan.proofs.index.gateway_places_of.Goals.{then-is_some+in_ok-push, else-is_some}

-- a place with a gateway passes for its prefix alone, and one without for none
its : (q : Place) → is_some (gateway_of q.seat) ≡ true → has_gateway q.prefix q ≡ true
its q some = grind (arith, nat_tests)

no_other : (q : Place) (k : ℕ) → k ≢ q.prefix → has_gateway k q ≡ false
no_other q k apart = grind (arith, nat_tests)

none : (q : Place) (k : ℕ) → is_some (gateway_of q.seat) ≡ false → has_gateway k q ≡ false
none q k not = grind arith

pub index_mut-requires : goal.index_mut-requires
index_mut-requires c = grind (arith, kept_within)

pub loop-i-preserved : goal.loop-i-preserved
loop-i-preserved c =
    let q = c.index-places-i.result in
    let items = λ (w : Vec ℕ Global). w.items in
    elim c.if-is_some.branch [
      | then-is_some+in_ok-push w ↦
          let some : is_some (gateway_of q.seat) ≡ true = grind arith in
          rw w.all-is (grouped_with items c.loop-i.all.items c.args.prefixes has_gateway c.args.places.now c.loop-i.i q c.loop-i.invariant (omega arith) c.index-places-i.is
          q.prefix w.index_mut.result.now w.push.new.self (grind arith) (its q some) (no_other q) w.index_mut.ensures.value w.in_ok-push.ensures.items)
      | else-is_some w ↦
          let not : is_some (gateway_of q.seat) ≡ false = grind arith in
          rw w.all-is (grouped_less items c.loop-i.all.items c.args.prefixes has_gateway c.args.places.now c.loop-i.i q c.loop-i.invariant (omega arith) c.index-places-i.is (λ k. none q k not))
    ]
