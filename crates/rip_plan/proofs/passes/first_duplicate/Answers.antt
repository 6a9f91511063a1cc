use Rattle.std.proofs.Common.{◌≡◌, ℕ, ◌+◌, List, [], ◌++◌, ◌∷◌, ◌&&◌, Vec, None, map, take, sym, ap, ◌∙◌, arith}
use Rattle.std.specs.Prelude.{option_map, filter, nat_eq}
use Rattle.std.specs.HashMap.{HashMap}
use Rattle.std.specs.List.{list_any}
use Rattle.std.proofs.lemmas.List.{at_drop_all, take_more}
use Rattle.rip_plan.specs.declared.draft.DraftInterface.{DraftInterface}
use Rattle.rip_plan.specs.declared.draft.DraftPlace.{DraftPlace}
use Rattle.rip_plan.specs.declared.parts.Seat.{Seat}
use Rattle.rip_plan.specs.declared.parts.Seat.TheVariants.{Link}
use Rattle.rip_plan.specs.Passes.{do_meet, first_clash, same_prefix, touched, touching}
use Rattle.rip_plan.specs.Touches.{listed, seats_meet, touched_by}
use Rattle.rip_plan.proofs.ClashLemmas.{any_listed, clash_here, clash_later, listed_push, meeting_seen}
use Rattle.rip_plan.proofs.passes.first_duplicate.Goals as goal

-- what the seats at a prefix say of the places before
met : {S G : Type 0} (interfaces : List DraftInterface) (on_links : HashMap ℕ (Vec ℕ G) S) → ((l : ℕ) → listed nat_eq on_links l ≡ touched interfaces (Link l)) → (front : List DraftPlace)
    (p : DraftPlace) (seats : List Seat) → seats ≡ map (λ q. q.seat) (filter (λ q. same_prefix q.prefix p.prefix) front)
    → list_any (λ other. seats_meet (touched_by on_links) other p.seat) seats ≡ list_any (λ q. do_meet (touching interfaces q) (touching interfaces p)) front
met interfaces on_links by_link front p seats h =
    rw h (any_listed (λ (q : DraftPlace). q.seat) (λ q. same_prefix q.prefix p.prefix) (λ other. seats_meet (touched_by on_links) other p.seat) front ∙ each front)
  where
    same : (seat : Seat) → touched_by on_links seat ≡ touched interfaces seat
    same seat = grind arith

    each : (qs : List DraftPlace) → list_any (λ q. same_prefix q.prefix p.prefix && seats_meet (touched_by on_links) q.seat p.seat) qs
        ≡ list_any (λ q. do_meet (touching interfaces q) (touching interfaces p)) qs
    each qs = grind (arith, same)

pub returns-then-meets_earlier : goal.returns-then-meets_earlier
returns-then-meets_earlier c =
    let is = c.args.interfaces.now in
    let places = c.args.places.now in
    let k = c.loop-k.k in
    let p = c.index-places-k.result in
    let clash = λ (q r : DraftPlace). do_meet (touching is q) (touching is r) in
    let before = met is c.in_ok-on_links.on_links c.in_ok-on_links.ensures (take k places) p (listed same_prefix c.loop-k.earlier p.prefix) (c.loop-k.invariant.1 p.prefix) in
    ap (option_map (λ (q : DraftPlace). q.at)) (clash_here clash places k p c.loop-k-test.true c.index-places-k.is _
    (sym before ∙ sym c.meets_earlier.ensures ∙ c.if-meets_earlier.true) c.loop-k.invariant.0)
    ∙ meeting_seen is places

pub loop-k-preserved : goal.loop-k-preserved
loop-k-preserved c =
    let is = c.args.interfaces.now in
    let places = c.args.places.now in
    let k = c.loop-k.k in
    let p = c.index-places-k.result in
    let clash = λ (q r : DraftPlace). do_meet (touching is q) (touching is r) in
    let before = met is c.in_ok-on_links.on_links c.in_ok-on_links.ensures (take k places) p (listed same_prefix c.loop-k.earlier p.prefix) (c.loop-k.invariant.1 p.prefix) in
    let more : take (k + 1) places ≡ take k places ++ p ∷ [] = take_more places k p c.loop-k-test.true ∙ ap (λ q. take k places ++ q ∷ []) (sym c.index-places-k.is) in (
      clash_later clash places k p c.loop-k-test.true c.index-places-k.is _ (sym before ∙ sym c.meets_earlier.ensures ∙ c.if-meets_earlier.false) c.loop-k.invariant.0,
      λ b. c.in_ok-add_at.ensures b
          ∙ rw (c.loop-k.invariant.1 b) (sym (ap (λ ps. map (λ q. q.seat) (filter (λ q. same_prefix q.prefix b) ps)) more
          ∙ listed_push (λ (q : DraftPlace). q.seat) (λ q. same_prefix q.prefix b) (take k places) p)),
    )

pub returns : goal.returns
returns c =
    let is = c.args.interfaces.now in
    let places = c.args.places.now in
    let k = c.loop-k.k in
    let clash = λ (q r : DraftPlace). do_meet (touching is q) (touching is r) in
    let none : None ≡ first_clash clash [] places = sym (at_drop_all (λ ps. first_clash clash (take k places) ps) places k c.loop-k-test.false) ∙ c.loop-k.invariant.0 in
    ap (option_map (λ (q : DraftPlace). q.at)) none ∙ meeting_seen is places
