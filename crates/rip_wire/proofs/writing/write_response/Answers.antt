use Rattle.std.proofs.Common.{◌≡◌, ◌+◌, ◌*◌, take, length, refl, sym, ap, ◌∙◌, arith, ◌++◌, ◌∷◌, []}
use Rattle.std.proofs.lemmas.List.{take_more, length-take}
use Rattle.rip_wire.proofs.WriteLemmas.{IsWritten-none, IsWritten-push}
use Rattle.rip_wire.proofs.writing.write_response.Goals as goal

pub loop-i-init : goal.loop-i-init
loop-i-init c = IsWritten-none c.args.room.now _ (rw c.copy_from_slice.ensures.after refl) (rw c.copy_from_slice.ensures.after refl)

pub loop-i-preserved : goal.loop-i-preserved
loop-i-preserved c =
    let i = c.loop-i.i in
    let es = c.args.entries.now in
    let e = c.index-entries-i.result in
    let lt = c.loop-i-test.true in
    let offset : 4 + 20 * i ≡ 4 + 20 * length (take i es) = omega (arith, length-take i es) in
    let more : take (i + 1) es ≡ take i es ++ e ∷ [] = take_more es i e lt ∙ ap (λ x. take i es ++ x ∷ []) (sym c.index-entries-i.is) in
    rw more (IsWritten-push (4 + 20 * i) (take i es) e c.args.room.now c.loop-i.room _ offset c.loop-i.invariant c.put_entry.ensures.spelling c.put_entry.ensures.others c.put_entry.ensures.entry)
