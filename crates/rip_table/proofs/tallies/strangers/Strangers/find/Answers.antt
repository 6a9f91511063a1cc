use Rattle.std.proofs.Common.{sym, ◌≡◌, ℕ, List, Option, Some, None, false}
use Rattle.std.specs.List.{slice_get, position}
use Rattle.std.specs.Map.{keys_of}
use Rattle.std.specs.Prelude.{IfSome, IfNone}
use Rattle.rip_log.specs.Said.{Origin}
use Rattle.rip_table.specs.Tallies.{is_origin_of, origin_of, rows_of_strangers, same_origin, strangers_of}
use Rattle.rip_table.specs.declared.tallies.strangers.Stranger.{Stranger}
use Rattle.rip_table.specs.declared.tallies.strangers.StrangerTally.{StrangerTally}
use Rattle.rip_table.proofs.StrangerLemmas.{found-at, key_origin, none-at}
use Rattle.rip_table.proofs.tallies.strangers.Strangers.find.Goals as goal

some-of : (o : Origin) (es : List (Stranger × StrangerTally)) (r : Option ℕ) → r ≡ position (λ (s : Stranger). same_origin o (key_origin s)) (keys_of es) →
    IfSome r (λ k. slice_get (strangers_of (rows_of_strangers es)) k ≡ Some o)
some-of o es None h = tt
some-of o es (Some k) h = found-at o k es (sym h)

none-of : (o : Origin) (es : List (Stranger × StrangerTally)) (r : Option ℕ) → r ≡ position (λ (s : Stranger). same_origin o (key_origin s)) (keys_of es) →
    IfNone r (is_origin_of (strangers_of (rows_of_strangers es)) o ≡ false)
none-of o es None h = none-at o es (sym h)
none-of o es (Some k) h = tt

pub returns-clause-some : goal.returns-clause-some
returns-clause-some g c = some-of (origin_of c.args.link.now c.args.address) c.args.self.now.told.entries c.get_index_of.result c.get_index_of.ensures.index

pub returns-clause-none : goal.returns-clause-none
returns-clause-none g c = none-of (origin_of c.args.link.now c.args.address) c.args.self.now.told.entries c.get_index_of.result c.get_index_of.ensures.index
