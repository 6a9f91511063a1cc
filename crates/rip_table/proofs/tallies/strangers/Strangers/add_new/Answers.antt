use Rattle.std.proofs.Common.{refl, ◌∙◌, ap}
use Rattle.indexmap.proofs.CallerLemmas.{insert_entry-new}
use Rattle.rip_table.specs.Tallies.{origin_of, is_origin_of, strangers_of, rows_of_strangers}
use Rattle.rip_table.specs.declared.tallies.strangers.Stranger.{Stranger}
use Rattle.rip_table.proofs.StrangerLemmas.{rows-new, none-found}
use Rattle.rip_table.proofs.tallies.strangers.Strangers.add_new.Goals as goal

pub returns-clause-ok : goal.returns-clause-ok
returns-clause-ok g c =
    let key : Stranger = record { link = c.in_ok-from_str.field-0; address = c.args.address } in
    rows-new c.args.self.now.told.entries c.insert.new.self.entries (origin_of c.args.link.now c.args.address) key c.add.new.self _ c.args.line c.args.bad c.in_ok-from_str.ensures.ok refl
    (c.in_ok-insert.ensures.entries ∙ insert_entry-new _ c.args.self.now.told key c.add.new.self
    (none-found key c.args.self.now.told.entries
    (ap (λ l. is_origin_of (strangers_of (rows_of_strangers c.args.self.now.told.entries)) (origin_of l c.args.address)) c.in_ok-from_str.ensures.ok ∙ c.requires))) refl c.add.ensures
