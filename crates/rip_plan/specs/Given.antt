-- What the code reads from tables, as the definitions have it.
use Rattle.std.specs.Prelude.{map, option_map}
use Rattle.std.specs.Option.{option_copied}
use Rattle.toml.specs.View.{view}
use Rattle.rip_plan.specs.declared.fields.InterfaceFields.{InterfaceFields as GivenInterface}
use Rattle.rip_plan.specs.declared.fields.LinkFields.{LinkFields as GivenLink}
use Rattle.rip_plan.specs.declared.fields.OwnFields.{OwnFields as GivenOwn}
use Rattle.rip_plan.specs.Fields.{InterfaceFields, LinkFields, OwnFields}

abbrev pub seen_link : GivenLink → LinkFields
seen_link f = record {
  name = f.name.now;
  prefixes = map view f.prefixes.now;
  only = option_map (λ v. map view v.now) f.only;
}

abbrev pub seen_interface : GivenInterface → InterfaceFields
seen_interface f = record {
  link = f.link.now;
  address = f.address.now;
  cost = f.cost;
  direct = f.direct;
  also = map view f.also.now;
  poison = f.poison;
}

abbrev pub seen_own : GivenOwn → OwnFields
seen_own f = record {
  prefix = f.prefix.now;
  cost = f.cost;
  kept = f.kept;
  link = option_copied f.link;
  via = option_copied f.via;
}
