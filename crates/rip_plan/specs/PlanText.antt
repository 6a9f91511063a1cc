-- The plan that a text is, or its first fault.
use Rattle.std.specs.Prelude.{ℕ, Bool, List, [], length, codes, ◌||◌, not, nat_lt, Option, None, Result, Ok, Err, if◌then◌else◌}
use Rattle.std.specs.Str.{is_utf8}
use Rattle.toml.specs.Data.{Members, get_member}
use Rattle.toml.specs.Parse.{parse_document}
use Rattle.rip_plan.specs.declared.error.PlanCode.TheVariants as codes
use Rattle.rip_plan.specs.declared.error.PlanError.{PlanError}
use Rattle.rip_plan.specs.declared.error.At.TheVariants.{Text, Version}
use Rattle.rip_plan.specs.declared.limits.TheConstants.{MOST_PLAN_BYTES, MOST_LINKS, MOST_ROUTERS}
use Rattle.rip_plan.specs.Fault.{fault, ◌>>=◌, wanted, steps}
use Rattle.rip_plan.specs.Fields.{root_fields, is_version}
use Rattle.rip_plan.specs.Draft.{Sketch, link_step, router_step}
use Rattle.rip_plan.specs.Passes.{second_passes}

-- nothing was read but whether interfaces poison that do not say it
abbrev pub empty : Bool → Sketch
empty poison = record {
  links = [];
  lists = [];
  listed = [];
  routers = [];
  poison = poison;
  interfaces = [];
  also = [];
  places = [];
}

-- what a document says: the version, the root, the first pass, and the other passes
unfoldable pub sketch_of_document : Members → Result Sketch PlanError
sketch_of_document doc =
    if not (is_version (get_member (codes "version") doc)) then Err (fault codes.Version Version)
    else (wanted (fault codes.Key Text) (root_fields doc) >>= (λ root.
    if nat_lt MOST_LINKS (length root.0) || nat_lt MOST_ROUTERS (length root.1) then
    Err (fault codes.Limit Text)
    else (steps link_step 1 root.0 (empty root.2) >>= steps router_step 1 root.1 >>= (λ s.
    second_passes s >>= (λ _. Ok s)))))

-- the document that the bytes are
abbrev pub document_of : List ℕ → Option Members
document_of bytes = if is_utf8 bytes then parse_document bytes else None

-- what the bytes say; there is a limit to them
unfoldable pub sketch_of : List ℕ → Result Sketch PlanError
sketch_of bytes =
    if nat_lt MOST_PLAN_BYTES (length bytes) then Err (fault codes.Limit Text)
    else (wanted (fault codes.Syntax Text) (document_of bytes) >>= sketch_of_document)
