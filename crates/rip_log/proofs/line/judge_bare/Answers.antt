use Rattle.std.proofs.Common.{◌∙◌, ℕ, [], ◌∷◌, List, Ok, Some, ap}
use Rattle.rip_log.specs.Fields.{fields_of}
use Rattle.rip_log.specs.Said.{origin_by}
use Rattle.rip_log.specs.Spans.{slice_of}
use Rattle.rip_log.proofs.JudgeLemmas.{good-said, three-said}
use Rattle.rip_log.proofs.line.judge_bare.Goals as goal

pub returns-in-Ok : goal.returns-in-Ok
returns-in-Ok c =
    let bare = c.args.bare.now in
    let link = slice_of bare c.in-ThreeOrMore.link in
    let sender = slice_of bare c.in-ThreeOrMore.sender in
    let rest = slice_of bare c.in-ThreeOrMore.rest in
    let room = c.judge_fields.new.room in
    let split = c.in-ThreeOrMore.ensures in
    let one = good-said link sender rest bare room (origin_by (link ∷ sender ∷ rest ∷ [])) c.in-Ok.parts split.1.4.some c.in-Ok.ensures in
    three-said (fields_of bare) link sender rest bare room (Ok (Some c.in-Ok.parts)) (split.1.0 ∙ ap (λ (l : List (List ℕ)). link ∷ sender ∷ l) one) split.0 c.in-Ok.ensures
