use Rattle.std.proofs.Common.{◌∙◌, ◌++◌, List, Some, map, ap, subst, arith}
use Rattle.std.proofs.lemmas.List.{map-append}
use Rattle.rip_log.specs.Lines.{Capture, lines_of}
use Rattle.rip_log.specs.Logs.{Numbered}
use Rattle.rip_log.proofs.TwoTextLemmas.{IsGood, fewer, lines-parted, parted}
use Rattle.rip_log.proofs.laws.two_texts.Goals as goal

abbrev captures : List Numbered → List Capture
captures records = map (λ (r : Numbered). r.capture) records

pub returns : goal.returns
returns c text more records ends whole =
    let known = (c.log_texts.ensures.text (text ++ more) records).1 whole in
    let all : IsGood 0 (lines_of (text ++ more)) records = cc known in
    let (front, later, m, is, first, behind) = parted 0 (lines_of text) (lines_of more) records (subst (λ l. IsGood 0 l records) (lines-parted text more ends) all) in
    let (others, second, same) = fewer 0 m (lines_of more) later (omega arith) behind in (
      front,
      others,
      (c.log_texts.ensures.text text front).0 (ap Some first),
      (c.log_texts.ensures.text more others).0 (ap Some second),
      ap captures is ∙ map-append (λ (r : Numbered). r.capture) front later ∙ ap (λ l. captures front ++ l) same,
    )
