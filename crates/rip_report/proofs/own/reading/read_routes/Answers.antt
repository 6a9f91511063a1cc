use Rattle.std.proofs.Common.{◌≡◌, ◌↔◌, ◌∙◌, ◌++◌, ℕ, Bool, true, false, List, Option, Some, Result, Ok, Err}
use Rattle.std.specs.Prelude.{IfErr, IfOk, if◌then◌else◌}
use Rattle.rip_log.specs.Logs.{IfElse}
use Rattle.rip_log.specs.TextCall.{text_source, text_to_come}
use Rattle.rip_log.specs.Wholes.{rest_of}
use Rattle.rip_plan.specs.Network.{Network}
use Rattle.rip_routes.specs.CollectsRoutes.{ToldOutcome}
use Rattle.rip_routes.specs.OwnTables.{OwnTables}
use Rattle.rip_routes.specs.Takes.{is_memory, is_read}
use Rattle.rip_routes.specs.RouteText.{RefusesText, TellTables}
use Rattle.rip_routes.specs.Telling.{tell_text}
use Rattle.rip_routes.specs.declared.error.RoutesError.{RoutesError}
use Rattle.rip_report.specs.OwnRuns.{TellsOrRefuses, read_of}
use Rattle.rip_report.specs.Runs.{PullsLittleBehind}
use Rattle.rip_report.specs.declared.status.RunError.TheVariants.{Memory, Read}
use Rattle.rip_report.proofs.GivenLemmas.{rest_given}
use Rattle.rip_report.proofs.StopLemmas.{stops_at}
use Rattle.rip_report.proofs.own.reading.read_routes.Goals as goal

-- what the computed outcome of a text says in the words of its format
record Words (n : Network) : Type 0 where
  tables : (text : List ℕ) (t : OwnTables) → (tell_text n text ≡ Ok t) ↔ TellTables n text t
  refused : (text : List ℕ) (e : RoutesError) → (tell_text n text ≡ Err e) ↔ RefusesText n text e

-- what is left of an error is what refuses the text
refused_by : {G : Type 0} (Stuck Unread : Type 0) (view : G → OwnTables) (n : Network) → Words n → (text : List ℕ) (e : RoutesError) (memory read : Bool)
    → IfElse memory Stuck (IfElse read Unread (tell_text n text ≡ Err e)) → IfOk (if memory then Err Memory else if read then Err Read else Ok (Err e)) (TellsOrRefuses view n text)
refused_by Stuck Unread view n words text e true read h = tt
refused_by Stuck Unread view n words text e false true h = tt
refused_by Stuck Unread view n words text e false false h = (words.refused text e).0 h

told_by : {G : Type 0} (view : G → OwnTables) (n : Network) → Words n → (text : List ℕ) (left : Option (List ℕ)) (r : Result G RoutesError) → ToldOutcome view n (Some text) left r →
    IfOk (read_of r) (TellsOrRefuses view n text)
told_by view n words text left (Ok g) h = (words.tables text (view g)).0 h
told_by view n words text left (Err e) h = refused_by _ _ view n words text e (is_memory e.cause) (is_read e.cause) h

-- what holds of tables that are read
no_tables : {G : Type 0} (P : G → Type 0) (e : RoutesError) (memory read : Bool) → IfOk (if memory then Err Memory else if read then Err Read else Ok (Err e)) (λ (r : Result G RoutesError). IfOk r P)
no_tables P e true read = tt
no_tables P e false true = tt
no_tables P e false false = tt

of_tables : {G : Type 0} (P : G → Type 0) (r : Result G RoutesError) → IfOk r P → IfOk (read_of r) (λ (read : Result G RoutesError). IfOk read P)
of_tables P (Ok g) h = h
of_tables P (Err e) h = no_tables P e (is_memory e.cause) (is_read e.cause)

pub returns-in-Ok-clause-told : goal.returns-in-Ok-clause-told
returns-in-Ok-clause-told g c = λ text begins.
    let n = c.args.plan.now in
    let S = g.R.Source in
    let whole = S.given c.args.routes ++ text in
    let begun = rw c.into_source.ensures at begins in
    let all : text_to_come (rest_of S.given whole) c.in-Ok.reader ≡ Some text = c.in-Ok.ensures.text (rest_of S.given whole) ∙ rest_given S.given c.args.routes text in
    let told = rw all at (c.collect_routes-collected.ensures.told whole begun) in
    let words : Words n = record {
      tables = λ text t. c.told_texts.ensures.tables n text t c.lawful.ensures;
      refused = λ text e. c.refused_texts.ensures.refused n text e c.lawful.ensures;
    } in
    rw c.outcome.ensures (told_by _ n words text _ c.collect_routes-collected.result told)

pub returns-in-Ok-clause-fits : goal.returns-in-Ok-clause-fits
returns-in-Ok-clause-fits g c = rw c.outcome.ensures (of_tables _ c.collect_routes-collected.result c.collect_routes-collected.ensures.fits)

-- what is answered of an error that refuses the text
refusing : (G : Type 0) (P : RoutesError → Type 0) (e : RoutesError) (memory read : Bool) → P e → IfOk (if memory then Err Memory else if read then Err Read else Ok (Err e)) (λ (r : Result G RoutesError). IfErr r P)
refusing G P e true read h = tt
refusing G P e false true h = tt
refusing G P e false false h = h

refuses : {G : Type 0} (P : RoutesError → Type 0) (r : Result G RoutesError) → IfErr r P → IfOk (read_of r) (λ (read : Result G RoutesError). IfErr read P)
refuses P (Ok g) h = tt
refuses {G} P (Err e) h = refusing G P e (is_memory e.cause) (is_read e.cause) h

each_error : {G : Type 0} (P Q : RoutesError → Type 0) (r : Result G RoutesError) → ((e : RoutesError) → P e → Q e) → IfErr r P → IfErr r Q
each_error P Q (Ok g) f h = tt
each_error P Q (Err e) f h = f e h

pub returns-in-Ok-clause-stops : goal.returns-in-Ok-clause-stops
returns-in-Ok-clause-stops g c =
    let S = g.R.Source in
    let routes = c.args.routes in
    let collected = c.collect_routes-collected.result in
    let before = c.in-Ok.reader in
    let after = c.collect_routes-collected.new.reader in
    let stops = stops_at S.given S.at_end routes before.window.feed after.window.feed c.in-Ok.ensures.text c.lawful-in-Ok.ensures in
    let P : RoutesError → Type 0 = λ e. PullsLittleBehind S.given routes (text_source after) e.line in
    rw (c.outcome.ensures, c.into_source.ensures) (refuses P collected (each_error _ P collected (λ e drops. stops e.line drops) c.collect_routes-collected.ensures.drops))
