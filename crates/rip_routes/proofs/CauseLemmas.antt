-- By what a line may be refused.
use Rattle.std.proofs.Common.{◌≡◌, ℕ, Bool, true, false, List, [], ◌∷◌, Option, Some, None, Result, Ok, Err, cond, refl, subst}
use Rattle.std.specs.Prelude.{codes, nat_le, length, ◌&&◌, ◌==◌}
use Rattle.std.specs.Str.{bytes_eq}
use Rattle.rip_wire.specs.Prefix.{Block, prefix_in}
use Rattle.rip_plan.specs.Network.{Network}
use Rattle.rip_routes.specs.declared.error.RoutesCause.{RoutesCause}
use Rattle.rip_routes.specs.declared.error.RoutesCause.TheVariants as causes
use Rattle.rip_routes.specs.declared.next_hop.NextHop.{NextHop}
use Rattle.rip_routes.specs.declared.told.Told.{Told}
use Rattle.rip_routes.specs.OwnTables.{OwnRoute, OwnTables}
use Rattle.rip_routes.specs.RouteLines.{hop_in, is_silent, metric_in, router_in, told_alone, told_by_fields, told_by_line, told_hop, told_of_router, told_rest, told_with}
use Rattle.rip_routes.specs.Takes.{is_memory, is_read}
use Rattle.rip_routes.specs.Telling.{is_full, tell_at, tell_said, with_told}

-- neither a growth nor the source is to blame
pub record IsOfLine (cause : RoutesCause) : Type 0 where
  pub not_memory : is_memory cause ≡ false
  pub not_read : is_read cause ≡ false

abbrev IsBlamed : {A : Type 0} → Result A RoutesCause → Type 0
IsBlamed (Ok x) = Unit {0}
IsBlamed (Err cause) = IsOfLine cause

fine : {A : Type 0} (b : Bool) (x y : Result A RoutesCause) → IsBlamed x → IsBlamed y → IsBlamed (cond b x y)
fine true x y h k = h
fine false x y h k = k

here : (cause : RoutesCause) → is_memory cause ≡ false → is_read cause ≡ false → IsOfLine cause
here cause h k = record { not_memory = h; not_read = k }

alone : (n : Network) (r : ℕ) (p : Block) (word : List ℕ) → IsBlamed (told_alone n r p word)
alone n r p word = fine (bytes_eq word (codes "here")) _ (Err causes.Way) tt (here causes.Way refl refl)

with_metric : (r : ℕ) (p : Block) (word : List ℕ) (o : Option ℕ) → IsBlamed (told_with r p word o)
with_metric r p word None = here causes.Metric refl refl
with_metric r p word (Some m) =
    fine (bytes_eq word (codes "here")) (Ok _) _ tt (fine (bytes_eq word (codes "unreachable") && m == 16) (Ok _) (Err causes.Way) tt (here causes.Way refl refl))

hop_blame : (r : ℕ) (p : Block) (o : Option ℕ) (hop : Option NextHop) → IsBlamed (told_hop r p o hop)
hop_blame r p None hop = here causes.Metric refl refl
hop_blame r p (Some m) None = here causes.Way refl refl
hop_blame r p (Some m) (Some hop) = tt

rest_blame : (n : Network) (r : ℕ) (p : Block) (rest : List (List ℕ)) → IsBlamed (told_rest n r p rest)
rest_blame n r p [] = here causes.Fields refl refl
rest_blame n r p (word ∷ []) = alone n r p word
rest_blame n r p (m ∷ word ∷ []) = with_metric r p word (metric_in m)
rest_blame n r p (m ∷ word ∷ name ∷ []) = hop_blame r p (metric_in m) (hop_in n r word name)
rest_blame n r p (m ∷ word ∷ name ∷ more ∷ rest) = here causes.Fields refl refl

place_blame : (n : Network) (r : Option ℕ) (p : Option Block) (rest : List (List ℕ)) → IsBlamed (told_of_router n r p rest)
place_blame n None p rest = here causes.Router refl refl
place_blame n (Some r) None rest = here causes.Prefix refl refl
place_blame n (Some r) (Some p) rest = rest_blame n r p rest

fields_blame : (n : Network) (fields : List (List ℕ)) → IsBlamed (told_by_fields n fields)
fields_blame n [] = here causes.Fields refl refl
fields_blame n (router ∷ []) = here causes.Fields refl refl
fields_blame n (router ∷ prefix ∷ rest) =
    fine (nat_le 1 (length rest) && nat_le (length rest) 3) (told_of_router n (router_in n router) (prefix_in prefix) rest) (Err causes.Fields)
    (place_blame n (router_in n router) (prefix_in prefix) rest) (here causes.Fields refl refl)

line_blame : (n : Network) (fields : List (List ℕ)) → IsBlamed (told_by_line n fields)
line_blame n [] = tt
line_blame n (first ∷ rest) = fine (is_silent first) (Ok None) (told_by_fields n (first ∷ rest)) tt (fields_blame n (first ∷ rest))

tell_blame : (t : OwnTables) (told : Told) (o : Option OwnRoute) → IsBlamed (tell_at t told o)
tell_blame t told None = fine (is_full t told.prefix) (Err causes.TooManyPrefixes) (Ok (with_told t told)) (here causes.TooManyPrefixes refl refl) tt
tell_blame t told (Some route) =
    fine (route.metric == told.metric) (Ok (with_told t told)) (Err (causes.Changed told.prefix route.metric told.metric)) tt (here (causes.Changed told.prefix route.metric told.metric) refl refl)

said_blame : (t : OwnTables) (said : Result (Option Told) RoutesCause) → IsBlamed said → IsBlamed (tell_said t said)
said_blame t (Ok None) h = tt
said_blame t (Ok (Some told)) h = tell_blame t told (t.routes told.router told.prefix)
said_blame t (Err cause) h = h

-- a line is refused by itself
pub line_cause : (n : Network) (t : OwnTables) (fields : List (List ℕ)) (cause : RoutesCause) → tell_said t (told_by_line n fields) ≡ Err cause → IsOfLine cause
line_cause n t fields cause h = subst IsBlamed h (said_blame t (told_by_line n fields) (line_blame n fields))
