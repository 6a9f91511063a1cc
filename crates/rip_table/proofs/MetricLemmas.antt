-- Entries whose metrics are 1 to 16.
use Rattle.std.proofs.Common.{◌≡◌, ℕ, zero, suc, ◌≤◌, ◌↔◌, List, [], ◌∷◌, ◌++◌, Some, Result, Ok, sym, ◌∙◌}
use Rattle.std.specs.List.{slice_get}
use Rattle.rip_wire.specs.Message.{Message, message_in, response}
use Rattle.rip_wire.specs.Response.{IsResponseOf}
use Rattle.rip_wire.specs.declared.entry.Entry.{Entry}
use Rattle.rip_wire.specs.declared.error.WireError.{WireError}
use Rattle.rip_plan.specs.Network.{Network, found_at}
use Rattle.rip_plan.specs.Relations.{IsAt, IsLawful}

abbrev pub AreMetrics : List Entry → Type 0
AreMetrics es = (k : ℕ) (e : Entry) → slice_get es k ≡ Some e → (1 ≤ e.metric) × (e.metric ≤ 16)

-- so are those of a response
pub response_metrics : (b : List ℕ) (es : List Entry) → IsResponseOf es b → AreMetrics es
response_metrics b es is k e at = let entry = is.each k e at in (entry.reachable, entry.infinity)

-- a response is read exactly of its fields
abbrev pub ResponseFields : Type 0
ResponseFields = (es : List Entry) (b : List ℕ) → (message_in b ≡ Ok (response es)) ↔ IsResponseOf es b

-- bytes are a response of one list of entries
pub same_entries : (fields : ResponseFields) (b : List ℕ) (es fs : List Entry) → IsResponseOf es b → IsResponseOf fs b → es ≡ fs
same_entries fields b es fs h k = let same : ◌≡◌ {A = Result Message WireError} (Ok (response es)) (Ok (response fs)) = sym ((fields es b).1 h) ∙ (fields fs b).1 k in cc same

-- the laws of the crates below: that of the fields of a response, and those of the interface that is
-- found for a sender
pub record LowerLaws : Type 0 where
  pub fields : ResponseFields
  pub gives : (n : Network) (name : List ℕ) (a i : ℕ) → found_at n name a ≡ Some i → IsAt n name a i
  pub finds : (n : Network) (name : List ℕ) (a i : ℕ) → IsLawful n → IsAt n name a i → found_at n name a ≡ Some i

pub lower_laws : ResponseFields
    → ((n : Network) (name : List ℕ) (a i : ℕ) → found_at n name a ≡ Some i → IsAt n name a i)
    → ((n : Network) (name : List ℕ) (a i : ℕ) → IsLawful n → IsAt n name a i → found_at n name a ≡ Some i) → LowerLaws
lower_laws fields gives finds = record { fields = fields; gives = gives; finds = finds }

-- so are those of the first entries
pub front_metrics : (front rest : List Entry) → AreMetrics (front ++ rest) → AreMetrics front
front_metrics [] rest h k e at = absurd (cc at)
front_metrics (d ∷ front) rest h zero e at = h 0 e at
front_metrics (d ∷ front) rest h (suc k) e at = front_metrics front rest (λ j x there. h (suc j) x there) k e at
