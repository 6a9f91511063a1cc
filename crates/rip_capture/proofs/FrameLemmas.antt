-- A frame holds one thing alone.
use Rattle.std.proofs.Common.{◌≡◌, ◌≢◌, ◌+◌, ◌⊎◌, ◌∙◌, ℕ, true, List, ap, arith, inl, inr, refl, sym}
use Rattle.std.proofs.lemmas.Bool.{both_ways, false≢true}
use Rattle.rip_wire.specs.Fields.{number_at}
use Rattle.rip_capture.specs.Frames.{Holds, HoldsBehind, HoldsLoop, HoldsTyped, Leads, header_of, is_tag}
use Rattle.rip_capture.specs.Frames.Leads.{ipv4, other, cut, tag}
use Rattle.rip_capture.specs.declared.frame.LinkHeader.{LinkHeader}
use Rattle.rip_capture.specs.declared.frame.LinkHeader.TheVariants as headers
use Rattle.rip_capture.specs.declared.frame.Network.{Network}
use Rattle.rip_capture.specs.declared.frame.Network.TheVariants.{Ip, Short, Other}
use Rattle.rip_capture.specs.declared.link.LinkType.{LinkType}

-- the type of IPv4 is no tag's
no_tag : (kind : ℕ) → kind ≡ 2048 → is_tag kind ≡ true → ⊥
no_tag kind is on = false≢true (sym (ap is_tag is) ∙ on)

-- a type leads to one thing
Leads-one : (frame : List ℕ) (at from : ℕ) (n m : Network) → Leads frame at from n → Leads frame at from m → n ≡ m
Leads-one frame at from n m (ipv4 a f h e is) (ipv4 a' f' h' e' is') = is ∙ sym is'
Leads-one frame at from n m (ipv4 a f h e is) (other a' f' h' off ne is') = absurd (ne e)
Leads-one frame at from n m (ipv4 a f h e is) (cut a' f' h' on less is') = absurd (no_tag (number_at 2 at frame) e on)
Leads-one frame at from n m (ipv4 a f h e is) (tag a' f' h' on room next) = absurd (no_tag (number_at 2 at frame) e on)
Leads-one frame at from n m (other a f h off ne is) (ipv4 a' f' h' e' is') = absurd (ne e')
Leads-one frame at from n m (other a f h off ne is) (other a' f' h' off' ne' is') = is ∙ sym is'
Leads-one frame at from n m (other a f h off ne is) (cut a' f' h' on less is') = absurd (both_ways (is_tag (number_at 2 at frame)) off on)
Leads-one frame at from n m (other a f h off ne is) (tag a' f' h' on room next) = absurd (both_ways (is_tag (number_at 2 at frame)) off on)
Leads-one frame at from n m (cut a f h on less is) (ipv4 a' f' h' e' is') = absurd (no_tag (number_at 2 at frame) e' on)
Leads-one frame at from n m (cut a f h on less is) (other a' f' h' off ne is') = absurd (both_ways (is_tag (number_at 2 at frame)) off on)
Leads-one frame at from n m (cut a f h on less is) (cut a' f' h' on' less' is') = is ∙ sym is'
Leads-one frame at from n m (cut a f h on less is) (tag a' f' h' on' room next) = absurd (omega arith)
Leads-one frame at from n m (tag a f h on room next) (ipv4 a' f' h' e' is') = absurd (no_tag (number_at 2 at frame) e' on)
Leads-one frame at from n m (tag a f h on room next) (other a' f' h' off ne is') = absurd (both_ways (is_tag (number_at 2 at frame)) off on)
Leads-one frame at from n m (tag a f h on room next) (cut a' f' h' on' less is') = absurd (omega arith)
Leads-one frame at from n m (tag a f h on room next) (tag a' f' h' on' room' next') =
    Leads-one frame (from + 2) (from + 4) n m next next'

HoldsTyped-one : (frame : List ℕ) (place header : ℕ) (n m : Network) → HoldsTyped frame place header n → HoldsTyped frame place header m → n ≡ m
HoldsTyped-one frame place header n m (inl h) (inl k) = h.1 ∙ sym k.1
HoldsTyped-one frame place header n m (inl h) (inr k) = absurd (omega (arith, h.0, k.0))
HoldsTyped-one frame place header n m (inr h) (inl k) = absurd (omega (arith, h.0, k.0))
HoldsTyped-one frame place header n m (inr h) (inr k) = Leads-one frame place header n m h.1 k.1

neither : (a b c : ℕ) → (a ≡ c) ⊎ (b ≡ c) → a ≢ c → b ≢ c → ⊥
neither a b c (inl e) h k = h e
neither a b c (inr e) h k = k e

HoldsLoop-one : (frame : List ℕ) (n m : Network) → HoldsLoop frame n → HoldsLoop frame m → n ≡ m
HoldsLoop-one frame (Ip a) (Ip b) h k = ap Ip (h.0 ∙ sym k.0)
HoldsLoop-one frame (Ip a) Short h k = absurd (omega (arith, h.1, k))
HoldsLoop-one frame (Ip a) Other h k = absurd (neither _ _ _ h.2 k.1 k.2)
HoldsLoop-one frame Short (Ip b) h k = absurd (omega (arith, h, k.1))
HoldsLoop-one frame Short Short h k = refl
HoldsLoop-one frame Short Other h k = absurd (omega (arith, h, k.0))
HoldsLoop-one frame Other (Ip b) h k = absurd (neither _ _ _ k.2 h.1 h.2)
HoldsLoop-one frame Other Short h k = absurd (omega (arith, h.0, k))
HoldsLoop-one frame Other Other h k = refl

-- a frame holds one thing behind its header
HoldsBehind-one : (header : LinkHeader) (frame : List ℕ) (n m : Network) → HoldsBehind header frame n → HoldsBehind header frame m → n ≡ m
HoldsBehind-one (headers.Typed place header) frame n m h k = HoldsTyped-one frame place header n m h k
HoldsBehind-one headers.Loop frame n m h k = HoldsLoop-one frame n m h k
HoldsBehind-one headers.Nothing frame n m h k = h ∙ sym k

-- a frame of a link type holds one thing
pub Holds-one : (t : LinkType) (frame : List ℕ) (n m : Network) → Holds t frame n → Holds t frame m → n ≡ m
Holds-one t frame n m h k = HoldsBehind-one (header_of t) frame n m h k
