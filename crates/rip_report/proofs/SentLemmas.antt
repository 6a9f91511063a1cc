-- Texts that go out in parts.
use Rattle.std.proofs.Common.{◌≡◌, ℕ, List, [], ◌++◌, take, drop, Result, Ok, Bool, true, false, refl, sym, ap, subst, ◌∙◌, append_assoc, append-nil}
use Rattle.std.proofs.lemmas.Result.{on_err_weaker, on_ok_weaker}
use Rattle.std.proofs.lemmas.List.{take-append-drop}
use Rattle.rip_log.specs.Taken.{Taken, Took}
use Rattle.rip_log.proofs.TakenLemmas.{Took-both, Took-none}
use Rattle.rip_log.specs.declared.device.Failed.{Failed}
use Rattle.rip_report.specs.Sent.{Sent, Began, SinkState, Writes}

-- nothing has gone out yet
pub Sent-none : (t : Taken) (text : List ℕ) → Sent t t text text
Sent-none t text = record { front = []; sent = Took-none t; whole = refl }

-- a part of what was left went out
pub Sent-on : (a b c : Taken) (text part rest left : List ℕ) → Sent a b text (part ++ rest) → Sent b c part left → Sent a c text (left ++ rest)
Sent-on a b c text part rest left s t = record {
  front = s.front ++ t.front;
  sent = Took-both a b c s.front t.front s.sent t.sent;
  whole = s.whole ∙ ap (λ (l : List ℕ). s.front ++ (l ++ rest)) t.whole ∙ ap (λ (l : List ℕ). s.front ++ l) (append_assoc t.front left rest) ∙ sym (append_assoc s.front t.front (left ++ rest));
}

pub Began-on : (a b c : Taken) (text part rest : List ℕ) → Sent a b text (part ++ rest) → Began b c part → Began a c text
Began-on a b c text part rest s t = record { left = t.left ++ rest; sent = Sent-on a b c text part rest t.left s t.sent }

pub Began-all : (a b c : Taken) (text part : List ℕ) → Sent a b text part → Began b c part → Began a c text
Began-all a b c text part s t = record {
  left = t.left;
  sent = record {
    front = s.front ++ t.sent.front;
    sent = Took-both a b c s.front t.sent.front s.sent t.sent.sent;
    whole = s.whole ∙ ap (λ (l : List ℕ). s.front ++ l) t.sent.whole ∙ sym (append_assoc s.front t.sent.front t.left);
  };
}

-- one push
pub Sent-push : (a b : Taken) (bytes : List ℕ) (n : ℕ) → Took a b (take n bytes) → Sent a b bytes (drop n bytes)
Sent-push a b bytes n h = record { front = take n bytes; sent = h; whole = sym (take-append-drop n bytes) }

pub Sent-then : (a b c : Taken) (text part left : List ℕ) → Sent a b text part → Sent b c part left → Sent a c text left
Sent-then a b c text part left s t = record {
  front = s.front ++ t.front;
  sent = Took-both a b c s.front t.front s.sent t.sent;
  whole = s.whole ∙ ap (λ (l : List ℕ). s.front ++ l) t.whole ∙ sym (append_assoc s.front t.front left);
}

-- what succeeds had not failed
pub unbroken : (a b : Bool) → false ≡ b → (a ≡ true → b ≡ true) → b ≡ a
unbroken true b e h = h refl
unbroken false b e h = sym e

-- what goes out of a front of the text goes out of the text
pub Sent-front : (a b : Taken) (x left y : List ℕ) → Sent a b x left → Sent a b (x ++ y) (left ++ y)
Sent-front a b x left y s = Sent-on a a b (x ++ y) x y left (Sent-none a (x ++ y)) s

pub Began-front : (a b : Taken) (x y : List ℕ) → Began a b x → Began a b (x ++ y)
Began-front a b x y s = Began-on a a b (x ++ y) x y (Sent-none a (x ++ y)) s

-- the text is out, and nothing else
pub Sent-whole : (old new : Taken) (text : List ℕ) → Sent old new text [] → Took old new text
Sent-whole old new text s = subst (Took old new) (sym (s.whole ∙ append-nil s.front)) s.sent

-- more text was held, and what no longer is went out
pub Sent-more : (a b c : Taken) (text held more left : List ℕ) → Sent a b text held → Sent b c (held ++ more) left → Sent a c (text ++ more) left
Sent-more a b c text held more left s t = Sent-then a b c (text ++ more) (held ++ more) left (Sent-front a b text held more s) t

pub Began-more : (a b c : Taken) (text held more : List ℕ) → Sent a b text held → Began b c (held ++ more) → Began a c (text ++ more)
Began-more a b c text held more s t = Began-all a b c (text ++ more) (held ++ more) (Sent-front a b text held more s) t

-- ---- A call that writes, after one that did not fail

-- what was held, and more, is written next
pub Writes-more : (a b c : SinkState) (done : Unit {0}) (r : Result (Unit {0}) Failed) (text held more left : List ℕ) → Writes a b (Ok done) text held → Writes b c r (held ++ more) left →
    Writes a c r (text ++ more) left
Writes-more a b c done r text held more left w v = record {
  ok = on_ok_weaker r (Sent-more a.taken b.taken c.taken text held more left w.ok) v.ok;
  err = on_err_weaker r (Began-more a.taken b.taken c.taken text held more w.ok) v.err;
  failed = v.failed;
  kept = λ h. v.kept h ∙ w.kept refl;
}

-- what was held is written, and nothing more
pub Writes-held : (a b c : SinkState) (done : Unit {0}) (r : Result (Unit {0}) Failed) (text held left : List ℕ) → Writes a b (Ok done) text held → Writes b c r held left → Writes a c r text left
Writes-held a b c done r text held left w v = record {
  ok = on_ok_weaker r (Sent-then a.taken b.taken c.taken text held left w.ok) v.ok;
  err = on_err_weaker r (Began-all a.taken b.taken c.taken text held w.ok) v.err;
  failed = v.failed;
  kept = λ h. v.kept h ∙ w.kept refl;
}
