-- Nothing in a scene lasts for longer than a window.
use Rattle.std.proofs.Common.{◌≡◌, ℕ, ◌+◌, ◌-◌, ◌==◌, ◌≤◌, nat_lt, Bool, true, false, cond, List, [], ◌∷◌, filter, Option, Some, None, Result, Ok, Err, refl, ap, ◌∙◌, arith}
use Rattle.std.proofs.lemmas.Bool.{ltb-true}
use mathlib.Core.Path.{fun_ext}
use Rattle.rip_wire.specs.Prefix.{Block}
use Rattle.rip_wire.specs.Message.{Message, request, response}
use Rattle.rip_log.specs.TimedText.{TimedSaid, captured, bad, untimed}
use Rattle.rip_plan.specs.Network.{Network}
use Rattle.rip_table.specs.State.{State}
use Rattle.rip_table.specs.Joined.{interface_of, joined_message, message_of_capture}
use Rattle.rip_table.specs.Window.{Word, passed_word, shown, window_after, with_words, without_shown, word_or}
use Rattle.rip_table.specs.Scenes.{LastsFor, View, after_message, after_said, closed_view, new_view, passed_episode, passed_view, with_refusal, with_window}
use Rattle.rip_table.specs.declared.error.TableError.{TableError}
use Rattle.rip_table.specs.declared.scene.Episode.{Episode}
use Rattle.rip_table.specs.declared.scene.LineCause.{LineCause}
use Rattle.rip_table.proofs.ForgetLemmas.{is_left}

-- ---- a line

pub new-lasts : (n : Network) (seconds : ℕ) → LastsFor seconds (new_view n)
new-lasts n seconds = record {
  words = λ i p x h. absurd (cc h);
  heard = λ i. omega arith;
  episode = λ e h. absurd (cc h);
}

refusal_lasts : (seconds line : ℕ) (cause : LineCause) (v : View) → 1 ≤ seconds → LastsFor seconds v → LastsFor seconds (with_refusal seconds line cause v)
refusal_lasts seconds line cause v some h = record {
  words = h.words;
  heard = h.heard;
  episode = λ e is. let left : seconds ≡ e.left = cc is in (omega (arith, some, left), omega (arith, left));
}

word_lasts : (seconds : ℕ) (new : Option ℕ) (before : Option Word) → 1 ≤ seconds → ((x : Word) → before ≡ Some x → (1 ≤ x.left) × (x.left ≤ seconds))
    → (x : Word) → word_or seconds new before ≡ Some x → (1 ≤ x.left) × (x.left ≤ seconds)
word_lasts seconds None before some old x h = old x h
word_lasts seconds (Some m) before some old x h = let left : seconds ≡ x.left = cc h in (omega (arith, some, left), omega (arith, left))

words_last : (seconds i : ℕ) (v : View) (t : State) → 1 ≤ seconds → LastsFor seconds v → LastsFor seconds (record v { window = with_words seconds i v.window t })
words_last seconds i v t some h = record {
  words = λ j p x is. by j p x (j == i) is;
  heard = λ j. mark j (j == i);
  episode = h.episode;
}
  where
    by : (j : ℕ) (p : Block) (x : Word) → (b : Bool) → cond b (word_or seconds (t.shows i p) (v.window.words i p)) (v.window.words j p) ≡ Some x → (1 ≤ x.left) × (x.left ≤ seconds)
    by j p x true is = word_lasts seconds (t.shows i p) (v.window.words i p) some (h.words i p) x is
    by j p x false is = h.words j p x is

    mark : (j : ℕ) → (b : Bool) → cond b seconds (v.window.heard j) ≤ seconds
    mark j true = omega arith
    mark j false = h.heard j

made_lasts : (seconds line i : ℕ) (v : View) (r : Result State TableError) → 1 ≤ seconds → LastsFor seconds v
    → LastsFor seconds (with_window seconds line (window_after seconds i v.window r) v)
made_lasts seconds line i v (Ok t) some h = words_last seconds i v t some h
made_lasts seconds line i v (Err e) some h = refusal_lasts seconds line _ v some h

message_lasts : (n : Network) (seconds line : ℕ) (i : Option ℕ) (m : Message) (v : View) → 1 ≤ seconds → LastsFor seconds v → LastsFor seconds (after_message n seconds line i m v)
message_lasts n seconds line None request v some h = h
message_lasts n seconds line None (response es) v some h = refusal_lasts seconds line _ v some h
message_lasts n seconds line (Some i) request v some h = record { words = h.words; heard = h.heard; episode = h.episode }
message_lasts n seconds line (Some i) (response es) v some h = made_lasts seconds line i v (joined_message n i (without_shown i (shown v.window)) (response es)) some h

pub said-lasts : (n : Network) (seconds line : ℕ) (said : TimedSaid) (v : View) → 1 ≤ seconds → LastsFor seconds v → LastsFor seconds (after_said n seconds line said v)
said-lasts n seconds line (captured micros c) v some h = message_lasts n seconds line (interface_of n c) (message_of_capture c) v some h
said-lasts n seconds line (bad micros code) v some h = refusal_lasts seconds line _ v some h
said-lasts n seconds line (untimed code) v some h = refusal_lasts seconds line _ v some h

-- ---- a second

passed_lasts : (seconds : ℕ) (word : Option Word) → ((x : Word) → word ≡ Some x → (1 ≤ x.left) × (x.left ≤ seconds + 1)) → (x : Word) → passed_word word ≡ Some x → (1 ≤ x.left) × (x.left ≤ seconds)
passed_lasts seconds None old x h = absurd (cc h)
passed_lasts seconds (Some w) old x h = by (nat_lt 1 w.left) refl h
  where
    by : (b : Bool) → nat_lt 1 w.left ≡ b → cond b (Some (record { metric = w.metric; left = w.left - 1 })) None ≡ Some x → (1 ≤ x.left) × (x.left ≤ seconds)
    by true t is =
        let left : w.left - 1 ≡ x.left = cc is in
        let more = ltb-true 1 w.left t in
        let most = (old w refl).1 in
        (omega (arith, left, more), omega (arith, left, most))
    by false t is = absurd (cc is)

episode_lasts : (seconds : ℕ) (episode : Option Episode) → ((e : Episode) → episode ≡ Some e → (1 ≤ e.left) × (e.left ≤ seconds + 1)) → (e : Episode) → passed_episode episode ≡ Some e
    → (1 ≤ e.left) × (e.left ≤ seconds)
episode_lasts seconds None old e h = absurd (cc h)
episode_lasts seconds (Some f) old e h = by (nat_lt 1 f.left) refl h
  where
    by : (b : Bool) → nat_lt 1 f.left ≡ b → cond b (Some (record { first = f.first; left = f.left - 1 })) None ≡ Some e → (1 ≤ e.left) × (e.left ≤ seconds)
    by true t is =
        let left : f.left - 1 ≡ e.left = cc is in
        let more = ltb-true 1 f.left t in
        let most = (old f refl).1 in
        (omega (arith, left, more), omega (arith, left, most))
    by false t is = absurd (cc is)

pub passed-lasts : (seconds : ℕ) (v : View) → LastsFor (seconds + 1) v → LastsFor seconds (passed_view v)
passed-lasts seconds v h = record {
  words = λ i p. passed_lasts seconds (v.window.words i p) (h.words i p);
  heard = λ i. omega (arith, h.heard i);
  episode = episode_lasts seconds v.episode h.episode;
}

pub closed-lasts : (n : Network) (seconds : ℕ) (v : View) → LastsFor seconds v → LastsFor seconds (closed_view n v)
closed-lasts n seconds v h = record { words = h.words; heard = h.heard; episode = h.episode }

-- ---- nothing is left

no_word : (word : Option Word) → ((x : Word) → word ≡ Some x → (1 ≤ x.left) × (x.left ≤ 0)) → passed_word word ≡ word
no_word None h = refl
no_word (Some x) h = let both = h x refl in absurd (omega (arith, both.0, both.1))

no_episode : (episode : Option Episode) → ((e : Episode) → episode ≡ Some e → (1 ≤ e.left) × (e.left ≤ 0)) → passed_episode episode ≡ episode
no_episode None h = refl
no_episode (Some e) h = let both = h e refl in absurd (omega (arith, both.0, both.1))

pub over : (v : View) → LastsFor 0 v → passed_view v ≡ v
over v h =
    let w = v.window in
    let words : ◌≡◌ {A = ℕ → Block → Option Word} (λ i p. passed_word (w.words i p)) w.words = fun_ext (λ i. fun_ext (λ p. no_word (w.words i p) (h.words i p))) in
    let marks : ◌≡◌ {A = ℕ → ℕ} (λ i. w.heard i - 1) w.heard = fun_ext (λ i. let none = h.heard i in omega (arith, none)) in
    ap (λ (f : ℕ → Block → Option Word). record { window = record { interfaces = w.interfaces; prefixes = w.prefixes; words = f; heard = λ i. w.heard i - 1 }; episode = passed_episode v.episode }) words
    ∙ ap (λ (f : ℕ → ℕ). record { window = record { interfaces = w.interfaces; prefixes = w.prefixes; words = w.words; heard = f }; episode = passed_episode v.episode }) marks
    ∙ ap (λ (e : Option Episode). record { window = w; episode = e }) (no_episode v.episode h.episode)

filter_twice : (test : Block → Bool) (ps : List Block) → filter test (filter test ps) ≡ filter test ps
filter_twice test [] = refl
filter_twice test (p ∷ ps) = by (test p) refl (filter_twice test ps)
  where
    by : (b : Bool) → test p ≡ b → filter test (filter test ps) ≡ filter test ps → filter test (cond b (p ∷ filter test ps) (filter test ps)) ≡ cond b (p ∷ filter test ps) (filter test ps)
    by true t later = ap (λ (b : Bool). cond b (p ∷ filter test (filter test ps)) (filter test (filter test ps))) t ∙ ap (λ (qs : List Block). p ∷ qs) later
    by false t later = later

pub once : (n : Network) (v : View) → closed_view n (closed_view n v) ≡ closed_view n v
once n v =
    let w = v.window in
    ap (λ (ps : List Block). record { window = record { interfaces = w.interfaces; prefixes = ps; words = w.words; heard = w.heard }; episode = v.episode }) (filter_twice (is_left n w) w.prefixes)
