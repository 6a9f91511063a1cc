-- What is held behind bytes that were taken.
use Rattle.std.proofs.Common.{◌≡◌, ◌≤◌, ℕ, List, [], ◌++◌, sym, append_assoc, append-nil, take, drop, ap, ◌∙◌, arith, length}
use Rattle.std.proofs.lemmas.List.{length-append, take-append-drop}
use Rattle.rip_log.specs.Feeds.{held}
use Rattle.rip_capture.specs.Feeds.{Extends, Keeps, Skips, Takes}
use Rattle.rip_log.specs.declared.feed.Feed.{Feed}

pub Extends-none : (xs : List ℕ) → Extends xs xs
Extends-none xs = record { more = []; whole = sym (append-nil xs) }

pub Extends-on : (xs ys zs : List ℕ) → Extends xs ys → Extends ys zs → Extends xs zs
Extends-on xs ys zs a b = record {
  more = a.more ++ b.more;
  whole = b.whole ∙ ap (λ l. l ++ b.more) a.whole ∙ append_assoc xs a.more b.more;
}

pub Extends-length : (xs ys : List ℕ) → Extends xs ys → length xs ≤ length ys
Extends-length xs ys e = omega (arith, ap length e.whole, length-append xs e.more)

pub Extends-take : (n : ℕ) (xs : List ℕ) → Extends (take n xs) xs
Extends-take n xs = record { more = drop n xs; whole = sym (take-append-drop n xs) }

-- what was given behind what is held is held too
pub pulled-keeps : {R : Type 0} (given : R → List ℕ) (old new : Feed R) → ((more : List ℕ) × (given new.source ≡ given old.source ++ more) × (held new ≡ held old ++ more)) → Keeps given old new
pulled-keeps given old new p = λ taken behind. p.1 ∙ ap (λ l. l ++ p.0) behind ∙ append_assoc taken (held old) p.0 ∙ ap (λ l. taken ++ l) (sym p.2)

-- bytes at the front of what is held are taken off
pub takes-front : {R : Type 0} (given : R → List ℕ) (old new : Feed R) (n : ℕ) → new.source ≡ old.source → held new ≡ drop n (held old) → Takes given old new (take n (held old))
takes-front given old new n source left = λ taken behind.
    ap given source ∙ behind ∙ ap (λ l. taken ++ l) (sym (take-append-drop n (held old)) ∙ ap (λ l. take n (held old) ++ l) (sym left)) ∙ sym (append_assoc taken (take n (held old)) (held new))

-- where nothing was passed over, and where some bytes more were
pub skips-none : {R : Type 0} (given : R → List ℕ) (feed : Feed R) → Skips given feed feed []
skips-none given feed = record {
  takes = λ taken behind. behind ∙ ap (λ l. l ++ held feed) (sym (append-nil taken));
  begins = Extends-none (held feed);
}

pub skips-kept : {R : Type 0} (given : R → List ℕ) (old mid new : Feed R) (bytes : List ℕ) → Skips given old mid bytes → Keeps given mid new → Extends (held mid) (held new) → Skips given old new bytes
skips-kept given old mid new bytes s keeps e = record {
  takes = λ taken behind. keeps (taken ++ bytes) (s.takes taken behind);
  begins = record {
    more = s.begins.more ++ e.more;
    whole = ap (λ l. bytes ++ l) e.whole ∙ sym (append_assoc bytes (held mid) e.more) ∙ ap (λ l. l ++ e.more) s.begins.whole ∙ append_assoc (held old) s.begins.more e.more;
  };
}

pub skips-more : {R : Type 0} (given : R → List ℕ) (old mid full new : Feed R) (bytes : List ℕ) (n : ℕ) → Skips given old mid bytes → Keeps given mid full → Extends (held mid) (held full)
    → Takes given full new (take n (held full)) → held new ≡ drop n (held full) → Skips given old new (bytes ++ take n (held full))
skips-more given old mid full new bytes n s keeps e takes left =
    let k = skips-kept given old mid full bytes s keeps e in
    record {
      takes = λ taken behind. takes (taken ++ bytes) (k.takes taken behind) ∙ ap (λ l. l ++ held new) (append_assoc taken bytes (take n (held full)));
      begins = record {
        more = k.begins.more;
        whole = append_assoc bytes (take n (held full)) (held new) ∙ ap (λ l. bytes ++ (take n (held full) ++ l)) left ∙ ap (λ l. bytes ++ l) (take-append-drop n (held full)) ∙ k.begins.whole;
      };
    }

pub skips-on : {R : Type 0} (given : R → List ℕ) (old mid new : Feed R) (bytes : List ℕ) → Keeps given old mid → Extends (held old) (held mid) → Skips given mid new bytes → Skips given old new bytes
skips-on given old mid new bytes keeps e s = record {
  takes = λ taken behind. s.takes taken (keeps taken behind);
  begins = Extends-on (held old) (held mid) (bytes ++ held new) e s.begins;
}
