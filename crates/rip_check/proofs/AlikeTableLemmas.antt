-- Plans that are alike but for which interfaces poison take the same of a log, and refuse the same.
use Rattle.std.proofs.Common.{◌≡◌, ◌⊎◌, ℕ, ◌++◌, ◌∷◌, inl, inr, List, Option, None, Some, map, slice_get, sym, ◌∙◌, ap}
use Rattle.std.proofs.lemmas.List.{length-map}
use Rattle.rip_wire.specs.Prefix.{Block}
use Rattle.rip_wire.specs.declared.entry.Entry.{Entry}
use Rattle.rip_plan.specs.Network.{Network}
use Rattle.rip_plan.specs.Relations.{HasAddress, IsAt}
use Rattle.rip_log.specs.Lines.{Capture}
use Rattle.rip_log.specs.Logs.{Log, Numbered}
use Rattle.rip_table.specs.LogJoin.{AreGood, AreInOrder, AreJoined, HasBadEntry, HasResponse, HasUpdate, IsBadEntry, IsElsewhere, IsFirstRefused, IsJoin, IsJoined, IsNamed, IsOutcome, IsRefused, IsResponse, IsSaid, IsTold, KnowsGateway}
use Rattle.rip_table.specs.State.{State, new_state}
use Rattle.rip_table.specs.declared.error.CollectCause.{CollectCause}
use Rattle.rip_table.specs.declared.error.CollectCause.TheVariants.{Log as OfLog, Table, UnknownSender}
use Rattle.rip_table.specs.declared.error.CollectError.{CollectError}
use Rattle.rip_table.specs.declared.error.TableError.{TableError}
use Rattle.rip_table.specs.declared.error.TableError.TheVariants.{Changed, NextHop, TooManyPrefixes, Memory}
use Rattle.rip_check.specs.Told.{AreAlike, poisoning}
use Rattle.rip_check.proofs.AlikeLemmas.{interface_to, other, own_to, same}

-- ---- who is where

address_to : (n m : Network) → AreAlike n m → (i l a : ℕ) → HasAddress n i l a → HasAddress m i l a
address_to n m alike i l a (addresses, has, among) =
    let (poison, at) = other n m alike i has.interface has.listed in (
      addresses,
      record {
        interface = record has.interface { poison = poison };
        listed = at;
        link = has.link;
        also = has.also;
        further = sym (ap (λ (k : Network). slice_get k.also i) alike) ∙ has.further;
        all = has.all;
      },
      among,
    )

at_to : (n m : Network) → AreAlike n m → (name : List ℕ) (a i : ℕ) → IsAt n name a i → IsAt m name a i
at_to n m alike name a i (l, named, has) = (l, sym (ap (λ (k : Network). slice_get k.links l) alike) ∙ named, address_to n m alike i l a has)

gateway_to : (n m : Network) → AreAlike n m → (i : ℕ) (p : Block) (a : ℕ) → KnowsGateway n i p a → KnowsGateway m i p a
gateway_to n m alike i p a (r, l, c, k, its, named, (j, is)) =
    (r, l, c, k, interface_to n m alike i r l c its, sym (ap (λ (x : Network). slice_get x.prefixes k) alike) ∙ named, (j, own_to n m (same n m alike) j k r is))

-- ---- what is told

response_to : (n m : Network) → AreAlike n m → (c : Capture) (i : ℕ) (entries : List Entry) → IsResponse n c i entries → IsResponse m c i entries
response_to n m alike c i entries is = record { from = at_to n m alike c.link c.sender i is.from; says = is.says }

has_response_to : (n m : Network) → AreAlike n m → (log : List Numbered) (k i : ℕ) (entries : List Entry) → HasResponse n log k i entries → HasResponse m log k i entries
has_response_to n m alike log k i entries (r, at, is) = (r, at, response_to n m alike r.capture i entries is)

said_to : (n m : Network) → AreAlike n m → (log : List Numbered) (k j i : ℕ) (p : Block) (x : ℕ) → IsSaid n log k j i p x → IsSaid m log k j i p x
said_to n m alike log k j i p x (entries, has, entry) = (entries, has_response_to n m alike log k i entries has, entry)

told_to : (n m : Network) → AreAlike n m → (log : List Numbered) (i : ℕ) (p : Block) (x : ℕ) → IsTold n log i p x → IsTold m log i p x
told_to n m alike log i p x (k, j, is) = (k, j, said_to n m alike log k j i p x is)

update_to : (n m : Network) → AreAlike n m → (log : List Numbered) (i : ℕ) → HasUpdate n log i → HasUpdate m log i
update_to n m alike log i (k, entries, has) = (k, entries, has_response_to n m alike log k i entries has)

named_to : (n m : Network) → AreAlike n m → (log : List Numbered) (k j : ℕ) (p : Block) → IsNamed n log k j p → IsNamed m log k j p
named_to n m alike log k j p (i, x, is) = (i, x, said_to n m alike log k j i p x is)

order_to : (n m : Network) → AreAlike n m → (log : List Numbered) (prefixes : List Block) → AreInOrder n log prefixes → AreInOrder m log prefixes
order_to n m alike log prefixes order a b p q lt at bt l k is =
    let (j, i, named, before) = order a b p q lt at bt l k (named_to m n (sym alike) log l k q is) in
    (j, i, named_to n m alike log j i p named, before)

-- ---- what a log makes of a table

-- either of two, where the second is carried over
or_to : {A B C : Type 0} → (B → C) → A ⊎ B → A ⊎ C
or_to f (inl a) = inl a
or_to f (inr b) = inr (f b)

join_to : (n m : Network) → AreAlike n m → (old : State) (log : List Numbered) (new : State) → IsJoin n old log new → IsJoin m old log new
join_to n m alike old log new join = record {
  interfaces = join.interfaces;
  shown = λ i p x. (
    λ e. or_to (told_to n m alike log i p x) ((join.shown i p x).0 e),
    λ is. (join.shown i p x).1 (or_to (told_to m n (sym alike) log i p x) is),
  );
  heard = λ i. (
    λ e. or_to (update_to n m alike log i) ((join.heard i).0 e),
    λ is. (join.heard i).1 (or_to (update_to m n (sym alike) log i) is),
  );
  listed = λ p. (
    λ is. or_to (λ t. (t.0, t.1, told_to n m alike log t.0 p t.1 t.2)) ((join.listed p).0 is),
    λ is. (join.listed p).1 (or_to (λ t. (t.0, t.1, told_to m n (sym alike) log t.0 p t.1 t.2)) is),
  );
  others = join.others;
  prefixes = join.prefixes;
  order = order_to n m alike log join.others join.order;
}

-- ---- what refuses it

elsewhere_to : (n m : Network) → AreAlike n m → (i : ℕ) (e : Entry) → IsElsewhere n i e → IsElsewhere m i e
elsewhere_to n m alike i e is = record {
  reachable = is.reachable;
  unspecified = is.unspecified;
  other = λ l has. is.other l (address_to m n (sym alike) i l e.next_hop has);
  no_gateway = λ knows. is.no_gateway (gateway_to m n (sym alike) i e.prefix e.next_hop knows);
}

bad_to : (n m : Network) → AreAlike n m → (i : ℕ) (s : State) (e : Entry) (error : TableError) → IsBadEntry n i s e error → IsBadEntry m i s e error
bad_to n m alike i s e (Changed p old new) is = is
bad_to n m alike i s e (NextHop p) is = record { prefix = is.prefix; keeps = is.keeps; elsewhere = elsewhere_to n m alike i e is.elsewhere }
bad_to n m alike i s e TooManyPrefixes is =
    record { keeps = is.keeps; here = λ far. is.here (elsewhere_to m n (sym alike) i e far); new = is.new; full = is.full }
bad_to n m alike i s e Memory is = is

good_to : (n m : Network) → AreAlike n m → (i : ℕ) (old : State) (entries : List Entry) → AreGood n i old entries → AreGood m i old entries
good_to n m alike i old entries good front rest e s error split taken state bad =
    good front rest e s error split taken state (bad_to m n (sym alike) i s e error bad)

joined_entries_to : (n m : Network) → AreAlike n m → (i : ℕ) (old : State) (entries : List Entry) (new : State) → AreJoined n i old entries new → AreJoined m i old entries new
joined_entries_to n m alike i old entries new are = record { taken = are.taken; state = are.state; good = good_to n m alike i old entries are.good }

bad_entry_to : (n m : Network) → AreAlike n m → (s : State) (c : Capture) (error : TableError) → HasBadEntry n s c error → HasBadEntry m s c error
bad_entry_to n m alike s c error has = record {
  interface = has.interface;
  front = has.front;
  entry = has.entry;
  rest = has.rest;
  response = response_to n m alike c has.interface (has.front ++ has.entry ∷ has.rest) has.response;
  state = has.state;
  joined = joined_entries_to n m alike has.interface _ has.front has.state has.joined;
  bad = bad_to n m alike has.interface has.state has.entry error has.bad;
}

refused_to : (n m : Network) → AreAlike n m → (s : State) (c : Capture) (cause : CollectCause) → IsRefused n s c cause → IsRefused m s c cause
refused_to n m alike s c UnknownSender is = record { entries = is.entries; says = is.says; nobody = λ i there. is.nobody i (at_to m n (sym alike) c.link c.sender i there) }
refused_to n m alike s c (Table error) is = bad_entry_to n m alike s c error is
refused_to n m alike s c (OfLog error) is = is

joined_to : (n m : Network) → AreAlike n m → (old : State) (log : List Numbered) (new : State) → IsJoined n old log new → IsJoined m old log new
joined_to n m alike old log new are = record {
  join = join_to n m alike old log new are.join;
  state = are.state;
  accepted = λ before after r s cause split join state refused.
      are.accepted before after r s cause split (join_to m n (sym alike) old before s join) state (refused_to m n (sym alike) s r.capture cause refused);
}

first_refused_to : (n m : Network) → AreAlike n m → (old : State) (log : List Numbered) (s : State) (line : ℕ) (cause : CollectCause) → IsFirstRefused n old log s line cause → IsFirstRefused m old log s line cause
first_refused_to n m alike old log s line cause is = record {
  before = is.before;
  capture = is.capture;
  after = is.after;
  split = is.split;
  joined = joined_to n m alike old is.before s is.joined;
  refused = refused_to n m alike s is.capture cause is.refused;
}

pub outcome_to : (n m : Network) → AreAlike n m → (old : State) (log : Log) (s : State) (refusal : Option CollectError) → IsOutcome n old log s refusal → IsOutcome m old log s refusal
outcome_to n m alike old log s None is = (is.0, joined_to n m alike old log.records s is.1)
outcome_to n m alike old log s (Some error) (inl is) = inl (first_refused_to n m alike old log.records s error.line error.cause is)
outcome_to n m alike old log s (Some error) (inr is) =
    inr (record { fault = is.fault; has = is.has; is = is.is; joined = joined_to n m alike old log.records s is.joined })

pub new_alike : (n m : Network) → AreAlike n m → new_state n ≡ new_state m
new_alike n m alike = sym (as_poisoning n) ∙ ap new_state alike ∙ as_poisoning m
  where
    as_poisoning : (k : Network) → new_state (record k { interfaces = map poisoning k.interfaces }) ≡ new_state k
    as_poisoning k = ap (λ (count : ℕ). record (new_state k) { interfaces = count }) (length-map k.interfaces poisoning)
