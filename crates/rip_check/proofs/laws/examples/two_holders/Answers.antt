use Rattle.std.proofs.Common.{◌≡◌, ℕ, zero, suc, ◌+◌, ◌∙◌, [], ◌∷◌, Some, min, slice_get, unwrap_or, refl, ap, arith}
use Rattle.std.proofs.lemmas.Option.{none-some, same_Some}
use Rattle.rip_plan.specs.declared.parts.Interface.{Interface}
use Rattle.rip_plan.specs.Relations.{IsInterface}
use Rattle.rip_check.specs.Examples.{interface, octets, two_holders, two_holders_told}
use Rattle.rip_check.specs.Metrics.{metric_at}
use Rattle.rip_check.specs.OwnVerdicts.{IsLackingAt}
use Rattle.rip_check.proofs.laws.examples.two_holders.Goals as goal

-- the addresses
abbrev here : ℕ
here = octets 10 6 0 1

abbrev there : ℕ
there = octets 10 5 0 1

-- the interfaces
f_m : IsInterface two_holders 0 0 0 1
f_m = record { interface = interface 0 0 here 1; listed = refl; router = refl; link = refl; cost = refl }

f_n : IsInterface two_holders 1 0 1 1
f_n = record { interface = interface 0 1 here 1; listed = refl; router = refl; link = refl; cost = refl }

g1_m : IsInterface two_holders 2 1 0 1
g1_m = record { interface = interface 1 0 there 1; listed = refl; router = refl; link = refl; cost = refl }

g2_n : IsInterface two_holders 3 2 1 1
g2_n = record { interface = interface 2 1 there 1; listed = refl; router = refl; link = refl; cost = refl }

pub returns-clause-offered : goal.returns-clause-offered
returns-clause-offered c = record {
  neighbour = record { other = λ e. omega (arith, e); here = (1, (1, f_n)); there = (1, (3, g2_n)) };
  cost = 1;
  here = (1, f_n);
  interface = 3;
  its_cost = 1;
  there = g2_n;
  value = refl;
}

-- g1 has one interface
other : (i r : ℕ) (x : Interface) → Some (interface r i there 1) ≡ Some x → x.router ≡ 1 → r ≡ 1
other i r x at e = ap (λ (y : Interface). y.router) (same_Some (interface r i there 1) x at) ∙ e

one : (i : ℕ) (x : Interface) → slice_get two_holders.interfaces i ≡ Some x → x.router ≡ 1 → i ≡ 2
one zero x at e = let r : 0 ≡ 1 = ap (λ (y : Interface). y.router) (same_Some (interface 0 0 here 1) x at) ∙ e in absurd (omega (arith, r))
one (suc zero) x at e = let r : 0 ≡ 1 = ap (λ (y : Interface). y.router) (same_Some (interface 0 1 here 1) x at) ∙ e in absurd (omega (arith, r))
one (suc (suc zero)) x at e = refl
one (suc (suc (suc zero))) x at e = let r : 2 ≡ 1 = other 1 2 x at e in absurd (omega (arith, r))
one (suc (suc (suc (suc i)))) x at e = absurd (none-some x at)

-- and offers nothing there
nothing_there : (c : ℕ) → 2 ≡ min 16 (c + unwrap_or (metric_at two_holders_told 2 0) 16) → ⊥
nothing_there c e = let told : 2 ≡ min 16 (c + 16) = e in omega (arith, told)

lacking : IsLackingAt two_holders two_holders_told 0 0 2 there 0 0 1
lacking = record {
  here = (1, f_m);
  holder = record {
    neighbour = record { other = λ e. omega (arith, e); here = (1, (0, f_m)); there = (1, (2, g1_m)) };
    interface = 2;
    cost = 1;
    there = g1_m;
    has = (there ∷ [], record { interface = interface 1 0 there 1; listed = refl; link = refl; also = []; further = refl; all = refl }, (0, omega arith, refl));
  };
  lacks = λ (l, holder, o).
      let same : o.interface ≡ 2 = one o.interface o.there.interface o.there.listed o.there.router in
      nothing_there o.cost (rw same at o.value);
}

pub returns-clause-lacks : goal.returns-clause-lacks
returns-clause-lacks c = lacking

pub returns-clause-refused : goal.returns-clause-refused
returns-clause-refused c = λ given. lacking.lacks (given.holders 0 1 lacking.holder)
