-- How often lists have a place.
use Rattle.std.proofs.Common.{◌≡◌, ◌≢◌, ℕ, zero, suc, ◌+◌, ◌<◌, List, [], ◌∷◌, ◌++◌, true, false, eqb, cond, refl, sym, subst, arith, eq-eqb, ne_eqb}
use Rattle.std.specs.Prelude.{Contains, Any}
use mathlib.Core.Logic.{dite}
use native.Mathlib.Decide.{ℕ_discrete}

-- 1 if they are equal, else 0
abbrev pub tick : ℕ → ℕ → ℕ
tick x p = cond (eqb x p) 1 0

-- how often the place stands in the list
abbrev pub times : ℕ → List ℕ → ℕ
times p [] = 0
times p (x ∷ xs) = tick x p + times p xs

pub times-append : (p : ℕ) (xs ys : List ℕ) → times p (xs ++ ys) ≡ times p xs + times p ys
times-append p [] ys = omega arith
times-append p (x ∷ xs) ys = let r = times-append p xs ys in omega arith

pub hit : (x p : ℕ) → x ≡ p → tick x p ≡ 1
hit x p e = let is : eqb x p ≡ true = eq-eqb x p e in grind (arith, is)

pub miss : (x p : ℕ) → x ≢ p → tick x p ≡ 0
miss x p n = let is : eqb x p ≡ false = ne_eqb x p n in grind (arith, is)

pub times_from : (p : ℕ) (xs : List ℕ) → Contains xs p → 0 < times p xs
times_from p [] (k, below, is) = absurd (omega arith)
times_from p (x ∷ xs) (zero, below, is) = let h = hit x p is in omega arith
times_from p (x ∷ xs) (suc k, below, is) = let r = times_from p xs (k, omega arith, is) in omega arith

pub times_to : (p : ℕ) (xs : List ℕ) → 0 < times p xs → Contains xs p
times_to p [] some_there = absurd (omega arith)
times_to p (x ∷ xs) some_there = dite (ℕ_discrete x p)
    (λ e. (0, omega arith, e))
    (λ n. let m = miss x p n in let r = times_to p xs (omega arith) in (suc r.0, omega arith, r.2))

-- how often the place stands in all lists
abbrev pub sum_times : ℕ → List (List ℕ) → ℕ
sum_times p [] = 0
sum_times p (l ∷ ls) = times p l + sum_times p ls

pub sum_times-append : (p : ℕ) (ls ms : List (List ℕ)) → sum_times p (ls ++ ms) ≡ sum_times p ls + sum_times p ms
sum_times-append p [] ms = omega arith
sum_times-append p (l ∷ ls) ms = let r = sum_times-append p ls ms in omega arith

pub any_from : (p : ℕ) (ls : List (List ℕ)) → 0 < sum_times p ls → Any (λ l. Contains l p) ls
any_from p [] some_there = absurd (omega arith)
any_from p (l ∷ ls) some_there = dite (ℕ_discrete (times p l) 0)
    (λ e. let r = any_from p ls (omega arith) in (suc r.0, r.1, omega arith, r.3, r.4))
    (λ n. (0, l, omega arith, refl, times_to p l (omega arith)))

pub any_to : (p : ℕ) (ls : List (List ℕ)) → Any (λ l. Contains l p) ls → 0 < sum_times p ls
any_to p [] (k, x, below, at, has) = absurd (omega arith)
any_to p (l ∷ ls) (zero, x, below, at, has) = let t = times_from p l (subst (λ (y : List ℕ). Contains y p) (sym at) has) in omega arith
any_to p (l ∷ ls) (suc k, x, below, at, has) = let r = any_to p ls (k, x, omega arith, at, has) in omega arith
