-- In whatever order workers mark, what is marked is the union of their lists.
use Rattle.std.proofs.Common.{◌≡◌, ℕ, zero, suc, ◌+◌, List, [], ◌∷◌, refl, ap, arith}
use Rattle.std.specs.Prelude.{All}
use Rattle.std.proofs.lemmas.List.Elements.{All-head, All-tail}
use Rattle.qm_crew.specs.Orders.{Course, next_of, behind, marks, after, begun, MarksTheUnion}
use Rattle.qm_crew.proofs.Times.{times, times-append, times_from, times_to, sum_times, any_from, any_to}

-- a mark takes as much from what is left as it adds to what is marked
one-mark : (p w : ℕ) (ls : List (List ℕ)) → times p (next_of w ls) + sum_times p (behind w ls) ≡ sum_times p ls
one-mark p w [] = refl
one-mark p zero ([] ∷ ls) = omega arith
one-mark p zero ((x ∷ xs) ∷ ls) = omega arith
one-mark p (suc w) (l ∷ ls) = let later = one-mark p w ls in omega (arith, later)

-- so what is marked and what is left stay the same together
kept : (p : ℕ) (events : List ℕ) (c : Course) → times p (after events c).marked + sum_times p (after events c).left ≡ times p c.marked + sum_times p c.left
kept p [] c = refl
kept p (w ∷ ws) c =
    let later = kept p ws (marks w c) in
    let one = one-mark p w c.left in
    let both = times-append p c.marked (next_of w c.left) in
    omega (arith, later, one, both)

-- if nobody has anything left
over : (p : ℕ) (ls : List (List ℕ)) → All (λ l. l ≡ []) ls → sum_times p ls ≡ 0
over p [] all = refl
over p (l ∷ ls) all =
    let first = ap (times p) (All-head (λ (m : List ℕ). m ≡ []) l ls all) in
    let later = over p ls (All-tail (λ (m : List ℕ). m ≡ []) l ls all) in
    omega (arith, first, later)

pub marks-the-union : MarksTheUnion
marks-the-union lists events ends p =
    let all = kept p events (begun lists) in
    let none = over p (after events (begun lists)).left ends in (
      (λ has. let t = times_from p (after events (begun lists)).marked has in any_from p lists (omega (arith, all, none, t))),
      (λ any. let t = any_to p lists any in times_to p (after events (begun lists)).marked (omega (arith, all, none, t))),
    )
