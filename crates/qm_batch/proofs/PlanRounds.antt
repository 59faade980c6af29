-- Rounds of candidates on a walk.
use Rattle.std.proofs.Common.{◌≡◌, ℕ, ◌+◌, ◌≤◌, ◌<◌, max, Bool, true, false, List, [], ◌∷◌, ◌++◌, length, drop, get_or, ap, sym, ◌∙◌, subst, arith, append_assoc, ⊎_elim}
use Rattle.std.specs.Prelude.{MatchBool}
use Rattle.std.proofs.lemmas.Bool.{cases_lt}
use Rattle.std.proofs.lemmas.List.{drop_more}
use Rattle.qm_bits.specs.Candidates.{candidates, IsFilled}
use Rattle.qm_model.specs.Bits.{bits}
use Rattle.qm_model.specs.Operations.{Operation}
use Rattle.qm_step.specs.Going.{AreDeadBetween, IsSpaced}
use Rattle.qm_batch.specs.PlanPaths.{Path, IsPath}
use Rattle.qm_step.specs.Touches.{operations_of}
use Rattle.qm_batch.proofs.PlanFinds.{begins}
use Rattle.qm_batch.proofs.PlanGoing.{round-dead, round-none, round-spaced, spaced-above, spaced-below}

-- the candidate that a loop comes to, before the others
pub in-round : (xs : List ℕ) (i x : ℕ) → i < length xs → x ≡ get_or xs i x → drop i xs ≡ x ∷ drop (i + 1) xs
in-round xs i x within is = drop_more xs i x within ∙ ap (λ y. y ∷ drop (i + 1) xs) (sym is)

-- a fact that was chosen
pub chosen-true : (b : Bool) (P Q : Type 0) → b ≡ true → MatchBool b P Q → P
chosen-true true P Q is h = h
chosen-true false P Q is h = cc

pub chosen-false : (b : Bool) (P Q : Type 0) → b ≡ false → MatchBool b P Q → Q
chosen-false true P Q is h = cc
chosen-false false P Q is h = h

module _ (bs : List Bool) (from tip limit : ℕ) (old new round : List ℕ) (next : ℕ) (filled : IsFilled bs from tip limit old new next) (none : old ≡ []) (is : round ≡ new) where
  pub filled-round : candidates bs from next ≡ round
  filled-round = sym (is ∙ filled.found ∙ ap (λ xs. xs ++ candidates bs from next) none)

  pub filled-next : (f : ℕ) → f ≤ from → IsSpaced f round next
  filled-next f low = spaced-below f from next round low (round-spaced bs from next round filled.from filled-round)

  module _ (end : ℕ) (top : tip ≡ end) (high : from < end) where
    pub filled-within : next ≤ end
    filled-within = let to = filled.to in omega (arith, to, top, high)

    pub filled-spaced : (f : ℕ) → f ≤ from → IsSpaced f round end
    filled-spaced f low = spaced-above f next end round filled-within (filled-next f low)

    pub filled-goes : 0 < limit → (length new < limit → next ≡ max from tip) → from < next
    filled-goes some whole = ⊎_elim (λ h. h) stays (cases_lt from next)
      where
        stays : next ≤ from → from < next
        stays h =
            let low = filled.from in
            let same : next ≡ from = omega (arith, h, low) in
            let empty : round ≡ [] = round-none bs from round (ap (candidates bs from) (sym same) ∙ filled-round) in
            let short : length new ≡ 0 = ap length (sym is ∙ empty) in
            let last = whole (omega (arith, short, some)) in
            omega (arith, last, top, high)

-- between the candidates of a base list and the operations after it nothing is live
pub path-dead : (path : Path) (lent base list : List Operation) (from to : ℕ) (round : List ℕ) → IsPath path lent base list → candidates (bits lent) from to ≡ round → AreDeadBetween list from round to
path-dead path lent base list from to round on is =
    let leads = (on.known).leads in
    let rest = begins path.base.layers base leads.older lent leads.steps leads.among in
    let made = operations_of path.made in
    subst (λ ops. AreDeadBetween ops from round to) (sym (append_assoc lent rest.0 made) ∙ ap (λ xs. xs ++ made) (sym rest.1) ∙ on.makes) (round-dead lent (rest.0 ++ made) from to round is)
