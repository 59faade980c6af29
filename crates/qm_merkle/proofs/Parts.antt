-- Parts that stand in a row.
use Rattle.std.proofs.Common.{◌≡◌, ◌<◌, ℕ, suc, ◌+◌, List, [], ◌∷◌, ◌++◌, length, get_or, map, take, arith, ap, ◌∙◌}
use Rattle.std.specs.List.{concat}
use Rattle.std.proofs.Math.Seq.{take-suc}
use Rattle.std.proofs.lemmas.List.{append-nil, map-append}
use Rattle.std.proofs.lemmas.List.Folds.{concat-append}

-- the first parts, with one more
pub one-part : {A : Type 0} (bytes : A → List ℕ) (parts : List A) (i : ℕ) (none : A) → i < length parts → concat (map bytes (take (i + 1) parts)) ≡ concat (map bytes (take i parts)) ++ bytes (get_or parts i none)
one-part bytes parts i none within =
    let next : i + 1 ≡ suc i = omega arith in
    let part = get_or parts i none in
    ap (λ n. concat (map bytes (take n parts))) next
    ∙ ap (λ ps. concat (map bytes ps)) (take-suc parts i none within)
    ∙ ap concat (map-append bytes (take i parts) (part ∷ []))
    ∙ concat-append (map bytes (take i parts)) (bytes part ∷ [])
    ∙ ap (λ l. concat (map bytes (take i parts)) ++ l) (append-nil (bytes part))
