-- Words that are lent.
use Rattle.std.proofs.Common.{◌≡◌, ◌+◌, ◌<◌, ℕ, List, ◌∷◌, drop, length, get_or, map, ◌∙◌, ap}
use Rattle.std.specs.Borrow.{Bor}
use Rattle.std.proofs.lemmas.List.{drop_more, get_or-map, length-map}
use Rattle.qm_model.specs.Operations.{Bytes}

-- the i-th of those that are lent, and those after it
pub opened : (refs : List (Bor Bytes)) (i : ℕ) (d : Bor Bytes) → i < length refs → drop i (map (λ (x : Bor Bytes). x.now) refs) ≡ (get_or refs i d).now ∷ drop (i + 1) (map (λ (x : Bor Bytes). x.now) refs)
opened refs i d h =
    let lent : List Bytes = map (λ (x : Bor Bytes). x.now) refs in
    drop_more lent i (get_or refs i d).now (rw (length-map refs (λ (x : Bor Bytes). x.now)) h)
    ∙ ap (λ x. x ∷ drop (i + 1) lent) (get_or-map (λ (x : Bor Bytes). x.now) refs i d (get_or refs i d).now h)
