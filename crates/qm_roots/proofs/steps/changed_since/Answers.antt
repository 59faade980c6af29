use Rattle.std.proofs.Common.{◌≡◌, ◌<◌, ◌≤◌, ◌∙◌, ◌++◌, ◌∷◌, ℕ, List, [], ap, filter, nat_le}
use Rattle.std.proofs.lemmas.Bool.{cond-true, cond-false, le-leb, lt-leb}
use Rattle.std.proofs.lemmas.List.{append-nil}
use Rattle.std.proofs.lemmas.List.Elements.{filter-append}

-- one more element
passed : (least : ℕ) (xs : List ℕ) (x : ℕ) → least ≤ x → filter (nat_le least) (xs ++ x ∷ []) ≡ filter (nat_le least) xs ++ x ∷ []
passed least xs x low = filter-append (nat_le least) xs (x ∷ []) ∙ ap (λ l. filter (nat_le least) xs ++ l) (cond-true (nat_le least x) (x ∷ []) [] (le-leb least x low))

failed : (least : ℕ) (xs : List ℕ) (x : ℕ) → x < least → filter (nat_le least) (xs ++ x ∷ []) ≡ filter (nat_le least) xs
failed least xs x less = filter-append (nat_le least) xs (x ∷ []) ∙ ap (λ l. filter (nat_le least) xs ++ l) (cond-false (nat_le least x) (x ∷ []) [] (lt-leb least x less)) ∙ append-nil (filter (nat_le least) xs)
