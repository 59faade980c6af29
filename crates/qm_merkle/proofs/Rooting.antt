-- The fold of a row of peaks, of which the first are inactive.
use Rattle.std.proofs.Common.{◌≡◌, ℕ, zero, suc, ◌+◌, ◌-◌, ◌<◌, List, [], ◌∷◌, ◌++◌, length, map, take, drop, drop-cons, get_or, arith, ap, ap₂, sym, ◌∙◌, refl}
use Rattle.qm_model.specs.Operations.{Bytes}
use Rattle.qm_model.specs.Trees.{fold_left, fold_inactive, fold_right}
use Rattle.std.proofs.lemmas.List.{take_rest, drop_all, drop-map, take-map, length-map, length-drop}
use Rattle.qm_merkle.specs.Mems.{more}

fold_right-cons : (hash : Bytes → Bytes) (q : Bytes) (xs : List Bytes) → 0 < length xs → fold_right hash (q ∷ xs) ≡ hash (q ++ fold_right hash xs)
fold_right-cons hash q [] h = absurd (omega arith)
fold_right-cons hash q (x ∷ xs) h = refl

-- folds from the right: the last digest, and one more before others
pub fold-last : {D : Type 0} (bytes : D → Bytes) (hash : Bytes → Bytes) (xs : List D) (k : ℕ) (d : D) → suc k ≡ length xs → d ≡ get_or xs k d → bytes d ≡ fold_right hash (map bytes (drop k xs))
fold-last bytes hash xs k d last is =
    ap bytes is
    ∙ ap (λ ys. fold_right hash (map bytes (get_or xs k d ∷ ys))) (sym (drop_all (suc k) xs (omega (arith, last))))
    ∙ ap (λ ys. fold_right hash (map bytes ys)) (sym (drop-cons xs k d (omega (arith, last))))

pub fold-next : {D : Type 0} (bytes : D → Bytes) (hash : Bytes → Bytes) (xs : List D) (k : ℕ) (d : D) (x y : Bytes) → k + 1 < length xs → d ≡ get_or xs k d → x ≡ fold_right hash (map bytes (drop (k + 1) xs)) → y ≡ hash (bytes d ++ x) →
    y ≡ fold_right hash (map bytes (drop k xs))
fold-next bytes hash xs k d x y lt is folded made =
    let some : 0 < length (map bytes (drop (k + 1) xs)) = omega (arith, lt, length-map (drop (k + 1) xs) bytes, length-drop (k + 1) xs) in
    let next : k + 1 ≡ suc k = omega arith in
    made ∙ ap₂ (λ a b. hash (a ++ b)) (ap bytes is) folded
    ∙ sym (fold_right-cons hash (bytes (get_or xs k d)) (map bytes (drop (k + 1) xs)) some)
    ∙ ap (λ j. fold_right hash (map bytes (get_or xs k d ∷ drop j xs))) next
    ∙ ap (λ ys. fold_right hash (map bytes ys)) (sym (drop-cons xs k d (omega (arith, lt))))

pub folded_mid : {D : Type 0} (bytes : D → Bytes) (hash : Bytes → Bytes) (peaks : List D) (j : ℕ) (p : D) → 0 < j → j < length peaks → p ≡ get_or peaks 0 p →
    fold_right hash (fold_inactive hash (take j (map bytes peaks)) ++ drop j (map bytes peaks))
    ≡ hash (fold_left hash (bytes p) (map bytes (take (j - 1) (drop 1 peaks))) ++ fold_right hash (map bytes (take (length peaks - j) (drop j peaks))))
folded_mid bytes hash [] j p pos lt is = absurd (omega arith)
folded_mid bytes hash (q ∷ qs) zero p pos lt is = absurd (omega arith)
folded_mid bytes hash (q ∷ qs) (suc i) p pos lt is =
    let within : 0 < length (drop i (map bytes qs)) = omega (arith, length-drop i (map bytes qs), length-map qs bytes) in
    let before : i ≡ suc i - 1 = omega arith in
    fold_right-cons hash (fold_left hash (bytes q) (take i (map bytes qs))) (drop i (map bytes qs)) within
    ∙ ap₂ (λ a b. hash (a ++ fold_right hash b))
    (ap (fold_left hash (bytes q)) (take-map bytes i qs ∙ ap (λ k. map bytes (take k qs)) before) ∙ ap (λ d. fold_left hash (bytes d) (map bytes (take (suc i - 1) qs))) (sym is))
    (drop-map bytes i qs ∙ ap (map bytes) (sym (take_rest (q ∷ qs) (suc i))))

pub folded_all : {D : Type 0} (bytes : D → Bytes) (hash : Bytes → Bytes) (peaks : List D) (j : ℕ) (p : D) → 0 < j → j ≡ length peaks → p ≡ get_or peaks 0 p →
    fold_right hash (fold_inactive hash (take j (map bytes peaks)) ++ drop j (map bytes peaks)) ≡ fold_left hash (bytes p) (map bytes (take (j - 1) (drop 1 peaks)))
folded_all bytes hash [] j p pos all is = absurd (omega arith)
folded_all bytes hash (q ∷ qs) zero p pos all is = absurd (omega arith)
folded_all bytes hash (q ∷ qs) (suc i) p pos all is =
    let before : i ≡ suc i - 1 = omega arith in
    ap (λ rest. fold_right hash (fold_left hash (bytes q) (take i (map bytes qs)) ∷ rest)) (drop_all i (map bytes qs) (omega (arith, length-map qs bytes, all)))
    ∙ ap (fold_left hash (bytes q)) (take-map bytes i qs ∙ ap (λ k. map bytes (take k qs)) before) ∙ ap (λ d. fold_left hash (bytes d) (map bytes (take (suc i - 1) qs))) (sym is)

-- digests that are counted one after another are counted together
pub more_twice : (a m n : ℕ) → more (more a m) n ≡ more a (m + n)
more_twice a m n = omega arith
