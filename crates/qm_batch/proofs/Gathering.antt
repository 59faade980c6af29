-- Pairs that are put in their place.
use Rattle.std.proofs.Common.{◌≡◌, ◌∙◌, refl, sym, ap, ap₂, ℕ, suc, ◌+◌, ◌<◌, ◌≤◌, Bool, true, false, List, [], ◌∷◌, ◌++◌, map, length, get_or, take, drop, arith}
use Rattle.std.specs.Prelude.{if◌then◌else◌, insert}
use Rattle.std.proofs.lemmas.List.{at_drop_more, at_drop_all, map-append, take-map, drop-map}
use Rattle.qm_model.specs.Operations.{Bytes}
use Rattle.qm_model.specs.Keys.{key_lt}
use Rattle.qm_base.specs.Views.{pair_view}
use Rattle.qm_batch.specs.Gathered.{Pair, place_among, put_pair}

-- what is put where a key goes
pub put-there : (ps : List Pair) (p : Pair) → insert ps (place_among p.0 ps) p ≡ put_pair ps p
put-there [] p = refl
put-there (q ∷ ps) p = by (key_lt p.0 q.0) (put-there ps p)
  where
    by : (t : Bool) → insert ps (place_among p.0 ps) p ≡ put_pair ps p → insert (q ∷ ps) (if t then 0 else suc (place_among p.0 ps)) p ≡ (if t then p ∷ q ∷ ps else q ∷ put_pair ps p)
    by true later = refl
    by false later = ap (λ xs. q ∷ xs) later

pub place-within : (k : Bytes) (ps : List Pair) → place_among k ps ≤ length ps
place-within k [] = omega arith
place-within k (p ∷ ps) = by (key_lt k p.0) (place-within k ps)
  where
    by : (t : Bool) → place_among k ps ≤ length ps → (if t then 0 else suc (place_among k ps)) ≤ suc (length ps)
    by true later = omega arith
    by false later = omega (arith, later)

module _ {X Y : Type 0} (f : X → Y) where
  pub map-insert : (xs : List X) (i : ℕ) (x : X) → map f (insert xs i x) ≡ insert (map f xs) i (f x)
  map-insert xs i x = map-append f (take i xs) (x ∷ drop i xs) ∙ ap₂ (λ a b. a ++ f x ∷ b) (sym (take-map f i xs)) (sym (drop-map f i xs))

-- where a key goes, as a loop finds it
module _ {K V : Type 0} (key : K → Bytes) (value : V → Bytes) (k : Bytes) (xs : List (K × V)) (i : ℕ) where
  abbrev from : List (K × V) → ℕ
  from ys = place_among k (map (pair_view key value) ys)

  pub place-here : (x : K × V) → i < length xs → x ≡ get_or xs i x → key_lt k (key x.0) ≡ true → from (drop i xs) ≡ 0
  place-here x within is above =
      at_drop_more from xs i x within
      ∙ ap (λ (y : K × V). if key_lt k (key y.0) then 0 else suc (from (drop (i + 1) xs))) (sym is)
      ∙ ap (λ t. if t then 0 else suc (from (drop (i + 1) xs))) above

  pub place-on : (x : K × V) → i < length xs → x ≡ get_or xs i x → key_lt k (key x.0) ≡ false → from (drop i xs) ≡ suc (from (drop (i + 1) xs))
  place-on x within is above =
      at_drop_more from xs i x within
      ∙ ap (λ (y : K × V). if key_lt k (key y.0) then 0 else suc (from (drop (i + 1) xs))) (sym is)
      ∙ ap (λ t. if t then 0 else suc (from (drop (i + 1) xs))) above

  pub place-end : length xs ≤ i → from (drop i xs) ≡ 0
  place-end past = at_drop_all from xs i past
