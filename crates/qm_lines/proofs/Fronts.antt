-- The front of the bytes that are left.
use Rattle.std.proofs.Common.{◌≡◌, ◌∙◌, ◌+◌, ◌-◌, ◌<◌, ◌≤◌, ℕ, min, List, [], ◌++◌, take, drop, length, sym, ap, arith, length-take, length-drop}
use Rattle.std.proofs.lemmas.List.{drop-drop, drop_all, take_all, take-append-drop}

-- the piece `&text[at..]`
pub rest : (at : ℕ) (text : List ℕ) → take (length text - at) (drop at text) ≡ drop at text
rest at text = take_all (length text - at) (drop at text) (omega (arith, length-drop at text))

-- as many of those from `at` on as there are and there is room for
module _ (bytes lent : List ℕ) (at count : ℕ) (out : List ℕ) (same : lent ≡ bytes)
    (most : count ≡ min (length (take (length lent - at) (drop at lent))) (length out)) where
  piece : take (length lent - at) (drop at lent) ≡ drop at bytes
  piece = rest at lent ∙ ap (drop at) same

  pub front_full : count ≡ min (length (drop at bytes)) (length out)
  front_full = most ∙ ap (λ (l : List ℕ). min (length l) (length out)) piece

  pub front_within : (count ≤ length out) × (count ≡ length (take count out))
  front_within = (omega (arith, front_full), omega (arith, front_full, length-take count out))

  pub front_taken : take count out ≡ take count (take (length lent - at) (drop at lent)) → drop at bytes ≡ take count out ++ drop (at + count) bytes
  front_taken copied =
      sym (take-append-drop count (drop at bytes)) ∙ ap (λ (l : List ℕ). l ++ drop count (drop at bytes)) (sym (copied ∙ ap (take count) piece))
      ∙ ap (λ (l : List ℕ). take count out ++ l) (drop-drop count at bytes)

  pub front_end : count ≡ 0 → 0 < length out → drop (at + count) bytes ≡ []
  front_end none room = drop_all (at + count) bytes (omega (arith, front_full, none, room, length-drop at bytes))

-- n bytes of those from `at` on end within the text
pub reach : (at n : ℕ) (text : List ℕ) → at < length text → n ≤ length (drop at text) → at + n ≤ length text
reach at n text more few = omega (arith, more, few, length-drop at text)
