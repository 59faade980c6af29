-- What readers find, and what is behind what was read.
use Rattle.std.proofs.Common.{◌≡◌, ℕ, suc, ◌+◌, ◌-◌, ◌<◌, refl, ap, sym, ◌∙◌, arith, List, [], ◌∷◌, ◌++◌, true, Option, Some, None, option_map, append_assoc, append-nil, map}
use Rattle.std.specs.Option.{option_and_then}
use Rattle.std.proofs.lemmas.List.{map-append}
use Rattle.qm_model.specs.Operations.{Bytes}
use Rattle.qm_model.specs.Forms.{tested, first_bytes}
use Rattle.qm_client.specs.ProofForms.{read_each}

-- a test that all bytes pass is none
pub untested : (o : Option (Bytes × Bytes)) → option_and_then (tested (λ bs. true)) o ≡ o
untested None = refl
untested (Some p) = refl

-- what was read before, and what is read then
abbrev pub behind : List Bytes → Option (List Bytes × Bytes) → Option (List Bytes × Bytes)
behind front found = option_map (λ p. (front ++ p.0, p.1)) found

behind-one : (front : List Bytes) (d : Bytes) (found : Option (List Bytes × Bytes)) → behind (front ++ d ∷ []) found ≡ behind front (option_map (λ p. (d ∷ p.0, p.1)) found)
behind-one front d None = refl
behind-one front d (Some p) = ap (λ ds. Some (ds, p.1)) (append_assoc front (d ∷ []) p.0)

pub behind-none : (found : Option (List Bytes × Bytes)) → behind [] found ≡ found
behind-none None = refl
behind-none (Some p) = refl

module _ {D : Type 0} (bytes : D → Bytes) (size : ℕ) where
  -- one more of those that are left
  pub behind-next : (count counter : ℕ) (front : List D) (rest : Bytes) (d : D) (after : Bytes) (all : Option (List Bytes × Bytes)) → counter < count
      → Some (bytes d, after) ≡ first_bytes size rest
      → behind (map bytes front) (read_each size (count - counter) rest) ≡ all
      → behind (map bytes (front ++ d ∷ [])) (read_each size (count - (counter + 1)) after) ≡ all
  behind-next count counter front rest d after all less read same =
      let n = count - (counter + 1) in
      let more : count - counter ≡ suc n = omega (arith, less) in
      ap (λ ds. behind ds (read_each size n after)) (map-append bytes front (d ∷ []))
      ∙ behind-one (map bytes front) (bytes d) (read_each size n after)
      ∙ ap (λ o. behind (map bytes front) (option_and_then (λ (d : Bytes × Bytes). option_map (λ (ds : List Bytes × Bytes). (d.0 ∷ ds.0, ds.1)) (read_each size n d.1)) o)) read
      ∙ ap (λ m. behind (map bytes front) (read_each size m rest)) (sym more)
      ∙ same

  -- one lacks
  pub behind-lack : (count counter : ℕ) (front : List Bytes) (rest : Bytes) (all : Option (List Bytes × Bytes)) → counter < count
      → None ≡ first_bytes size rest
      → behind front (read_each size (count - counter) rest) ≡ all
      → None ≡ all
  behind-lack count counter front rest all less read same =
      let n = count - (counter + 1) in
      let more : count - counter ≡ suc n = omega (arith, less) in
      ap (λ o. behind front (option_and_then (λ (d : Bytes × Bytes). option_map (λ (ds : List Bytes × Bytes). (d.0 ∷ ds.0, ds.1)) (read_each size n d.1)) o)) read
      ∙ ap (λ m. behind front (read_each size m rest)) (sym more)
      ∙ same

  -- none is left
  pub behind-all : (left : ℕ) (front : List Bytes) (rest : Bytes) (all : Option (List Bytes × Bytes)) → left ≡ 0
      → behind front (read_each size left rest) ≡ all
      → Some (front, rest) ≡ all
  behind-all left front rest all none same =
      ap (λ ds. Some (ds, rest)) (sym (append-nil front)) ∙ ap (λ m. behind front (read_each size m rest)) (sym none) ∙ same
