-- Roots of what a view tells.
use Rattle.std.proofs.Common.{◌≡◌, ◌∙◌, ◌+◌, ◌*◌, ◌%◌, ◌^◌, ℕ, suc, Bool, false, List, [], ◌∷◌, length, map, Option, Some, None, IfSome, All, arith, refl, ap, ap₂, sym, subst}
use Rattle.std.specs.Prelude.{option_map, replicate}
use Rattle.std.proofs.lemmas.List.{length-append, length-replicate}
use Rattle.qm_model.specs.Operations.{Bytes, Operation}
use Rattle.qm_model.specs.Forms.{Form}
use Rattle.qm_model.specs.Trees.{Node, Shape, leaves_from}
use Rattle.qm_model.specs.Bits.{bits, chunk, partial_chunk}
use Rattle.qm_model.specs.Grafted.{chunk_size, chunk_of, pending_chunk, pending_digest, partial_digest, partial_of}
use Rattle.qm_model.proofs.BitLemmas.{length-bits}
use Rattle.qm_bits.specs.Bitmaps.{Bitmap, start, bit_count, all_bits}

-- what is held of nodes, if it is told what that is
pub told-values : {D : Type 0} (bytes : D → Bytes) (position : Node → ℕ) (held : ℕ → Option D) (value : Node → Bytes) (xs : List Node) (ds : List D) →
    map Some ds ≡ map held (map position xs) → All (λ x. IfSome (held (position x)) (λ d. bytes d ≡ value x)) xs → map bytes ds ≡ map value xs
told-values bytes position held value [] [] is each = cc
told-values bytes position held value [] (d ∷ ds) is each = cc
told-values bytes position held value (x ∷ xs) [] is each = cc
told-values {D} bytes position held value (x ∷ xs) (d ∷ ds) is each =
    let parts : (Some d ≡ held (position x)) × (map Some ds ≡ map held (map position xs)) = (cc, cc) in
    let first : bytes d ≡ value x = subst (λ (o : Option D). IfSome o (λ d. bytes d ≡ value x)) (sym parts.0) (each 0 x (omega arith)) in
    ap₂ (λ v vs. v ∷ vs) first (told-values bytes position held value xs ds parts.1 (λ i y low. each (suc i) y (omega (arith, low))))

pub length-leaves : (hash : Bytes → Bytes) (shape : Shape) (form : Form) (i : ℕ) (ops : List Operation) → length (leaves_from hash shape form i ops) ≡ length ops
length-leaves hash shape form i [] = refl
length-leaves hash shape form i (op ∷ ops) = ap suc (length-leaves hash shape form (suc i) ops)

length-all : (size : ℕ) (map : Bitmap) → length (all_bits size map) ≡ bit_count size map
length-all size map = length-append (replicate (start size map) false) map.kept ∙ ap (λ n. n + length map.kept) (length-replicate {A = Bool} (start size map) false)

-- there is a bit for each operation
pub bits-count : (size : ℕ) (map : Bitmap) (ops : List Operation) → all_bits size map ≡ bits ops → bit_count size map ≡ length ops
bits-count size map ops is = sym (length-all size map) ∙ ap length is ∙ length-bits ops

-- chunks by their length, and by their height
sized : (g size : ℕ) → 2 ^ g ≡ 8 * size → chunk_size g ≡ size
sized g size span = omega (arith, span)

twice : {A B C : Type 0} (f : B → C) (h : A → B) (o : Option A) → option_map (λ a. f (h a)) o ≡ option_map f (option_map h o)
twice f h None = refl
twice f h (Some a) = refl

module _ (hash : Bytes → Bytes) (shape : Shape) (g size n : ℕ) (all : List Bool) (ops : List Operation) (span : 2 ^ g ≡ 8 * size) (same : all ≡ bits ops) (long : n ≡ length ops) where
  chunk_is : (c : ℕ) → chunk size all c ≡ chunk_of g ops c
  chunk_is c = ap₂ (λ k l. chunk k l c) (sym (sized g size span)) same

  mapped : {A : Type 0} (f h : ℕ → A) (o : Option ℕ) → ((c : ℕ) → f c ≡ h c) → option_map f o ≡ option_map h o
  mapped f h None each = refl
  mapped f h (Some c) each = ap Some (each c)

  pub pending-is : option_map (λ c. hash (chunk size all c)) (pending_chunk shape g n) ≡ pending_digest hash shape g ops
  pending-is = mapped (λ c. hash (chunk size all c)) (λ c. hash (chunk_of g ops c)) (pending_chunk shape g n) (λ c. ap hash (chunk_is c)) ∙ ap (λ m. option_map (λ c. hash (chunk_of g ops c)) (pending_chunk shape g m)) long

  pub partial-is : option_map (λ c. (n % (8 * size), hash (chunk size all c))) (partial_chunk (8 * size) n) ≡ partial_of hash shape g (length ops) (partial_digest hash shape g ops)
  partial-is =
      mapped (λ c. (n % (8 * size), hash (chunk size all c))) (λ c. (n % (8 * size), hash (chunk_of g ops c))) (partial_chunk (8 * size) n) (λ c. ap (λ d. (n % (8 * size), hash d)) (chunk_is c))
      ∙ ap₂ (λ s m. option_map (λ c. (m % s, hash (chunk_of g ops c))) (partial_chunk s m)) (sym span) long
      ∙ twice (λ d. (length ops % 2 ^ g, d)) (λ c. hash (chunk_of g ops c)) (partial_chunk (2 ^ g) (length ops))
