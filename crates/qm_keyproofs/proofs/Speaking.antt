-- Digests and chunks of the program's proofs are as long as definitions ask of a yes that speaks.
use Rattle.std.proofs.Common.{◌≡◌, ℕ, zero, suc, ◌+◌, ◌%◌, ◌^◌, ◌≤◌, true, List, [], ◌∷◌, length, map, arith, Option, Some, None, All, IfSome}
use Rattle.std.specs.Prelude.{option_map, nat_le, nat_lt}
use Rattle.qm_model.specs.Operations.{Bytes}
use Rattle.qm_model.specs.Grafted.{chunk_size}
use Rattle.qm_model.specs.Trees.{Shape}
use Rattle.qm_model.specs.Bits.{has_bit}
use Rattle.qm_model.specs.RangeProofs as model
use Rattle.qm_model.specs.RangeProofs.{IsSized, operation_verdict}
use Rattle.qm_model.proofs.Speaking.{both_true, at_most}
use Rattle.qm_chunks.proofs.Spans.{power_most}
use Rattle.qm_graft.specs.Grafting.{grafting}
use Rattle.qm_graft.proofs.Fitting.{grafting-span}
use Rattle.qm_keyproofs.specs.declared.chunk.ChunkBytes.{ChunkBytes}
use Rattle.qm_keyproofs.specs.declared.range.RangeProof.{RangeProof}
use Rattle.qm_keyproofs.specs.declared.operation.OperationProof.{OperationProof}
use Rattle.qm_keyproofs.specs.Views.{chunk_views, range_view, operation_view}

-- the height of nodes over chunks
pub grafting-least : (size e : ℕ) → size ≡ 2 ^ e → 32 ≤ size → 3 ≤ grafting size
grafting-least size e is least = power_most 3 (grafting size) (omega (arith, grafting-span size e is, least))

pub grafting-size : (size e : ℕ) → size ≡ 2 ^ e → chunk_size (grafting size) ≡ size
grafting-size size e is = omega (arith, grafting-span size e is)

all_mapped : {A : Type 0} (f : A → Bytes) (size : ℕ) → ((x : A) → length (f x) ≡ size) → (xs : List A) → All (λ d. length d ≡ size) (map f xs)
all_mapped f size sized [] k d lt = absurd (omega arith)
all_mapped f size sized (x ∷ xs) zero d lt = sized x
all_mapped f size sized (x ∷ xs) (suc k) d lt = all_mapped f size sized xs k d (omega arith)

if_mapped : {A : Type 0} (f : A → Bytes) (size : ℕ) → ((x : A) → length (f x) ≡ size) → (o : Option A) → IfSome (option_map f o) (λ d. length d ≡ size)
if_mapped f size sized None = tt
if_mapped f size sized (Some x) = sized x

pub whole_chunks : {N : Type 0} {g : _} (size : ℕ) → ((chunk : ChunkBytes N g) → length chunk.bytes.items ≡ size) → (chunks : List (ChunkBytes N g)) → All (λ c. length c ≡ size) (chunk_views chunks)
whole_chunks size whole chunks = all_mapped (λ c. c.bytes.items) size whole chunks

pub range_sized : {D : Type 0} (bytes : D → Bytes) (size : ℕ) → ((d : D) → length (bytes d) ≡ size) → (g : ℕ) (range : RangeProof D) (chunks : List Bytes) → All (λ c. length c ≡ chunk_size g) chunks → IsSized size g (range_view bytes range) chunks
range_sized bytes size sized g range chunks whole = record {
  digests = all_mapped bytes size sized range.proof.digests.items;
  pending = if_mapped bytes size sized range.pending_chunk_digest;
  partial = if_mapped bytes size sized range.partial_chunk_digest;
  ops_root = sized range.ops_root;
  whole_chunks = whole;
}

pub operation_sized : {F N D : Type 0} {g : _} (bytes : D → Bytes) (size : ℕ) → ((d : D) → length (bytes d) ≡ size) → (height : ℕ) (proof : OperationProof F N D g) → length proof.chunk.bytes.items ≡ chunk_size height
    → IsSized size height (operation_view bytes proof).range ((operation_view bytes proof).chunk ∷ [])
operation_sized bytes size sized height proof whole = range_sized bytes size sized height proof.range_proof (proof.chunk.bytes.items ∷ []) (one proof.chunk.bytes.items whole)
  where
    one : (chunk : Bytes) → length chunk ≡ chunk_size height → All (λ c. length c ≡ chunk_size height) (chunk ∷ [])
    one chunk whole zero d lt = whole
    one chunk whole (suc k) d lt = absurd (omega arith)

-- a proof of an operation that a check says yes to tells of a location that an operation can have
pub operation_low : (hash : Bytes → Bytes) (shape : Shape) (height : ℕ) (proof : model.OperationProof) (item root : Bytes) → operation_verdict hash shape height proof item root ≡ true → proof.location ≤ 2 ^ 62
operation_low hash shape height proof item root e =
    let n = proof.range.proof.leaves in
    let whole = both_true (has_bit proof.chunk (proof.location % 2 ^ height)) _ e in
    let first = both_true (nat_le n (2 ^ 62)) _ whole.1 in
    let second = both_true (nat_lt 0 1) _ first.1 in
    let third = both_true (nat_le (proof.location + 1) n) _ second.1 in
    omega (arith, at_most n (2 ^ 62) first.0, at_most (proof.location + 1) n third.0)
