-- How proofs of keys and of their absence are spelled, and which proof bytes spell: numbers in 8 bytes, a chunk and digests of
-- fixed sizes, and keys and values with their lengths before them, however a database spells its operations.
use Rattle.std.specs.Prelude.{◌≡◌, ℕ, zero, suc, ◌<◌, ◌≤◌, ◌^◌, ◌==◌, nat_le, if◌then◌else◌, List, [], ◌∷◌, ◌++◌, length, All, Option, Some, None, option_map, option_and_then, IfSome}
use Rattle.std.specs.List.{concat}
use Rattle.qm_model.specs.Operations.{Bytes, four_bytes, eight_bytes}
use Rattle.qm_model.specs.Forms.{Form, field, metadata_field, IsKey, IsValue, number_of_four, number_of_eight, first_bytes, read_key, read_value, read_metadata, at_end}
use Rattle.qm_model.specs.RangeProofs.{RangeProof, OperationProof, Exclusion, spanned, emptied}

-- a proof of a key: that it has a value, in an ordered database with the next key, or that it is absent
pub data KeyProof : Type 0 where
  held : OperationProof → KeyProof
  linked : OperationProof → Bytes → KeyProof
  absent : Exclusion → KeyProof

-- the most digests of a proof that is spelled
abbrev pub most_digests : ℕ
most_digests = 4096

-- with the same keys and values, and their lengths before them
abbrev pub with_lengths : Form → Form
with_lengths form = record form { sizes = None }

-- How a proof is spelled.

-- a mark of 0 for no digest, or a mark of 1 before it
abbrev pub digest_field : Option Bytes → Bytes
digest_field None = 0 ∷ []
digest_field (Some digest) = 1 ∷ digest

-- how many digests, and these
abbrev pub digests_spelling : List Bytes → Bytes
digests_spelling digests = four_bytes (length digests) ++ concat digests

-- a range proof: leaves, inactive peaks, digests, those of the pending and of the partial chunk, and the operations root
abbrev pub range_spelling : RangeProof → Bytes
range_spelling range =
    eight_bytes range.proof.leaves ++ (eight_bytes range.proof.inactive ++ (digests_spelling range.proof.digests
    ++ (digest_field range.pending ++ (digest_field range.partial ++ range.ops_root))))

-- a proof of one operation: its location, its chunk, and the range proof
abbrev pub operation_spelling : OperationProof → Bytes
operation_spelling proof = eight_bytes proof.location ++ (proof.chunk ++ range_spelling proof.range)

-- by a tag, and behind the proof of the operation what it proves with it
abbrev pub proof_spelling : KeyProof → Bytes
proof_spelling (linked proof next) = 1 ∷ (operation_spelling proof ++ field None next)
proof_spelling (absent (spanned proof key value next)) = 2 ∷ (operation_spelling proof ++ (field None key ++ (field None value ++ field None next)))
proof_spelling (absent (emptied proof meta)) = 3 ∷ (operation_spelling proof ++ metadata_field None meta)
proof_spelling (held proof) = 4 ∷ operation_spelling proof

-- Which proofs are spelled: those of these keys and values, chunks and digests, with no more digests than that.

pub record IsRangeOf (size : ℕ) (range : RangeProof) : Type 0 where
  pub leaves : range.proof.leaves < 2 ^ 64
  pub inactive : range.proof.inactive < 2 ^ 64
  pub count : length range.proof.digests ≤ most_digests
  pub digests : All (λ d. length d ≡ size) range.proof.digests
  pub pending : IfSome range.pending (λ d. length d ≡ size)
  pub partial : IfSome range.partial (λ d. length d ≡ size)
  pub ops_root : length range.ops_root ≡ size

pub record IsOperationOf (long size : ℕ) (proof : OperationProof) : Type 0 where
  pub location : proof.location < 2 ^ 64
  pub chunk : length proof.chunk ≡ long
  pub range : IsRangeOf size proof.range

abbrev pub IsProofOf : Form → ℕ → ℕ → KeyProof → Type 0
IsProofOf form chunk size (held proof) = IsOperationOf chunk size proof
IsProofOf form chunk size (linked proof next) = IsOperationOf chunk size proof × IsKey (with_lengths form) next
IsProofOf form chunk size (absent (spanned proof key value next)) =
    IsOperationOf chunk size proof × IsKey (with_lengths form) key × IsValue (with_lengths form) value × IsKey (with_lengths form) next
IsProofOf form chunk size (absent (emptied proof meta)) = IsOperationOf chunk size proof × IfSome meta (IsValue (with_lengths form))

-- the bytes spell the proof
pub record IsProofSpelling (form : Form) (chunk size : ℕ) (bytes : Bytes) (proof : KeyProof) : Type 0 where
  pub of : IsProofOf form chunk size proof
  pub spelled : proof_spelling proof ≡ bytes

-- How a proof is read: what was read, and the bytes behind it.

abbrev pub Reader : Type 0 → Type 0
Reader A = Bytes → Option (A × Bytes)

module _ {A B : Type 0} where
  -- one thing, and another behind it
  abbrev pub both : Reader A → Reader B → Reader (A × B)
  both first second bs = option_and_then (λ a. option_map (λ b. ((a.0, b.0), b.1)) (second a.1)) (first bs)

  -- the same, as what it stands for
  abbrev pub mapped : (A → B) → Reader A → Reader B
  mapped f reader bs = option_map (λ a. (f a.0, a.1)) (reader bs)

-- a number in 8 bytes
abbrev pub read_eight : Reader ℕ
read_eight bs = option_map (λ p. (number_of_eight p.0, p.1)) (first_bytes 8 bs)

-- how many digests, in 4 bytes
abbrev pub read_count : Reader ℕ
read_count bs = option_and_then (λ p. if nat_le (number_of_four p.0) most_digests then Some (number_of_four p.0, p.1) else None) (first_bytes 4 bs)

-- so many digests of this size
abbrev pub read_each : ℕ → ℕ → Reader (List Bytes)
read_each size zero bs = Some ([], bs)
read_each size (suc n) bs = option_and_then (λ d. option_map (λ ds. (d.0 ∷ ds.0, ds.1)) (read_each size n d.1)) (first_bytes size bs)

abbrev pub read_digests : ℕ → Reader (List Bytes)
read_digests size bs = option_and_then (λ n. read_each size n.0 n.1) (read_count bs)

-- a digest that may lack
abbrev pub read_digest : ℕ → Reader (Option Bytes)
read_digest size [] = None
read_digest size (mark ∷ bs) =
    if mark == 0 then Some (None, bs) else if mark == 1 then option_map (λ p. (Some p.0, p.1)) (first_bytes size bs) else None

abbrev pub range_of : ℕ × (ℕ × (List Bytes × (Option Bytes × (Option Bytes × Bytes)))) → RangeProof
range_of (leaves, (inactive, (digests, (pending, (partial, ops_root))))) =
    record { proof = record { leaves = leaves; inactive = inactive; digests = digests }; pending = pending; partial = partial; ops_root = ops_root }

abbrev pub read_range : ℕ → Reader RangeProof
read_range size = mapped range_of (both read_eight (both read_eight (both (read_digests size) (both (read_digest size) (both (read_digest size) (first_bytes size))))))

abbrev pub operation_of : ℕ × (Bytes × RangeProof) → OperationProof
operation_of (location, (chunk, range)) = record { location = location; chunk = chunk; range = range }

abbrev pub read_operation : ℕ → ℕ → Reader OperationProof
read_operation chunk size = mapped operation_of (both read_eight (both (first_bytes chunk) (read_range size)))

abbrev pub spanned_of : OperationProof × (Bytes × (Bytes × Bytes)) → KeyProof
spanned_of (proof, (key, (value, next))) = absent (spanned proof key value next)

-- what a tag announces, where no bytes are left over
abbrev pub read_whole : {A : Type 0} → (A → KeyProof) → Reader A → Bytes → Option KeyProof
read_whole f reader bs = option_and_then (at_end None) (mapped f reader bs)

-- the proof that bytes spell, if they spell one
abbrev pub read_proof : Form → ℕ → ℕ → Bytes → Option KeyProof
read_proof form chunk size [] = None
read_proof form chunk size (tag ∷ bs) =
    let own = read_operation chunk size in
    let key = read_key (with_lengths form) in
    let value = read_value (with_lengths form) in
    if tag == 1 then read_whole (λ p. linked p.0 p.1) (both own key) bs
    else if tag == 2 then read_whole spanned_of (both own (both key (both value key))) bs
    else if tag == 3 then read_whole (λ p. absent (emptied p.0 p.1)) (both own (read_metadata (with_lengths form))) bs
    else if tag == 4 then read_whole held own bs
    else None
