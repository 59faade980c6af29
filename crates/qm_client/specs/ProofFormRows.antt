-- Worked spellings of proofs, computed.
use Rattle.std.specs.Prelude.{◌≡◌, ℕ, true, false, List, [], ◌∷◌, ◌++◌, length, take, map, replicate, is_some, Some, None, refl}
use Rattle.std.specs.Int.Count.{count_leading_zeros}
use Rattle.qm_model.specs.Operations.{Bytes, Operation, update, commit, four_bytes, eight_bytes}
use Rattle.qm_model.specs.Forms.{variable, number_of_four, number_of_eight}
use Rattle.qm_model.specs.Mmr.{mmr, digits_below}
use Rattle.qm_model.specs.RangeProofs.{OperationProof, spanned, emptied, operation_proof}
use Rattle.qm_client.specs.ProofForms.{KeyProof, held, linked, absent, proof_spelling, read_proof}
use lib.Count.{ones, ones_in}

-- a hash that is the same of all bytes, and as long as the program's
abbrev flat : Bytes → Bytes
flat bytes = replicate 32 0x2a

-- two keys of an ordered database
abbrev two_links : List Operation
two_links = commit None 0 ∷ update (0x61 ∷ []) (1 ∷ []) (Some (0x63 ∷ [])) ∷ update (0x63 ∷ []) (3 ∷ []) (Some (0x61 ∷ [])) ∷ commit (Some (0xaa ∷ [])) 0 ∷ []

abbrev first : OperationProof
first = operation_proof flat mmr 8 variable two_links 1

-- the proof of the first of them: its tag, its location and the chunk come first
first-begins : take 10 (proof_spelling (linked first (0x63 ∷ []))) ≡ 1 ∷ 0 ∷ 0 ∷ 0 ∷ 0 ∷ 0 ∷ 0 ∷ 0 ∷ 1 ∷ 0x0e ∷ []
unfolding digits_below ones ones_in count_leading_zeros four_bytes eight_bytes
first-begins = refl

first-long : length (proof_spelling (linked first (0x63 ∷ []))) ≡ 196
unfolding digits_below ones ones_in count_leading_zeros four_bytes eight_bytes
first-long = refl

-- a proof with chunks of 1 and digests of 2 bytes
abbrev small : OperationProof
small = record {
  location = 258;
  chunk = 0x0e ∷ [];
  range = record { proof = record { leaves = 4; inactive = 1; digests = (1 ∷ 2 ∷ []) ∷ (3 ∷ 4 ∷ []) ∷ [] }; pending = None; partial = Some (5 ∷ 6 ∷ []); ops_root = 7 ∷ 8 ∷ [] };
}

abbrev small_bytes : Bytes
small_bytes =
    (0 ∷ 0 ∷ 0 ∷ 0 ∷ 0 ∷ 0 ∷ 1 ∷ 2 ∷ []) ++ 0x0e ∷ (0 ∷ 0 ∷ 0 ∷ 0 ∷ 0 ∷ 0 ∷ 0 ∷ 4 ∷ []) ++ (0 ∷ 0 ∷ 0 ∷ 0 ∷ 0 ∷ 0 ∷ 0 ∷ 1 ∷ [])
    ++ (0 ∷ 0 ∷ 0 ∷ 2 ∷ 1 ∷ 2 ∷ 3 ∷ 4 ∷ []) ++ 0 ∷ 1 ∷ 5 ∷ 6 ∷ 7 ∷ 8 ∷ []

abbrev all_tags : List KeyProof
all_tags = linked small (0x63 ∷ []) ∷ absent (spanned small (0x61 ∷ []) [] (0x63 ∷ [])) ∷ absent (emptied small None) ∷ absent (emptied small (Some (0xaa ∷ []))) ∷ held small ∷ []

abbrev all_bytes : List Bytes
all_bytes =
    (1 ∷ small_bytes ++ 0 ∷ 0 ∷ 0 ∷ 1 ∷ 0x63 ∷ [])
    ∷ (2 ∷ small_bytes ++ 0 ∷ 0 ∷ 0 ∷ 1 ∷ 0x61 ∷ 0 ∷ 0 ∷ 0 ∷ 0 ∷ 0 ∷ 0 ∷ 0 ∷ 1 ∷ 0x63 ∷ [])
    ∷ (3 ∷ small_bytes ++ 0 ∷ [])
    ∷ (3 ∷ small_bytes ++ 1 ∷ 0 ∷ 0 ∷ 0 ∷ 1 ∷ 0xaa ∷ [])
    ∷ (4 ∷ small_bytes)
    ∷ []

all_spelled : map proof_spelling all_tags ≡ all_bytes
unfolding four_bytes eight_bytes
all_spelled = refl

all_read : map (read_proof variable 1 2) all_bytes ≡ map (λ p. Some p) all_tags
unfolding number_of_four number_of_eight
all_read = refl

-- a byte is left over, or lacks, or the tag or a mark is another
none_read : map (read_proof variable 1 2) ([] ∷ (4 ∷ small_bytes ++ 0 ∷ []) ∷ take 39 (4 ∷ small_bytes) ∷ (5 ∷ small_bytes) ∷ (3 ∷ small_bytes ++ 2 ∷ []) ∷ [])
    ≡ None ∷ None ∷ None ∷ None ∷ None ∷ []
unfolding number_of_four number_of_eight
none_read = refl

-- so many digests, here of no bytes, may be there, and no more
abbrev crowd : ℕ → ℕ → Bytes
crowd a b = 4 ∷ take 25 small_bytes ++ 0 ∷ 0 ∷ a ∷ b ∷ 0 ∷ 0 ∷ []

crowds_read : map (λ bs. is_some (read_proof variable 1 0 bs)) (crowd 0x10 0 ∷ crowd 0x10 1 ∷ []) ≡ true ∷ false ∷ []
unfolding number_of_four number_of_eight
crowds_read = refl
