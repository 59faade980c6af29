-- Worked scripts of current databases, from bytes to bytes, under a hash that computes. Expected replies are those of an
-- independent model.
use Rattle.std.specs.Prelude.{◌≡◌, ℕ, zero, suc, ◌*◌, ◌-◌, ◌%◌, ◌++◌, List, [], ◌∷◌, Some, None, refl, codes, flat_map, true}
use Rattle.std.specs.List.{join_with_byte}
use Rattle.std.specs.Fmt.{digits}
use Rattle.std.specs.Int.Count.{count_leading_zeros}
use Rattle.hex.specs.Hex.{decode_pairs, encode_with}
use Rattle.qm_model.specs.Operations.{Bytes, Operation, update, commit, four_bytes, eight_bytes}
use Rattle.qm_model.specs.Forms.{Form, variable}
use Rattle.qm_model.specs.Trees.{Shape, ops_root}
use Rattle.qm_model.specs.Mmr.{mmr, digits_below}
use Rattle.qm_model.specs.Mmb.{mmb}
use Rattle.qm_model.specs.Proofs.{ops_proof, pins_at}
use Rattle.qm_model.specs.Grafted.{canonical, boundary}
use Rattle.qm_model.specs.Checks.{Checks, unordered_checks, ordered_checks}
use Rattle.qm_model.specs.CurrentRows.{toy}
use Rattle.qm_model.specs.Own.{no_log}
use Rattle.qm_model.specs.Policies.{Policy, policies}
use Rattle.qm_machine.specs.Lines.{Line, Crash}
use Rattle.qm_machine.specs.Machine.{State, initial, answers}
use Rattle.qm_model.specs.Schemes.{Scheme}
use Rattle.qm_machine.specs.Grammar.{commands_in}
use Rattle.qm_machine.specs.Text.{text_of}
use lib.Count.{ones, ones_in}

-- databases with chunks of 2 ^ g locations, over updates of this form, with these checks
abbrev with_chunks : Form → Shape → ℕ → Checks → Scheme
with_chunks form shape g checks = record {
  form = form;
  shape = shape;
  hash = toy;
  digest_size = 2;
  root = ops_root toy shape form;
  canonical = canonical toy shape g form;
  boundary = boundary shape g;
  proof = ops_proof toy shape form;
  pins = pins_at toy shape form;
  grafts = Some (record { chunks = record { height = g; name = codes "grafted" }; checks = Some checks });
}

abbrev current : Shape → ℕ → Scheme
current shape g = with_chunks variable shape g (unordered_checks toy shape g variable)

abbrev linked : Form
linked = record variable { ordered = true }

abbrev ring : Shape → ℕ → Scheme
ring shape g = with_chunks linked shape g (ordered_checks toy shape g linked)

abbrev lines : List Bytes → Bytes
lines ls = join_with_byte 10 ls ++ 10 ∷ []

-- over a store that keeps what a crash asks for
abbrev asked : Line Policy → List ℕ
asked (Crash keep) = keep ∷ []
asked line = []

abbrev text_from : Scheme → State → Bytes → Bytes
text_from scheme s input = text_of (answers scheme policies s (commands_in input))

abbrev text : Scheme → Bytes → Bytes
text scheme input = text_from scheme (initial no_log (flat_map asked (commands_in input))) input

-- one put: the boundary is that of whole chunks
one_put_text : text (current mmr 8) (lines (codes "open" ∷ codes "batch" ∷ codes "put 1 6b 76" ∷ codes "merkleize 1 prop none" ∷ codes "apply 1" ∷ codes "ops 1" ∷ codes "get 6b" ∷ codes "info" ∷ codes "held 6b" ∷ codes "held 6c" ∷ codes "absent 6c" ∷ codes "chunks 0 9" ∷ codes "chunks 3 1" ∷ codes "chunks 4 1" ∷ codes "witness" ∷ codes "proof 1" ∷ codes "info 1" ∷ []))
    ≡ lines (codes "open 1 0 1" ∷ codes "batch 1" ∷ codes "ok" ∷ codes "merkleized 1 1 4 2" ∷ codes "applied 4" ∷ codes "ops 1 U:6b=76 U:6b=76 C:none@2" ∷ codes "read 76" ∷ codes "info 0 4 2 0 live" ∷ codes "held 2 yes" ∷ codes "refused KeyNotFound" ∷ codes "refused NotOffered" ∷ codes "chunks 4 1 yes" ∷ codes "chunks 1 1 yes" ∷ codes "refused Merkle RangeOutOfBounds 4" ∷ codes "witness yes" ∷ codes "refused NotOffered" ∷ codes "info 1 4 2 0" ∷ [])
unfolding decode_pairs encode_with digits digits_below four_bytes eight_bytes ones ones_in count_leading_zeros
one_put_text = refl

-- without a database
closed_text : text (current mmr 8) (lines (codes "held 6b" ∷ codes "absent 6b" ∷ codes "chunks 0 1" ∷ codes "witness" ∷ codes "proof 1" ∷ codes "next 6b" ∷ []))
    ≡ lines (codes "refused NoDatabase" ∷ codes "refused NotOffered" ∷ codes "refused NoDatabase" ∷ codes "refused NoDatabase" ∷ codes "refused NotOffered" ∷ codes "refused NotOffered" ∷ [])
unfolding decode_pairs encode_with digits digits_below four_bytes eight_bytes ones ones_in count_leading_zeros
closed_text = refl

-- the same of an ordered one
closed_ring_text : text (ring mmr 8) (lines (codes "held 6b" ∷ codes "absent 6b" ∷ codes "chunks 0 1" ∷ codes "witness" ∷ codes "proof 1" ∷ codes "next 6b" ∷ []))
    ≡ lines (codes "refused NoDatabase" ∷ codes "refused NoDatabase" ∷ codes "refused NoDatabase" ∷ codes "refused NoDatabase" ∷ codes "refused NotOffered" ∷ codes "refused NoDatabase" ∷ [])
unfolding decode_pairs encode_with digits digits_below four_bytes eight_bytes ones ones_in count_leading_zeros
closed_ring_text = refl

-- ordered keys: absences in a span, around the ring, and where nothing is live
ring_text : text (ring mmr 8) (lines (codes "open" ∷ codes "absent 61" ∷ codes "batch" ∷ codes "put 1 61 01" ∷ codes "put 1 63 03" ∷ codes "merkleize 1 hold aa" ∷ codes "ops 1" ∷ codes "apply 1" ∷ codes "next 61" ∷ codes "next 63" ∷ codes "prev 61" ∷ codes "prev 62" ∷ codes "span 62" ∷ codes "all 63" ∷ codes "many 61 62" ∷ codes "range [61 63)" ∷ codes "keys * *" ∷ codes "meta" ∷ codes "held 61" ∷ codes "held 62" ∷ codes "absent 62" ∷ codes "absent 61" ∷ codes "absent 60" ∷ codes "absent 6300" ∷ codes "chunks 0 9" ∷ codes "witness" ∷ codes "prove 1 0 1" ∷ codes "prove 3 0 1" ∷ codes "prove 0 0 1" ∷ codes "prove 5 0 1" ∷ codes "pins 0" ∷ codes "batch" ∷ codes "stage 2 61" ∷ codes "expand 2 63 61" ∷ codes "commit" ∷ codes "sync" ∷ codes "close" ∷ codes "get 61" ∷ []))
    ≡ lines (codes "open 1 0 1" ∷ codes "absent 0 yes" ∷ codes "batch 1" ∷ codes "ok" ∷ codes "ok" ∷ codes "merkleized 1 1 4 0" ∷ codes "ops 1 U:61=01>63 U:63=03>61 C:aa@0" ∷ codes "applied 4" ∷ codes "key 63" ∷ codes "none" ∷ codes "none" ∷ codes "key 61" ∷ codes "span 1 61 01 63" ∷ codes "all 03 61" ∷ codes "read 01 none" ∷ codes "range 61=01" ∷ codes "keys 61 63" ∷ codes "meta aa" ∷ codes "held 1 yes" ∷ codes "refused KeyNotFound" ∷ codes "absent 1 yes" ∷ codes "refused KeyExists" ∷ codes "absent 2 yes" ∷ codes "absent 2 yes" ∷ codes "chunks 4 1 yes" ∷ codes "witness yes" ∷ codes "proof 1 0 / C:none@0" ∷ codes "refused HistoricalFloorPruned 3" ∷ codes "refused HistoricalFloorPruned 0" ∷ codes "refused Merkle RangeOutOfBounds 5" ∷ codes "pins" ∷ codes "batch 2" ∷ codes "read 01" ∷ codes "read 1 3 03 01" ∷ codes "ok" ∷ codes "ok" ∷ codes "ok" ∷ codes "refused NoDatabase" ∷ [])
unfolding decode_pairs encode_with digits digits_below four_bytes eight_bytes ones ones_in count_leading_zeros
ring_text = refl

-- a batch of the first opening is none of the second one's
instance_text : text (current mmr 8) (lines (codes "batch" ∷ codes "open" ∷ codes "batch" ∷ codes "open" ∷ codes "merkleize 1 prop none" ∷ codes "batch" ∷ codes "tip" ∷ codes "apply 3" ∷ codes "child 3" ∷ codes "merkleize 4 prop none" ∷ codes "apply 4" ∷ []))
    ≡ lines (codes "refused NoDatabase" ∷ codes "open 1 0 1" ∷ codes "batch 1" ∷ codes "open 2 0 1" ∷ codes "refused StaleBatch" ∷ codes "batch 2" ∷ codes "batch 3" ∷ codes "applied 1" ∷ codes "batch 4" ∷ codes "merkleized 4 1 2 1" ∷ codes "applied 2" ∷ [])
unfolding decode_pairs encode_with digits digits_below four_bytes eight_bytes ones ones_in count_leading_zeros
instance_text = refl

-- chunks of eight locations: one key written in eight batches, pruned to the boundary, opened again within bounds
pruned_text : text (current mmr 3) (lines (codes "open" ∷ codes "batch" ∷ codes "put 1 6b 01" ∷ codes "merkleize 1 prop none" ∷ codes "apply 1" ∷ codes "batch" ∷ codes "put 2 6b 02" ∷ codes "merkleize 2 prop none" ∷ codes "apply 2" ∷ codes "batch" ∷ codes "put 3 6b 03" ∷ codes "merkleize 3 prop none" ∷ codes "apply 3" ∷ codes "batch" ∷ codes "put 4 6b 04" ∷ codes "merkleize 4 prop none" ∷ codes "apply 4" ∷ codes "batch" ∷ codes "put 5 6b 05" ∷ codes "merkleize 5 prop none" ∷ codes "apply 5" ∷ codes "batch" ∷ codes "put 6 6b 06" ∷ codes "merkleize 6 prop none" ∷ codes "apply 6" ∷ codes "batch" ∷ codes "put 7 6b 07" ∷ codes "merkleize 7 prop none" ∷ codes "apply 7" ∷ codes "batch" ∷ codes "put 8 6b 08" ∷ codes "merkleize 8 prop none" ∷ codes "apply 8" ∷ codes "info" ∷ codes "prune 17" ∷ codes "prune 16" ∷ codes "info" ∷ codes "chunks 0 1" ∷ codes "chunks 16 3" ∷ codes "chunks 24 9" ∷ codes "chunks 25 1" ∷ codes "held 6b" ∷ codes "witness" ∷ codes "prove 25 15 1" ∷ codes "pins 15" ∷ codes "crash 0" ∷ codes "open" ∷ codes "info" ∷ codes "held 6b" ∷ codes "open max=16" ∷ codes "open max=18" ∷ codes "open max=19" ∷ codes "info" ∷ codes "held 6b" ∷ codes "chunks 16 9" ∷ codes "open" ∷ codes "prune 17" ∷ codes "prune 8" ∷ codes "info" ∷ []))
    ≡ lines (codes "open 1 0 1" ∷ codes "batch 1" ∷ codes "ok" ∷ codes "merkleized 1 1 4 2" ∷ codes "applied 4" ∷ codes "batch 2" ∷ codes "ok" ∷ codes "merkleized 2 4 7 5" ∷ codes "applied 7" ∷ codes "batch 3" ∷ codes "ok" ∷ codes "merkleized 3 7 10 8" ∷ codes "applied 10" ∷ codes "batch 4" ∷ codes "ok" ∷ codes "merkleized 4 10 13 11" ∷ codes "applied 13" ∷ codes "batch 5" ∷ codes "ok" ∷ codes "merkleized 5 13 16 14" ∷ codes "applied 16" ∷ codes "batch 6" ∷ codes "ok" ∷ codes "merkleized 6 16 19 17" ∷ codes "applied 19" ∷ codes "batch 7" ∷ codes "ok" ∷ codes "merkleized 7 19 22 20" ∷ codes "applied 22" ∷ codes "batch 8" ∷ codes "ok" ∷ codes "merkleized 8 22 25 23" ∷ codes "applied 25" ∷ codes "info 0 25 23 16 live" ∷ codes "refused PruneBeyondMinRequired 17 16" ∷ codes "ok" ∷ codes "info 16 25 23 16 live" ∷ codes "refused OperationPruned 0" ∷ codes "chunks 3 1 yes" ∷ codes "chunks 1 1 yes" ∷ codes "refused Merkle RangeOutOfBounds 25" ∷ codes "held 23 yes" ∷ codes "witness yes" ∷ codes "refused Journal ItemPruned 15" ∷ codes "refused Merkle ElementPruned 14" ∷ codes "ok" ∷ codes "open 2 16 25" ∷ codes "info 16 25 23 16 live" ∷ codes "held 23 yes" ∷ codes "refused HistoricalFloorPruned 0" ∷ codes "refused HistoricalFloorPruned 0" ∷ codes "open 3 16 19" ∷ codes "info 16 19 17 16 live" ∷ codes "held 17 yes" ∷ codes "chunks 3 1 yes" ∷ codes "open 4 16 19" ∷ codes "refused PruneBeyondMinRequired 17 16" ∷ codes "ok" ∷ codes "info 16 19 17 16 live" ∷ [])
unfolding decode_pairs encode_with digits digits_below four_bytes eight_bytes ones ones_in count_leading_zeros
pruned_text = refl

-- the same over trees with delayed merges
pruned_delayed_text : text (current mmb 3) (lines (codes "open" ∷ codes "batch" ∷ codes "put 1 6b 01" ∷ codes "merkleize 1 prop none" ∷ codes "apply 1" ∷ codes "batch" ∷ codes "put 2 6b 02" ∷ codes "merkleize 2 prop none" ∷ codes "apply 2" ∷ codes "batch" ∷ codes "put 3 6b 03" ∷ codes "merkleize 3 prop none" ∷ codes "apply 3" ∷ codes "batch" ∷ codes "put 4 6b 04" ∷ codes "merkleize 4 prop none" ∷ codes "apply 4" ∷ codes "batch" ∷ codes "put 5 6b 05" ∷ codes "merkleize 5 prop none" ∷ codes "apply 5" ∷ codes "batch" ∷ codes "put 6 6b 06" ∷ codes "merkleize 6 prop none" ∷ codes "apply 6" ∷ codes "batch" ∷ codes "put 7 6b 07" ∷ codes "merkleize 7 prop none" ∷ codes "apply 7" ∷ codes "batch" ∷ codes "put 8 6b 08" ∷ codes "merkleize 8 prop none" ∷ codes "apply 8" ∷ codes "info" ∷ codes "prune 17" ∷ codes "prune 16" ∷ codes "prune 8" ∷ codes "info" ∷ codes "chunks 0 1" ∷ codes "chunks 8 3" ∷ codes "chunks 24 9" ∷ codes "held 6b" ∷ codes "witness" ∷ codes "crash 0" ∷ codes "open" ∷ codes "info" ∷ codes "held 6b" ∷ codes "open max=9" ∷ codes "open max=13" ∷ codes "open max=16" ∷ codes "info" ∷ []))
    ≡ lines (codes "open 1 0 1" ∷ codes "batch 1" ∷ codes "ok" ∷ codes "merkleized 1 1 4 2" ∷ codes "applied 4" ∷ codes "batch 2" ∷ codes "ok" ∷ codes "merkleized 2 4 7 5" ∷ codes "applied 7" ∷ codes "batch 3" ∷ codes "ok" ∷ codes "merkleized 3 7 10 8" ∷ codes "applied 10" ∷ codes "batch 4" ∷ codes "ok" ∷ codes "merkleized 4 10 13 11" ∷ codes "applied 13" ∷ codes "batch 5" ∷ codes "ok" ∷ codes "merkleized 5 13 16 14" ∷ codes "applied 16" ∷ codes "batch 6" ∷ codes "ok" ∷ codes "merkleized 6 16 19 17" ∷ codes "applied 19" ∷ codes "batch 7" ∷ codes "ok" ∷ codes "merkleized 7 19 22 20" ∷ codes "applied 22" ∷ codes "batch 8" ∷ codes "ok" ∷ codes "merkleized 8 22 25 23" ∷ codes "applied 25" ∷ codes "info 0 25 23 16 live" ∷ codes "refused PruneBeyondMinRequired 17 16" ∷ codes "ok" ∷ codes "ok" ∷ codes "info 16 25 23 16 live" ∷ codes "refused OperationPruned 0" ∷ codes "refused OperationPruned 8" ∷ codes "chunks 1 1 yes" ∷ codes "held 23 yes" ∷ codes "witness yes" ∷ codes "ok" ∷ codes "open 2 16 25" ∷ codes "info 16 25 23 16 live" ∷ codes "held 23 yes" ∷ codes "refused HistoricalFloorPruned 0" ∷ codes "refused HistoricalFloorPruned 0" ∷ codes "refused HistoricalFloorPruned 0" ∷ codes "refused NoDatabase" ∷ [])
unfolding decode_pairs encode_with digits digits_below four_bytes eight_bytes ones ones_in count_leading_zeros
pruned_delayed_text = refl

-- a prune within a chunk leaves its bits; a crash loses what is not stable, and no chunk
partly_pruned_text : text (current mmr 3) (lines (codes "open" ∷ codes "batch" ∷ codes "put 1 6b 01" ∷ codes "merkleize 1 prop none" ∷ codes "apply 1" ∷ codes "batch" ∷ codes "put 2 6b 02" ∷ codes "merkleize 2 prop none" ∷ codes "apply 2" ∷ codes "batch" ∷ codes "put 3 6b 03" ∷ codes "merkleize 3 prop none" ∷ codes "apply 3" ∷ codes "batch" ∷ codes "put 4 6b 04" ∷ codes "merkleize 4 prop none" ∷ codes "apply 4" ∷ codes "batch" ∷ codes "put 5 6b 05" ∷ codes "merkleize 5 prop none" ∷ codes "apply 5" ∷ codes "batch" ∷ codes "put 6 6b 06" ∷ codes "merkleize 6 prop none" ∷ codes "apply 6" ∷ codes "batch" ∷ codes "put 7 6b 07" ∷ codes "merkleize 7 prop none" ∷ codes "apply 7" ∷ codes "batch" ∷ codes "put 8 6b 08" ∷ codes "merkleize 8 prop none" ∷ codes "apply 8" ∷ codes "commit" ∷ codes "prune 13" ∷ codes "info" ∷ codes "chunks 12 1" ∷ codes "chunks 13 1" ∷ codes "chunks 7 1" ∷ codes "batch" ∷ codes "put 9 6c 01" ∷ codes "merkleize 9 prop none" ∷ codes "apply 9" ∷ codes "crash 0" ∷ codes "open" ∷ codes "info" ∷ codes "prune 16" ∷ codes "batch" ∷ codes "put 10 6b 09" ∷ codes "merkleize 10 prop none" ∷ codes "apply 10" ∷ codes "info" ∷ codes "crash 26" ∷ codes "open" ∷ codes "info" ∷ codes "sync" ∷ codes "crash 0" ∷ codes "open" ∷ codes "info" ∷ codes "destroy" ∷ codes "open" ∷ codes "info" ∷ codes "chunks 0 1" ∷ []))
    ≡ lines (codes "open 1 0 1" ∷ codes "batch 1" ∷ codes "ok" ∷ codes "merkleized 1 1 4 2" ∷ codes "applied 4" ∷ codes "batch 2" ∷ codes "ok" ∷ codes "merkleized 2 4 7 5" ∷ codes "applied 7" ∷ codes "batch 3" ∷ codes "ok" ∷ codes "merkleized 3 7 10 8" ∷ codes "applied 10" ∷ codes "batch 4" ∷ codes "ok" ∷ codes "merkleized 4 10 13 11" ∷ codes "applied 13" ∷ codes "batch 5" ∷ codes "ok" ∷ codes "merkleized 5 13 16 14" ∷ codes "applied 16" ∷ codes "batch 6" ∷ codes "ok" ∷ codes "merkleized 6 16 19 17" ∷ codes "applied 19" ∷ codes "batch 7" ∷ codes "ok" ∷ codes "merkleized 7 19 22 20" ∷ codes "applied 22" ∷ codes "batch 8" ∷ codes "ok" ∷ codes "merkleized 8 22 25 23" ∷ codes "applied 25" ∷ codes "ok" ∷ codes "ok" ∷ codes "info 13 25 23 16 live" ∷ codes "refused Journal ItemPruned 12" ∷ codes "chunks 1 1 yes" ∷ codes "refused OperationPruned 7" ∷ codes "batch 9" ∷ codes "ok" ∷ codes "merkleized 9 25 28 24" ∷ codes "applied 28" ∷ codes "ok" ∷ codes "open 2 13 25" ∷ codes "info 13 25 23 16 live" ∷ codes "ok" ∷ codes "batch 10" ∷ codes "ok" ∷ codes "merkleized 10 25 28 26" ∷ codes "applied 28" ∷ codes "info 16 28 26 24 live" ∷ codes "ok" ∷ codes "open 3 16 25" ∷ codes "info 16 25 23 16 live" ∷ codes "ok" ∷ codes "ok" ∷ codes "open 4 16 25" ∷ codes "info 16 25 23 16 live" ∷ codes "ok" ∷ codes "open 5 0 1" ∷ codes "info 0 1 0 0 empty" ∷ codes "chunks 1 1 yes" ∷ [])
unfolding decode_pairs encode_with digits digits_below four_bytes eight_bytes ones ones_in count_leading_zeros
partly_pruned_text = refl

-- One key written in 266 batches, each under a policy that moves what it writes.

-- what the batches from number k on append, so many
abbrev batches : ℕ → ℕ → List Operation
batches k zero = []
batches k (suc n) = update (0x6b ∷ []) (k % 256 ∷ []) None ∷ update (0x6b ∷ []) (k % 256 ∷ []) None ∷ commit None (3 * k - 1) ∷ batches (suc k) n

abbrev one_key : List Operation
one_key = commit None 0 ∷ batches 1 266

-- the first opening's database, with all of them applied and none stable
abbrev many_batches : State
many_batches = record (initial (record no_log { list = one_key; stable = 1 }) []) { database = Some one_key; opened = 1; had = one_key ∷ [] }

-- pruned to the boundary, and opened again within bounds
many_batches_text : text_from (current mmr 8) many_batches (lines (codes "info" ∷ codes "prune 769" ∷ codes "prune 768" ∷ codes "info" ∷ codes "chunks 0 1" ∷ codes "open max=768" ∷ codes "open max=769" ∷ codes "open max=798" ∷ codes "info" ∷ codes "held 6b" ∷ [])) ≡ lines (codes "info 0 799 797 768 live" ∷ codes "refused PruneBeyondMinRequired 769 768" ∷ codes "ok" ∷ codes "info 768 799 797 768 live" ∷ codes "refused OperationPruned 0" ∷ codes "refused HistoricalFloorPruned 0" ∷ codes "refused HistoricalFloorPruned 769" ∷ codes "open 2 768 796" ∷ codes "info 768 796 794 768 live" ∷ codes "held 794 yes" ∷ [])
unfolding decode_pairs encode_with digits digits_below four_bytes eight_bytes ones ones_in count_leading_zeros
many_batches_text = refl

-- the same over trees with delayed merges
many_delayed_batches_text : text_from (current mmb 8) many_batches (lines (codes "info" ∷ codes "prune 769" ∷ codes "prune 768" ∷ codes "info" ∷ codes "chunks 0 1" ∷ codes "open max=768" ∷ codes "open max=769" ∷ codes "open max=798" ∷ codes "info" ∷ codes "held 6b" ∷ [])) ≡ lines (codes "info 0 799 797 512 live" ∷ codes "refused PruneBeyondMinRequired 769 512" ∷ codes "refused PruneBeyondMinRequired 768 512" ∷ codes "info 0 799 797 512 live" ∷ codes "chunks 1 1 yes" ∷ codes "open 2 0 766" ∷ codes "open 3 0 766" ∷ codes "open 4 0 766" ∷ codes "info 0 766 764 0 live" ∷ codes "held 764 yes" ∷ [])
unfolding decode_pairs encode_with digits digits_below four_bytes eight_bytes ones ones_in count_leading_zeros
many_delayed_batches_text = refl
