-- Worked scripts, from bytes to bytes.
use Rattle.std.specs.Prelude.{true, ℕ, ◌≡◌, ◌+◌, ◌^◌, ◌++◌, List, [], ◌∷◌, Some, None, refl, codes, flat_map, map}
use Rattle.std.specs.List.{join_with_byte}
use Rattle.std.specs.Fmt.{digits}
use Rattle.hex.specs.Hex.{decode_pairs, encode_with}
use Rattle.qm_model.specs.Operations.{Bytes, Operation, update, delete, commit, four_bytes, eight_bytes}
use Rattle.qm_model.specs.Forms.{variable}
use Rattle.qm_model.specs.Live.{floor}
use Rattle.qm_model.specs.Mmr.{mmr, digits_below}
use Rattle.qm_model.specs.Proofs.{ops_proof, pins_at}
use Rattle.qm_model.specs.Policies.{Policy, policies, proportional, hold, bounded, rule}
use Rattle.qm_model.specs.Ranges.{included, excluded, unlimited}
use Rattle.qm_machine.specs.Lines.{Line, Open, Crash, Child, Put, Del, Merkleize, Get, Many, Next, Range, Keys, Prove, Pins, Current, Prune, Held, Absent, Chunks, Witness}
use Rattle.qm_model.specs.Refused.{DataCorrupted, FloorExceedsCommit, InvalidInitializationBound, ItemDoesNotDecode, Journal, LinksFormNoRing, NoRetainedCommit, Merkle, ElementPruned, ItemPruned, ItemTooLarge, LocationOverflow, MissingNode}
use Rattle.qm_model.specs.Refusals.{too_many}
use Rattle.qm_model.specs.Own.{no_log}
use Rattle.qm_machine.specs.Machine.{initial, answers}
use Rattle.qm_model.specs.Schemes.{Scheme}
use Rattle.qm_machine.specs.Grammar.{line_of, commands_in, bad_in}
use Rattle.qm_machine.specs.Text.{operation_text, refused_text, text_of}
use lib.Count.{ones, ones_in}

-- a hash that is the same of all bytes
abbrev same : Bytes → Bytes
same bytes = 0x00 ∷ 0x2a ∷ []

-- a root under which lists of one length collide, which these rows do not tell from a real one
abbrev toy : Scheme
toy = record { form = variable; shape = mmr; hash = same; digest_size = 2; root = λ ops. same []; canonical = λ ops. same []; boundary = floor; proof = ops_proof same mmr variable; pins = pins_at same mmr variable; grafts = None }

-- the keys and values of a list's operations, which tell its lists apart here
abbrev said : Operation → Bytes
said (update k v n) = k ++ v
said (delete k) = k
said (commit m f) = []

abbrev telling : Scheme
telling = record toy { root = λ ops. flat_map said ops; canonical = λ ops. flat_map said ops }

abbrev lines : List Bytes → Bytes
lines ls = join_with_byte 10 ls ++ 10 ∷ []

abbrev text : Bytes → Bytes
text input = text_of (answers toy policies (initial no_log []) (commands_in input))

abbrev forked : Bytes → Bytes
forked input = text_of (answers telling policies (initial no_log []) (commands_in input))

-- of an ordered database
abbrev in_order : Bytes → Bytes
in_order input = text_of (answers (record toy { form = record variable { ordered = true } }) policies (initial no_log []) (commands_in input))

-- over a store that keeps what a crash asks for
abbrev asked : Line Policy → List ℕ
asked (Crash keep) = keep ∷ []
asked line = []

abbrev lasting : Bytes → Bytes
lasting input = text_of (answers telling policies (initial no_log (flat_map asked (commands_in input))) (commands_in input))

-- a rule that spares the last entry: what it evicts is told
abbrev held_start : List Bytes
held_start = codes "open" ∷ codes "batch" ∷ codes "put 1 61 01" ∷ codes "put 1 62 02" ∷ codes "merkleize 1 hold none" ∷ codes "apply 1" ∷ codes "batch" ∷ codes "batch" ∷ []

abbrev held_started : List Bytes
held_started = codes "open 1 0 1" ∷ codes "batch 1" ∷ codes "ok" ∷ codes "ok" ∷ codes "merkleized 1 1 4 0" ∷ codes "applied 4" ∷ codes "batch 2" ∷ codes "batch 3" ∷ []

evicted_text : text (lines (held_start ++ codes "merkleize 2 rule:2:9:drop=01:spare=1 none" ∷ codes "ops 2" ∷ codes "evicted 2" ∷ []))
    ≡ lines (held_started ++ codes "merkleized 2 4 7 3" ∷ codes "ops 4 D:61 U:62=02 C:none@3" ∷ codes "evicted 61=01" ∷ [])
unfolding digits ones ones_in digits_below decode_pairs encode_with four_bytes eight_bytes
evicted_text = refl

spared_text : text (lines (held_start ++ codes "merkleize 3 rule:2:9:drop=02:spare=1 none" ∷ codes "ops 3" ∷ codes "evicted 3" ∷ codes "evicted 2" ∷ codes "tip" ∷ codes "evicted 4" ∷ []))
    ≡ lines (held_started ++ codes "merkleized 3 4 7 3" ∷ codes "ops 4 U:61=01 U:62=02 C:none@3" ∷ codes "evicted" ∷ codes "refused NoSuchHandle 2" ∷ codes "batch 4" ∷ codes "evicted" ∷ [])
unfolding digits ones ones_in digits_below decode_pairs encode_with four_bytes eight_bytes
spared_text = refl

-- one put, read back
one_put_text : text (lines (codes "open" ∷ codes "batch" ∷ codes "put 1 6b 76" ∷ codes "merkleize 1 prop none" ∷ codes "apply 1" ∷ codes "ops 1" ∷ codes "get 6b" ∷ codes "info" ∷ []))
    ≡ lines (codes "open 1 0 1" ∷ codes "batch 1" ∷ codes "ok" ∷ codes "merkleized 1 1 4 2" ∷ codes "applied 4" ∷ codes "ops 1 U:6b=76 U:6b=76 C:none@2" ∷ codes "read 76" ∷ codes "info 0 4 2 2 live" ∷ [])
unfolding decode_pairs encode_with digits digits_below four_bytes eight_bytes
one_put_text = refl

-- the root and the operations root, in lower case
root_text : text (lines (codes "open" ∷ codes "root" ∷ [])) ≡ lines (codes "open 1 0 1" ∷ codes "root 002a 002a" ∷ [])
unfolding encode_with digits digits_below
root_text = refl

-- a stale batch, its number used up, and a second opening
stale_text : text (lines (codes "open" ∷ codes "batch" ∷ codes "batch" ∷ codes "put 1 61 01" ∷ codes "merkleize 1 prop none" ∷ codes "apply 1" ∷ codes "merkleize 2 prop none" ∷ codes "apply 2" ∷ codes "open" ∷ []))
    ≡ lines (codes "open 1 0 1" ∷ codes "batch 1" ∷ codes "batch 2" ∷ codes "ok" ∷ codes "merkleized 1 1 4 2" ∷ codes "applied 4" ∷ codes "refused StaleBatch" ∷ codes "refused NoSuchHandle 2" ∷ codes "open 2 0 4" ∷ [])
unfolding decode_pairs encode_with digits digits_below four_bytes eight_bytes
stale_text = refl

-- one put, then its key deleted
put_and_delete_text : text (lines (codes "open" ∷ codes "batch" ∷ codes "put 1 6b 76" ∷ codes "merkleize 1 prop none" ∷ codes "apply 1" ∷ codes "batch" ∷ codes "del 2 6b" ∷ codes "merkleize 2 prop none" ∷ codes "ops 2" ∷ codes "apply 2" ∷ codes "get 6b" ∷ []))
    ≡ lines (codes "open 1 0 1" ∷ codes "batch 1" ∷ codes "ok" ∷ codes "merkleized 1 1 4 2" ∷ codes "applied 4" ∷ codes "batch 2" ∷ codes "ok" ∷ codes "merkleized 2 4 6 5" ∷ codes "ops 4 D:6b C:none@5" ∷ codes "applied 6" ∷ codes "read none" ∷ [])
unfolding decode_pairs encode_with digits digits_below four_bytes eight_bytes
put_and_delete_text = refl

-- a delete of an absent key, metadata with and without bytes, and writes to a batch that is merkleized or none
metadata_text : text (lines (codes "open" ∷ codes "meta" ∷ codes "batch" ∷ codes "del 1 6b" ∷ codes "merkleize 1 prop aAbb" ∷ codes "ops 1" ∷ codes "apply 1" ∷ codes "meta" ∷ codes "batch" ∷ codes "merkleize 2 prop -" ∷ codes "meta" ∷ codes "apply 2" ∷ codes "meta" ∷ codes "del 2 6b" ∷ codes "del 9 6b" ∷ []))
    ≡ lines (codes "open 1 0 1" ∷ codes "meta none" ∷ codes "batch 1" ∷ codes "ok" ∷ codes "merkleized 1 1 2 1" ∷ codes "ops 1 C:aabb@1" ∷ codes "applied 2" ∷ codes "meta aabb" ∷ codes "batch 2" ∷ codes "merkleized 2 2 3 2" ∷ codes "meta aabb" ∷ codes "applied 3" ∷ codes "meta -" ∷ codes "refused NoSuchHandle 2" ∷ codes "refused NoSuchHandle 9" ∷ [])
unfolding decode_pairs encode_with digits digits_below four_bytes eight_bytes
metadata_text = refl

-- a delete of an absent key alone
absent_text : text (lines (codes "open" ∷ codes "batch" ∷ codes "del 1 6b" ∷ codes "merkleize 1 prop none" ∷ codes "ops 1" ∷ codes "apply 1" ∷ []))
    ≡ lines (codes "open 1 0 1" ∷ codes "batch 1" ∷ codes "ok" ∷ codes "merkleized 1 1 2 1" ∷ codes "ops 1 C:none@1" ∷ codes "applied 2" ∷ [])
unfolding decode_pairs encode_with digits digits_below four_bytes eight_bytes
absent_text = refl

-- no database, and no line
closed_text : text (lines (codes "info" ∷ codes "ops 1" ∷ codes "merkleize 1 prop none" ∷ codes "del 1 6b" ∷ codes "root" ∷ codes "meta" ∷ []))
    ≡ lines (codes "refused NoDatabase" ∷ codes "refused NoSuchHandle 1" ∷ codes "refused NoDatabase" ∷ codes "refused NoSuchHandle 1" ∷ codes "refused NoDatabase" ∷ codes "refused NoDatabase" ∷ [])
unfolding decode_pairs digits
closed_text = refl

-- proofs and pins, and their refusals
proved_text : text (lines (codes "open" ∷ codes "batch" ∷ codes "put 1 6b 76" ∷ codes "merkleize 1 prop none" ∷ codes "apply 1" ∷ codes "prove 4 0 9" ∷ codes "prove 4 1 2" ∷ codes "prove 1 0 1" ∷ codes "prove 3 0 1" ∷ codes "prove 0 0 1" ∷ codes "prove 5 0 1" ∷ codes "prove 4 4 1" ∷ codes "pins 0" ∷ codes "pins 3" ∷ codes "pins 4" ∷ codes "pins 5" ∷ codes "meta" ∷ []))
    ≡ lines (codes "open 1 0 1" ∷ codes "batch 1" ∷ codes "ok" ∷ codes "merkleized 1 1 4 2" ∷ codes "applied 4" ∷ codes "proof 4 0 / C:none@0 U:6b=76 U:6b=76 C:none@2" ∷ codes "proof 4 0 002a 002a / U:6b=76 U:6b=76" ∷ codes "proof 1 0 / C:none@0" ∷ codes "refused HistoricalFloorPruned 3" ∷ codes "refused HistoricalFloorPruned 0" ∷ codes "refused Merkle RangeOutOfBounds 5" ∷ codes "refused Merkle RangeOutOfBounds 4" ∷ codes "pins" ∷ codes "pins 002a 002a" ∷ codes "pins 002a" ∷ codes "refused Merkle RangeOutOfBounds 5" ∷ codes "meta none" ∷ [])
unfolding decode_pairs encode_with digits digits_below four_bytes eight_bytes ones ones_in
proved_text = refl

-- proofs and pins of no database
unproved_text : text (lines (codes "prove 1 0 1" ∷ codes "pins 0" ∷ [])) ≡ lines (codes "refused NoDatabase" ∷ codes "refused NoDatabase" ∷ [])
unproved_text = refl

-- two batches of one database: the second is stale once the first is applied
siblings_text : forked (lines (codes "open" ∷ codes "batch" ∷ codes "put 1 61 01" ∷ codes "batch" ∷ codes "put 2 61 02" ∷ codes "merkleize 1 prop none" ∷ codes "merkleize 2 prop none" ∷ codes "get 61 from=1" ∷ codes "apply 1" ∷ codes "apply 2" ∷ codes "get 61 from=2" ∷ codes "get 61 from=1" ∷ codes "many 61 62 from=1" ∷ codes "get 61" ∷ []))
    ≡ lines (codes "open 1 0 1" ∷ codes "batch 1" ∷ codes "ok" ∷ codes "batch 2" ∷ codes "ok" ∷ codes "merkleized 1 1 4 2" ∷ codes "merkleized 2 1 4 2" ∷ codes "read 01" ∷ codes "applied 4" ∷ codes "refused StaleBatch" ∷ codes "refused StaleRead" ∷ codes "read 01" ∷ codes "read 01 none" ∷ codes "read 01" ∷ [])
unfolding decode_pairs encode_with digits digits_below four_bytes eight_bytes
siblings_text = refl

-- a child applied in one step, its parent after it, and the database as a batch
one_step_text : forked (lines (codes "open" ∷ codes "batch" ∷ codes "put 1 61 01" ∷ codes "merkleize 1 prop none" ∷ codes "child 1" ∷ codes "put 2 62 02" ∷ codes "get 61 from=2" ∷ codes "merkleize 2 prop none" ∷ codes "ops 2" ∷ codes "apply 2" ∷ codes "apply 1" ∷ codes "tip" ∷ codes "ops 3" ∷ codes "apply 3" ∷ codes "info 2" ∷ codes "get 62 from=1" ∷ []))
    ≡ lines (codes "open 1 0 1" ∷ codes "batch 1" ∷ codes "ok" ∷ codes "merkleized 1 1 4 2" ∷ codes "batch 2" ∷ codes "ok" ∷ codes "read 01" ∷ codes "merkleized 2 4 7 3" ∷ codes "ops 4 U:62=02 U:61=01 C:none@3" ∷ codes "applied 7" ∷ codes "refused StaleBatch" ∷ codes "batch 3" ∷ codes "ops 7" ∷ codes "applied 7" ∷ codes "info 4 7 3 3" ∷ codes "refused StaleRead" ∷ [])
unfolding decode_pairs encode_with digits digits_below four_bytes eight_bytes
one_step_text = refl

-- a child that keeps its parent alone fits once the parent's parent is applied
kept_text : forked (lines (codes "open" ∷ codes "batch" ∷ codes "put 1 61 01" ∷ codes "merkleize 1 prop none" ∷ codes "child 1" ∷ codes "put 2 62 02" ∷ codes "merkleize 2 prop none" ∷ codes "child 2 keep=0" ∷ codes "get 62 from=3" ∷ codes "merkleize 3 prop none" ∷ codes "put 3 63 03" ∷ codes "apply 1" ∷ codes "child 2 keep=0" ∷ codes "put 4 63 03" ∷ codes "merkleize 4 prop none" ∷ codes "apply 4" ∷ []))
    ≡ lines (codes "open 1 0 1" ∷ codes "batch 1" ∷ codes "ok" ∷ codes "merkleized 1 1 4 2" ∷ codes "batch 2" ∷ codes "ok" ∷ codes "merkleized 2 4 7 3" ∷ codes "batch 3" ∷ codes "read 02" ∷ codes "refused StaleBatch" ∷ codes "refused NoSuchHandle 3" ∷ codes "applied 4" ∷ codes "batch 4" ∷ codes "ok" ∷ codes "merkleized 4 7 10 5" ∷ codes "applied 10" ∷ [])
unfolding decode_pairs encode_with digits digits_below four_bytes eight_bytes
kept_text = refl

-- a batch's proof, numbers and root before it is applied, and what a number does not name
batch_proof_text : forked (lines (codes "open" ∷ codes "batch" ∷ codes "put 1 6b 76" ∷ codes "child 1" ∷ codes "proof 1" ∷ codes "merkleize 1 prop none" ∷ codes "proof 1" ∷ codes "info 1" ∷ codes "root 1" ∷ codes "proof 2" ∷ codes "info 2" ∷ codes "root 2" ∷ codes "child 2" ∷ codes "get 6b from=2" ∷ []))
    ≡ lines (codes "open 1 0 1" ∷ codes "batch 1" ∷ codes "ok" ∷ codes "refused NoSuchHandle 1" ∷ codes "refused NoSuchHandle 1" ∷ codes "merkleized 1 1 4 2" ∷ codes "proof 4 0 002a / 002a" ∷ codes "info 1 4 2 2" ∷ codes "root 6b766b76 6b766b76" ∷ codes "refused NoSuchHandle 2" ∷ codes "refused NoSuchHandle 2" ∷ codes "refused NoSuchHandle 2" ∷ codes "refused NoSuchHandle 2" ∷ codes "refused NoSuchHandle 2" ∷ [])
unfolding decode_pairs encode_with digits digits_below four_bytes eight_bytes ones ones_in
batch_proof_text = refl

-- without a database
no_database_text : forked (lines (codes "tip" ∷ codes "get 6b" ∷ codes "many 6b" ∷ codes "get 6b from=1" ∷ codes "proof 1" ∷ codes "child 1 keep=2" ∷ codes "info 1" ∷ codes "root 1" ∷ []))
    ≡ lines (codes "refused NoDatabase" ∷ codes "refused NoDatabase" ∷ codes "refused NoDatabase" ∷ codes "refused NoDatabase" ∷ codes "refused NoDatabase" ∷ codes "refused NoSuchHandle 1" ∷ codes "refused NoSuchHandle 1" ∷ codes "refused NoSuchHandle 1" ∷ [])
unfolding decode_pairs encode_with digits digits_below four_bytes eight_bytes
no_database_text = refl

-- a settled list of 4 operations, and 3 more after it
settled_lines : List Bytes
settled_lines = codes "open" ∷ codes "batch" ∷ codes "put 1 6b 76" ∷ codes "merkleize 1 prop none" ∷ codes "apply 1" ∷ codes "commit" ∷ codes "batch" ∷ codes "put 2 6c 77" ∷ codes "merkleize 2 prop none" ∷ codes "apply 2" ∷ []

settled_replies : List Bytes
settled_replies = codes "open 1 0 1" ∷ codes "batch 1" ∷ codes "ok" ∷ codes "merkleized 1 1 4 2" ∷ codes "applied 4" ∷ codes "ok" ∷ codes "batch 2" ∷ codes "ok" ∷ codes "merkleized 2 4 7 3" ∷ codes "applied 7" ∷ []

-- a crash that left the settled list, or more but not all of what follows it
crash_keeping_none : lasting (lines (settled_lines ++ codes "crash 0" ∷ codes "open" ∷ [])) ≡ lines (settled_replies ++ codes "ok" ∷ codes "open 2 0 4" ∷ [])
unfolding settled_lines settled_replies decode_pairs encode_with digits digits_below four_bytes eight_bytes
crash_keeping_none = refl

crash_keeping_some : lasting (lines (settled_lines ++ codes "crash 6" ∷ codes "open" ∷ [])) ≡ lines (settled_replies ++ codes "ok" ∷ codes "open 2 0 4" ∷ [])
unfolding settled_lines settled_replies decode_pairs encode_with digits digits_below four_bytes eight_bytes
crash_keeping_some = refl

-- and one that left all
crash_keeping_all : lasting (lines (settled_lines ++ codes "crash 7" ∷ codes "open" ∷ codes "get 6c" ∷ [])) ≡ lines (settled_replies ++ codes "ok" ∷ codes "open 2 0 7" ∷ codes "read 77" ∷ [])
unfolding settled_lines settled_replies decode_pairs encode_with digits digits_below four_bytes eight_bytes
crash_keeping_all = refl

-- nothing is committed but the fresh list
crash_uncommitted : lasting (lines (codes "open" ∷ codes "batch" ∷ codes "put 1 6b 76" ∷ codes "merkleize 1 prop none" ∷ codes "apply 1" ∷ codes "crash 3" ∷ codes "open" ∷ codes "info" ∷ []))
    ≡ lines (codes "open 1 0 1" ∷ codes "batch 1" ∷ codes "ok" ∷ codes "merkleized 1 1 4 2" ∷ codes "applied 4" ∷ codes "ok" ∷ codes "open 2 0 1" ∷ codes "info 0 1 0 0 empty" ∷ [])
unfolding decode_pairs encode_with digits digits_below four_bytes eight_bytes
crash_uncommitted = refl

-- a bound cuts the store to the list that is opened, and a refused opening leaves no database and takes no number
bounded_text : lasting (lines (settled_lines ++ codes "open max=0" ∷ codes "info" ∷ codes "open max=6" ∷ codes "apply 2" ∷ codes "open max=7" ∷ codes "crash 0" ∷ codes "open max=1" ∷ codes "open" ∷ []))
    ≡ lines (settled_replies ++ codes "refused InvalidInitializationBound" ∷ codes "refused NoDatabase" ∷ codes "open 2 0 4" ∷ codes "applied 7" ∷ codes "open 3 0 7" ∷ codes "ok" ∷ codes "open 4 0 1" ∷ codes "open 5 0 1" ∷ [])
unfolding settled_lines settled_replies decode_pairs encode_with digits digits_below four_bytes eight_bytes
bounded_text = refl

-- pruned up to the boundary and no further, and what is refused below the start
pruned_text : lasting (lines (settled_lines ++ codes "prune 4" ∷ codes "prune 3" ∷ codes "info" ∷ codes "get 6b" ∷ codes "get 6c" ∷ codes "prune 1" ∷ codes "info" ∷ codes "prove 7 0 1" ∷ codes "prove 3 0 1" ∷ codes "prove 7 7 1" ∷ codes "prove 7 2 9" ∷ codes "pins 1" ∷ codes "pins 8" ∷ codes "root 9" ∷ codes "open max=3" ∷ codes "open" ∷ codes "info" ∷ codes "commit" ∷ codes "crash 0" ∷ codes "open" ∷ codes "get 6b" ∷ []))
    ≡ lines (settled_replies ++ codes "refused PruneBeyondMinRequired 4 3" ∷ codes "ok" ∷ codes "info 3 7 3 3 live" ∷ codes "read 76" ∷ codes "read 77" ∷ codes "ok" ∷ codes "info 3 7 3 3 live" ∷ codes "refused Journal ItemPruned 0" ∷ codes "refused Journal ItemPruned 2" ∷ codes "refused Merkle RangeOutOfBounds 7" ∷ codes "refused Journal ItemPruned 2" ∷ codes "refused Merkle ElementPruned 0" ∷ codes "refused Merkle RangeOutOfBounds 8" ∷ codes "refused NoSuchHandle 9" ∷ codes "refused DataCorrupted no retained commit" ∷ codes "open 2 3 7" ∷ codes "info 3 7 3 3 live" ∷ codes "ok" ∷ codes "ok" ∷ codes "open 3 3 7" ∷ codes "read 76" ∷ [])
unfolding settled_lines settled_replies decode_pairs encode_with digits digits_below four_bytes eight_bytes ones ones_in
pruned_text = refl

-- nor is a batch proved whose pins were pruned
pruned_proof_text : lasting (lines (codes "open" ∷ codes "batch" ∷ codes "put 1 6b 76" ∷ codes "merkleize 1 prop none" ∷ codes "apply 1" ∷ codes "proof 1" ∷ codes "prune 2" ∷ codes "proof 1" ∷ codes "pins 1" ∷ codes "pins 2" ∷ codes "child 1" ∷ codes "merkleize 2 prop none" ∷ codes "proof 2" ∷ []))
    ≡ lines (codes "open 1 0 1" ∷ codes "batch 1" ∷ codes "ok" ∷ codes "merkleized 1 1 4 2" ∷ codes "applied 4" ∷ codes "proof 4 0 002a / 002a" ∷ codes "ok" ∷ codes "refused Merkle ElementPruned 0" ∷ codes "refused Merkle ElementPruned 0" ∷ codes "pins 002a" ∷ codes "batch 2" ∷ codes "merkleized 2 4 6 3" ∷ codes "proof 6 0 002a / 002a" ∷ [])
unfolding decode_pairs encode_with digits digits_below four_bytes eight_bytes ones ones_in
pruned_proof_text = refl

-- a prune makes the list stable
prune_settles : lasting (lines (codes "open" ∷ codes "batch" ∷ codes "put 1 6b 76" ∷ codes "merkleize 1 prop none" ∷ codes "apply 1" ∷ codes "prune 1" ∷ codes "batch" ∷ codes "merkleize 2 prop none" ∷ codes "apply 2" ∷ codes "crash 0" ∷ codes "open" ∷ codes "info" ∷ []))
    ≡ lines (codes "open 1 0 1" ∷ codes "batch 1" ∷ codes "ok" ∷ codes "merkleized 1 1 4 2" ∷ codes "applied 4" ∷ codes "ok" ∷ codes "batch 2" ∷ codes "merkleized 2 4 6 3" ∷ codes "applied 6" ∷ codes "ok" ∷ codes "open 2 1 4" ∷ codes "info 1 4 2 2 live" ∷ [])
unfolding decode_pairs encode_with digits digits_below four_bytes eight_bytes ones ones_in
prune_settles = refl

-- without a database, and of the fresh list
prune_fresh : lasting (lines (codes "prune 0" ∷ codes "open" ∷ codes "prune 0" ∷ codes "prune 1" ∷ codes "info" ∷ [])) ≡ lines (codes "refused NoDatabase" ∷ codes "open 1 0 1" ∷ codes "ok" ∷ codes "refused PruneBeyondMinRequired 1 0" ∷ codes "info 0 1 0 0 empty" ∷ [])
unfolding decode_pairs encode_with digits digits_below four_bytes eight_bytes ones ones_in
prune_fresh = refl

-- a destroyed store is opened as a fresh one; what is closed is there when it is opened again
destroyed_text : lasting (lines (settled_lines ++ codes "close" ∷ codes "get 6b" ∷ codes "open" ∷ codes "get 6b" ∷ codes "destroy" ∷ codes "sync" ∷ codes "open" ∷ codes "info" ∷ []))
    ≡ lines (settled_replies ++ codes "ok" ∷ codes "refused NoDatabase" ∷ codes "open 2 0 7" ∷ codes "read 76" ∷ codes "ok" ∷ codes "refused NoDatabase" ∷ codes "open 3 0 1" ∷ codes "info 0 1 0 0 empty" ∷ [])
unfolding settled_lines settled_replies decode_pairs encode_with digits digits_below four_bytes eight_bytes
destroyed_text = refl

-- an ordered one is taken up with its links
in_order_again : in_order (lines (codes "open" ∷ codes "batch" ∷ codes "put 1 61 01" ∷ codes "put 1 63 03" ∷ codes "merkleize 1 hold none" ∷ codes "apply 1" ∷ codes "open" ∷ codes "span 62" ∷ []))
    ≡ lines (codes "open 1 0 1" ∷ codes "batch 1" ∷ codes "ok" ∷ codes "ok" ∷ codes "merkleized 1 1 4 0" ∷ codes "applied 4" ∷ codes "open 2 0 4" ∷ codes "span 1 61 01 63" ∷ [])
unfolding decode_pairs encode_with digits digits_below four_bytes eight_bytes
in_order_again = refl

-- without a database
not_lasting_text : lasting (lines (codes "crash 9" ∷ codes "commit" ∷ codes "sync" ∷ codes "close" ∷ codes "destroy" ∷ codes "open max=1" ∷ []))
    ≡ lines (codes "ok" ∷ codes "refused NoDatabase" ∷ codes "refused NoDatabase" ∷ codes "refused NoDatabase" ∷ codes "refused NoDatabase" ∷ codes "open 1 0 1" ∷ [])
unfolding decode_pairs encode_with digits digits_below four_bytes eight_bytes
not_lasting_text = refl

bad_second : bad_in (codes "open" ++ 10 ∷ codes "put 1 6") ≡ Some 2
unfolding decode_pairs
bad_second = refl

-- a list of as many operations as there may be, and of one more
largest_list : too_many (2 ^ 62) ≡ None
largest_list = refl

too_large_list : too_many (2 ^ 62 + 1) ≡ Some (Merkle (LocationOverflow (2 ^ 62 + 1)))
too_large_list = refl

no_lines : bad_in [] ≡ None
no_lines = refl

-- Single lines.

upper_case : line_of (codes "put 12 6B -") ≡ Some (Put 12 (0x6b ∷ []) [])
unfolding decode_pairs
upper_case = refl

empty_metadata : line_of (codes "merkleize 1 prop -") ≡ Some (Merkleize 1 proportional (Some []))
unfolding decode_pairs
empty_metadata = refl

deleted : line_of (codes "del 0 6B00") ≡ Some (Del 0 (0x6b ∷ 0 ∷ []))
unfolding decode_pairs
deleted = refl

deleted_value : line_of (codes "del 1 6b 76") ≡ None
deleted_value = refl

largest_number : line_of (codes "merkleize 18446744073709551615 prop none") ≡ Some (Merkleize 18446744073709551615 proportional None)
largest_number = refl

too_large : line_of (codes "apply 18446744073709551616") ≡ None
too_large = refl

leading_zero : line_of (codes "apply 01") ≡ None
leading_zero = refl

proved : line_of (codes "prove 4 0 9") ≡ Some (Prove 4 0 9)
proved = refl

proved_none : line_of (codes "prove 4 0 0") ≡ None
proved_none = refl

pinned : line_of (codes "pins 0") ≡ Some (Pins 0)
pinned = refl

bounded_open : line_of (codes "open max=18446744073709551615") ≡ Some (Open (Some 18446744073709551615))
bounded_open = refl

unbounded_open : line_of (codes "open max=") ≡ None
unbounded_open = refl

crash_alone : line_of (codes "crash") ≡ None
crash_alone = refl

crash_keeping : line_of (codes "crash 0") ≡ Some (Crash 0)
crash_keeping = refl

pruned_to : line_of (codes "prune 3") ≡ Some (Prune 3)
pruned_to = refl

held_key : line_of (codes "held 61") ≡ Some (Current (Held (0x61 ∷ [])))
unfolding decode_pairs
held_key = refl

absent_key : line_of (codes "absent 61") ≡ Some (Current (Absent (0x61 ∷ [])))
unfolding decode_pairs
absent_key = refl

some_chunks : line_of (codes "chunks 0 4") ≡ Some (Current (Chunks 0 4))
some_chunks = refl

no_chunks : line_of (codes "chunks 0 0") ≡ None
no_chunks = refl

witness_alone : line_of (codes "witness") ≡ Some (Current Witness)
witness_alone = refl

witness_of_one : line_of (codes "witness 1") ≡ None
witness_of_one = refl

two_spaces : line_of (codes "apply  1") ≡ None
two_spaces = refl

empty_line : line_of [] ≡ None
empty_line = refl

child_keeping : line_of (codes "child 7 keep=0") ≡ Some (Child 7 (Some 0))
child_keeping = refl

child_keeping_all : line_of (codes "child 7") ≡ Some (Child 7 None)
child_keeping_all = refl

child_keeping_nothing : line_of (codes "child 7 keep=") ≡ None
child_keeping_nothing = refl

read_from : line_of (codes "get 6b from=3") ≡ Some (Get (0x6b ∷ []) (Some 3))
unfolding decode_pairs
read_from = refl

read_two : line_of (codes "get 6b 6c") ≡ None
unfolding decode_pairs
read_two = refl

read_many : line_of (codes "many 6b 6c 6b from=0") ≡ Some (Many ((0x6b ∷ []) ∷ (0x6c ∷ []) ∷ (0x6b ∷ []) ∷ []) (Some 0))
unfolding decode_pairs
read_many = refl

read_no_key : line_of (codes "many from=3") ≡ None
read_no_key = refl

from_in_the_middle : line_of (codes "many 6b from=3 6b") ≡ None
unfolding decode_pairs
from_in_the_middle = refl

-- policies
merkleize_at : Policy → Bytes → Type 0
merkleize_at policy word = line_of (codes "merkleize 2 " ++ (word ++ codes " none")) ≡ Some (Merkleize 2 policy None)

hold_line : merkleize_at hold (codes "hold")
unfolding merkleize_at
hold_line = refl

bounded_line : merkleize_at (bounded 3 18446744073709551615) (codes "bounded:3:18446744073709551615")
unfolding merkleize_at
bounded_line = refl

rule_line : merkleize_at (rule 2 9 None None None None) (codes "rule:2:9")
unfolding merkleize_at
rule_line = refl

whole_rule_line : merkleize_at (rule 2 9 (Some (2 ∷ [])) (Some []) (Some (1 ∷ [], 0x0a ∷ [])) None) (codes "rule:2:9:drop=02:stop=-:swap=01>0A")
unfolding merkleize_at decode_pairs
whole_rule_line = refl

spared_rule_line : merkleize_at (rule 2 9 (Some (1 ∷ [])) None None (Some 1)) (codes "rule:2:9:drop=01:spare=1")
unfolding merkleize_at decode_pairs
spared_rule_line = refl

-- what is no policy: other words, parts in another order or twice, no value, half a swap
no_policy : Bytes → Type 0
no_policy word = line_of (codes "merkleize 2 " ++ (word ++ codes " none")) ≡ None

hold_with_part : no_policy (codes "hold:1")
unfolding no_policy
hold_with_part = refl

bounded_without_skips : no_policy (codes "bounded:1")
unfolding no_policy
bounded_without_skips = refl

padded_entries : no_policy (codes "bounded:01:1")
unfolding no_policy
padded_entries = refl

other_order : no_policy (codes "rule:1:1:stop=01:drop=02")
unfolding no_policy decode_pairs
other_order = refl

drop_twice : no_policy (codes "rule:1:1:drop=01:drop=02")
unfolding no_policy decode_pairs
drop_twice = refl

no_value : no_policy (codes "rule:1:1:drop=")
unfolding no_policy decode_pairs
no_value = refl

half_swap : no_policy (codes "rule:1:1:swap=01")
unfolding no_policy decode_pairs
half_swap = refl

-- staged reads: slots in order, a write after them that counts, and slots that are too few
staged_start : List Bytes
staged_start = codes "open" ∷ codes "batch" ∷ codes "put 1 61 01" ∷ codes "merkleize 1 prop none" ∷ codes "apply 1" ∷ codes "batch" ∷ codes "stage 2 61 61 61" ∷ []

staged_started : List Bytes
staged_started = codes "open 1 0 1" ∷ codes "batch 1" ∷ codes "ok" ∷ codes "merkleized 1 1 4 2" ∷ codes "applied 4" ∷ codes "batch 2" ∷ codes "read 01 01 01" ∷ []

slots_text : text (lines (staged_start ++ codes "resolve 2 prop none put:05 del keep" ∷ codes "ops 2" ∷ [])) ≡ lines (staged_started ++ codes "merkleized 2 4 6 5" ∷ codes "ops 4 D:61 C:none@5" ∷ [])
unfolding staged_start staged_started decode_pairs encode_with digits digits_below four_bytes eight_bytes
slots_text = refl

others_text : text (lines (staged_start ++ codes "resolve 2 prop none put:05 del keep 61=09" ∷ codes "ops 2" ∷ [])) ≡ lines (staged_started ++ codes "merkleized 2 4 7 5" ∷ codes "ops 4 U:61=09 U:61=09 C:none@5" ∷ [])
unfolding staged_start staged_started decode_pairs encode_with digits digits_below four_bytes eight_bytes
others_text = refl

count_text : text (lines (staged_start ++ codes "expand 2 62" ∷ codes "resolve 2 prop none keep keep keep" ∷ codes "get 61 from=2" ∷ codes "stage 2 61" ∷ codes "resolve 1 prop none" ∷ []))
    ≡ lines (staged_started ++ codes "read 3 4 none" ∷ codes "refused SlotCount 4 3" ∷ codes "refused NoSuchHandle 2" ∷ codes "refused NoSuchHandle 2" ∷ codes "refused NoSuchHandle 1" ∷ [])
unfolding staged_start staged_started decode_pairs encode_with digits digits_below four_bytes eight_bytes
count_text = refl

-- staged keys of which an ancestor that was kept is applied meanwhile
staged_child : forked (lines (codes "open" ∷ codes "batch" ∷ codes "put 1 00 10" ∷ codes "put 1 01 11" ∷ codes "merkleize 1 prop none" ∷ codes "apply 1" ∷ codes "batch" ∷ codes "put 2 00 20" ∷ codes "put 2 64 21"
    ∷ codes "merkleize 2 prop none" ∷ codes "child 2" ∷ codes "put 3 01 22" ∷ codes "merkleize 3 hold none" ∷ codes "child 3" ∷ codes "stage 4 00 64" ∷ codes "apply 2" ∷ codes "resolve 4 hold none put:30 put:31" ∷ codes "ops 4" ∷ []))
    ≡ lines (codes "open 1 0 1" ∷ codes "batch 1" ∷ codes "ok" ∷ codes "ok" ∷ codes "merkleized 1 1 5 2" ∷ codes "applied 5" ∷ codes "batch 2" ∷ codes "ok" ∷ codes "ok"
    ∷ codes "merkleized 2 5 10 6" ∷ codes "batch 3" ∷ codes "ok" ∷ codes "merkleized 3 10 12 6" ∷ codes "batch 4" ∷ codes "read 20 21" ∷ codes "applied 10" ∷ codes "merkleized 4 12 15 6" ∷ codes "ops 12 U:64=31 U:00=30 C:none@6" ∷ [])
unfolding decode_pairs encode_with digits digits_below four_bytes eight_bytes
staged_child = refl

-- what is no line: a slot after a write, a write without a value, no key to stage
slot_behind_write : line_of (codes "resolve 2 hold none 61=01 keep") ≡ None
unfolding decode_pairs
slot_behind_write = refl

write_without_value : line_of (codes "resolve 2 hold none 61=") ≡ None
unfolding decode_pairs
write_without_value = refl

nothing_to_stage : line_of (codes "stage 2") ≡ None
nothing_to_stage = refl

slot_without_value : line_of (codes "resolve 2 hold none put:") ≡ None
unfolding decode_pairs
slot_without_value = refl

-- an ordered database of the keys 61 and 63: each update names the next key, neighbours do not go round, spans do
two_keys : List Bytes
two_keys = codes "open" ∷ codes "batch" ∷ codes "put 1 61 01" ∷ codes "put 1 63 03" ∷ codes "merkleize 1 hold aa" ∷ codes "ops 1" ∷ codes "apply 1" ∷ []

two_keys_made : List Bytes
two_keys_made = codes "open 1 0 1" ∷ codes "batch 1" ∷ codes "ok" ∷ codes "ok" ∷ codes "merkleized 1 1 4 0" ∷ codes "ops 1 U:61=01>63 U:63=03>61 C:aa@0" ∷ codes "applied 4" ∷ []

in_order_text : in_order (lines (two_keys ++ codes "next 61" ∷ codes "next 63" ∷ codes "prev 61" ∷ codes "prev 62" ∷ codes "span 62" ∷ codes "all 63" ∷ codes "all 62" ∷ codes "many 61 62" ∷ codes "range [61 63)" ∷ codes "keys * *" ∷ codes "meta" ∷ []))
    ≡ lines (two_keys_made ++ codes "key 63" ∷ codes "none" ∷ codes "none" ∷ codes "key 61" ∷ codes "span 1 61 01 63" ∷ codes "all 03 61" ∷ codes "none" ∷ codes "read 01 none" ∷ codes "range 61=01" ∷ codes "keys 61 63" ∷ codes "meta aa" ∷ [])
unfolding two_keys two_keys_made decode_pairs encode_with digits digits_below four_bytes eight_bytes
in_order_text = refl

-- a third key between them: its neighbour is written again; ranges that are reversed, empty and without an end
three_keys : List Bytes
three_keys = two_keys ++ codes "batch" ∷ codes "put 2 62 02" ∷ codes "merkleize 2 hold none" ∷ codes "ops 2" ∷ codes "next 61 from=2" ∷ codes "prev 63 from=2" ∷ codes "next 61" ∷ codes "apply 2" ∷ []

three_keys_made : List Bytes
three_keys_made = two_keys_made ++ codes "batch 2" ∷ codes "ok" ∷ codes "merkleized 2 4 7 0" ∷ codes "ops 4 U:62=02>63 U:61=01>62 C:none@0" ∷ codes "key 62" ∷ codes "key 62" ∷ codes "key 63" ∷ codes "applied 7" ∷ []

ranges_text : in_order (lines (three_keys ++ codes "range [63 61]" ∷ codes "range [62 62)" ∷ codes "range (61 *" ∷ codes "next 61 from=9" ∷ []))
    ≡ lines (three_keys_made ++ codes "range" ∷ codes "range" ∷ codes "range 62=02 63=03" ∷ codes "refused NoSuchHandle 9" ∷ [])
unfolding three_keys three_keys_made two_keys two_keys_made decode_pairs encode_with digits digits_below four_bytes eight_bytes
ranges_text = refl

-- one of them staged and deleted beside a new one
in_order_staged : in_order (lines (three_keys ++ codes "batch" ∷ codes "stage 3 62 64" ∷ codes "resolve 3 hold none del put:04" ∷ codes "ops 3" ∷ []))
    ≡ lines (three_keys_made ++ codes "batch 3" ∷ codes "read 02 none" ∷ codes "merkleized 3 7 12 0" ∷ codes "ops 7 D:62 U:64=04>61 U:63=03>64 U:61=01>63 C:none@0" ∷ [])
unfolding three_keys three_keys_made two_keys two_keys_made decode_pairs encode_with digits digits_below four_bytes eight_bytes
in_order_staged = refl

-- an unordered database offers none of these, before it is open and after
not_offered_text : text (lines (codes "next 61" ∷ codes "span 61" ∷ codes "open" ∷ codes "prev 61 from=9" ∷ codes "all 61" ∷ codes "range * *" ∷ codes "keys * *" ∷ []))
    ≡ lines (codes "refused NotOffered" ∷ codes "refused NotOffered" ∷ codes "open 1 0 1" ∷ codes "refused NotOffered" ∷ codes "refused NotOffered" ∷ codes "refused NotOffered" ∷ codes "refused NotOffered" ∷ [])
unfolding decode_pairs digits digits_below
not_offered_text = refl

-- nor what a current database alone does
not_current_text : text (lines (codes "held 61" ∷ codes "absent 61" ∷ codes "chunks 0 4" ∷ codes "witness" ∷ codes "open" ∷ codes "held 61" ∷ codes "absent 61" ∷ codes "chunks 0 4" ∷ codes "witness" ∷ []))
    ≡ lines (codes "refused NotOffered" ∷ codes "refused NotOffered" ∷ codes "refused NotOffered" ∷ codes "refused NotOffered" ∷ codes "open 1 0 1" ∷ codes "refused NotOffered" ∷ codes "refused NotOffered" ∷ codes "refused NotOffered" ∷ codes "refused NotOffered" ∷ [])
unfolding decode_pairs digits digits_below
not_current_text = refl

-- without a database
not_open_text : in_order (lines (codes "next 61" ∷ codes "next 61 from=9" ∷ codes "span 61" ∷ codes "keys * *" ∷ []))
    ≡ lines (codes "refused NoDatabase" ∷ codes "refused NoDatabase" ∷ codes "refused NoDatabase" ∷ codes "refused NoDatabase" ∷ [])
unfolding decode_pairs digits
not_open_text = refl

next_from : line_of (codes "next 61 from=2") ≡ Some (Next (0x61 ∷ []) (Some 2))
unfolding decode_pairs
next_from = refl

span_alone : line_of (codes "span 61 from=2") ≡ None
unfolding decode_pairs
span_alone = refl

half_open : line_of (codes "range [61 6B)") ≡ Some (Range (included (0x61 ∷ [])) (excluded (0x6b ∷ [])))
unfolding decode_pairs
half_open = refl

from_on : line_of (codes "keys (61 *") ≡ Some (Keys (excluded (0x61 ∷ [])) unlimited)
unfolding decode_pairs
from_on = refl

one_bracket : line_of (codes "keys [61 62") ≡ None
unfolding decode_pairs
one_bracket = refl

bracket_alone : line_of (codes "keys [ *") ≡ None
unfolding decode_pairs
bracket_alone = refl

-- what no run of the program shows so far
refused_texts : map refused_text (InvalidInitializationBound ∷ DataCorrupted NoRetainedCommit ∷ DataCorrupted LinksFormNoRing ∷ DataCorrupted FloorExceedsCommit ∷ DataCorrupted ItemDoesNotDecode ∷ [])
    ≡ codes "InvalidInitializationBound" ∷ codes "DataCorrupted no retained commit" ∷ codes "DataCorrupted links form no ring" ∷ codes "DataCorrupted inactivity floor exceeds commit location" ∷ codes "DataCorrupted item does not decode" ∷ []
refused_texts = refl

lower_texts : map refused_text (Merkle (LocationOverflow 4611686018427387905) ∷ Merkle (ElementPruned 2) ∷ Merkle (MissingNode 6) ∷ Journal (ItemTooLarge 65546) ∷ Journal (ItemPruned 0) ∷ [])
    ≡ codes "Merkle LocationOverflow 4611686018427387905" ∷ codes "Merkle ElementPruned 2" ∷ codes "Merkle MissingNode 6" ∷ codes "Journal ItemTooLarge 65546" ∷ codes "Journal ItemPruned 0" ∷ []
unfolding digits
lower_texts = refl

linked_text : operation_text (update (codes "k") (codes "v") (Some (codes "l"))) ≡ codes "U:6b=76>6c"
unfolding encode_with
linked_text = refl
