-- Commands and replies over byte strings, with policies of a type P.
use Rattle.std.specs.Prelude.{ℕ, Bool, List, Option}
use Rattle.qm_model.specs.Live.{Live}
use Rattle.qm_model.specs.Operations.{Bytes, Operation}
use Rattle.qm_model.specs.Proofs.{Proof}
use Rattle.qm_model.specs.Ranges.{Limit}
use Rattle.qm_model.specs.Refused.{Refused}
use Rattle.qm_model.specs.Slots.{Slot}
use Rattle.qm_model.specs.Writes.{Write}

-- what only a current database offers: a key's value or its absence, proved and checked; a range of chunks, from a location on
-- and so many at most; and a witness of the operations root
pub data Question : Type 0 where
  Held : Bytes → Question
  Absent : Bytes → Question
  Chunks : ℕ → ℕ → Question
  Witness : Question

-- what a line asks for; a batch goes by its number
pub data Line (P : Type 0) : Type 0 where
  -- up to a size, if one is given
  Open : Option ℕ → Line P
  Batch : Line P
  -- a child of a merkleized batch, which keeps so many of its kept ancestors, or all
  Child : ℕ → Option ℕ → Line P
  -- the database as a merkleized batch
  Tip : Line P
  Put : ℕ → Bytes → Bytes → Line P
  Del : ℕ → Bytes → Line P
  Merkleize : ℕ → P → Option Bytes → Line P
  -- keys, read through a batch, which becomes a staged one; and more of them
  Stage : ℕ → List Bytes → Line P
  Expand : ℕ → List Bytes → Line P
  -- what becomes of the staged keys, and other writes
  Resolve : ℕ → P → Option Bytes → List Slot → List Write → Line P
  Apply : ℕ → Line P
  Ops : ℕ → Line P
  -- what a merkleized batch evicted
  Evicted : ℕ → Line P
  -- keys, through the database or a batch
  Get : Bytes → Option ℕ → Line P
  Many : List Bytes → Option ℕ → Line P
  -- in an ordered database: the neighbours of a key, through the database or a batch
  Next : Bytes → Option ℕ → Line P
  Prev : Bytes → Option ℕ → Line P
  -- the live update whose span holds a key, and the key's own
  Span : Bytes → Line P
  All : Bytes → Line P
  -- a range, with values or without
  Range : Limit → Limit → Line P
  Keys : Limit → Limit → Line P
  Info : Line P
  BatchInfo : ℕ → Line P
  Root : Line P
  BatchRoot : ℕ → Line P
  BatchProof : ℕ → Line P
  Meta : Line P
  -- size, start, and how many operations at most
  Prove : ℕ → ℕ → ℕ → Line P
  Pins : ℕ → Line P
  -- of a current database
  Current : Question → Line P
  -- up to a location
  Prune : ℕ → Line P
  Commit : Line P
  Sync : Line P
  -- the database goes, and its store stays, or is emptied
  Close : Line P
  Destroy : Line P
  -- a crash, with the end that is asked for
  Crash : ℕ → Line P

-- what a command answers
pub data Answer : Type 0 where
  -- the opening's number, start and size
  Opened : ℕ → ℕ → ℕ → Answer
  -- the batch's number
  Started : ℕ → Answer
  Done : Answer
  -- the batch's number, the sizes of its base and of its tip, and its floor
  Merkleized : ℕ → ℕ → ℕ → ℕ → Answer
  -- the size
  Applied : ℕ → Answer
  -- the size of the base, and a batch's own operations
  Listed : ℕ → List Operation → Answer
  -- evicted keys with the values that they had
  Dropped : List (Bytes × Bytes) → Answer
  Read : List (Option Bytes) → Answer
  -- from which staged key up to which, and what was read of these
  Expanded : ℕ → ℕ → List (Option Bytes) → Answer
  -- the neighbour of a key, if there is one
  Neighbour : Option Bytes → Answer
  -- the live update whose span holds a key; and of a key its value, and the next key
  Spanning : Option Live → Answer
  Whole : Option (Bytes × Option Bytes) → Answer
  -- pairs, and keys
  Ranged : List (Bytes × Bytes) → Answer
  Keyed : List Bytes → Answer
  -- start, size, floor and boundary, and whether a key is live
  Told : ℕ → ℕ → ℕ → ℕ → Bool → Answer
  -- of a batch: the sizes of its base and of its tip, its floor and its boundary
  BatchTold : ℕ → ℕ → ℕ → ℕ → Answer
  -- the root and the operations root
  Rooted : Bytes → Bytes → Answer
  Metadata : Option Bytes → Answer
  -- a proof, and the operations that it proves
  Proved : Proof → List Operation → Answer
  -- a proof of a batch's own operations, and the pins at its base
  BatchProved : Proof → List Bytes → Answer
  Pinned : List Bytes → Answer
  -- the location of what proves a key, or its absence, and the verdict on the proof
  HeldAt : ℕ → Bool → Answer
  AbsentAt : ℕ → Bool → Answer
  -- how many operations and chunks were proved, and the verdict on the proof
  Chunked : ℕ → ℕ → Bool → Answer
  -- the verdict on the witness
  Witnessed : Bool → Answer
  Refuses : Refused → Answer
