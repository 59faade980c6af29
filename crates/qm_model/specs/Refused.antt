-- What a database, its log or its tree refuses, and the text of corruption.
use Rattle.std.specs.Prelude.{ℕ, codes}
use Rattle.qm_model.specs.Operations.{Bytes}

-- what is wrong with what a store keeps
pub data Corrupt : Type 0 where
  CountNotValid : Corrupt
  CountTooLarge : Corrupt
  MissingPin : Corrupt
  InvalidPin : Corrupt
  NoRetainedCommit : Corrupt
  FloorExceedsCommit : Corrupt
  PrunedPastBits : Corrupt
  HeadDoesNotMatch : Corrupt
  ItemDoesNotDecode : Corrupt
  LinksFormNoRing : Corrupt

-- why a tree refused: a location or size out of range, a node that is pruned or missing, too many leaves
pub data TreeRefused : Type 0 where
  RangeOutOfBounds : ℕ → TreeRefused
  ElementPruned : ℕ → TreeRefused
  MissingNode : ℕ → TreeRefused
  LocationOverflow : ℕ → TreeRefused

-- why a log refused: an item that is pruned, a spelling of too many bytes
pub data LogRefused : Type 0 where
  ItemPruned : ℕ → LogRefused
  ItemTooLarge : ℕ → LogRefused

-- why a command was refused
pub data Refused : Type 0 where
  NotOffered : Refused
  NoDatabase : Refused
  NoSuchHandle : ℕ → Refused
  -- how many keys were staged, and how many slots are given
  SlotCount : ℕ → ℕ → Refused
  -- a store was to be opened up to a size of 0
  InvalidInitializationBound : Refused
  StaleBatch : Refused
  StaleRead : Refused
  -- a key that was to be proved has no value, or one that was to be proved absent has one
  KeyNotFound : Refused
  KeyExists : Refused
  -- a location whose chunk of activity bits is pruned
  OperationPruned : ℕ → Refused
  -- where a list was to be pruned to, and up to where it may be
  PruneBeyondMinRequired : ℕ → ℕ → Refused
  HistoricalFloorPruned : ℕ → Refused
  DataCorrupted : Corrupt → Refused
  Merkle : TreeRefused → Refused
  Journal : LogRefused → Refused

abbrev pub corrupt_text : Corrupt → Bytes
corrupt_text CountNotValid = codes "pruned chunks value not a valid u64"
corrupt_text CountTooLarge = codes "pruned chunks exceeds MAX_LEAVES"
corrupt_text MissingPin = codes "missing pinned node in grafted tree metadata"
corrupt_text InvalidPin = codes "invalid pinned node digest"
corrupt_text NoRetainedCommit = codes "no retained commit"
corrupt_text FloorExceedsCommit = codes "inactivity floor exceeds commit location"
corrupt_text PrunedPastBits = codes "log pruned past the bits"
corrupt_text HeadDoesNotMatch = codes "head does not match the start"
corrupt_text ItemDoesNotDecode = codes "item does not decode"
corrupt_text LinksFormNoRing = codes "links form no ring"
