-- The text of replies.
use Rattle.std.specs.Prelude.{Bool, true, false, List, [], ◌∷◌, ◌++◌, codes, Option, None, Some, flat_map, decimal}
use Rattle.hex.specs.Hex.{encode_lower}
use Rattle.qm_model.specs.Live.{Live}
use Rattle.qm_model.specs.Operations.{Bytes, Operation, update, delete, commit}
use Rattle.qm_machine.specs.Lines.{Answer, Opened, Started, Done, Merkleized, Applied, Listed, Read, Expanded, Neighbour, Spanning, Whole, Ranged, Keyed, Told, BatchTold, Rooted, Metadata, Proved, BatchProved, Pinned, HeldAt, AbsentAt, Chunked, Witnessed, Dropped, Refuses}
use Rattle.qm_model.specs.Refused.{corrupt_text, TreeRefused, RangeOutOfBounds, ElementPruned, MissingNode, LocationOverflow, LogRefused, ItemPruned, ItemTooLarge, Refused, NotOffered, NoDatabase, NoSuchHandle, SlotCount, InvalidInitializationBound, StaleBatch, StaleRead, KeyNotFound, KeyExists, OperationPruned, PruneBeyondMinRequired, HistoricalFloorPruned, DataCorrupted, Merkle, Journal}

-- bytes in hexadecimal, and the empty ones as a dash
abbrev pub hex_text : Bytes → Bytes
hex_text [] = codes "-"
hex_text (b ∷ bs) = encode_lower (b ∷ bs)

abbrev pub optional_text : Option Bytes → Bytes
optional_text None = codes "none"
optional_text (Some v) = hex_text v

abbrev pub next_text : Option Bytes → Bytes
next_text None = []
next_text (Some k) = codes ">" ++ hex_text k

abbrev pub operation_text : Operation → Bytes
operation_text (update k v n) = codes "U:" ++ (hex_text k ++ (codes "=" ++ (hex_text v ++ next_text n)))
operation_text (delete k) = codes "D:" ++ hex_text k
operation_text (commit m f) = codes "C:" ++ (optional_text m ++ (codes "@" ++ decimal f))

abbrev pub tree_text : TreeRefused → Bytes
tree_text (RangeOutOfBounds n) = codes "RangeOutOfBounds " ++ decimal n
tree_text (ElementPruned n) = codes "ElementPruned " ++ decimal n
tree_text (MissingNode n) = codes "MissingNode " ++ decimal n
tree_text (LocationOverflow n) = codes "LocationOverflow " ++ decimal n

abbrev pub log_text : LogRefused → Bytes
log_text (ItemPruned n) = codes "ItemPruned " ++ decimal n
log_text (ItemTooLarge n) = codes "ItemTooLarge " ++ decimal n

abbrev pub refused_text : Refused → Bytes
refused_text NotOffered = codes "NotOffered"
refused_text NoDatabase = codes "NoDatabase"
refused_text (NoSuchHandle h) = codes "NoSuchHandle " ++ decimal h
refused_text (SlotCount staged given) = codes "SlotCount " ++ (decimal staged ++ (codes " " ++ decimal given))
refused_text InvalidInitializationBound = codes "InvalidInitializationBound"
refused_text StaleBatch = codes "StaleBatch"
refused_text StaleRead = codes "StaleRead"
refused_text KeyNotFound = codes "KeyNotFound"
refused_text KeyExists = codes "KeyExists"
refused_text (OperationPruned i) = codes "OperationPruned " ++ decimal i
refused_text (PruneBeyondMinRequired p m) = codes "PruneBeyondMinRequired " ++ (decimal p ++ (codes " " ++ decimal m))
refused_text (HistoricalFloorPruned n) = codes "HistoricalFloorPruned " ++ decimal n
refused_text (DataCorrupted c) = codes "DataCorrupted " ++ corrupt_text c
refused_text (Merkle e) = codes "Merkle " ++ tree_text e
refused_text (Journal e) = codes "Journal " ++ log_text e

-- operations, each after a space
abbrev pub operations_text : List Operation → Bytes
operations_text ops = flat_map (λ op. codes " " ++ operation_text op) ops

-- what was read, each after a space
abbrev pub values_text : List (Option Bytes) → Bytes
values_text values = flat_map (λ v. codes " " ++ optional_text v) values

-- a key, if there is one
abbrev pub neighbour_text : Option Bytes → Bytes
neighbour_text None = codes "none"
neighbour_text (Some k) = codes "key " ++ hex_text k

-- location, key, value and next key of a live update
abbrev pub spanning_text : Option Live → Bytes
spanning_text None = codes "none"
spanning_text (Some e) =
    codes "span " ++ (decimal e.location ++ (codes " " ++ (hex_text e.key ++ (codes " " ++ (hex_text e.value ++ (codes " " ++ optional_text e.next))))))

-- a value and the next key
abbrev pub whole_text : Option (Bytes × Option Bytes) → Bytes
whole_text None = codes "none"
whole_text (Some (value, next)) = codes "all " ++ (hex_text value ++ (codes " " ++ optional_text next))

-- pairs, and keys, each after a space
abbrev pub pairs_text : List (Bytes × Bytes) → Bytes
pairs_text pairs = flat_map (λ p. codes " " ++ (hex_text p.0 ++ (codes "=" ++ hex_text p.1))) pairs

abbrev pub keys_text : List Bytes → Bytes
keys_text keys = flat_map (λ k. codes " " ++ hex_text k) keys

-- digests, each after a space
abbrev pub digests_text : List Bytes → Bytes
digests_text digests = flat_map (λ d. codes " " ++ encode_lower d) digests

abbrev pub live_text : Bool → Bytes
live_text true = codes "live"
live_text false = codes "empty"

-- the verdict on a proof
abbrev pub verdict_text : Bool → Bytes
verdict_text true = codes "yes"
verdict_text false = codes "no"

-- a reply without its line feed
abbrev pub reply_line : Answer → Bytes
reply_line (Opened i start size) = codes "open " ++ (decimal i ++ (codes " " ++ (decimal start ++ (codes " " ++ decimal size))))
reply_line (Started h) = codes "batch " ++ decimal h
reply_line Done = codes "ok"
reply_line (Merkleized h base size floor) =
    codes "merkleized " ++ (decimal h ++ (codes " " ++ (decimal base ++ (codes " " ++ (decimal size ++ (codes " " ++ decimal floor))))))
reply_line (Applied size) = codes "applied " ++ decimal size
reply_line (Listed base ops) = codes "ops " ++ (decimal base ++ operations_text ops)
reply_line (Dropped pairs) = codes "evicted" ++ pairs_text pairs
reply_line (Read values) = codes "read" ++ values_text values
reply_line (Expanded a b values) = codes "read " ++ (decimal a ++ (codes " " ++ (decimal b ++ values_text values)))
reply_line (Neighbour key) = neighbour_text key
reply_line (Spanning e) = spanning_text e
reply_line (Whole p) = whole_text p
reply_line (Ranged pairs) = codes "range" ++ pairs_text pairs
reply_line (Keyed keys) = codes "keys" ++ keys_text keys
reply_line (Told start size floor boundary is_live) =
    codes "info " ++ (decimal start ++ (codes " " ++ (decimal size ++ (codes " " ++ (decimal floor ++ (codes " " ++ (decimal boundary ++ (codes " " ++ live_text is_live))))))))
reply_line (BatchTold base size floor boundary) =
    codes "info " ++ (decimal base ++ (codes " " ++ (decimal size ++ (codes " " ++ (decimal floor ++ (codes " " ++ decimal boundary))))))
reply_line (Rooted r o) = codes "root " ++ (encode_lower r ++ (codes " " ++ encode_lower o))
reply_line (Metadata v) = codes "meta " ++ optional_text v
reply_line (Proved proof ops) =
    codes "proof " ++ (decimal proof.leaves ++ (codes " " ++ (decimal proof.inactive ++ (digests_text proof.digests ++ (codes " /" ++ operations_text ops)))))
reply_line (BatchProved proof pins) =
    codes "proof " ++ (decimal proof.leaves ++ (codes " " ++ (decimal proof.inactive ++ (digests_text proof.digests ++ (codes " /" ++ digests_text pins)))))
reply_line (Pinned digests) = codes "pins" ++ digests_text digests
reply_line (HeldAt i verdict) = codes "held " ++ (decimal i ++ (codes " " ++ verdict_text verdict))
reply_line (AbsentAt i verdict) = codes "absent " ++ (decimal i ++ (codes " " ++ verdict_text verdict))
reply_line (Chunked ops chunks verdict) = codes "chunks " ++ (decimal ops ++ (codes " " ++ (decimal chunks ++ (codes " " ++ verdict_text verdict))))
reply_line (Witnessed verdict) = codes "witness " ++ verdict_text verdict
reply_line (Refuses r) = codes "refused " ++ refused_text r

-- the replies, one line each
abbrev pub text_of : List Answer → Bytes
text_of rs = flat_map (λ r. reply_line r ++ 10 ∷ []) rs
