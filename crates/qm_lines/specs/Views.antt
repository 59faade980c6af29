-- Commands and replies over byte strings.
use Rattle.std.specs.Prelude.{map, option_map}
use Rattle.std.specs.Int.NonZero.{non_zero_u64_get}
use Rattle.qm_model.specs.Operations.{Bytes}
use Rattle.qm_machine.specs.Lines as lines
use Rattle.qm_model.specs.Refused as refusals
use Rattle.qm_base.specs.Views.{corrupt_view, tree_view, limit_of, pair_view}
use Rattle.qm_base.specs.Slots.{slot_views, write_views}
use Rattle.qm_base.specs.Listed.{listed_view, span_view, whole_view}
use Rattle.qm_lines.specs.declared.command.Command.{Command}
use Rattle.qm_lines.specs.declared.command.Command.TheVariants as commands
use Rattle.qm_lines.specs.declared.command.BatchCommand.{BatchCommand}
use Rattle.qm_lines.specs.declared.command.BatchCommand.TheVariants as batches
use Rattle.qm_lines.specs.declared.command.MakingCommand.{MakingCommand}
use Rattle.qm_lines.specs.declared.command.MakingCommand.TheVariants as makings
use Rattle.qm_lines.specs.declared.command.StagedCommand.{StagedCommand}
use Rattle.qm_lines.specs.declared.command.StagedCommand.TheVariants as stagings
use Rattle.qm_lines.specs.declared.command.ReadCommand.{ReadCommand}
use Rattle.qm_lines.specs.declared.command.ReadCommand.TheVariants as reads
use Rattle.qm_lines.specs.declared.command.InfoCommand.{InfoCommand}
use Rattle.qm_lines.specs.declared.command.InfoCommand.TheVariants as infos
use Rattle.qm_lines.specs.declared.command.StoreCommand.{StoreCommand}
use Rattle.qm_lines.specs.declared.command.StoreCommand.TheVariants as stores
use Rattle.qm_lines.specs.declared.command.Question.{Question}
use Rattle.qm_lines.specs.declared.command.Question.TheVariants as questions
use Rattle.qm_lines.specs.declared.reply.LogRefused.{LogRefused}
use Rattle.qm_lines.specs.declared.reply.LogRefused.TheVariants as log
use Rattle.qm_lines.specs.declared.reply.Refused.{Refused}
use Rattle.qm_lines.specs.declared.reply.Refused.TheVariants as refused
use Rattle.qm_lines.specs.declared.reply.Reply.{Reply}
use Rattle.qm_lines.specs.declared.reply.Reply.TheVariants as replies

abbrev pub log_view : LogRefused → refusals.LogRefused
log_view (log.ItemPruned n) = refusals.ItemPruned n
log_view (log.ItemTooLarge n) = refusals.ItemTooLarge n

abbrev pub refused_view : Refused → refusals.Refused
refused_view refused.NotOffered = refusals.NotOffered
refused_view refused.NoDatabase = refusals.NoDatabase
refused_view (refused.NoSuchHandle h) = refusals.NoSuchHandle h
refused_view (refused.SlotCount staged given) = refusals.SlotCount staged given
refused_view refused.InvalidInitializationBound = refusals.InvalidInitializationBound
refused_view refused.StaleBatch = refusals.StaleBatch
refused_view refused.StaleRead = refusals.StaleRead
refused_view refused.KeyNotFound = refusals.KeyNotFound
refused_view refused.KeyExists = refusals.KeyExists
refused_view (refused.OperationPruned n) = refusals.OperationPruned n
refused_view (refused.PruneBeyondMinRequired p m) = refusals.PruneBeyondMinRequired p m
refused_view (refused.HistoricalFloorPruned n) = refusals.HistoricalFloorPruned n
refused_view (refused.DataCorrupted c) = refusals.DataCorrupted (corrupt_view c)
refused_view (refused.Merkle e) = refusals.Merkle (tree_view e)
refused_view (refused.Journal e) = refusals.Journal (log_view e)

abbrev pub question_view : {K : Type 0} → (K → Bytes) → Question K → lines.Question
question_view key (questions.Held k) = lines.Held (key k)
question_view key (questions.Absent k) = lines.Absent (key k)
question_view key (questions.Chunks start max) = lines.Chunks start (non_zero_u64_get max)
question_view key questions.Witness = lines.Witness

module _ {K V : Type 0} (key : K → Bytes) (value : V → Bytes) where
  abbrev pub batch_view : {Q : Type 0} → BatchCommand K V → lines.Line Q
  batch_view batches.Batch = lines.Batch
  batch_view (batches.Child h keep) = lines.Child h keep
  batch_view batches.Tip = lines.Tip
  batch_view (batches.Put h k v) = lines.Put h (key k) (value v)
  batch_view (batches.Del h k) = lines.Del h (key k)

  abbrev pub making_view : {P Q : Type 0} → (P → Q) → MakingCommand V P → lines.Line Q
  making_view policy (makings.Merkleize h p m) = lines.Merkleize h (policy p) (option_map value m)
  making_view policy (makings.Apply h) = lines.Apply h

  abbrev pub staged_view : {P Q : Type 0} → (P → Q) → StagedCommand K V P → lines.Line Q
  staged_view policy (stagings.Stage h keys) = lines.Stage h (map key keys.items)
  staged_view policy (stagings.Expand h keys) = lines.Expand h (map key keys.items)
  staged_view policy (stagings.Resolve h p m r) = lines.Resolve h (policy p) (option_map value m) (slot_views value r.slots.items) (write_views key value r.others.items)

  abbrev pub read_view : {Q : Type 0} → ReadCommand K → lines.Line Q
  read_view (reads.Get k from) = lines.Get (key k) from
  read_view (reads.Many keys from) = lines.Many (map key keys.items) from
  read_view (reads.Next k from) = lines.Next (key k) from
  read_view (reads.Prev k from) = lines.Prev (key k) from
  read_view (reads.Span k) = lines.Span (key k)
  read_view (reads.All k) = lines.All (key k)
  read_view (reads.Range low high) = lines.Range (limit_of key low) (limit_of key high)
  read_view (reads.Keys low high) = lines.Keys (limit_of key low) (limit_of key high)

  abbrev pub info_view : {Q : Type 0} → InfoCommand K → lines.Line Q
  info_view (infos.Ops h) = lines.Ops h
  info_view (infos.Evicted h) = lines.Evicted h
  info_view infos.Info = lines.Info
  info_view (infos.BatchInfo h) = lines.BatchInfo h
  info_view infos.Root = lines.Root
  info_view (infos.BatchRoot h) = lines.BatchRoot h
  info_view (infos.BatchProof h) = lines.BatchProof h
  info_view infos.Meta = lines.Meta
  info_view (infos.Prove size start max) = lines.Prove size start (non_zero_u64_get max)
  info_view (infos.Pins n) = lines.Pins n
  info_view (infos.Current question) = lines.Current (question_view key question)

  abbrev pub store_view : {Q : Type 0} → StoreCommand → lines.Line Q
  store_view (stores.Open bound) = lines.Open bound
  store_view (stores.Prune to) = lines.Prune to
  store_view stores.Commit = lines.Commit
  store_view stores.Sync = lines.Sync
  store_view stores.Close = lines.Close
  store_view stores.Destroy = lines.Destroy
  store_view (stores.Crash keep) = lines.Crash keep

  abbrev pub line_view : {P Q : Type 0} → (P → Q) → Command K V P → lines.Line Q
  line_view policy (commands.Batch c) = batch_view c
  line_view policy (commands.Making c) = making_view policy c
  line_view policy (commands.Staged c) = staged_view policy c
  line_view policy (commands.Read c) = read_view c
  line_view policy (commands.Info c) = info_view c
  line_view policy (commands.Store c) = store_view c

  abbrev pub answer_view : {D : Type 0} → (D → Bytes) → Reply K V D → lines.Answer
  answer_view digest (replies.Opened i start size) = lines.Opened i start size
  answer_view digest (replies.Batch h) = lines.Started h
  answer_view digest replies.Done = lines.Done
  answer_view digest (replies.Merkleized h base size floor) = lines.Merkleized h base size floor
  answer_view digest (replies.Applied size) = lines.Applied size
  answer_view digest (replies.Ops base ops) = lines.Listed base (map (listed_view key value) ops.items)
  answer_view digest (replies.Evicted pairs) = lines.Dropped (map (pair_view key value) pairs.items)
  answer_view digest (replies.Read values) = lines.Read (map (option_map value) values.items)
  answer_view digest (replies.Expanded a b values) = lines.Expanded a b (map (option_map value) values.items)
  answer_view digest (replies.Neighbour k) = lines.Neighbour (option_map key k)
  answer_view digest (replies.Span s) = lines.Spanning (option_map (span_view key value) s)
  answer_view digest (replies.All p) = lines.Whole (option_map (whole_view key value) p)
  answer_view digest (replies.Range pairs) = lines.Ranged (map (pair_view key value) pairs.items)
  answer_view digest (replies.Keys keys) = lines.Keyed (map key keys.items)
  answer_view digest (replies.Info start size floor boundary is_live) = lines.Told start size floor boundary is_live
  answer_view digest (replies.BatchInfo base size floor boundary) = lines.BatchTold base size floor boundary
  answer_view digest (replies.Root r o) = lines.Rooted (digest r) (digest o)
  answer_view digest (replies.Meta v) = lines.Metadata (option_map value v)
  answer_view digest (replies.Proof leaves inactive digests ops) =
      lines.Proved (record { leaves = leaves; inactive = inactive; digests = map digest digests.items }) (map (listed_view key value) ops.items)
  answer_view digest (replies.BatchProof leaves inactive digests pins) =
      lines.BatchProved (record { leaves = leaves; inactive = inactive; digests = map digest digests.items }) (map digest pins.items)
  answer_view digest (replies.Pins digests) = lines.Pinned (map digest digests.items)
  answer_view digest (replies.Held i is_accepted) = lines.HeldAt i is_accepted
  answer_view digest (replies.Absent i is_accepted) = lines.AbsentAt i is_accepted
  answer_view digest (replies.Chunks ops chunks is_accepted) = lines.Chunked ops chunks is_accepted
  answer_view digest (replies.Witness is_accepted) = lines.Witnessed is_accepted
  answer_view digest (replies.Refused r) = lines.Refuses (refused_view r)
