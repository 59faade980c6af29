use Rattle.std.proofs.Common.{◌≡◌, ◌<◌, true, length, ap, sym, ◌∙◌, subst}
use Rattle.std.specs.Prelude.{slice_index_or}
use Rattle.qm_operations.specs.Views.{operation_view}
use Rattle.qm_index.specs.Partitioned.{partition_of}
use Rattle.qm_routed.specs.Routed.{has_partition}
use Rattle.qm_store.proofs.Stores.{ok-both}
use Rattle.qm_workers.specs.Working.{work_of, with_last}
use Rattle.qm_workers.proofs.Owners.{routed-one}
use Rattle.qm_workers.proofs.sharing.route.Goals as goal

pub returns : goal.returns
returns g c =
    let index_key = g.I.Unordered.index_key in
    let partitions = g.I.Ranges.PARTITIONS in
    let crew = c.args.crew.now in
    let view = work_of g.I.Unordered.entries g.U.Key.ByteString.bytes in
    let op = operation_view g.U.Update.view g.U.Key.ByteString.bytes g.U.Value.ByteString.bytes c.args.operation in
    let key = g.U.Key.ByteString.bytes c.in-Some.key in
    let owner = c.owner_of-owner.result in
    let item = c.index-crew-owner.result in
    let own : c.partition-partition.result ≡ partition_of (index_key key) = c.partition-partition.ensures.value ∙ ap (λ bs. partition_of (index_key bs)) c.as_bytes.ensures.value in
    let below : partition_of (index_key key) < partitions = subst (λ p. p < partitions) own c.partition-partition.ensures.below in
    let has : has_partition partitions (length crew) owner (partition_of (index_key key)) ≡ true =
    subst (λ p. has_partition partitions (length crew) owner p ≡ true) own (subst (λ n. has_partition n (length crew) owner c.partition-partition.result ≡ true) c.partition_count.ensures.value c.owner_of-owner.ensures.own) in
    ok-both c.assign.result c.assign.ensures c.assign.ensures (λ told _.
    routed-one index_key partitions view c.args.at op crew key owner item c.assign.new.self c.requires.some (sym c.in-Some.ensures) below c.owner_of-owner.ensures.one has
    (told ∙ ap (λ t. with_last (record { at = c.args.at; key = key; is_update = t }) (view (slice_index_or crew owner item))) c.is_update-is_update.ensures))
