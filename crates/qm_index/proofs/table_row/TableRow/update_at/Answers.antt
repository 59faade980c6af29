use Rattle.std.proofs.Common.{◌<◌, length, arith, subst}
use Rattle.std.specs.Prelude.{set}
use Rattle.qm_index.specs.Buckets.{bucket_at}
use Rattle.qm_index.proofs.Partitions.{place-there}
use Rattle.qm_index.proofs.Rows.{row-length, row-here, row-changes}
use Rattle.qm_index.proofs.table_row.TableRow.update_at.Goals as goal

pub index_mut-requires : goal.index_mut-requires
index_mut-requires g c =
    let long = row-length g.B.Table.entries c.self.inside.tables.items c.args.self.now c.self.view_is in
    let some = place-there c.args.self.now c.args.place c.args.i c.args.index_key c.requires in
    omega (arith, long, some)

pub update_at-requires : goal.update_at-requires
update_at-requires g c =
    let long = row-length g.B.Table.entries c.self.inside.tables.items c.args.self.now c.self.view_is in
    let some = place-there c.args.self.now c.args.place c.args.i c.args.index_key c.requires in
    let there : c.args.place < length c.self.inside.tables.items = omega (arith, long, some) in
    subst (λ es. c.args.i < length (bucket_at es c.args.index_key)) (row-here g.B.Table.entries c.self.inside.tables.items c.args.self.now c.args.place c.index_mut.result.now c.self.view_is c.index_mut.ensures.value there) c.requires

pub returns : goal.returns
returns g c =
    let long = row-length g.B.Table.entries c.self.inside.tables.items c.args.self.now c.self.view_is in
    let some = place-there c.args.self.now c.args.place c.args.i c.args.index_key c.requires in
    let there : c.args.place < length c.self.inside.tables.items = omega (arith, long, some) in
    row-changes g.B.Table.entries c.self.inside.tables.items c.args.self.now c.args.place c.index_mut.result.now c.update_at.new.self c.self.view_is c.index_mut.ensures.value there c.args.index_key (λ values. set values c.args.i c.args.value) c.update_at.ensures.index c.update_at.ensures.update
