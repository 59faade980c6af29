use Rattle.std.proofs.Common.{◌≡◌, List, ap, map, subst, true}
use Rattle.std.specs.Prelude.{option_map}
use Rattle.qm_model.specs.Operations.{Operation}
use Rattle.qm_model.specs.Writes.{read_through}
use Rattle.qm_chain.specs.Bounds.{knows}
use Rattle.qm_any.specs.Databases as anys
use Rattle.qm_any.specs.Layouts.{hashing_of, layout_of}
use Rattle.qm_any.specs.Reading.{AtStaged, IsOfKeptItem, IsThroughError}
use Rattle.qm_current.specs.Databases.{Database, Staged}
use Rattle.qm_current.proofs.Making.{left-joined, two}
use Rattle.qm_current.proofs.staged.Staged.expand.Goals as goal
use Rattle.qm_current.proofs.staged.Staged.expand.Goals.{in-Ok, in-Err}

pub invariant_of-db : goal.invariant_of-db
invariant_of-db g c =
    let hashing = hashing_of g.D.Digest.bytes g.H.Hasher g.F.Family g.U.Update in
    left-joined g.C.Store hashing g.N.Chunks.LEN (record { any = c.db.inside.any; canonical = c.db.inside.canonical; instance = c.db.inside.instance; name = c.db.inside.name.now }) c.expand.new.db c.expand.ensures.reads.left c.db.invariant

pub returns-clause-values : goal.returns-clause-values
returns-clause-values g c =
    let key = g.U.Key.ByteString.bytes in
    let value = g.U.Value.ByteString.bytes in
    let layout = layout_of g.N.Chunks.LEN g.D.Digest.bytes g.H.Hasher g.F.Family g.U.Update g.I.Unordered in
    let db_any = ap (λ (d : Database g.row.C.Denot g.row.D.Denot). d.any) c.db.view_is in
    let self_any = ap (λ (s : Staged g.row.D.Denot). s.any) c.self.view_is in
    elim c.match-expand.branch [
      | in-Ok w ↦ rw w.result-is (two (λ (d : anys.Database g.row.C.Denot g.row.D.Denot) (s : anys.Staged g.row.D.Denot). AtStaged g.C.Store layout d s (λ chain above. map (option_map value) w.in-Ok.values.items ≡ map (λ k. read_through chain.base s.batch.writes (key k)) c.args.keys.items))
          db_any self_any w.in-Ok.ensures.values)
      | in-Err w ↦ rw w.result-is (λ list chain above is staged known. tt)
    ]

pub returns-clause-staged : goal.returns-clause-staged
returns-clause-staged g c =
    let layout = layout_of g.N.Chunks.LEN g.D.Digest.bytes g.H.Hasher g.F.Family g.U.Update g.I.Unordered in
    let hashing = hashing_of g.D.Digest.bytes g.H.Hasher g.F.Family g.U.Update in
    let db_any = ap (λ (d : Database g.row.C.Denot g.row.D.Denot). d.any) c.db.view_is in
    let self_any = ap (λ (s : Staged g.row.D.Denot). s.any) c.self.view_is in
    elim c.match-expand.branch [
      | in-Ok w ↦ rw w.result-is (two (λ (d : anys.Database g.row.C.Denot g.row.D.Denot) (s : anys.Staged g.row.D.Denot). AtStaged g.C.Store layout d s (λ chain above. anys.IsStaged hashing w.in-Ok.any chain above)) db_any self_any w.in-Ok.ensures.staged)
      | in-Err w ↦ rw w.result-is (λ list chain above is staged known. tt)
    ]

pub returns-clause-reads : goal.returns-clause-reads
returns-clause-reads g c =
    let layout = layout_of g.N.Chunks.LEN g.D.Digest.bytes g.H.Hasher g.F.Family g.U.Update g.I.Unordered in
    let hashing = hashing_of g.D.Digest.bytes g.H.Hasher g.F.Family g.U.Update in
    let db_any = ap (λ (d : Database g.row.C.Denot g.row.D.Denot). d.any) c.db.view_is in
    let self_any = ap (λ (s : Staged g.row.D.Denot). s.any) c.self.view_is in
    elim c.match-expand.branch [
      | in-Ok w ↦
          rw w.result-is (record {
            readable = two (λ (d : anys.Database g.row.C.Denot g.row.D.Denot) (s : anys.Staged g.row.D.Denot). knows s.batch.parent.bounds d.commitment ≡ true) db_any self_any w.in-Ok.ensures.reads.readable;
            error = tt;
            whole = λ list is. tt;
            left = subst (λ d. anys.IsLeft g.C.Store hashing d c.expand.new.db) db_any w.in-Ok.ensures.reads.left;
          })
      | in-Err w ↦
          let e = w.in-Err.error in
          let said = w.in-Err.ensures.reads in
          rw w.result-is (record {
            readable = tt;
            error = two (λ (d : anys.Database g.row.C.Denot g.row.D.Denot) (s : anys.Staged g.row.D.Denot). IsThroughError g.C.Store (knows s.batch.parent.bounds d.commitment) d.log c.expand.new.db.log e) db_any self_any said.error;
            whole = subst (λ (d : anys.Database g.row.C.Denot g.row.D.Denot). (list : List Operation) → anys.IsDatabase g.C.Store layout d list → IsOfKeptItem e) db_any said.whole;
            left = subst (λ d. anys.IsLeft g.C.Store hashing d c.expand.new.db) db_any said.left;
          })
    ]
