use Rattle.std.proofs.Common.{◌≡◌, ◌∙◌, ap, subst, map, None}
use Rattle.std.specs.Prelude.{IfErr, IfOk}
use Rattle.qm_model.proofs.Results.{err-each, err-then, ok-each, ok-then}
use Rattle.qm_model.specs.Proofs.{pins_at}
use Rattle.qm_model.specs.Held.{pins_lacked}
use Rattle.qm_any.specs.Databases.{IsDatabase}
use Rattle.qm_any.proofs.Lasting.{ok-two}
use Rattle.qm_store.specs.Refusals.{IsDue}
use Rattle.qm_any.proofs.OfferedProofs.{pins-offered, pins-due}
use Rattle.qm_any.proofs.offer.proofs.DbSha256Proving.pins.Goals as goal
use Rattle.qm_any.specs.Offered.{digest_bytes, sha256_layout}
use Rattle.sha2.specs.Sha256.{sha256}

pub returns-clause-offered : goal.returns-clause-offered
returns-clause-offered g c =
    let db = c.args.self.now in
    let start = g.C.Store.start db.log.store in
    let found = c.pinned_nodes_at.result in
    ok-each (IsDatabase g.C.Store (sha256_layout g.F.Family.shape g.N.Chunks.LEN g.U.Update.form g.I.Unordered.index_key) db) (λ list digests. pins_lacked g.F.Family.shape start list c.args.at ≡ None) found
    (λ list is. subst (λ n. IfOk found (λ digests. pins_lacked g.F.Family.shape start list n ≡ None)) c.new.ensures
    (ok-two found (c.pinned_nodes_at.ensures.offered list is) c.pinned_nodes_at.ensures.held
    (λ digests told held. pins-offered digest_bytes sha256 g.F.Family.shape g.F.Family.births g.met.F.Family.numbered g.met.F.Family.peaked g.C.Store g.U.Update.form g.N.Chunks.LEN g.I.Unordered.index_key db list is c.bounds.ensures.few c.new.result told held)))

pub returns-clause-digests : goal.returns-clause-digests
returns-clause-digests g c =
    ok-then c.pinned_nodes_at.result (ok-each (IsDatabase g.C.Store (sha256_layout g.F.Family.shape g.N.Chunks.LEN g.U.Update.form g.I.Unordered.index_key) c.args.self.now) (λ list pins. map digest_bytes pins.items ≡ pins_at sha256 g.F.Family.shape g.U.Update.form list c.new.result) c.pinned_nodes_at.result c.pinned_nodes_at.ensures.pins)
    (λ digests told list is. told list is ∙ ap (pins_at sha256 g.F.Family.shape g.U.Update.form list) c.new.ensures)

pub returns-clause-refused : goal.returns-clause-refused
returns-clause-refused g c =
    let db = c.args.self.now in
    let start = g.C.Store.start db.log.store in
    let found = c.pinned_nodes_at.result in
    err-each (IsDatabase g.C.Store (sha256_layout g.F.Family.shape g.N.Chunks.LEN g.U.Update.form g.I.Unordered.index_key) db) (λ list e. IsDue e (pins_lacked g.F.Family.shape start list c.args.at)) found
    (λ list is. subst (λ n. IfErr found (λ e. IsDue e (pins_lacked g.F.Family.shape start list n))) c.new.ensures
    (pins-due digest_bytes sha256 g.F.Family.shape g.F.Family.births g.met.F.Family.numbered g.met.F.Family.peaked g.C.Store g.U.Update.form g.N.Chunks.LEN g.I.Unordered.index_key db list is c.bounds.ensures.few c.new.result found c.pinned_nodes_at.ensures.range (λ within. err-then found c.pinned_nodes_at.ensures.lacking (λ e why. why.lacked within))))
