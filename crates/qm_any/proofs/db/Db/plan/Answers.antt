use Rattle.std.proofs.Common.{◌≤◌, subst, sym}
use Rattle.std.specs.Prelude.{IfErr}
use Rattle.qm_store.specs.Reads.{IsReadError}
use Rattle.qm_model.proofs.Results.{told-here}
use Rattle.qm_any.specs.Layouts.{hashing_with}
use Rattle.qm_any.specs.Databases.{IsDatabase}
use Rattle.qm_any.proofs.Lasting.{ok-two}
use Rattle.qm_any.proofs.Reading.{good-none}
use Rattle.qm_any.proofs.db.Db.plan.Goals as goal

pub returns-clause-plan : goal.returns-clause-plan
returns-clause-plan g c = λ list known is from ring reads.
    let at = subst (λ db. IsDatabase g.C.Store (record { hashing = hashing_with g.H.Digest.Digest.bytes g.H.Hasher.hash g.F.Family.shape g.U.Update.form; chunk = g.N.Chunks.LEN; index_key = g.I.Unordered.index_key }) db list) (sym c.self.view_is) is in
    let told = g.C.Store.told c.self.inside.log.store in
    ok-two c.staged.result (told-here _ told at.told (c.staged.ensures.plan list known at.lent at.active from at.ring ring reads)) (told-here _ told at.told (c.staged.ensures.next list known at.lent at.active from at.ring ring reads))
    (λ plan planned left. (planned, left))

pub returns-clause-whole : goal.returns-clause-whole
returns-clause-whole g c = λ list is low.
    let at = subst (λ db. IsDatabase g.C.Store (record { hashing = hashing_with g.H.Digest.Digest.bytes g.H.Hasher.hash g.F.Family.shape g.U.Update.form; chunk = g.N.Chunks.LEN; index_key = g.I.Unordered.index_key }) db list) (sym c.self.view_is) is in
    c.staged.ensures.reads.whole
    (record { list = list; lent = at.lent; none = good-none c.self.inside.log.tree.start list at.good at.low }, subst (λ db. db.log.tree.start ≤ c.args.base.now.floor) (sym c.self.view_is) low)

pub returns-clause-error : goal.returns-clause-error
returns-clause-error g c = subst (λ db. IfErr c.staged.result (IsReadError g.C.Store db.log c.staged.new.log)) c.self.view_is c.staged.ensures.reads.error
