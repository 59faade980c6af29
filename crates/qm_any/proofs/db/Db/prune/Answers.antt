use Rattle.std.proofs.Common.{◌≡◌, arith, ap, ◌⊎◌, inl, length, subst}
use Rattle.std.proofs.lemmas.Result.{IfOk-from_err, err_from_is_err_and}
use Rattle.qm_open.proofs.Checking.{on-ok}
use Rattle.qm_model.proofs.Results.{ok-then, err-then}
use Rattle.qm_model.specs.StoreModel.{settled}
use Rattle.qm_any.specs.Layouts.{layout_of, hashing_of}
use Rattle.qm_any.specs.Lasting.{HasLeftPruned, HasLeftStable, HasPruned, IsGivenUp}
use Rattle.qm_any.proofs.Crashing.{pruned-safe, unlasted-safe, unmoved-safe}
use Rattle.qm_any.proofs.Lasting.{all-stable, pruned-behind, given-behind}
use Rattle.qm_any.proofs.db.Db.prune.Goals as goal

pub cut-requires-clause-stable : goal.cut-requires-clause-stable
cut-requires-clause-stable g c = all-stable (g.C.Store.told c.args.self.log.store) (g.C.Store.told c.in_ok-commit.field-0.log.store) c.in_ok-commit.ensures.committed.store.told

pub returns-clause-stands : goal.returns-clause-stands
returns-clause-stands g c = λ list is. c.cut.ensures.stands list (omega (arith, is.floor, c.if-get-boundary.false)) (c.in_ok-commit.ensures.stands list is)

pub returns-clause-pruned : goal.returns-clause-pruned
returns-clause-pruned g c =
    let layout = layout_of g.N.Chunks.LEN g.H.Digest.Digest.bytes g.H.Hasher g.F.Family g.U.Update g.I.Unordered in
    ok-then c.cut.result c.cut.ensures.pruned (λ db cut.
    subst (λ to. HasPruned g.C.Store layout settled to c.args.self db) c.get-4.ensures
    (pruned-behind g.C.Store layout settled c.get-4.result c.args.self c.in_ok-commit.field-0 db c.in_ok-commit.ensures.committed cut))

pub returns-clause-boundary : goal.returns-clause-boundary
returns-clause-boundary g c = λ list is.
    let size : c.args.self.commitment.size ≡ length list = ap (λ k. k.size) is.commitment in
    omega (arith, is.floor, is.good.floor_within, size)

pub returns-clause-fits : goal.returns-clause-fits
returns-clause-fits g c = on-ok c.cut.result (omega (arith, c.if-get-boundary.false))

pub returns-clause-beyond : goal.returns-clause-beyond
returns-clause-beyond g c = err-then c.cut.result c.cut.ensures.refused (λ r given past. absurd (omega (arith, c.if-get-boundary.false, past)))

pub returns-clause-refused : goal.returns-clause-refused
returns-clause-refused g c =
    let hashing = hashing_of g.H.Digest.Digest.bytes g.H.Hasher g.F.Family g.U.Update in
    err-then c.cut.result c.cut.ensures.refused (λ r given low.
    subst (λ to. IsGivenUp g.C.Store (λ old new. HasLeftStable g.C.Store old new ⊎ HasLeftPruned g.C.Store hashing settled to c.args.self.log new) c.args.self.log.store r) c.get-4.ensures
    (given-behind g.C.Store hashing settled c.get-4.result c.args.self c.in_ok-commit.field-0 r (HasLeftStable g.C.Store) c.in_ok-commit.ensures.committed given))

pub returns-clause-crashes : goal.returns-clause-crashes
returns-clause-crashes g c = λ rules log stands.
    pruned-safe g.C.Store (hashing_of g.H.Digest.Digest.bytes g.H.Hasher g.F.Family g.U.Update) g.H.Digest.Digest.SIZE rules g.F.Family.births g.met.F.Family.numbered g.met.F.Family.peaked g.N.Chunks.LEN g.I.Unordered.index_key c.args.self
    c.bounds-size.ensures.first c.bounds-size.ensures.few (g.met.C.Store.told_start c.args.self.log.store) c.args.loc log stands c.cut.result
    (returns-clause-fits g c) (returns-clause-pruned g c) (err-then c.cut.result (returns-clause-beyond g c) (λ r beyond past. (beyond past).0)) (returns-clause-refused g c)

pub returns-then-get-boundary-clause-crashes : goal.returns-then-get-boundary-clause-crashes
returns-then-get-boundary-clause-crashes g c = λ rules log stands. unmoved-safe g.C.Store (hashing_of g.H.Digest.Digest.bytes g.H.Hasher g.F.Family g.U.Update) g.H.Digest.Digest.SIZE rules log log c.args.self.log.store

pub returns-in_err-commit : goal.returns-in_err-commit
returns-in_err-commit g c =
    let exit = err_from_is_err_and c.from_residual.result c.from_residual.ensures.1 in
    let up = c.in_err-commit.ensures.refused in
    record {
      stands = λ list is. IfOk-from_err c.from_residual.result _ c.from_residual.ensures.0;
      pruned = IfOk-from_err c.from_residual.result _ c.from_residual.ensures.0;
      boundary = λ list is.
          let size : c.args.self.commitment.size ≡ length list = ap (λ k. k.size) is.commitment in
          omega (arith, is.floor, is.good.floor_within, size);
      fits = IfOk-from_err c.from_residual.result _ c.from_residual.ensures.0;
      beyond = rw (exit.1, exit.2) (λ past. absurd (omega (arith, c.if-get-boundary.false, past)));
      refused = rw (exit.1, exit.2) (λ low. record { store = up.store; given = up.given; left = inl up.left; never = up.never; cause = up.cause });
      crashes = λ rules log stands.
          rw (exit.1, exit.2) (unlasted-safe g.C.Store (hashing_of g.H.Digest.Digest.bytes g.H.Hasher g.F.Family g.U.Update) g.H.Digest.Digest.SIZE rules log log c.args.self.log.store c.in_err-commit.field-0.0 up);
    }
