use Rattle.std.proofs.Common.{◌≡◌, ◌-◌, ◌∙◌, suc, arith, map, sym, ap, Some, inl, refl}
use Rattle.std.specs.Prelude.{Err}
use Rattle.std.proofs.lemmas.Result.{err_from_is_err_and}
use Rattle.qm_model.proofs.Results.{told-any, told-one}
use Rattle.qm_model.specs.Forms.{spelling}
use Rattle.qm_model.specs.Refusals.{floor_before, last_refusal}
use Rattle.qm_store.proofs.Reading.{read-none}
use Rattle.qm_build.proofs.Floors.{floor-of}
use Rattle.qm_build.proofs.Telling.{floor-read, last-there, last-due, ok-err, at-or-past}
use Rattle.qm_build.proofs.proof.floor_at_end.Goals as goal

pub returns-then-size-eq0 : goal.returns-then-size-eq0
returns-then-size-eq0 g c =
    let log = c.args.log.now in
    record {
      floor = λ list is all. told-any _ (g.C.Store.told log.store) (ap (floor_before list) (sym c.if-size-eq0.true));
      some = tt;
      kept = ap (last_refusal (g.C.Store.start log.store)) c.if-size-eq0.true;
      pruned = tt;
      causes = tt;
      cause = tt;
      read = read-none g.C.Store g.F.Family.shape g.H.Digest.Digest.bytes g.H.Hasher.hash log;
    }

pub returns-in_err-item : goal.returns-in_err-item
returns-in_err-item g c =
    let store = c.args.log.now.store in
    let exit = err_from_is_err_and c.from_residual.result c.from_residual.ensures.1 in
    let after : c.args.size ≡ suc (c.args.size - 1) = omega (arith, c.if-size-eq0.false) in
    rw (exit.1, exit.2) (record {
      floor = λ list is all. told-any _ (g.C.Store.told store) tt;
      some = tt;
      kept = tt;
      pruned =
          last-due (g.C.Store.start store) c.args.size (c.args.size - 1) c.in_err-item.field-0.0 after c.in_err-item.ensures.never
          (λ pruned. omega (arith, c.bounds.ensures.first, c.read.ensures.pruned.0 (c.in_err-item.was ∙ ap Err pruned)));
      causes = c.in_err-item.ensures.never;
      cause = λ fault. c.read.ensures.cause.failed (c.in_err-item.was ∙ ap Err fault);
      read = record { stands = c.read.ensures.stands; start = ap (λ t. t.start) c.read.ensures.tree; told = c.read.ensures.kept.told; keeps = record { tree = c.read.ensures.tree; kept = c.read.ensures.kept; later = c.read.ensures.cause.later } };
    })

pub returns-in_err-commit_floor_in : goal.returns-in_err-commit_floor_in
returns-in_err-commit_floor_in g c =
    let exit = err_from_is_err_and c.from_residual-in_err-commit_floor_in.result c.from_residual-in_err-commit_floor_in.ensures.1 in
    rw (exit.1, exit.2) (record {
      floor = λ list is all. told-any _ (g.C.Store.told c.args.log.now.store) tt;
      some = tt;
      kept = tt;
      pruned = tt;
      causes = inl refl;
      cause = λ fault. absurd cc;
      read = record { stands = c.read.ensures.stands; start = ap (λ t. t.start) c.read.ensures.tree; told = c.read.ensures.kept.told; keeps = record { tree = c.read.ensures.tree; kept = c.read.ensures.kept; later = c.read.ensures.cause.later } };
    })

pub returns : goal.returns
returns g c =
    let store = c.args.log.now.store in
    let form = g.U.Update.form in
    let i = c.args.size - 1 in
    let after : c.args.size ≡ suc (c.args.size - 1) = omega (arith, c.if-size-eq0.false) in
    record {
      floor = λ list is all.
          told-one _ _ (g.C.Store.told store) (c.in_ok-item.ensures.item (map (spelling form) list) is) (λ read.
          floor-read form list c.args.size i c.deref.result.now c.in_ok-commit_floor_in.field-0 after all (read ∙ ap Some (sym c.deref.ensures.value)) (floor-of form c.deref.result.now c.in_ok-commit_floor_in.field-0 c.in_ok-commit_floor_in.ensures));
      some = told-any _ c.in_ok-commit_floor_in.field-0 (omega (arith, after));
      kept =
          last-there (g.C.Store.start store) c.args.size i after (at-or-past _ i (λ low.
          ok-err c.read.result _ _ c.in_ok-item.was (c.read.ensures.pruned.1 (omega (arith, low, c.bounds.ensures.first)))));
      pruned = tt;
      causes = tt;
      cause = tt;
      read = record { stands = c.read.ensures.stands; start = ap (λ t. t.start) c.read.ensures.tree; told = c.read.ensures.kept.told; keeps = record { tree = c.read.ensures.tree; kept = c.read.ensures.kept; later = c.read.ensures.cause.later } };
    }
