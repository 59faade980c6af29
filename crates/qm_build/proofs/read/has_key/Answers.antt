use Rattle.std.proofs.Common.{◌∙◌, sym, subst}
use Rattle.std.proofs.lemmas.Option.{IfSome_then, same_Some}
use Rattle.std.proofs.lemmas.Result.{err_from_is_err_and}
use Rattle.qm_model.specs.Forms.{IsSpelling}
use Rattle.qm_build.proofs.Decoding.{each}
use Rattle.qm_build.proofs.Reading.{read-fault}
use Rattle.qm_build.proofs.read.has_key.Goals as goal

pub returns : goal.returns
returns g c = record {
  value = λ op. IfSome_then (g.C.Store.told c.args.log.now.store) c.in_ok-item.ensures.held (λ s here spells.
      c.spells_key.ensures op (subst (λ bs. IsSpelling g.U.Update.form bs op) (same_Some spells.item c.in_ok-item.item.items (sym spells.here ∙ here) ∙ sym c.deref.ensures.value) spells.spells));
  read = record { stands = c.read.ensures.stands; tree = c.read.ensures.tree; kept = c.read.ensures.kept; later = c.read.ensures.cause.later };
  error = tt;
}

pub returns-in_err-item : goal.returns-in_err-item
returns-in_err-item g c =
    let log = c.args.log.now in
    let exit = err_from_is_err_and c.from_residual.result c.from_residual.ensures.1 in
    rw (exit.1, exit.2) (record {
      value = λ op. each (g.C.Store.told log.store) (λ s _. tt);
      read = record { stands = c.read.ensures.stands; tree = c.read.ensures.tree; kept = c.read.ensures.kept; later = c.read.ensures.cause.later };
      error = read-fault g.C.Store log c.read.new.self c.args.at c.read.result c.in_err-item.field-0.0 c.in_err-item.was c.requires.kept c.read.ensures.pruned.0 c.in_err-item.ensures.never c.read.ensures.cause;
    })
