use Rattle.std.proofs.Common.{◌∙◌, ◌*◌, ◌^◌, ◌≤◌, ap, sym, subst, refl, map, None, Some}
use Rattle.std.specs.Prelude.{IfOk}
use Rattle.std.proofs.lemmas.Result.{err_from_is_err_and}
use Rattle.qm_model.specs.Opening.{metadata_refusal}
use Rattle.qm_model.proofs.Results.{err-then}
use Rattle.qm_store.specs.Log.{log_error}
use Rattle.qm_store.proofs.Exits.{store-error}
use Rattle.qm_open.proofs.Checking.{each-known, known-at}
use Rattle.qm_pinned.specs.Metadata.{IsLaidOut, TellsWhy}
use Rattle.qm_current.specs.Opening.{lies}
use Rattle.qm_current.proofs.Opening.{counts-read, due-told, untold-fault}
use Rattle.qm_current.proofs.Unopened.{damaged-uncounted, plain-uncounted, zero-uncounted}
use Rattle.qm_current.proofs.open.counted.Goals as goal

pub returns-then-is_zero-clause-causes : goal.returns-then-is_zero-clause-causes
returns-then-is_zero-clause-causes g c =
    zero-uncounted (lies g.U.Update.form g.F.Family.shape g.D.Digest.SIZE g.N.Chunks.LEN c.args.name.now) c.args.max_size (sym c.is_zero.ensures ∙ c.if-is_zero.true)

pub returns-in_err-entries-clause-causes : goal.returns-in_err-entries-clause-causes
returns-in_err-entries-clause-causes g c =
    let e = c.in_err-entries.field-0.0 in
    let exit = err_from_is_err_and c.from_residual.result c.from_residual.ensures.1 in
    rw (exit.1, exit.2) (plain-uncounted (lies g.U.Update.form g.F.Family.shape g.D.Digest.SIZE g.N.Chunks.LEN c.args.name.now) c.args.max_size (log_error e) (store-error e))

pub returns : goal.returns
returns g c =
    let form = g.U.Update.form in
    let shape = g.F.Family.shape in
    let size = g.D.Digest.SIZE in
    let name = c.args.name.now in
    let layout = lies form shape size g.N.Chunks.LEN name in
    let told = g.C.Store.told c.args.store.now in
    let r = c.read.result in
    let laid : IsLaidOut shape size c.height.result layout = record { trees = refl; digests = refl; chunks = ap Some (sym c.height.ensures.exact) } in
    record {
      within = subst (λ h. IfOk r (λ p. p.chunks * 2 ^ h ≤ 2 ^ 62)) c.height.ensures.exact c.read.ensures.within;
      whole = c.read.ensures.whole;
      counts = each-known told (λ s is. counts-read (λ p. p.chunks) (λ p. map g.D.Digest.bytes p.pins.items) layout name s c.deref.result.now r (c.deref.ensures.value ∙ known-at _ told s is c.in_ok-entries.ensures.value)
          (c.read.ensures.readable layout laid) c.read.ensures.count c.read.ensures.pins);
      refused = each-known told (λ s is. err-then r (c.read.ensures.refused layout laid) (λ e why.
          due-told form shape size g.N.Chunks.LEN name c.args.max_size s 0 None e (sym c.is_zero.ensures ∙ c.if-is_zero.false)
          (subst (λ es. TellsWhy e (metadata_refusal layout es)) (c.deref.ensures.value ∙ known-at _ told s is c.in_ok-entries.ensures.value) why)));
      causes = err-then r (c.read.ensures.refused layout laid) (λ e why. damaged-uncounted layout c.args.max_size c.deref.result.now e (sym c.is_zero.ensures ∙ c.if-is_zero.false) why);
      kept = record { start = c.meta.ensures.same_start; end = c.meta.ensures.same_end; told = c.meta.ensures.same };
      cause = record { later = c.meta.ensures.cause.later; failed = λ is. untold-fault r _ (c.read.ensures.refused layout laid) is };
    }
