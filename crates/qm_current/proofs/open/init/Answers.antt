use Rattle.std.proofs.Common.{subst₂, inl, ◌∙◌, ap, Err}
use Rattle.qm_model.proofs.Results.{err-then}
use Rattle.qm_store.specs.declared.refusal.Given.TheVariants as given
use Rattle.qm_open.proofs.Checking.{each-known, known-at}
use Rattle.qm_any.specs.Layouts.{layout_of}
use Rattle.qm_current.proofs.CrashingOpened.{bounds-of, opened-safe}
use Rattle.qm_current.proofs.Opening.{opens-behind, opens-unread}
use Rattle.qm_current.specs.Opening.{IsUnopened, lies}
use Rattle.qm_current.proofs.open.init.Goals as goal

pub returns-in-Ok-clause-opens : goal.returns-in-Ok-clause-opens
returns-in-Ok-clause-opens g c =
    let kept = c.counted.ensures.kept in
    opens-behind g.C.Store (layout_of g.N.Chunks.LEN g.H.Digest.Digest.bytes g.H.Hasher g.F.Family g.U.Update g.I.Unordered) g.H.Digest.Digest.SIZE c.args.config.metadata.now c.args.max_size c.args.config.instance
    c.args.store c.counted.new.store kept c.counted.ensures.cause.later c.open_counted.result c.open_counted.ensures.opens

pub returns-in-Err-clause-opens : goal.returns-in-Err-clause-opens
returns-in-Err-clause-opens g c =
    let told = g.C.Store.told c.args.store in
    let cause = c.counted.ensures.cause in
    opens-unread g.C.Store (layout_of g.N.Chunks.LEN g.H.Digest.Digest.bytes g.H.Hasher g.F.Family g.U.Update g.I.Unordered) g.H.Digest.Digest.SIZE c.args.config.metadata.now c.args.max_size c.args.config.instance
    c.args.store c.counted.new.store (each-known told (λ s is. (known-at _ told s is c.bounds.ensures.stable).1)) c.counted.ensures.kept c.in-Err.error c.in-Err.ensures.refused
    (record { later = cause.later; failed = λ same. cause.failed (c.in-Err.is ∙ ap Err same) })

pub returns-in-Ok-clause-causes : goal.returns-in-Ok-clause-causes
returns-in-Ok-clause-causes g c =
    let chunk = g.N.Chunks.LEN in
    let layout = lies g.U.Update.form g.F.Family.shape g.H.Digest.Digest.SIZE chunk c.args.config.metadata.now in
    let kept = c.counted.ensures.kept in
    err-then c.open_counted.result c.open_counted.ensures.causes (λ r failed. subst₂ (λ m n. IsUnopened layout chunk c.args.max_size m n r.error) kept.start kept.«end» failed)

pub returns-in-Err-clause-causes : goal.returns-in-Err-clause-causes
returns-in-Err-clause-causes g c = inl c.in-Err.ensures.causes

pub returns-in-Ok-clause-crashes : goal.returns-in-Ok-clause-crashes
returns-in-Ok-clause-crashes g c = λ rules log.
    let layout = layout_of g.N.Chunks.LEN g.H.Digest.Digest.bytes g.H.Hasher g.F.Family g.U.Update g.I.Unordered in
    let name = c.args.config.metadata.now in
    opened-safe layout g.H.Digest.Digest.SIZE name rules (bounds-of layout g.H.Digest.Digest.SIZE name g.F.Family.births g.met.F.Family.numbered g.met.F.Family.peaked g.met.F.Graftable.ready g.met.H.Hasher.sized g.met.N.Chunks.least)
    g.C.Store c.args.max_size c.args.config.instance c.args.store log c.open_counted.result (returns-in-Ok-clause-opens g c)

pub returns-in-Err-clause-crashes : goal.returns-in-Err-clause-crashes
returns-in-Err-clause-crashes g c = λ rules log.
    let layout = layout_of g.N.Chunks.LEN g.H.Digest.Digest.bytes g.H.Hasher g.F.Family g.U.Update g.I.Unordered in
    let name = c.args.config.metadata.now in
    opened-safe layout g.H.Digest.Digest.SIZE name rules (bounds-of layout g.H.Digest.Digest.SIZE name g.F.Family.births g.met.F.Family.numbered g.met.F.Family.peaked g.met.F.Graftable.ready g.met.H.Hasher.sized g.met.N.Chunks.least)
    g.C.Store c.args.max_size c.args.config.instance c.args.store log (Err (record { given = given.Store c.counted.new.store; error = c.in-Err.error })) (returns-in-Err-clause-opens g c)
