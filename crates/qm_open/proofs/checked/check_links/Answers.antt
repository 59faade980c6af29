use Rattle.std.proofs.Common.{Bool, ◌≡◌, ◌≢◌, ◌∙◌, sym, inl, inr, true, false, refl}
use Rattle.std.specs.Prelude.{◌&&◌, not}
use Rattle.std.proofs.lemmas.Option.{IfSome_then}
use Rattle.qm_base.specs.declared.error.Corrupt.TheVariants as corrupt
use Rattle.qm_base.specs.declared.error.Error.{Error}
use Rattle.qm_base.specs.declared.error.Error.TheVariants as errors
use Rattle.qm_store.specs.declared.Store as store
use Rattle.qm_store.specs.Log.{Log}
use Rattle.qm_build.specs.Reads.{IsRebuildError}
use Rattle.qm_build.proofs.Decoding.{each}
use Rattle.qm_build.proofs.Reading.{read-none}
use Rattle.qm_open.proofs.checked.check_links.Goals as goal

no-links : {C D : Type 0} (members : store.Ghosts C) (a b : Log C D) (e : Error) → IsRebuildError members a b e → e ≢ errors.DataCorrupted corrupt.LinksFormNoRing
no-links members a b e (inl (inl memory)) = λ is. cc
no-links members a b e (inl (inr (fault, rose))) = λ is. cc
no-links members a b e (inr lost) = λ is. cc

formed : (ordered told ring : Bool) → told ≡ ring → told ≡ true → (ordered && not ring) ≡ false
formed true told true same is = refl
formed true told false same is = cc
formed false told ring same is = refl

apart : (ordered told ring : Bool) → ordered ≡ true → told ≡ ring → told ≡ false → (ordered && not ring) ≡ true
apart true told true kind same is = cc
apart true told false kind same is = refl
apart false told ring kind same is = cc

pub returns-then-not-is_ordered : goal.returns-then-not-is_ordered
returns-then-not-is_ordered g c =
    let log = c.args.log.now in
    let unordered : g.U.Update.form.ordered ≡ false = sym c.is_ordered.ensures ∙ c.if-not-is_ordered.true in
    record {
      ring = each (g.C.Store.told log.store) (λ s. rw unordered refl);
      broken = tt;
      undecoded = tt;
      read = read-none g.C.Store g.F.Family.shape g.H.Digest.Digest.bytes g.H.Hasher.hash log;
      error = tt;
    }

pub returns-in-Ok-true : goal.returns-in-Ok-true
returns-in-Ok-true g c = record {
  ring = IfSome_then (g.C.Store.told c.args.log.now.store) c.in-Ok-true.ensures.ring (λ s same. formed g.U.Update.form.ordered c.in-Ok-true.field-0 _ same c.in-Ok-true.field-0-test);
  broken = tt;
  undecoded = tt;
  read = c.forms_ring.ensures.read;
  error = tt;
}

pub returns-in-Ok-false : goal.returns-in-Ok-false
returns-in-Ok-false g c = record {
  ring = each (g.C.Store.told c.args.log.now.store) (λ s. tt);
  broken = λ is. IfSome_then (g.C.Store.told c.args.log.now.store) c.in-Ok-false.ensures.ring (λ s same. apart g.U.Update.form.ordered c.in-Ok-false.field-0 _ (sym c.is_ordered.ensures ∙ c.if-not-is_ordered.false) same c.in-Ok-false.field-0-test);
  undecoded = λ is. absurd cc;
  read = c.forms_ring.ensures.read;
  error = inr (sym c.is_ordered.ensures ∙ c.if-not-is_ordered.false, refl);
}

pub returns-in-Err : goal.returns-in-Err
returns-in-Err g c =
    let log = c.args.log.now in
    let told = g.C.Store.told log.store in
    let failed = c.in-Err.ensures in
    record {
      ring = each told (λ s. tt);
      broken = λ is. absurd (no-links g.C.Store log c.forms_ring.new.log c.in-Err.error failed.error is);
      undecoded = λ is. IfSome_then told failed.corrupt (λ s lost. lost is);
      read = c.forms_ring.ensures.read;
      error = inl failed.error;
    }
