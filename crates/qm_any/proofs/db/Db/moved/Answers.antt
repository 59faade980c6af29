use Rattle.std.proofs.Common.{arith, ◌≡◌, ◌≤◌, ◌∙◌, ◌∷◌, ◌++◌, ℕ, List, Contains, ap, sym, subst, refl, map, inl}
use Rattle.qm_model.proofs.Results.{err-then, ok-then}
use Rattle.qm_model.specs.Bits.{bits}
use Rattle.qm_model.specs.Causes.{IsCause, Rose}
use Rattle.qm_base.specs.declared.error.Error.TheVariants as errors
use Rattle.qm_base.specs.declared.error.JournalError.TheVariants as journal
use Rattle.qm_model.specs.Operations.{Bytes}
use Rattle.qm_bits.specs.Bitmaps.{all_bits}
use Rattle.qm_store.specs.KeptTrees.{KeptTree, IsKeptTree}
use Rattle.qm_store.specs.Log.{Log, IsLog}
use Rattle.qm_store.specs.Log as logs
use Rattle.qm_index.specs.Indexed.{IsIndexed}
use Rattle.qm_store.specs.Given.{Appended, AppendedPart, store_given}
use Rattle.qm_any.proofs.Telling.{three}
use Rattle.qm_store.proofs.Told.{grown-appended, appended-part, refused-appended-part}
use Rattle.qm_any.specs.Databases.{over}
use Rattle.qm_any.proofs.Unapplied.{memory-cause}
use Rattle.qm_any.proofs.db.Db.moved.Goals as goal

pub indexed-requires-clause-grown : goal.indexed-requires-clause-grown
indexed-requires-clause-grown g c = omega (arith, c.into_parts-log.ensures.size, c.in-Ok.ensures.size)

pub given_back-requires : goal.given_back-requires
given_back-requires g c = λ log given.
    let was = (c.in-Err.ensures.refused.back log given).0 in
    let leaves = sym (ap (λ l. l.tree.leaves) was) in
    (c.into_parts-log.ensures.size ∙ leaves, ap (λ l. g.C.Store.«end» l.store) was ∙ c.into_parts-log.ensures.«end» ∙ leaves)

pub returns-in-Ok : goal.returns-in-Ok
returns-in-Ok g c =
    record {
      log =
          ok-then c.indexed.result c.indexed.ensures.log (λ next is. λ list older was.
          let members = g.C.Store in
          let shape = g.F.Family.shape in
          let bytes = g.H.Digest.Digest.bytes in
          let hash = g.H.Hasher.hash in
          let from = subst (λ l. IsLog members shape bytes hash l list) (ap (λ db. db.log) c.into_parts-log.ensures.whole) was in
          three (λ (xs : List Bytes) (t : KeptTree g.row.H-Digest.Denot) (l : Log g.row.C.Denot g.row.H-Digest.Denot). IsKeptTree bytes hash shape t (list ++ xs) older → Contains ((list ++ xs) ∷ older) list → IsLog members shape bytes hash l (list ++ xs))
          (ap (map (λ v. v.items)) c.deref.ensures.value) (ap (λ b. b.tree) c.batch.view_is) (sym is) (c.in-Ok.ensures.stands list older from));
      index =
          ok-then c.indexed.result c.indexed.ensures.index (λ next takes. λ list tip lead indexed.
          takes list tip lead (subst (λ db. IsIndexed g.I.Unordered.index_key db.entries list) c.into_parts-log.ensures.whole indexed));
      active =
          ok-then c.indexed.result c.indexed.ensures.active (λ next takes. λ list tip lead ended size from.
          takes list tip lead ended size (subst (λ db. all_bits g.N.Chunks.LEN db.activity ≡ bits list) c.into_parts-log.ensures.whole from));
      rest = c.indexed.ensures.rest;
      pruned = ok-then c.indexed.result c.indexed.ensures.pruned (λ next is. is ∙ sym (ap (λ db. db.activity.pruned) c.into_parts-log.ensures.whole));
      grown =
          ok-then c.indexed.result c.indexed.ensures.log (λ next is.
          three (λ (a b : g.row.C.Denot) (xs : List Bytes). Appended g.C.Store a b xs) (ap (λ db. db.log.store) (sym c.into_parts-log.ensures.whole)) (sym (ap (λ l. l.store) is)) (ap (map (λ v. v.items)) c.deref.ensures.value)
          (grown-appended g.C.Store c.into_parts-log.result.0.store c.in-Ok.log.store (map (λ v. v.items) c.deref.result.now) c.in-Ok.ensures.grown));
      later =
          let here : g.C.Store.faults c.into_parts-log.result.0.store ≡ g.C.Store.faults c.into_parts-log.result.0.store = refl in
          ok-then c.indexed.result c.indexed.ensures.log (λ next is.
          three (λ (a b : g.row.C.Denot) (n : ℕ). g.C.Store.faults a ≤ g.C.Store.faults b) (ap (λ db. db.log.store) (sym c.into_parts-log.ensures.whole)) (sym (ap (λ l. l.store) is)) here c.in-Ok.ensures.later);
      part =
          err-then c.indexed.result c.indexed.ensures.back (λ r back.
          let more = map (λ v. v.items) c.args.lacking.items.items in
          let grown = subst (λ items. AppendedPart g.C.Store c.into_parts-log.result.0.store c.in-Ok.log.store (map (λ v. v.items) items)) c.deref.ensures.value
          (appended-part g.C.Store c.into_parts-log.result.0.store c.in-Ok.log.store (map (λ v. v.items) c.deref.result.now) (grown-appended g.C.Store c.into_parts-log.result.0.store c.in-Ok.log.store (map (λ v. v.items) c.deref.result.now) c.in-Ok.ensures.grown)) in
          let here = subst (λ s. AppendedPart g.C.Store s c.in-Ok.log.store more) (ap (λ db. db.log.store) (sym c.into_parts-log.ensures.whole)) grown in
          subst (λ given. AppendedPart g.C.Store c.args.self.log.store (store_given (λ db. db.log.store) given) more) (sym back.0) here);
      back = err-then c.indexed.result c.indexed.ensures.back (λ r back. λ x given. absurd (cc (back.0, given)));
      called =
          err-then c.indexed.result c.indexed.ensures.back (λ r back. λ s given.
          let same : c.in-Ok.log.store ≡ s = cc (back.0, given) in
          let rose = subst (λ t. Rose (g.C.Store.calls t) (g.C.Store.calls c.in-Ok.log.store)) (ap (λ db. db.log.store) (sym c.into_parts-log.ensures.whole)) c.in-Ok.ensures.grown.called in
          subst (λ t. Rose (g.C.Store.calls c.args.self.log.store) (g.C.Store.calls t)) same rose);
      causes = err-then c.indexed.result c.indexed.ensures.back (λ r back. inl back.1);
      cause =
          err-then c.indexed.result c.indexed.ensures.back (λ r back.
          memory-cause (g.C.Store.faults c.args.self.log.store) (g.C.Store.faults (store_given (λ db. db.log.store) r.given)) r.error
          (subst (λ s. g.C.Store.faults s ≤ g.C.Store.faults (store_given (λ db. db.log.store) r.given)) (ap (λ db. db.log.store) (sym c.into_parts-log.ensures.whole))
          (subst (λ given. g.C.Store.faults c.into_parts-log.result.0.store ≤ g.C.Store.faults (store_given (λ db. db.log.store) given)) (sym back.0) c.in-Ok.ensures.later)) back.1);
    }

pub returns-in-Err : goal.returns-in-Err
returns-in-Err g c =
    record {
      log = tt;
      index = tt;
      active = tt;
      rest = tt;
      pruned = tt;
      grown = tt;
      later = tt;
      part =
          let more = map (λ v. v.items) c.args.lacking.items.items in
          let part = refused-appended-part g.C.Store c.into_parts-log.result.0 (map (λ v. v.items) c.deref.result.now) c.in-Err.field-0.given c.in-Err.field-0.error c.in-Err.ensures.refused in
          let due = subst (λ items. AppendedPart g.C.Store c.into_parts-log.result.0.store (logs.store_given c.in-Err.field-0.given) (map (λ v. v.items) items)) c.deref.ensures.value part in
          let here = subst (λ s. AppendedPart g.C.Store s (logs.store_given c.in-Err.field-0.given) more) (ap (λ db. db.log.store) (sym c.into_parts-log.ensures.whole)) due in
          subst (λ s. AppendedPart g.C.Store c.args.self.log.store s more) (sym c.given_back.ensures.store) here;
      back = λ x given.
          let at = c.given_back.ensures.back x given in
          let was = c.in-Err.ensures.refused.back x.log at.0 in
          (at.1 ∙ ap (over c.into_parts-log.result.1) was.0 ∙ sym c.into_parts-log.ensures.whole, was.1);
      called = λ s given.
          subst (λ t. Rose (g.C.Store.calls t) (g.C.Store.calls s)) (ap (λ db. db.log.store) (sym c.into_parts-log.ensures.whole)) (c.in-Err.ensures.refused.called s (c.given_back.ensures.kept s given));
      causes = c.in-Err.ensures.refused.never;
      cause =
          let faults = g.C.Store.faults in
          let failed = c.in-Err.field-0.error ≡ errors.Journal journal.Store in
          subst (λ s. IsCause (faults s) (faults (store_given (λ db. db.log.store) c.given_back.result)) failed) (ap (λ db. db.log.store) (sym c.into_parts-log.ensures.whole))
          (subst (λ s. IsCause (faults c.into_parts-log.result.0.store) (faults s) failed) (sym c.given_back.ensures.store) c.in-Err.ensures.refused.cause);
    }
