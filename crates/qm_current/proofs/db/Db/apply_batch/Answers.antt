use Rattle.std.proofs.Common.{◌≡◌, ◌∙◌, ◌++◌, List, ◌<◌, ◌*◌, suc, true, Err, Ok, ap, ap₂, subst, sym, get_or}
use Rattle.std.specs.Prelude.{Contains}
use Rattle.qm_model.specs.Batches.{Chain, Commitment}
use Rattle.qm_model.specs.Operations.{Operation}
use Rattle.qm_model.specs.Causes.{Rose}
use Rattle.qm_model.specs.StoreModel.{except_items}
use Rattle.qm_model.proofs.Results.{ok-four}
use Rattle.qm_store.specs.Given.{store_given}
use Rattle.qm_roots.specs.Canonical.{IsCanonical}
use Rattle.qm_roots.specs.Kept.{IsKept, sizes_of}
use Rattle.qm_any.specs.Databases as anys
use Rattle.qm_any.specs.Layouts.{hashing_of, layout_of}
use Rattle.qm_any.specs.Applying as anys_applying
use Rattle.qm_any.specs.Applying.{Appends, IsUnapplied, KeepsRest, can_apply}
use Rattle.qm_current.specs.Databases.{Database, Made, IsJoined}
use Rattle.qm_current.specs.Applying.{any_answer, any_given}
use Rattle.qm_current.proofs.Applying.{counted-beside, joined-appends, joined-back, joined-rest, joined-unapplied, list-among, on-ok, sized-among, store-given}
use Rattle.qm_current.proofs.Crashing.{applied-safe, enough-of, places-of}
use Rattle.qm_current.proofs.db.Db.apply_batch.Goals as goal

pub joined-requires-clause-among : goal.joined-requires-clause-among
joined-requires-clause-among g c =
    let batch = c.batch.inside.any.value in
    let kept = c.batch.inside.kept in
    let old = c.self.inside.any in
    let fits = subst (λ b. can_apply old b ≡ true) c.deref-2.ensures c.in-Ok.ensures.fits in
    let agreed = subst anys.AreAgreed c.deref.ensures c.bounds-2.ensures.agreed in
    subst (Contains (sizes_of kept)) (sym c.self.invariant.size_is) (sized-among batch kept old.commitment agreed c.batch.invariant fits)

pub joined-requires-clause-size : goal.joined-requires-clause-size
joined-requires-clause-size g c =
    ap (λ (k : Commitment). k.size) c.in-Ok.ensures.moved.0 ∙ ap (λ b. b.bounds.tip.size) c.deref-2.ensures ∙ sym (ap (λ ns. get_or ns 0 0) c.batch.invariant)

pub joined-requires-clause-forgotten : goal.joined-requires-clause-forgotten
joined-requires-clause-forgotten g c = c.self.invariant.forgotten ∙ sym c.in-Ok.ensures.moved.1

pub joined-requires-clause-over : goal.joined-requires-clause-over
joined-requires-clause-over g c =
    let start = g.C.Store.start in
    let size = g.N.Chunks.LEN in
    subst (λ p. start c.in-Ok.any.log.store < suc p * (8 * size)) (sym c.in-Ok.ensures.moved.1)
    (subst (λ n. n < suc c.self.inside.any.activity.pruned * (8 * size)) (sym (c.in-Ok.ensures.rest.start ∙ c.bounds.ensures.first)) c.self.invariant.over)

pub given_back-requires : goal.given_back-requires
given_back-requires g c = λ x given.
    subst (λ y. IsJoined g.N.Chunks.LEN (record { any = y; canonical = c.self.inside.canonical; instance = c.self.inside.instance; name = c.self.inside.name.now })) (sym (c.in-Err.ensures.unapplied.back x given).0) c.self.invariant

pub returns-in-Ok : goal.returns-in-Ok
returns-in-Ok g c =
    let members = g.C.Store in
    let bytes = g.H.Digest.Digest.bytes in
    let hash = g.H.Hasher.hash in
    let shape = g.F.Family.shape in
    let size = g.N.Chunks.LEN in
    let form = g.U.Update.form in
    let layout = layout_of size bytes g.H.Hasher g.F.Family g.U.Update g.I.Unordered in
    let hashing = hashing_of bytes g.H.Hasher g.F.Family g.U.Update in
    let old = c.args.self.any in
    let batch = c.args.batch.now.any in
    let next = c.in-Ok.any in
    let r = c.joined.result in
    let any_is = ap (λ (d : Database g.row.C.Denot g.row.H-Digest.Denot). d.any) c.self.view_is in
    let batch_is = c.deref-2.ensures ∙ ap (λ (b : Made g.row.H-Digest.Denot). b.any) c.batch.view_is in
    let fits : can_apply old batch ≡ true = sym (ap₂ can_apply any_is batch_is) ∙ c.in-Ok.ensures.fits in
    let rest = subst (λ (d : anys.Database g.row.C.Denot g.row.H-Digest.Denot). KeepsRest members d.log.store next.log.store) any_is c.in-Ok.ensures.rest in
    let is = c.joined.ensures.made in
    let no = c.joined.ensures.refused in
    let appends : (chain : Chain) (tip : List Operation) → anys.IsMade hashing batch chain tip → Appends members old batch form tip (any_answer r) = λ chain tip made.
    let making = subst (λ b. anys.IsMade hashing b chain tip) (sym batch_is) made in
    joined-appends members old batch next r is no form tip fits
    (subst (λ o. Appends members o batch form tip (Ok next)) any_is (subst (λ b. Appends members c.self.inside.any b form tip (Ok next)) batch_is (c.in-Ok.ensures.appends chain tip making))) in
    record {
      stands = λ list chain tip stands made on.
          let before = subst (λ d. anys.IsDatabase members layout d list) (sym any_is) stands.any in
          let making = subst (λ b. anys.IsMade hashing b chain tip) (sym batch_is) made.any in
          let after = c.in-Ok.ensures.stands list chain tip before making on in
          let kept = subst (λ k. IsKept bytes hash shape size form k tip (anys.bases_of chain)) (sym (ap (λ (b : Made g.row.H-Digest.Denot). b.kept) c.batch.view_is)) made.kept in
          let own = subst (λ k. IsCanonical bytes hash shape size form k list) (sym (ap (λ (d : Database g.row.C.Denot g.row.H-Digest.Denot). d.canonical) c.self.view_is)) stands.canonical in
          let canonical = c.joined.ensures.canonical list tip (anys.bases_of chain) kept (list-among list tip chain made.any.linked on) own in
          ok-four r is canonical is canonical (λ db any root _ _. record { any = subst (λ d. anys.IsDatabase members layout d tip) (sym any) after; canonical = root });
      moved = ok-four r is c.joined.ensures.numbered is is (λ db any number _ _. (
        ap (λ (d : anys.Database g.row.C.Denot g.row.H-Digest.Denot). d.commitment) any ∙ c.in-Ok.ensures.moved.0 ∙ ap (λ (b : anys.Made g.row.H-Digest.Denot). b.bounds.tip) batch_is,
        number.0 ∙ ap (λ (d : Database g.row.C.Denot g.row.H-Digest.Denot). d.instance) c.self.view_is,
        number.1 ∙ ap (λ (d : Database g.row.C.Denot g.row.H-Digest.Denot). d.name) c.self.view_is,
      ));
      counted = λ counted. ok-four r is c.joined.ensures.numbered is is (λ db any number _ _.
          counted-beside (members.told old.log.store) (members.told db.any.log.store) c.args.self.name db.name old.activity.pruned db.any.activity.pruned
          (ap (λ (d : anys.Database g.row.C.Denot g.row.H-Digest.Denot). except_items (members.told d.log.store)) any ∙ rest.others)
          (number.1 ∙ ap (λ (d : Database g.row.C.Denot g.row.H-Digest.Denot). d.name) c.self.view_is)
          (ap (λ (d : anys.Database g.row.C.Denot g.row.H-Digest.Denot). d.activity.pruned) any ∙ c.in-Ok.ensures.moved.1 ∙ ap (λ (d : anys.Database g.row.C.Denot g.row.H-Digest.Denot). d.activity.pruned) any_is)
          counted);
      fits = on-ok r fits;
      appends = appends;
      rest = joined-rest members old batch next r is no rest;
      unapplied = joined-unapplied members old batch next r is no rest
          (subst (λ (d : anys.Database g.row.C.Denot g.row.H-Digest.Denot). Rose (members.calls d.log.store) (members.calls next.log.store)) any_is c.in-Ok.ensures.called);
      back = joined-back members old batch next r is no c.args.self;
      crashes = λ rules log chain more stands made kept.
          let places = places-of g.F.Family.shape g.F.Family.births g.met.F.Family.numbered g.met.F.Family.peaked in
          let long = ap (λ (k : Commitment). k.size) stands.any.commitment in
          applied-safe layout g.H.Digest.Digest.SIZE c.args.self.name rules g.F.Family.births places (enough-of g.N.Chunks.LEN g.met.N.Chunks.least) members c.args.self log more batch long kept r
          (appends chain (log.list ++ more) made);
    }

pub returns-in-Err : goal.returns-in-Err
returns-in-Err g c =
    let members = g.C.Store in
    let form = g.U.Update.form in
    let hashing = hashing_of g.H.Digest.Digest.bytes g.H.Hasher g.F.Family g.U.Update in
    let old = c.args.self.any in
    let batch = c.args.batch.now.any in
    let error = c.in-Err.field-0.error in
    let any_is = ap (λ (d : Database g.row.C.Denot g.row.H-Digest.Denot). d.any) c.self.view_is in
    let batch_is = c.deref-2.ensures ∙ ap (λ (b : Made g.row.H-Digest.Denot). b.any) c.batch.view_is in
    let given_is = c.given_back.ensures.any in
    let store_is = store-given c.given_back.result ∙ ap (store_given anys_applying.store_in) given_is in
    let appends : (chain : Chain) (tip : List Operation) → anys.IsMade hashing batch chain tip → Appends members old batch form tip (Err (record { given = any_given c.given_back.result; error = error })) = λ chain tip made.
    let making = subst (λ b. anys.IsMade hashing b chain tip) (sym batch_is) made in
    subst (λ given. Appends members old batch form tip (Err (record { given = given; error = error }))) (sym given_is)
    (subst (λ o. Appends members o batch form tip (Err c.in-Err.field-0)) any_is (subst (λ b. Appends members c.self.inside.any b form tip (Err c.in-Err.field-0)) batch_is (c.in-Err.ensures.appends chain tip making))) in
    record {
      stands = λ list chain tip stands made on. tt;
      moved = tt;
      counted = λ counted. tt;
      fits = tt;
      appends = appends;
      rest = subst (λ s. KeepsRest members old.log.store s) (sym store_is)
          (subst (λ (d : anys.Database g.row.C.Denot g.row.H-Digest.Denot). KeepsRest members d.log.store (store_given anys_applying.store_in c.in-Err.field-0.given)) any_is c.in-Err.ensures.rest);
      unapplied = subst (λ given. IsUnapplied members old batch (record { given = given; error = error })) (sym given_is)
          (subst (λ o. IsUnapplied members o batch c.in-Err.field-0) any_is (subst (λ b. IsUnapplied members c.self.inside.any b c.in-Err.field-0) batch_is c.in-Err.ensures.unapplied));
      back = λ x given.
          let same = (c.in-Err.ensures.unapplied.back x.any (sym given_is ∙ ap any_given given)).0 in
          c.given_back.ensures.back x given ∙ ap (λ a. record { any = a; canonical = c.self.inside.canonical; instance = c.self.inside.instance; name = c.self.inside.name.now }) same ∙ c.self.view_is;
      crashes = λ rules log chain more stands made kept.
          let places = places-of g.F.Family.shape g.F.Family.births g.met.F.Family.numbered g.met.F.Family.peaked in
          let long = ap (λ (k : Commitment). k.size) stands.any.commitment in
          applied-safe (layout_of g.N.Chunks.LEN g.H.Digest.Digest.bytes g.H.Hasher g.F.Family g.U.Update g.I.Unordered) g.H.Digest.Digest.SIZE c.args.self.name rules g.F.Family.births places (enough-of g.N.Chunks.LEN g.met.N.Chunks.least) members c.args.self log more batch long kept (Err (record { given = c.given_back.result; error = error }))
          (appends chain (log.list ++ more) made);
    }
