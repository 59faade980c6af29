-- A database as a batch, and the batches that are begun on it and on others.
use Rattle.std.proofs.Common.{◌≡◌, ◌∙◌, sym, subst, ℕ, List, [], ◌∷◌, Option}
use Rattle.qm_model.specs.Operations.{Operation}
use Rattle.qm_model.specs.Batches.{Chain, begun_on, child_of}
use Rattle.qm_roots.specs.Kept.{IsKept}
use Rattle.qm_store.specs.declared.Store as store
use Rattle.qm_any.specs.Layouts.{Hashing, Layout}
use Rattle.qm_any.specs.Databases as anys
use Rattle.qm_any.proofs.Resting.{rest-made}
use Rattle.qm_current.specs.Databases.{Database, Made, Begun, IsDatabase, IsMade, IsBegun}

module _ {C D : Type 0} {members : store.Ghosts C} {layout : Layout D} (db : Database C D) (list : List Operation) (is : IsDatabase members layout db list) where
  -- the database is a batch that does nothing
  pub rests : (batch : Made D) → batch.any ≡ anys.at_rest db.any → batch.instance ≡ db.instance
      → IsKept layout.hashing.bytes layout.hashing.hash layout.hashing.shape layout.chunk layout.hashing.form batch.kept list (list ∷ [])
      → IsMade layout.hashing layout.chunk batch (begun_on db.instance list) list
  rests batch any instance kept = record {
    any = subst (λ b. anys.IsMade layout.hashing b (begun_on db.instance list) list) (sym any) (rest-made db.instance db.any list is.any);
    kept = kept;
    numbered = instance;
  }

module _ {D : Type 0} (hashing : Hashing D) (chunk : ℕ) where
  -- a batch that keeps nothing is begun on one that does nothing
  pub begins : (batch : Begun D) (parent : Made D) (instance : ℕ) (list : List Operation) → anys.IsBegun hashing batch.any (begun_on instance list) (begun_on instance list) → batch.parent ≡ parent.kept → batch.instance ≡ parent.instance
      → IsMade hashing chunk parent (begun_on instance list) list → IsBegun hashing chunk batch (begun_on instance list) (begun_on instance list)
  begins batch parent instance list begun kept number made = record {
    any = begun;
    parent = subst (λ k. IsKept hashing.bytes hashing.hash hashing.shape chunk hashing.form k list (list ∷ [])) (sym kept) made.kept;
    numbered = number ∙ made.numbered;
  }

  -- a child of one that makes a list is begun on that
  pub follows : (batch : Begun D) (parent : Made D) (n : Option ℕ) (chain : Chain) (tip : List Operation) → anys.IsBegun hashing batch.any (child_of n chain tip) chain → batch.parent ≡ parent.kept → batch.instance ≡ parent.instance
      → IsMade hashing chunk parent chain tip → IsBegun hashing chunk batch (child_of n chain tip) chain
  follows batch parent n chain tip begun kept number made = record {
    any = begun;
    parent = subst (λ k. IsKept hashing.bytes hashing.hash hashing.shape chunk hashing.form k tip (anys.bases_of chain)) (sym kept) made.kept;
    numbered = number ∙ made.numbered;
  }
