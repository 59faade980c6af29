-- A database as a batch, and what a call leaves that does nothing.
use Rattle.std.proofs.Common.{◌≡◌, ◌∙◌, ◌≤◌, le_refl, ℕ, suc, min, refl, sym, ap, arith, List, [], ◌∷◌, length, take, Contains, None, Some}
use Rattle.std.specs.Prelude.{All, if◌then◌else◌}
use Rattle.std.proofs.Math.Seq.{take-length, drop-length}
use Rattle.std.proofs.lemmas.List.{append-nil, take_all, take_min, length-map}
use Rattle.std.proofs.lemmas.List.Elements.{All-nil, All-cons}
use Rattle.qm_model.specs.Live.{floor, touched}
use Rattle.qm_step.specs.Changes.{AreChanges, stands_at, place_in}
use Rattle.qm_model.specs.Forms.{spelling}
use Rattle.qm_store.specs.KeptTrees.{IsAdding, leaves_of}
use Rattle.qm_model.specs.Operations.{Operation}
use Rattle.qm_model.specs.Batches.{Chain, Kept, commitment, begun_on, child_of}
use Rattle.qm_model.proofs.Chains.{Contains-first}
use Rattle.qm_store.specs.declared.Store as store
use Rattle.qm_any.specs.Layouts.{Hashing, Layout, list_root, spellings}
use Rattle.qm_any.specs.Databases.{Database, Made, IsDatabase, IsMade, IsBegun, at_rest}

-- a step that does nothing changes no key
still : (list : List Operation) → AreChanges [] list list
still list = record {
  begins = take-length list;
  each = λ key. sym (ap (λ own. if touched key own then Some (record { now = stands_at list key; before = place_in list key }) else None) (drop-length list));
}

All-one : {A : Type 0} (P : A → Type 0) (x : A) → P x → All P (x ∷ [])
All-one P x p = All-cons P x [] p (λ k d l. absurd (omega (arith, l)))

module _ {C D : Type 0} {members : store.Ghosts C} {layout : Layout D} where
  -- the database is a batch that does nothing
  pub rest-made : (n : ℕ) (db : Database C D) (list : List Operation) → IsDatabase members layout db list → IsMade layout.hashing (at_rest db) (begun_on n list) list
  rest-made n db list is =
      let by = layout.hashing in
      let own = spellings by list in
      let size : db.commitment.size ≡ length list = ap (λ c. c.size) is.commitment in
      record {
        bounds = record { base = is.commitment; db = is.commitment; tip = is.commitment; ancestors = refl };
        lowest = is.floor;
        live = is.live;
        metadata = is.metadata;
        linked = tt;
        steps = (record { size = size; list = sym (append-nil list); changes = still list }, tt);
        tree = record {
          leaves = size ∙ sym (length-map list (spelling by.form));
          lists = [];
          history = tt;
          adding = All-nil (IsAdding by.shape);
          through = All-one (λ l. Contains (leaves_of by.hash by.shape own ∷ []) (leaves_of by.hash by.shape l)) own (Contains-first (leaves_of by.hash by.shape own) []);
        };
        of = is.lent.of;
        good = is.good;
        rises = All-one (λ (l : List Operation). floor l ≤ floor list) list (le_refl (floor list));
        ring = is.ring;
      }

module _ {D : Type 0} {hashing : Hashing D} where
  kept-count : (made : Made D) (chain : Chain) (tip : List Operation) → IsMade hashing made chain tip → length made.bounds.ancestors ≡ length chain.kept
  kept-count made chain tip is = ap length is.bounds.ancestors ∙ length-map chain.kept (λ (k : Kept). commitment (list_root hashing) k.tip)

  -- a child of a batch that keeps all that this keeps
  pub child-all : (made : Made D) (chain : Chain) (tip : List Operation) → IsMade hashing made chain tip
      → IsBegun hashing (record { parent = made; keep = suc (length made.bounds.ancestors); writes = [] }) (child_of None chain tip) chain
  child-all made chain tip is = record {
    parent = is;
    kept = ap (λ older. record { base = chain.base; tip = tip } ∷ older) (sym (take_all (length made.bounds.ancestors) chain.kept (omega (arith, kept-count made chain tip is))));
  }

  -- one that keeps the first of these
  pub child-first : (n : ℕ) (made : Made D) (chain : Chain) (tip : List Operation) → IsMade hashing made chain tip
      → IsBegun hashing (record { parent = made; keep = suc (min n (length made.bounds.ancestors)); writes = [] }) (child_of (Some n) chain tip) chain
  child-first n made chain tip is = record {
    parent = is;
    kept = ap (λ older. record { base = chain.base; tip = tip } ∷ older) (sym (ap (λ c. take (min n c) chain.kept) (kept-count made chain tip is) ∙ take_min n chain.kept));
  }
