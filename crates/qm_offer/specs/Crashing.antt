-- What a crash leaves of a store that comes at any moment of a call, and how an opening fails.
use Rattle.std.specs.Prelude.{◌⊎◌, ℕ, zero, suc, min, map, IfSome}
use Rattle.qm_model.specs.Forms.{spelling}
use Rattle.qm_model.specs.Operations.{fresh}
use Rattle.qm_model.specs.Own.{Engine, Log, IsOwn, CrashesBetween}
use Rattle.qm_model.specs.Schemes.{Scheme}
use Rattle.qm_model.specs.StoreModel.{Stored, appended, rewound, HasAppended, IsImage, ReadsAs, RewindLeaves, Fails}
use Rattle.qm_store.specs.declared.Store as store

-- A commit or a sync failed, and a crash inside it would have left the same.
abbrev pub FailsSettling : Stored → Stored → Type 0
FailsSettling = Fails (λ s. ReadsAs s.stable (IsImage s)) (λ s. ReadsAs s.stable (IsImage s))

-- Inside a call, or after it, a crash leaves of an own store of the first log one that is between the two logs.
abbrev pub IsSafe : {C P : Type 0} → store.Ghosts C → Engine P → Log → Log → C → C → Type 0
IsSafe members e before after old new =
    IfSome (members.told old) (λ s. IsOwn e before s → IfSome (members.told new) (λ t. CrashesBetween e before after s t))

-- An opening failed that selected so many items: while it cut off what follows these, or appended the fresh list to an empty store, or in the
-- commit behind that. A crash inside it would have left the same, or an image of the store with the fresh list.
abbrev pub FailsOpening : Scheme → ℕ → Stored → Stored → Type 0
FailsOpening m zero s new = Fails (HasAppended (map (spelling m.form) fresh)) (λ s. IsImage (appended (map (spelling m.form) fresh) s)) s new ⊎ FailsSettling (appended (map (spelling m.form) fresh) s) new
FailsOpening m (suc n) s new = Fails (λ s. ReadsAs (min s.stable (suc n)) (RewindLeaves (suc n) s)) (λ s. ReadsAs (min s.stable (suc n)) (RewindLeaves (suc n) s)) s new ⊎ FailsSettling (rewound (suc n) s) new
