-- What a scan makes of what it reads.
use Rattle.std.proofs.Common.{◌≡◌, ◌∙◌, refl, sym, ap, ap₂, ℕ, List, [], ◌∷◌, ◌++◌, ◌&&◌, Bool, true, false, Option, Some, None}
use Rattle.std.specs.Prelude.{Result, Ok, Err, IfOk, IfSome, filter_map, map, slice_get}
use Rattle.qm_base.specs.Views.{pair_view}
use Rattle.std.proofs.lemmas.Option.{same_Some}
use Rattle.qm_model.specs.Operations.{Bytes, Operation}
use Rattle.qm_model.specs.Live.{live_keys}
use Rattle.qm_model.specs.Keys.{by_key}
use Rattle.qm_model.specs.Ranges.{Limit, is_before}
use Rattle.qm_batch.specs.Gathered.{Pair}
use Rattle.qm_batch.specs.Scans.{AreNext, Place, Scanning, beginning, behind, nowhere, ahead_of, behind_first, is_ahead, left_of, unwrapped, valued}
use Rattle.qm_batch.proofs.Cuts.{filter-fails}

pub nothing-left : (index_key : Bytes → ℕ) (low high : Limit) (list : List Operation) → ahead_of index_key low high nowhere list ≡ []
nothing-left index_key low high list = ap (filter_map (valued list)) (filter-fails (λ k. is_ahead index_key low nowhere k && is_before high k) (by_key (live_keys list)) (λ x at. refl))

-- what holds of a value by two clauses
pub ok-two : {X E : Type 0} (r : Result X E) {P Q R : X → Type 0} → IfOk r P → IfOk r Q → ((x : X) → P x → Q x → R x) → IfOk r R
ok-two (Ok x) p q give = give x p q
ok-two (Err e) p q give = tt

-- the place after a key is not the one where a range begins
pub behind-begun : (key : Bytes) → behind key ≡ beginning → ⊥
behind-begun key e = cc

pub not-beginning : (ps : List Pair) (place : Place) → place ≡ behind_first ps → place ≡ beginning → ⊥
not-beginning [] place is h = no (sym is ∙ h)
  where
    no : nowhere ≡ beginning → ⊥
    no e = cc
not-beginning (p ∷ ps) place is h = behind-begun p.0 (sym is ∙ h)

pub ends-there : (ps : List Pair) (place : Place) → place ≡ behind_first ps → ps ≡ [] → place ≡ nowhere
ends-there ps place is none = is ∙ ap behind_first none

module _ (index_key : Bytes → ℕ) (low high : Limit) (list : List Operation) (before : Place) where
  -- what was read of the bucket that a scan came to
  pub went : (ps qs : List Pair) (after : Place) → ps ≡ qs → after ≡ behind_first ps → ahead_of index_key low high before list ≡ qs ++ ahead_of index_key low high (behind_first qs) list → AreNext index_key low high list before ps after
  went ps qs after same is h = h ∙ sym (ap₂ (λ xs p. xs ++ ahead_of index_key low high p list) same (is ∙ ap behind_first same))

  -- the end
  pub over : (ps : List Pair) (after : Place) → ps ≡ [] → after ≡ nowhere → ahead_of index_key low high before list ≡ [] → AreNext index_key low high list before ps after
  over ps after none is h = h ∙ sym (ap₂ (λ xs p. xs ++ ahead_of index_key low high p list) none is ∙ nothing-left index_key low high list)

module _ (index_key : Bytes → ℕ) (list : List Operation) where
  -- a scan that takes over what was read
  pub carried : (fields old : Scanning) → fields ≡ old → old.ready ≡ [] → (before : Place) → fields.place ≡ before → (ps : List Pair) (after : Place) → AreNext index_key fields.low fields.high list before ps after → (ready : List Pair) → ready ≡ ps →
      left_of index_key (record { low = fields.low; high = fields.high; place = after; ready = ready }) list ≡ left_of index_key old list
  carried fields old is empty before place ps after next ready same =
      ap (λ r. r ++ ahead_of index_key fields.low fields.high after list) same
      ∙ sym next
      ∙ ap (λ p. ahead_of index_key fields.low fields.high p list) (sym place)
      ∙ sym (ap (λ r. r ++ ahead_of index_key fields.low fields.high fields.place list) (ap (λ s. s.ready) is ∙ empty))
      ∙ ap (λ s. left_of index_key s list) is

  -- it has nothing left if that is nothing and it reads nowhere
  pub ended : (low high : Limit) (place : Place) (ready : List Pair) → ready ≡ [] → place ≡ nowhere → left_of index_key (record { low = low; high = high; place = place; ready = ready }) list ≡ []
  ended low high place ready none over = ap₂ (λ r p. r ++ ahead_of index_key low high p list) none over ∙ nothing-left index_key low high list

  pub rests : (scan : Scanning) → scan.ready ≡ [] → scan.place ≡ nowhere → left_of index_key scan list ≡ []
  rests scan none over = ap₂ (λ r p. r ++ ahead_of index_key scan.low scan.high p list) none over ∙ nothing-left index_key scan.low scan.high list

-- a flag that is not set
pub unwrapped-some : {T : Type 0} (o : Option (T × Bool)) (t : T) → Some t ≡ unwrapped o → Some (t, false) ≡ o
unwrapped-some None t h = absurd (none h)
  where
    none : {X : Type 0} {x : X} → Some x ≡ None → ⊥
    none e = cc
unwrapped-some (Some (a, true)) t h = absurd (none h)
  where
    none : {X : Type 0} {x : X} → Some x ≡ None → ⊥
    none e = cc
unwrapped-some (Some (a, false)) t h = ap (λ x. Some (x, false)) (same_Some t a h)

pub unwrapped-none : {T : Type 0} (o : Option (T × Bool)) → None ≡ unwrapped o → (t : T) → o ≡ Some (t, false) → ⊥
unwrapped-none o h t is = none (h ∙ ap unwrapped is)
  where
    none : {X : Type 0} {x : X} → None ≡ Some x → ⊥
    none e = cc

-- what holds of all that may be told
pub told-any : {X : Type 0} (o : Option X) {P : X → Type 0} → ((x : X) → P x) → IfSome o P
told-any None all = tt
told-any (Some x) all = all x

-- what holds by two facts
pub told-two : {X : Type 0} (o : Option X) {P Q R : X → Type 0} → IfSome o P → IfSome o Q → ((x : X) → P x → Q x → R x) → IfSome o R
told-two None p q then = tt
told-two (Some x) p q then = then x p q

-- after the first pair, if there is one
pub behind-some : {K V : Type 0} (key : K → Bytes) (value : V → Bytes) (pairs : List (K × V)) (p : K × V) → slice_get pairs 0 ≡ Some p → behind (key p.0) ≡ behind_first (map (pair_view key value) pairs)
behind-some key value [] p is = cc
behind-some key value (q ∷ ps) p is = ap (λ (x : _ × _). behind (key x.0)) (sym (same_Some q p is))

pub behind-none : {K V : Type 0} (key : K → Bytes) (value : V → Bytes) (pairs : List (K × V)) → slice_get pairs 0 ≡ None → nowhere ≡ behind_first (map (pair_view key value) pairs)
behind-none key value [] is = refl
behind-none key value (q ∷ ps) is = cc
