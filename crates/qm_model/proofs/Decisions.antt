-- What a walk decides: live keys, each once; and the map after a step.
use Rattle.std.proofs.Common.{◌≡◌, ℕ, Bool, true, false, List, [], ◌∷◌, ◌++◌, take, drop, map, refl, ap, ◌∙◌, Option, Some, None, subst, append_assoc}
use Rattle.std.specs.Prelude.{if◌then◌else◌, bytes_eq, option_map, is_some, All}
use Rattle.std.specs.List.{AllByRecursion as Each, IsDistinct}
use Rattle.std.proofs.lemmas.List.{take-append-drop}
use Rattle.std.proofs.lemmas.List.Elements.{All-from_recursion}
use Rattle.qm_model.specs.Operations.{Bytes, Operation, update, delete, commit}
use Rattle.qm_model.specs.Live.{Live, live_at, live_of, live_keys, touches, touched, floor, value_of}
use Rattle.qm_model.specs.Keys.{contains_key}
use Rattle.qm_model.specs.Writes.{Write, write_of, last_writes, unordered_writes, made_inactive, operation_of, overwritten}
use Rattle.qm_model.specs.Walk.{Rules, Limits, walk}
use Rattle.qm_model.specs.Step.{unordered, step}
use Rattle.qm_model.proofs.LastWrites.{bytes_same}
use Rattle.qm_model.proofs.Maps.{same_key, value_of-append}
use Rattle.qm_model.proofs.Walks.{Walks, ends, passes, decides, walks}
use Rattle.qm_model.proofs.Steps.{walked, committed-live}
use Rattle.qm_model.proofs.Keeping.{value_of-live}
use Rattle.qm_model.proofs.Overwrites.{written}
use Rattle.qm_model.proofs.KeyOrder.{Has, or-left, or-right, false-not, apart}
use Rattle.qm_model.proofs.OrderedLists.{Each-all, live-value, Single}
use Rattle.qm_model.proofs.OrderedMoves.{fold-decisions}

-- a live update is made where it stands, and its key is not touched later
live_at-touches : (f : ℕ) (op : Operation) (rest : List Operation) (u : Live) → live_at f op rest ≡ Some u → (touches u.key op ≡ true) × (touched u.key rest ≡ false)
live_at-touches f (update k v n) rest u is = cases (touched k rest) refl is
  where
    cases : (t : Bool) → touched k rest ≡ t → (if t then None else Some (record { location = f; key = k; value = v; next = n })) ≡ Some u → (bytes_eq k u.key ≡ true) × (touched u.key rest ≡ false)
    cases true at h = cc
    cases false at h =
        let key : k ≡ u.key = cc in
        (subst (λ j. bytes_eq k j ≡ true) key (bytes_same k), subst (λ j. touched j rest ≡ false) key at)
live_at-touches f (delete k) rest u is = cc
live_at-touches f (commit m g) rest u is = cc

module _ {P : Type 0} (rules : Rules P) where
  -- a walk decides keys that are touched where it goes
  Walks-touched : {rest : List Operation} {f g : ℕ} {ds : List Write} → Walks rules rest f g ds → Each (λ d. touched d.key rest ≡ true) ds
  Walks-touched ends = tt
  Walks-touched (passes {op} {rest} {ds = ds} none w) =
      Each-all (λ d. touched d.key rest ≡ true) (λ d. touched d.key (op ∷ rest) ≡ true) (λ d h. or-right (touches d.key op) (touched d.key rest) h) ds (Walks-touched w)
  Walks-touched {f = f} (decides {op} {rest} {ds = ds} u value p is says w) = (
    or-left (touches u.key op) (touched u.key rest) (live_at-touches f op rest u is).0,
    Each-all (λ d. touched d.key rest ≡ true) (λ d. touched d.key (op ∷ rest) ≡ true) (λ d h. or-right (touches d.key op) (touched d.key rest) h) ds (Walks-touched w),
  )

  -- each once
  pub Walks-single : {rest : List Operation} {f g : ℕ} {ds : List Write} → Walks rules rest f g ds → Single ds
  Walks-single ends = tt
  Walks-single (passes none w) = Walks-single w
  Walks-single {f = f} (decides {op} {rest} {ds = ds} u value p is says w) = (
    Each-all (λ d. touched d.key rest ≡ true) (λ d. bytes_eq d.key u.key ≡ false)
        (λ d h. false-not (bytes_eq d.key u.key) (λ same. apart (touched u.key rest) (subst (λ k. touched k rest ≡ true) (same_key d.key u.key same) h) (live_at-touches f op rest u is).1)) ds (Walks-touched w),
    Walks-single w,
  )

  -- and they are live
  pub Walks-live : {rest : List Operation} {f g : ℕ} {ds : List Write} → Walks rules rest f g ds → (front : List Operation) → Each (λ d. Has (live_keys (front ++ rest)) d.key) ds
  Walks-live ends front = tt
  Walks-live (passes {op} {rest} {ds = ds} none w) front = subst (λ ops. Each (λ d. Has (live_keys ops) d.key) ds) (append_assoc front (op ∷ []) rest) (Walks-live w (front ++ op ∷ []))
  Walks-live {f = f} (decides {op} {rest} {ds = ds} u value p is says w) front = (
    live-value (front ++ op ∷ rest) u.key ∙ ap is_some (value_of-live f front op rest u is),
    subst (λ ops. Each (λ d. Has (live_keys ops) d.key) ds) (append_assoc front (op ∷ []) rest) (Walks-live w (front ++ op ∷ [])),
  )

  -- so does a walk from any location on
  pub walk-single : (ops : List Operation) (f : ℕ) (limits : Limits) (policy : P) → Single (walk rules ops f limits policy).decisions
  walk-single ops f limits policy = Walks-single (walks rules (drop f ops) f limits.entries limits.skips policy)

  pub walk-live : (ops : List Operation) (f : ℕ) (limits : Limits) (policy : P) → Each (λ d. Has (live_keys ops) d.key) (walk rules ops f limits policy).decisions
  walk-live ops f limits policy =
      let ds = (walk rules ops f limits policy).decisions in
      subst (λ t. Each (λ d. Has (live_keys t) d.key) ds) (take-append-drop f ops) (Walks-live (walks rules (drop f ops) f limits.entries limits.skips policy) (take f ops))

-- keys each of which has one write differ
pub Single-distinct : (ds : List Write) → Single ds → IsDistinct bytes_eq (map (λ d. d.key) ds)
unfolding IsDistinct
Single-distinct [] h = tt
Single-distinct (d ∷ ds) h = (each ds h.0, Single-distinct ds h.1)
  where
    each : (us : List Write) → Each (λ u. bytes_eq u.key d.key ≡ false) us → Each (λ k. bytes_eq d.key k ≡ false) (map (λ (u : Write). u.key) us)
    each [] h = tt
    each (u ∷ us) h = (false-not (bytes_eq d.key u.key) (λ same. apart (bytes_eq u.key d.key) (ap (bytes_eq u.key) (same_key d.key u.key same) ∙ bytes_same u.key) h.0), each us h.1)

module _ {P : Type 0} (rules : Rules P) where
  pub decided-once : (ops : List Operation) (f : ℕ) (limits : Limits) (policy : P) → IsDistinct bytes_eq (map (λ d. d.key) (walk rules ops f limits policy).decisions)
  decided-once ops f limits policy = Single-distinct (walk rules ops f limits policy).decisions (walk-single rules ops f limits policy)

  pub decided-live : (ops : List Operation) (f : ℕ) (limits : Limits) (policy : P) → All (λ d. contains_key (live_keys ops) d.key ≡ true) (walk rules ops f limits policy).decisions
  decided-live ops f limits policy = All-from_recursion (λ d. Has (live_keys ops) d.key) (walk rules ops f limits policy).decisions (walk-live rules ops f limits policy)

  -- the map after an unordered step: the writes, then the decisions
  pub unordered-map : (ops : List Operation) (ws : List Write) (policy : P) (meta : Option Bytes) (key : Bytes) →
      value_of (step unordered rules ops ws policy meta) key ≡ overwritten (write_of (walked rules ops ws policy meta).decisions key) (overwritten (write_of (last_writes ws) key) (value_of ops key))
  unordered-map ops ws policy meta key =
      let list = ops ++ unordered_writes ops ws in
      let w = walked rules ops ws policy meta in
      let limits = rules.limits policy (made_inactive ops (unordered_writes ops ws)) in
      ap (λ es. option_map (λ e. e.value) (live_of es key)) (committed-live (list ++ map operation_of w.decisions) w.floor meta)
      ∙ value_of-append list (map operation_of w.decisions) key ∙ fold-decisions key w.decisions (value_of list key) (walk-single rules list (floor ops) limits policy) ∙ ap (overwritten (write_of w.decisions key)) (written ops ws key)
