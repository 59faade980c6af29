-- An empty log, the head of an empty store, and the root of a fresh list.
use Rattle.std.proofs.Common.{◌≡◌, ℕ, zero, suc, ◌*◌, ◌^◌, ◌/◌, ◌-◌, ◌≤◌, ◌<◌, List, [], ◌∷◌, length, take, drop, map, refl, sym, ◌∙◌, ap, subst, arith, Option, None, Some, IfSome, All, Contains}
use Rattle.std.specs.Prelude.{◌≢◌, count_by, nat_le}
use Rattle.std.proofs.lemmas.List.{nil_from_length}
use Rattle.qm_model.specs.StoreModel.{Stored}
use Rattle.qm_model.specs.Forms.{Form, spelling}
use Rattle.qm_model.specs.Operations.{Bytes, commit, fresh}
use Rattle.qm_model.specs.Trees.{Shape, Node, leaf, end_of, peaks, row_from, digest_of, leaf_digest, root_of, ops_root}
use Rattle.qm_model.specs.Families.{Births, IsFamily, HasPeaks, over}
use Rattle.qm_merkle.specs.Mems.{IsWhole}
use Rattle.qm_merkle.proofs.Numbering.{birth-born}
use Rattle.qm_merkle.proofs.Standing.{peaks-none, stands-new}
use Rattle.qm_store.specs.declared.Store as store
use Rattle.qm_store.specs.Log.{Log, IsLog}

-- a node of two leaves or more ends past the first leaf
wide : (i h : ℕ) → 2 ≤ suc i * 2 ^ suc h
wide i h = omega (arith, some h)
  where
    some : (k : ℕ) → 1 ≤ 2 ^ k
    some zero = omega arith
    some (suc k) = omega (arith, some k)

module _ (shape : Shape) (births : Births) (family : IsFamily shape births) (peaked : HasPeaks shape) where
  -- a row of nodes over one leaf is that leaf
  row-one : (hs : List ℕ) → All (λ p. shape.birth p ≤ 1) (row_from 0 hs) → Contains (row_from 0 hs) (leaf 0) → row_from 0 hs ≡ leaf 0 ∷ []
  row-one [] born found = absurd (omega (arith, found.1))
  row-one (suc h ∷ hs) born found =
      let x : Node = record { height = suc h; index = 0 / 2 ^ suc h } in
      absurd (omega (arith, born 0 x (omega arith), family.inside x, wide x.index h))
  row-one (zero ∷ []) born found = refl
  row-one (zero ∷ zero ∷ hs) born found =
      let x : Node = record { height = 0; index = 1 } in
      let past : end_of x ≡ 2 = refl in
      absurd (omega (arith, born 1 x (omega arith), family.inside x, past))
  row-one (zero ∷ suc h ∷ hs) born found =
      let x : Node = record { height = suc h; index = 1 / 2 ^ suc h } in
      absurd (omega (arith, born 1 x (omega arith), family.inside x, wide x.index h))

  pub peaks-one : peaks shape 1 ≡ leaf 0 ∷ []
  peaks-one =
      let first : shape.birth (leaf 0) ≡ 1 = ap shape.birth (sym (family.first 0)) ∙ birth-born shape births family 0 0 (family.some 0) in
      let two : end_of (over (leaf 0)) ≡ 2 = refl in
      let low : shape.birth (leaf 0) ≤ 1 = omega (arith, first) in
      let high : 1 < shape.birth (over (leaf 0)) = omega (arith, family.inside (over (leaf 0)), two) in
      row-one (shape.heights 1) (peaked.born 1 (omega arith)) (peaked.all 1 (leaf 0) (omega arith) low high)

  -- the root over the first commit's leaf is that of a fresh list
  pub fresh-rooted : (hash : Bytes → Bytes) (form : Form) (digest : Bytes) → digest ≡ leaf_digest hash (shape.position (leaf 0)) (spelling form (commit None 0)) → root_of hash 1 0 (digest ∷ []) ≡ ops_root hash shape form fresh
  fresh-rooted hash form digest is =
      let d = leaf_digest hash (shape.position (leaf 0)) (spelling form (commit None 0)) in
      ap (λ x. root_of hash 1 0 (x ∷ [])) is
      ∙ sym (ap (λ ps. root_of hash 1 (count_by (λ p. nat_le (end_of p) 0) ps) (map (digest_of hash shape (d ∷ [])) ps)) peaks-one)

-- a log of no items
pub log-none : {C D : Type 0} (members : store.Ghosts C) (shape : Shape) (births : Births) → IsFamily shape births → HasPeaks shape → (bytes : D → Bytes) (hash : Bytes → Bytes) (log : Log C D)
    → IsWhole shape log.tree → log.tree.start ≡ 0 → log.tree.leaves ≡ 0 → log.tree.start ≡ members.start log.store → IsLog members shape bytes hash log []
log-none members shape births family peaked bytes hash log whole start leaves first = record {
  tree = stands-new shape births family peaked bytes hash log.tree start leaves
      (nil_from_length log.tree.pins (whole.pinned ∙ ap (λ n. length (peaks shape n)) start ∙ ap length (peaks-none shape births family peaked)));
  start = first;
  size = leaves;
  items = subst (λ n. IfSome (members.told log.store) (λ held. take (0 - n) held.items ≡ drop n [])) (sym start) (nothing (members.told log.store));
}
  where
    nothing : (o : Option Stored) → IfSome o (λ held. take 0 held.items ≡ [])
    nothing None = tt
    nothing (Some held) = refl

-- the head of a store that starts at 0 has no byte, if it is as long as it should be
module _ (shape : Shape) (births : Births) (family : IsFamily shape births) (peaked : HasPeaks shape) (start size : ℕ) (first : start ≡ 0) where
  none-long : length (peaks shape start) * size ≡ 0
  none-long = ap (λ n. length (peaks shape n) * size) first ∙ ap (λ ps. length ps * size) (peaks-none shape births family peaked) ∙ omega arith

  pub head-bare : (told : Option Stored) → IfSome told (λ held. length held.head ≡ length (peaks shape start) * size) → IfSome told (λ held. held.head ≡ [])
  head-bare None long = tt
  head-bare (Some held) long = nil_from_length held.head (long ∙ none-long)

  some-long : (head : Bytes) → length head ≢ length (peaks shape start) * size → 0 < length head
  some-long [] short = absurd (short (sym none-long))
  some-long (b ∷ bs) short = omega arith

  pub head-some : (told : Option Stored) → IfSome told (λ held. length held.head ≢ length (peaks shape start) * size) → IfSome told (λ held. 0 < length held.head)
  head-some None short = tt
  head-some (Some held) short = some-long held.head short
