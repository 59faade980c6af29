-- The trees of operation lists, and what a batch at a list that it knows is not refused for.
use Rattle.std.proofs.Common.{◌≡◌, ℕ, true, false, List, length, map, sym, ◌∙◌, ap, ap₂}
use Rattle.qm_model.specs.Operations.{Bytes, Operation}
use Rattle.qm_model.specs.Live.{floor}
use Rattle.qm_model.specs.Trees.{root, inactive_peaks, leaves_from, digest_of, peaks}
use Rattle.qm_model.specs.Proofs.{proof_of, ops_proof, pins_at}
use Rattle.qm_model.specs.Batches.{Commitment, Chain, IsKnown, commitment, readable}
use Rattle.qm_model.proofs.Chains.{readable-known}
use Rattle.qm_chain.specs.Bounds.{Bounds, IsBounds, knows}
use Rattle.qm_chain.proofs.Fits.{at-readable}
use Rattle.qm_store.specs.KeptTrees.{leaves_of}
use Rattle.qm_store.proofs.Leaves.{leaves-spelled}
use Rattle.qm_any.specs.Layouts.{Hashing, list_root, spellings}

module _ {D : Type 0} (by : Hashing D) where
  -- the root over a list's leaves is its operations root
  pub root-kept : (spelled : List Bytes) (tip : List Operation) (inactive size low : ℕ) → spelled ≡ spellings by tip → size ≡ length tip → low ≡ floor tip → inactive ≡ inactive_peaks by.shape size low
      → root by.hash by.shape (leaves_of by.hash by.shape spelled) inactive ≡ list_root by tip
  root-kept spelled tip inactive size low are long lowest is =
      ap₂ (root by.hash by.shape) (ap (leaves_of by.hash by.shape) are ∙ sym (leaves-spelled by.hash by.shape by.form 0 tip)) (is ∙ ap₂ (inactive_peaks by.shape) long lowest)

  -- the proof over a list's leaves is the list's
  pub proof-kept : (tip : List Operation) (inactive a size low : ℕ) → size ≡ length tip → low ≡ floor tip → inactive ≡ inactive_peaks by.shape size low
      → proof_of by.hash by.shape (leaves_of by.hash by.shape (spellings by tip)) inactive a size ≡ ops_proof by.hash by.shape by.form tip a (length tip)
  proof-kept tip inactive a size low long lowest is =
      ap (λ ds. proof_of by.hash by.shape ds inactive a size) (sym (leaves-spelled by.hash by.shape by.form 0 tip))
      ∙ ap₂ (λ i n. proof_of by.hash by.shape (leaves_from by.hash by.shape by.form 0 tip) i a n) (is ∙ ap₂ (inactive_peaks by.shape) long lowest) long

  -- and so are the digests of peaks
  pub pins-kept : (tip : List Operation) (n : ℕ) → map (digest_of by.hash by.shape (leaves_of by.hash by.shape (spellings by tip))) (peaks by.shape n) ≡ pins_at by.hash by.shape by.form tip n
  pins-kept tip n = ap (λ ds. map (digest_of by.hash by.shape ds) (peaks by.shape n)) (sym (leaves-spelled by.hash by.shape by.form 0 tip))

-- a batch at a list that it knows is not refused as stale
pub known-read : (root : List Operation → Bytes) (bounds : Bounds) (chain : Chain) (tip list : List Operation) (current : Commitment) {P : Type 0} → IsBounds root bounds chain tip → current ≡ commitment root list → IsKnown list chain tip
    → knows bounds current ≡ false → P
known-read root bounds chain tip list current is at known stale =
    let read : knows bounds current ≡ true = at-readable root bounds chain tip current is ∙ ap (λ k. readable root k chain tip) at ∙ readable-known root list chain tip known in
    absurd (cc (stale, read))
