-- Heads: the pins of what a list has before a location, one after another.
use Rattle.std.proofs.Common.{◌≡◌, ◌∙◌, ℕ, ◌^◌, ◌≤◌, List, ◌++◌, length, map, take, drop, get_or, arith, ap, sym}
use Rattle.std.specs.List.{concat, take-map}
use Rattle.std.proofs.lemmas.List.{length-map, length-take-le}
use Rattle.qm_model.specs.Families.{Births, IsFamily, HasPeaks}
use Rattle.qm_model.specs.Operations.{Bytes, Operation}
use Rattle.qm_model.specs.Forms.{Form, spelling}
use Rattle.qm_model.specs.Trees.{peaks, digest_of, leaves_from, Shape}
use Rattle.qm_model.specs.Proofs.{pins_at}
use Rattle.qm_merkle.proofs.Growth.{digest-append, map_same}
use Rattle.qm_store.specs.Log.{IsHead, digests_from}
use Rattle.qm_store.proofs.Leaves.{leaves-spelled, length-digests_from, digests_from-split}
use Rattle.qm_model.specs.Taken.{head_at}
use Rattle.qm_model.specs.Schemes.{Scheme}
use Rattle.qm_any.specs.Layouts.{Hashing}
use Rattle.qm_any.specs.Offered.{sha256_hashing, scheme_of}

-- the machine of lists that are hashed by sha256
abbrev pub scheme : Shape → Form → Scheme
scheme shape form = scheme_of 32 (sha256_hashing shape form)

module _ {D : Type 0} (hashing : Hashing D) (size : ℕ) (births : Births) (family : IsFamily hashing.shape births) (peaked : HasPeaks hashing.shape) (list : List Operation) (n : ℕ) (few : n ≤ 2 ^ 62) (within : n ≤ length list) where
  abbrev items : List Bytes
  items = map (spelling hashing.form) list

  long : n ≤ length items
  long = omega (arith, within, length-map list (spelling hashing.form))

  -- the pins at a location are those of what stands before it
  pins-first : map (digest_of hashing.hash hashing.shape (digests_from hashing.hash hashing.shape 0 items)) (peaks hashing.shape n) ≡ pins_at hashing.hash hashing.shape hashing.form (take n list) n
  pins-first =
      let before = leaves_from hashing.hash hashing.shape hashing.form 0 (take n list) in
      let past = digests_from hashing.hash hashing.shape n (drop n items) in
      let own : digests_from hashing.hash hashing.shape 0 (take n items) ≡ before = ap (digests_from hashing.hash hashing.shape 0) (take-map (spelling hashing.form) n list) ∙ sym (leaves-spelled hashing.hash hashing.shape hashing.form 0 (take n list)) in
      let count : length before ≡ n = sym (ap length own) ∙ length-digests_from hashing.hash hashing.shape 0 (take n items) ∙ length-take-le n items long in
      ap (λ ds. map (digest_of hashing.hash hashing.shape ds) (peaks hashing.shape n)) (sym (digests_from-split hashing.hash hashing.shape n items long) ∙ ap (λ ds. ds ++ past) own)
      ∙ map_same (digest_of hashing.hash hashing.shape (before ++ past)) (digest_of hashing.hash hashing.shape before) (peaks hashing.shape n)
      (λ k d lt. digest-append hashing.hash hashing.shape before past (get_or (peaks hashing.shape n) k d).height (get_or (peaks hashing.shape n) k d).index
      (omega (arith, family.inside (get_or (peaks hashing.shape n) k d), peaked.born n few k d lt, count)))

  -- so a head over the list's leaves is that of its list
  pub head-is : (head : Bytes) → IsHead hashing.shape hashing.bytes hashing.hash n (digests_from hashing.hash hashing.shape 0 items) head → head ≡ head_at (scheme_of size hashing) list n
  head-is head is = sym is.spelled ∙ ap concat (is.digests ∙ pins-first)
