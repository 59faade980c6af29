-- The machine of the program is that of its databases.
use Rattle.std.proofs.Common.{◌≡◌, ap, ap₂, ℕ, suc, refl, sym, Bool, List, [], ◌∷◌, ◌∙◌, length, map, None}
use Rattle.sha2.specs.Sha256.{sha256}
use Rattle.qm_model.specs.Operations.{Bytes, Operation}
use Rattle.qm_model.specs.Forms.{Form, padded, plain, spelling, variable}
use Rattle.qm_model.specs.Live.{floor}
use Rattle.qm_model.specs.Proofs.{Proof, ops_proof, pins_at, proof_of}
use Rattle.qm_model.specs.Roots.{sha256_root, sha256_proof, sha256_pins}
use Rattle.qm_model.specs.Schemes.{Scheme}
use Rattle.qm_model.specs.Trees.{leaf, peaks, inactive_peaks, leaf_digest, digest_of, root, leaves_from, Shape}
use Rattle.qm_any.specs.Layouts.{list_root}
use Rattle.qm_any.specs.Offered.{scheme_of, sha256_hashing, sha256_layout}
use Rattle.qm_current.specs.Offered.{offered_chunk, offered_name}
use Rattle.qm_current.specs.Offered as currents
use Rattle.qm_run.specs.declared.kind.Named.{Named}
use Rattle.qm_run.specs.Program.{machine_of, machine_over, trees_of}
use Rattle.qm_run.specs.Schemes.{current, scheme}

-- a form with lengths spells operations as the machine does
module _ (shape : Shape) (form : Form) (lengths : form.sizes ≡ None) where
  spelled-same : (op : Operation) → spelling form op ≡ spelling variable op
  spelled-same op = ap (λ sizes. padded form.ordered sizes (plain sizes op)) lengths

  leaves-same : (i : ℕ) (ops : List Operation) → leaves_from sha256 shape form i ops ≡ leaves_from sha256 shape variable i ops
  leaves-same i [] = refl
  leaves-same i (op ∷ ops) = ap₂ (λ spelt ds. leaf_digest sha256 (shape.position (leaf i)) spelt ∷ ds) (spelled-same op) (leaves-same (suc i) ops)

  root-same : (list : List Operation) → list_root (sha256_hashing shape form) list ≡ sha256_root shape list
  unfolding sha256_root
  root-same list = ap (λ ls. root sha256 shape ls (inactive_peaks shape (length list) (floor list))) (leaves-same 0 list)

  proof-same : (list : List Operation) (a b : ℕ) → ops_proof sha256 shape form list a b ≡ sha256_proof shape list a b
  unfolding sha256_proof
  proof-same list a b = ap (λ ls. proof_of sha256 shape ls (inactive_peaks shape (length list) (floor list)) a b) (leaves-same 0 list)

  pins-same : (list : List Operation) (n : ℕ) → pins_at sha256 shape form list n ≡ sha256_pins shape list n
  unfolding sha256_pins
  pins-same list n = ap (λ ls. map (digest_of sha256 shape ls) (peaks shape n)) (leaves-same 0 list)

  roots-same : list_root (sha256_hashing shape form) ≡ sha256_root shape
  roots-same = λ i list. root-same list i

  proofs-same : ops_proof sha256 shape form ≡ sha256_proof shape
  proofs-same = λ i list a b. proof-same list a b i

  all-pins-same : pins_at sha256 shape form ≡ sha256_pins shape
  all-pins-same = λ i list n. pins-same list n i

  -- the machine with these root, proofs and pins
  abbrev machine_with : (List Operation → Bytes) → (List Operation → ℕ → ℕ → Proof) → (List Operation → ℕ → List Bytes) → Scheme
  machine_with root proof pins = record {
    form = form;
    shape = shape;
    hash = sha256;
    digest_size = 32;
    root = root;
    canonical = root;
    boundary = floor;
    proof = proof;
    pins = pins;
    grafts = None;
  }

  -- it is the program's
  pub machines-same : scheme_of 32 (sha256_hashing shape form) ≡ scheme shape form
  machines-same =
      ap (λ r. machine_with r (ops_proof sha256 shape form) (pins_at sha256 shape form)) roots-same
      ∙ ap (λ p. machine_with (sha256_root shape) p (pins_at sha256 shape form)) proofs-same
      ∙ ap (λ p. machine_with (sha256_root shape) (sha256_proof shape) p) all-pins-same

-- the machine of current databases with chunks of 32 bytes is the program's
pub current-same : (shape : Shape) (form : Form) (index_key : Bytes → ℕ) → currents.scheme_of 32 (sha256_layout shape offered_chunk form index_key) offered_name ≡ current shape form
current-same shape form index_key = refl

-- the machine of what is asked for
pub machine-asked : (shape : Shape) {asked_current asked_ordered is_current is_ordered : Bool} → asked_current ≡ is_current → asked_ordered ≡ is_ordered → machine_over shape is_current is_ordered ≡ machine_over shape asked_current asked_ordered
machine-asked shape p q = ap₂ (machine_over shape) (sym p) (sym q)

-- the machine of what is named
pub machine-named : (named : Named) {is_delayed : Bool} → named.is_delayed ≡ is_delayed → machine_over (trees_of is_delayed) named.is_current named.is_ordered ≡ machine_of named
machine-named named is = ap (λ delayed. machine_over (trees_of delayed) named.is_current named.is_ordered) (sym is)
