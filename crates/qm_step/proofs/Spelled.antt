-- The operations that a list's spellings spell.
use Rattle.std.proofs.Common.{◌≡◌, ℕ, zero, suc, List, [], ◌∷◌, map, refl, sym, ◌∙◌, Option, Some, None, option_map}
use Rattle.std.specs.Prelude.{All, slice_get}
use Rattle.std.proofs.lemmas.List.Elements.{All-head, All-tail}
use Rattle.std.proofs.lemmas.Option.{slice_get-map}
use Rattle.qm_model.specs.Forms.{Form, IsOf, IsSpelling, spelling}
use Rattle.qm_model.specs.Operations.{Bytes, Operation}

-- the bytes at a location among a list's spellings spell its operation there
pub spelled-there : (form : Form) (list : List Operation) (i : ℕ) (bs : Bytes) → All (IsOf form) list → slice_get (map (spelling form) list) i ≡ Some bs → (op : Operation) × (slice_get list i ≡ Some op) × IsSpelling form bs op
spelled-there form [] i bs all is = cc
spelled-there form (op ∷ rest) zero bs all is =
    let same : spelling form op ≡ bs = cc in
    (op, refl, record { of = All-head (IsOf form) op rest all; spelled = same })
spelled-there form (op ∷ rest) (suc i) bs all is = spelled-there form rest i bs (All-tail (IsOf form) op rest all) is

-- if no bytes are, no operation is
pub unspelled-there : (form : Form) (list : List Operation) (i : ℕ) → slice_get (map (spelling form) list) i ≡ None → slice_get list i ≡ None
unspelled-there form list i is = by (slice_get list i) (sym (slice_get-map (spelling form) list i) ∙ is)
  where
    by : (o : Option Operation) → option_map (spelling form) o ≡ None → o ≡ None
    by None h = refl
    by (Some op) h = cc
