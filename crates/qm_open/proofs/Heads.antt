-- The head of a list, over its spellings.
use Rattle.std.proofs.Common.{◌≡◌, ◌∙◌, ℕ, List, map, take, ap, sym}
use Rattle.std.proofs.lemmas.List.{take-map}
use Rattle.qm_model.specs.Forms.{spelling}
use Rattle.qm_model.specs.Operations.{Operation}
use Rattle.qm_model.specs.Schemes.{Scheme}
use Rattle.qm_model.specs.Taken.{head_at}
use Rattle.qm_store.specs.Log.{digests_from, head_over}
use Rattle.qm_store.proofs.Leaves.{leaves-spelled}

pub head-spelled : (m : Scheme) (list : List Operation) (n : ℕ) → head_at m list n ≡ head_over m.shape m.hash n (digests_from m.hash m.shape 0 (take n (map (spelling m.form) list)))
head-spelled m list n = ap (head_over m.shape m.hash n) (leaves-spelled m.hash m.shape m.form 0 (take n list) ∙ ap (digests_from m.hash m.shape 0) (sym (take-map (spelling m.form) n list)))
