use Rattle.std.proofs.Common.{◌≡◌, ◌∙◌, length, map, ap₂, sym, subst}
use Rattle.std.specs.Prelude.{IfOk}
use Rattle.std.proofs.lemmas.List.{length-map}
use Rattle.qm_model.specs.Forms.{spelling}
use Rattle.qm_model.specs.Live.{floor}
use Rattle.qm_model.specs.Trees as trees
use Rattle.qm_store.proofs.Leaves.{leaves-spelled}
use Rattle.qm_open.proofs.parts.root_of.Goals as goal

pub returns-clause-value : goal.returns-clause-value
returns-clause-value g c = λ ops has low.
    let hash = g.H.Hasher.hash in
    let shape = g.F.Family.shape in
    let form = g.U.Update.form in
    let size : c.bounds-size.result.1 ≡ length ops = c.bounds-size.ensures.size ∙ has.logged.size ∙ length-map ops (spelling form) in
    let inactive : c.inactive_peaks-inactive.result ≡ trees.inactive_peaks shape (length ops) (floor ops) = c.inactive_peaks-inactive.ensures ∙ ap₂ (trees.inactive_peaks shape) (c.new.ensures ∙ size) (c.new-2.ensures ∙ low) in
    subst (λ r. IfOk c.root.result (λ d. g.H.Digest.Digest.bytes d ≡ r)) (ap₂ (trees.root hash shape) (sym (leaves-spelled hash shape form 0 ops)) inactive)
    (c.root.ensures.value (map (spelling form) ops) has.logged)
