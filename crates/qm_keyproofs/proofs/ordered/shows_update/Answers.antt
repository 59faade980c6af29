use Rattle.std.proofs.Common.{◌≡◌, ◌∙◌, ℕ, true, Some, refl, ap, ap₂, sym}
use Rattle.qm_model.specs.Operations.{update}
use Rattle.qm_model.specs.Forms.{Form, IsOf}
use Rattle.qm_model.specs.Grafted.{canonical}
use Rattle.qm_model.specs.RangeProofs.{key_verdict}
use Rattle.qm_model.proofs.KeySpeaking.{key_speaks}
use Rattle.qm_merkle.proofs.Numbering.{birth-born}
use Rattle.qm_graft.specs.Grafting.{grafting}
use Rattle.qm_keyproofs.specs.Lent.{lent_bytes}
use Rattle.qm_keyproofs.specs.Views.{operation_view}
use Rattle.qm_keyproofs.proofs.Speaking.{grafting-least, grafting-size, operation_sized}
use Rattle.qm_keyproofs.proofs.ordered.shows_update.Given
use Rattle.qm_keyproofs.proofs.ordered.shows_update.Goals as goal

-- how the database's operations are spelled
form_of : Given.Over → Form
form_of g = record { ordered = true; sizes = g.V.ValueEncoding.fixed; is_key = g.K.ByteString.has; is_value = g.V.Value.ByteString.has }

pub returns-clause-answer : goal.returns-clause-answer
unfolding form_of
returns-clause-answer g c =
    let hash = g.H.Hasher.hash in
    let shape = g.F.Family.shape in
    let height = grafting g.N.Chunks.LEN in
    let proof = operation_view g.H.Digest.Digest.bytes c.args.proof.now in
    let root = g.H.Digest.Digest.bytes c.args.root.now in
    c.verify.ensures.answer
    ∙ ap₂ (λ k v. key_verdict hash shape height (form_of g) proof k v (Some (lent_bytes g.K.ByteString.bytes c.lend-3.result)) root) c.lend.ensures.bytes c.lend-2.ensures.bytes
    ∙ ap (λ n. key_verdict hash shape height (form_of g) proof (g.K.ByteString.bytes c.args.key.now) (g.V.Value.ByteString.bytes c.args.value.now) (Some n) root) c.lend-3.ensures.bytes

pub returns-clause-speaks : goal.returns-clause-speaks
unfolding form_of
returns-clause-speaks g c = λ ops few fit is yes_is.
    let hash = g.H.Hasher.hash in
    let shape = g.F.Family.shape in
    let size = g.N.Chunks.LEN in
    let height = grafting size in
    let form = form_of g in
    let key = g.K.ByteString.bytes c.args.key.now in
    let value = g.V.Value.ByteString.bytes c.args.value.now in
    let next = g.K.ByteString.bytes c.args.next_key.now in
    let proof = operation_view g.H.Digest.Digest.bytes c.args.proof.now in
    let power = g.met.N.Chunks.power in
    let born = λ (k : ℕ). ap shape.birth (sym (g.met.F.Family.numbered.first k)) ∙ birth-born shape g.F.Family.births g.met.F.Family.numbered k 0 (g.met.F.Family.numbered.some k) in
    let said : key_verdict hash shape height form proof key value (Some next) (canonical hash shape height form ops) ≡ true =
    ap (key_verdict hash shape height form proof key value (Some next)) (sym is) ∙ sym (returns-clause-answer g c) ∙ yes_is in
    let whole = c.args.proof.now.chunk.whole ∙ sym (grafting-size size power.0 power.1) in
    let short : IsOf form (update key value (Some next)) = (
      record { known = c.lend.ensures.known; sized = g.met.V.ValueEncoding.key_sized key c.lend.ensures.known c.lend.ensures.short },
      record { known = c.lend-2.ensures.known; sized = g.met.V.ValueEncoding.value_sized value c.lend-2.ensures.known c.lend-2.ensures.short },
      refl,
      record { known = c.lend-3.ensures.known; sized = g.met.V.ValueEncoding.key_sized next c.lend-3.ensures.known c.lend-3.ensures.short },
    ) in
    key_speaks hash g.H.Digest.Digest.SIZE g.met.H.Hasher.sized shape g.F.Family.births g.met.F.Family.numbered g.met.F.Family.peaked born g.met.F.Graftable.prompt height (grafting-least size power.0 power.1 g.met.N.Chunks.least)
    form ops few fit proof key value (Some next) short (operation_sized g.H.Digest.Digest.bytes g.H.Digest.Digest.SIZE g.met.H.Digest.Digest.sized height c.args.proof.now whole) said
