use Rattle.std.proofs.Common.{◌≡◌, ◌∙◌, ◌<◌, ◌^◌, ℕ, true, length, Option, Some, None, ap, ap₂, sym}
use Rattle.std.specs.Prelude.{option_map, IfSome}
use Rattle.qm_model.specs.Operations.{Bytes, commit}
use Rattle.qm_model.specs.Forms.{Form, IsOf, IsValue, spelling}
use Rattle.qm_model.specs.Grafted.{canonical}
use Rattle.qm_model.specs.RangeProofs.{operation_verdict}
use Rattle.qm_model.proofs.KeySpeaking.{emptied_speaks}
use Rattle.qm_merkle.proofs.Numbering.{birth-born}
use Rattle.qm_graft.specs.Grafting.{grafting}
use Rattle.qm_keyproofs.specs.Views.{operation_view}
use Rattle.qm_keyproofs.proofs.Speaking.{grafting-least, grafting-size, operation_sized, operation_low}
use Rattle.qm_keyproofs.proofs.exclusion.shows_commit.Given
use Rattle.qm_keyproofs.proofs.exclusion.shows_commit.Goals as goal

-- how the database's operations are spelled
form_of : Given.Over → Form
form_of g = record { ordered = true; sizes = g.V.ValueEncoding.fixed; is_key = g.K.ByteString.has; is_value = g.V.Value.ByteString.has }

-- what is known of metadata makes it a value
valued : (g : Given.Over) (meta : Option Bytes) → IfSome meta (λ bs. (g.V.Value.ByteString.has bs ≡ true) × (length bs < 2 ^ 32)) → IfSome meta (IsValue (form_of g))
unfolding form_of
valued g None known = tt
valued g (Some bs) known = record { known = known.0; sized = g.met.V.ValueEncoding.value_sized bs known.0 known.1 }

pub returns-clause-answer : goal.returns-clause-answer
unfolding form_of
returns-clause-answer g c =
    c.verify.ensures.answer
    ∙ ap₂ (λ m l. operation_verdict g.H.Hasher.hash g.F.Family.shape (grafting g.N.Chunks.LEN) (operation_view g.H.Digest.Digest.bytes c.args.proof.now) (spelling (form_of g) (commit m l)) (g.H.Digest.Digest.bytes c.args.root.now))
    c.lend_option.ensures.bytes (c.new.ensures ∙ c.get.ensures)

pub returns-clause-speaks : goal.returns-clause-speaks
unfolding form_of
returns-clause-speaks g c = λ ops few fit good is yes_is key.
    let hash = g.H.Hasher.hash in
    let shape = g.F.Family.shape in
    let size = g.N.Chunks.LEN in
    let height = grafting size in
    let form = form_of g in
    let meta = option_map g.V.Value.ByteString.bytes c.args.metadata.now in
    let proof = operation_view g.H.Digest.Digest.bytes c.args.proof.now in
    let item = spelling form (commit meta c.args.proof.now.loc) in
    let power = g.met.N.Chunks.power in
    let born = λ (k : ℕ). ap shape.birth (sym (g.met.F.Family.numbered.first k)) ∙ birth-born shape g.F.Family.births g.met.F.Family.numbered k 0 (g.met.F.Family.numbered.some k) in
    let said : operation_verdict hash shape height proof item (canonical hash shape height form ops) ≡ true =
    ap (operation_verdict hash shape height proof item) (sym is) ∙ sym (returns-clause-answer g c) ∙ yes_is in
    let whole = c.args.proof.now.chunk.whole ∙ sym (grafting-size size power.0 power.1) in
    let short : IsOf form (commit meta c.args.proof.now.loc) = (valued g meta c.lend_option.ensures.known, operation_low hash shape height proof item (canonical hash shape height form ops) said) in
    emptied_speaks hash g.H.Digest.Digest.SIZE g.met.H.Hasher.sized shape g.F.Family.births g.met.F.Family.numbered g.met.F.Family.peaked born g.met.F.Graftable.prompt height (grafting-least size power.0 power.1 g.met.N.Chunks.least)
    form ops few fit proof meta key good short (operation_sized g.H.Digest.Digest.bytes g.H.Digest.Digest.SIZE g.met.H.Digest.Digest.sized height c.args.proof.now whole) said
