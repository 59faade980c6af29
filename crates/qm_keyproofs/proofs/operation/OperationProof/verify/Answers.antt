use Rattle.std.proofs.Common.{◌≡◌, ◌∙◌, ◌%◌, ◌^◌, ℕ, true, ◌∷◌, [], ap, ap₂, sym}
use Rattle.std.specs.Prelude.{◌&&◌}
use Rattle.qm_model.specs.Bits.{has_bit}
use Rattle.qm_model.specs.Grafted.{canonical}
use Rattle.qm_model.specs.RangeProofs.{range_verdict, operation_verdict}
use Rattle.qm_model.proofs.KeySpeaking.{operation_speaks}
use Rattle.qm_merkle.proofs.Numbering.{birth-born}
use Rattle.qm_graft.specs.Grafting.{grafting}
use Rattle.qm_keyproofs.specs.Views.{operation_view, range_view}
use Rattle.qm_keyproofs.proofs.Speaking.{grafting-least, grafting-size, operation_sized}
use Rattle.qm_keyproofs.proofs.operation.OperationProof.verify.Goals as goal

pub returns-clause-answer : goal.returns-clause-answer
returns-clause-answer g c =
    let hash = g.H.Hasher.hash in
    let shape = g.F.Family.shape in
    let height = grafting g.N.Chunks.LEN in
    let item = g.E.Spelled.spelling c.args.item.now in
    let location = c.args.self.now.loc in
    let chunk = c.args.self.now.chunk.bytes.items in
    let range = range_view g.D.Digest.bytes c.args.self.now.range_proof in
    let root = g.D.Digest.bytes c.args.root.now in
    let place = c.place_in_chunk.ensures ∙ ap₂ (λ l h. l % 2 ^ h) c.get.ensures c.height-height.ensures.exact in
    let bit : has_bit chunk (location % 2 ^ height) ≡ true = sym (ap₂ has_bit c.deref.ensures.value place) ∙ sym c.is_set.ensures ∙ c.if-not-is_set.false in
    c.shows.ensures
    ∙ ap₂ (λ h a. range_verdict hash shape h (item ∷ []) a (c.deref-2.result.now ∷ []) range root) c.height-height.ensures.exact c.get-2.ensures
    ∙ ap (λ bytes. range_verdict hash shape height (item ∷ []) location (bytes ∷ []) range root) c.deref-2.ensures.value
    ∙ ap (λ t. t && range_verdict hash shape height (item ∷ []) location (chunk ∷ []) range root) (sym bit)

pub returns-clause-speaks : goal.returns-clause-speaks
returns-clause-speaks g c = λ form ops few is yes_is.
    let hash = g.H.Hasher.hash in
    let shape = g.F.Family.shape in
    let size = g.N.Chunks.LEN in
    let height = grafting size in
    let item = g.E.Spelled.spelling c.args.item.now in
    let proof = operation_view g.D.Digest.bytes c.args.self.now in
    let power = g.met.N.Chunks.power in
    let born = λ (k : ℕ). ap shape.birth (sym (g.met.F.Family.numbered.first k)) ∙ birth-born shape g.F.Family.births g.met.F.Family.numbered k 0 (g.met.F.Family.numbered.some k) in
    let said : operation_verdict hash shape height proof item (canonical hash shape height form ops) ≡ true =
    ap (operation_verdict hash shape height proof item) (sym is) ∙ sym (returns-clause-answer g c) ∙ yes_is in
    let whole = c.args.self.now.chunk.whole ∙ sym (grafting-size size power.0 power.1) in
    operation_speaks hash g.D.Digest.SIZE g.met.H.Hasher.sized shape g.F.Family.births g.met.F.Family.numbered g.met.F.Family.peaked born g.met.F.Graftable.prompt height (grafting-least size power.0 power.1 g.met.N.Chunks.least)
    form ops few proof item (operation_sized g.D.Digest.bytes g.D.Digest.SIZE g.met.D.Digest.sized height c.args.self.now whole) said
