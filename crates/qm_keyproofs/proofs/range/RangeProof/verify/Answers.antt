use Rattle.std.proofs.Common.{◌≡◌, ◌∙◌, ℕ, map, true, ap, ap₂, sym}
use Rattle.qm_model.specs.Grafted.{chunk_size, canonical}
use Rattle.qm_model.specs.RangeProofs.{range_verdict}
use Rattle.qm_model.proofs.RangeSpeaking.{range_speaks}
use Rattle.qm_merkle.proofs.Numbering.{birth-born}
use Rattle.qm_graft.specs.Grafting.{grafting}
use Rattle.qm_keyproofs.specs.Views.{chunk_views, range_view}
use Rattle.qm_keyproofs.proofs.Speaking.{grafting-size, whole_chunks, range_sized}
use Rattle.qm_keyproofs.proofs.range.RangeProof.verify.Goals as goal

pub returns-clause-answer : goal.returns-clause-answer
returns-clause-answer g c =
    c.shows.ensures
    ∙ ap₂ (λ h a. range_verdict g.H.Hasher.hash g.F.Family.shape h (map g.E.Spelled.spelling c.args.items.now) a (chunk_views c.args.chunks.now) (range_view g.D.Digest.bytes c.args.self.now) (g.D.Digest.bytes c.args.root.now))
    c.height.ensures.exact c.get.ensures

pub returns-clause-speaks : goal.returns-clause-speaks
returns-clause-speaks g c = λ form ops few is yes_is.
    let hash = g.H.Hasher.hash in
    let shape = g.F.Family.shape in
    let size = g.N.Chunks.LEN in
    let height = grafting size in
    let items = map g.E.Spelled.spelling c.args.items.now in
    let chunks = chunk_views c.args.chunks.now in
    let range = range_view g.D.Digest.bytes c.args.self.now in
    let power = g.met.N.Chunks.power in
    let born = λ (k : ℕ). ap shape.birth (sym (g.met.F.Family.numbered.first k)) ∙ birth-born shape g.F.Family.births g.met.F.Family.numbered k 0 (g.met.F.Family.numbered.some k) in
    let said : range_verdict hash shape height items c.args.start chunks range (canonical hash shape height form ops) ≡ true =
    ap (range_verdict hash shape height items c.args.start chunks range) (sym is) ∙ sym (returns-clause-answer g c) ∙ yes_is in
    let whole = whole_chunks (chunk_size height) (λ chunk. chunk.whole ∙ sym (grafting-size size power.0 power.1)) c.args.chunks.now in
    range_speaks hash g.D.Digest.SIZE g.met.H.Hasher.sized shape g.F.Family.births g.met.F.Family.numbered g.met.F.Family.peaked born g.met.F.Graftable.prompt height form ops few items c.args.start chunks range
    (range_sized g.D.Digest.bytes g.D.Digest.SIZE g.met.D.Digest.sized height c.args.self.now chunks whole) said
