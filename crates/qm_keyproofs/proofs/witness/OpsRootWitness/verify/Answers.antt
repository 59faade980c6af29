use Rattle.std.proofs.Common.{◌≡◌, ◌∙◌, ℕ, true, ap, sym, rules}
use Rattle.std.specs.Prelude.{bytes_eq}
use Rattle.qm_model.specs.Grafted.{canonical}
use Rattle.qm_model.specs.RangeProofs.{witness_verdict}
use Rattle.qm_model.proofs.KeySpeaking.{witness_speaks}
use Rattle.qm_merkle.proofs.Numbering.{birth-born}
use Rattle.qm_graft.specs.Grafting.{grafting}
use Rattle.qm_keyproofs.specs.Views.{witness_view}
use Rattle.qm_keyproofs.proofs.Speaking.{grafting-least}
use Rattle.qm_keyproofs.proofs.witness.OpsRootWitness.verify.Goals as goal

pub returns-clause-answer : goal.returns-clause-answer
returns-clause-answer g c =
    let compared : c.eq.result ≡ bytes_eq (g.D.Digest.bytes c.canonical_root-made.result) (g.D.Digest.bytes c.args.root.now) = search rules in
    compared ∙ ap (λ d. bytes_eq d (g.D.Digest.bytes c.args.root.now)) c.canonical_root-made.ensures.digest

pub returns-clause-speaks : goal.returns-clause-speaks
returns-clause-speaks g c = λ form ops few is yes_is.
    let hash = g.H.Hasher.hash in
    let shape = g.F.Family.shape in
    let size = g.N.Chunks.LEN in
    let height = grafting size in
    let witness = witness_view g.D.Digest.bytes c.args.self.now in
    let ops_root = g.D.Digest.bytes c.args.ops_root.now in
    let power = g.met.N.Chunks.power in
    let born = λ (k : ℕ). ap shape.birth (sym (g.met.F.Family.numbered.first k)) ∙ birth-born shape g.F.Family.births g.met.F.Family.numbered k 0 (g.met.F.Family.numbered.some k) in
    let said : witness_verdict hash shape height witness ops_root (canonical hash shape height form ops) ≡ true =
    ap (witness_verdict hash shape height witness ops_root) (sym is) ∙ sym (returns-clause-answer g c) ∙ yes_is in
    witness_speaks hash g.D.Digest.SIZE g.met.H.Hasher.sized shape g.F.Family.births g.met.F.Family.numbered g.met.F.Family.peaked born g.met.F.Graftable.prompt height (grafting-least size power.0 power.1 g.met.N.Chunks.least)
    form ops few witness ops_root (g.met.D.Digest.sized c.args.ops_root.now) said
