-- What a yes says, over either family of trees.
use Rattle.std.proofs.Common.{◌≡◌, ap, sym, subst, ◌∙◌, Some, true}
use Rattle.std.specs.Prelude.{IfOk, option_map}
use Rattle.qm_model.specs.Mmr.{mmr}
use Rattle.qm_model.specs.Mmb.{mmb}
use Rattle.qm_graft.specs.Grafting.{grafting}
use Rattle.qm_client.specs.Provable.{claim_view}
use Rattle.qm_checking.specs.Says.{YesSays}
use Rattle.qm_checking.specs.Views.{trees_view}
use Rattle.qm_checking.proofs.Sayings.{yes_says}
use Rattle.qm_checking.proofs.input.verdict.Goals as goal

pub returns-in-Mmr-clause-says : goal.returns-in-Mmr-clause-says
returns-in-Mmr-clause-says g c =
    let root = g.H.Digest.Digest.bytes c.args.asked.now.root in
    let claim = claim_view c.args.asked.now.claim in
    subst (λ trees. IfOk c.check_proof.result (λ verdict. verdict ≡ Some true → YesSays g.H.Hasher.hash (grafting g.N.Chunks.LEN) g.N.Chunks.LEN g.H.Digest.Digest.SIZE (record { shape = trees_view trees; root = root; claim = claim }) c.args.input.now)) (sym c.in-Mmr.is)
    (yes_says g.H.Hasher.hash (grafting g.N.Chunks.LEN) g.N.Chunks.LEN g.H.Digest.Digest.SIZE (record { shape = mmr; root = root; claim = claim }) c.check_proof.result c.args.input.now c.deref.result.now
    (ap Some c.deref.ensures.value ∙ (sym (ap (option_map (λ bytes. bytes.items)) c.in-Some.is) ∙ c.in_ok-bytes.ensures)) c.check_proof.ensures.says)

pub returns-clause-says : goal.returns-clause-says
returns-clause-says g c =
    let root = g.H.Digest.Digest.bytes c.args.asked.now.root in
    let claim = claim_view c.args.asked.now.claim in
    subst (λ trees. IfOk c.check_proof-in-Mmb.result (λ verdict. verdict ≡ Some true → YesSays g.H.Hasher.hash (grafting g.N.Chunks.LEN) g.N.Chunks.LEN g.H.Digest.Digest.SIZE (record { shape = trees_view trees; root = root; claim = claim }) c.args.input.now)) (sym c.in-Mmb.is)
    (yes_says g.H.Hasher.hash (grafting g.N.Chunks.LEN) g.N.Chunks.LEN g.H.Digest.Digest.SIZE (record { shape = mmb; root = root; claim = claim }) c.check_proof-in-Mmb.result c.args.input.now c.deref-in-Mmb.result.now
    (ap Some c.deref-in-Mmb.ensures.value ∙ (sym (ap (option_map (λ bytes. bytes.items)) c.in-Some.is) ∙ c.in_ok-bytes.ensures)) c.check_proof-in-Mmb.ensures.says)
