use Rattle.std.proofs.Common.{subst}
use Rattle.std.specs.Prelude.{IfErr}
use Rattle.qm_model.proofs.Results.{ok-then}
use Rattle.qm_any.specs.Databases.{Database}
use Rattle.qm_any.specs.Layouts.{layout_of, hashing_of}
use Rattle.qm_any.specs.Lasting.{HasLeftPruned, IsGivenUp}
use Rattle.qm_any.proofs.Lasting.{bits-first}
use Rattle.qm_any.proofs.db.Db.cut.Goals as goal

pub returns : goal.returns
returns g c =
    record {
      stands = λ list low is. c.prune_log.ensures.stands list low (c.prune_bits.ensures.stands list low is);
      pruned =
          ok-then c.prune_log.result c.prune_log.ensures.pruned
          (λ db. bits-first g.C.Store (layout_of g.N.Chunks.LEN g.H.Digest.Digest.bytes g.H.Hasher g.F.Family g.U.Update g.I.Unordered) c.args.to c.args.self c.prune_bits.result db c.prune_bits.ensures.pruned);
      refused =
          let hashing = hashing_of g.H.Digest.Digest.bytes g.H.Hasher g.F.Family g.U.Update in
          subst (λ (m : Database _ _). IfErr c.prune_log.result (IsGivenUp g.C.Store (λ _. HasLeftPruned g.C.Store hashing (λ s. s) c.args.to m.log) m.log.store)) c.prune_bits.ensures.pruned c.prune_log.ensures.refused;
    }
