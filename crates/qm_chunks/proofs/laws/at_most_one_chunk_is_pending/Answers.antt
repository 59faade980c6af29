use Rattle.std.proofs.Common.{suc, ◌^◌, arith, sym}
use Rattle.std.proofs.lemmas.Nat.{pow_pos}
use Rattle.qm_model.proofs.RangeSpeaking.{quotient_is}
use Rattle.qm_model.proofs.GraftedLemmas.{pending_is, pending_tells}
use Rattle.qm_chunks.proofs.laws.at_most_one_chunk_is_pending.Goals as goal

pub returns-clause-unborn : goal.returns-clause-unborn
returns-clause-unborn g c h n i = (pending_tells g.F.Family.shape h n i, λ is. pending_is g.F.Family.shape h n i (g.met.F.Graftable.prompt h i) is.0 is.1)

pub returns-clause-last : goal.returns-clause-last
returns-clause-last g c h n i is =
    let tells = pending_tells g.F.Family.shape h n i is in
    let soon = g.met.F.Graftable.prompt h i in
    sym (quotient_is n (2 ^ h) (suc i) (pow_pos h) tells.0 (omega (arith, tells.1, soon)))
