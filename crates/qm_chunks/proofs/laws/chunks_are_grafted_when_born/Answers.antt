use Rattle.qm_model.specs.Grafted.{chunk_node}
use Rattle.qm_model.proofs.GraftedLemmas.{grafted_born, born_grafted}
use Rattle.qm_chunks.proofs.laws.chunks_are_grafted_when_born.Goals as goal

pub returns : goal.returns
returns g c h n i = (grafted_born g.F.Family.shape h n i (g.met.F.Graftable.prompt h), born_grafted g.F.Family.shape h n i (g.met.F.Family.numbered.inside (chunk_node h i)))
