use Rattle.qm_engine.proofs.turns.ordered.neighbour_from.Goals as goal

pub returns-in-Above : goal.returns-in-Above
returns-in-Above g c = record {
  readable = c.next_from.ensures.readable;
  beside = rw c.in-Above.is c.next_from.ensures.above;
  failure = c.next_from.ensures.failure;
  reads = c.next_from.ensures.reads;
}

pub returns-in-Below : goal.returns-in-Below
returns-in-Below g c = record {
  readable = c.prev_from.ensures.readable;
  beside = rw c.in-Below.is c.prev_from.ensures.below;
  failure = c.prev_from.ensures.failure;
  reads = c.prev_from.ensures.reads;
}
