use Rattle.std.proofs.Common.{◌≡◌, [], map}
use Rattle.qm_memory.specs.ChangeViews.{named_of}
use Rattle.qm_memory.specs.Changes.{AreNamedOnce, put_in_turn}
use Rattle.qm_memory.proofs.metadata.put_all.Given as goal

-- those so far were put one after another
abbrev pub invariant-loop-name : goal.invariant-loop-name
invariant-loop-name l = record {
  put : l.kept.items ≡ put_in_turn (map named_of l.yielded) [];
  once : AreNamedOnce l.kept.items;
}
