use Rattle.std.proofs.Common.{◌≡◌, ◌-◌, map, take, drop}
use Rattle.qm_memory.proofs.items.move_down.Given as goal

-- the ends so far are moved, and the others stand
abbrev pub invariant-loop-end : goal.invariant-loop-end
invariant-loop-end l = record {
  done : take l.end-index l.end-items ≡ map (λ end. end - l.gone) (take l.end-index l.fn.ends.items);
  rest : drop l.end-index l.end-items ≡ drop l.end-index l.fn.ends.items;
}
