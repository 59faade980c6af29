use Rattle.std.proofs.Common.{◌∙◌, Some, length, map, ap, sym, subst}
use Rattle.qm_merkle.specs.Mems.{Holds, node_at}
use Rattle.std.proofs.lemmas.List.{take_all}
use Rattle.std.proofs.lemmas.Result.{err_from_is_err_and}
use Rattle.qm_merkle.proofs.PeakCounts.{one_found, one_longer}
use Rattle.qm_merkle.proofs.mem.Mem.digests.Goals as goal

pub node-requires : goal.node-requires
node-requires g c =
    subst (Holds g.F.Family.shape c.args.self.now) (sym c.position-item.is) (c.requires c.loop-position.position-index c.position-item.result c.loop-position-test.true)

pub loop-position-preserved : goal.loop-position-preserved
loop-position-preserved g c = record {
  found = one_found (node_at g.F.Family.shape c.args.self.now) c.loop-position.found.items c.push_reserved.new.self.items c.node.result c.args.positions.now c.loop-position.position-index c.position-item.result
      c.loop-position-test.true c.position-item.is c.loop-position.invariant.found c.node.ensures c.push_reserved.ensures.items;
  count = one_longer _ _ _ _ c.push_reserved.ensures.items c.loop-position.invariant.count;
  room = c.push_reserved.ensures.capacity ∙ c.loop-position.invariant.room;
}

pub loop-position-init : goal.loop-position-init
loop-position-init g c = record { found = ap (map Some) c.in_ok-found.ensures.items; count = ap length c.in_ok-found.ensures.items; room = c.in_ok-found.ensures.exact }

pub returns : goal.returns
returns g c = c.loop-position.invariant.found ∙ ap (map (node_at g.F.Family.shape c.args.self.now)) (take_all c.loop-position.position-index c.args.positions.now c.loop-position-test.false)

pub returns-in_err-found : goal.returns-in_err-found
returns-in_err-found g c = let exit = err_from_is_err_and c.from_residual.result c.from_residual.ensures.1 in rw exit.1 tt
