use Rattle.std.proofs.Common.{◌∙◌, inl, inr, refl, length, map, ap, arith, sym, subst, Some}
use Rattle.std.proofs.lemmas.List.{take_all}
use Rattle.std.proofs.lemmas.Result.{IfOk-from_err, err_from_is_err_and}
use Rattle.qm_merkle.proofs.PeakCounts.{one_found, one_longer}
use Rattle.qm_proofs.proofs.Listing.{none_lacked}
use Rattle.qm_store.specs.Log.{IsLacked}
use Rattle.qm_store.proofs.Shown.{lacked_at}
use Rattle.qm_store.proofs.log.shown.digests_at.Goals as goal

pub loop-position-init : goal.loop-position-init
loop-position-init g c = record {
  digests = ap (map Some) c.in_ok-digests.ensures.items;
  count = ap length c.in_ok-digests.ensures.items;
  room = c.in_ok-digests.ensures.exact;
}

pub loop-position-preserved : goal.loop-position-preserved
loop-position-preserved g c = record {
  digests = one_found (g.N.Nodes.node_at c.args.nodes.now) c.loop-position.digests.items c.push_reserved.new.self.items c.in_ok-digest_at.field-0 c.args.positions.now c.loop-position.position-index c.position-item.result
      c.loop-position-test.true c.position-item.is c.loop-position.invariant.digests c.in_ok-digest_at.ensures.digest c.push_reserved.ensures.items;
  count = one_longer _ _ _ _ c.push_reserved.ensures.items c.loop-position.invariant.count;
  room = c.push_reserved.ensures.capacity ∙ c.loop-position.invariant.room;
}

pub push_reserved-requires : goal.push_reserved-requires
push_reserved-requires g c = omega (arith, c.loop-position.invariant.count, c.loop-position.invariant.room, c.loop-position-test.true)

pub returns-in_err-digests : goal.returns-in_err-digests
returns-in_err-digests g c =
    let exit = err_from_is_err_and c.from_residual.result c.from_residual.ensures.1 in
    record {
      digests = IfOk-from_err c.from_residual.result _ c.from_residual.ensures.0;
      held = IfOk-from_err c.from_residual.result _ c.from_residual.ensures.0;
      cause = rw (exit.1, exit.2) (inl refl);
    }

pub returns-in_err-digest_at : goal.returns-in_err-digest_at
returns-in_err-digest_at g c =
    let at = g.N.Nodes.node_at c.args.nodes.now in
    let result = c.from_residual-in_err-digest_at.result in
    let failed = c.from_residual-in_err-digest_at.ensures.0 in
    let lack = c.in_err-digest_at.ensures.cause in
    let exit = err_from_is_err_and result c.from_residual-in_err-digest_at.ensures.1 in
    let lacked : IsLacked at c.args.positions.now c.in_err-digest_at.field-0.0 =
    inr (
      c.position-item.result,
      lacked_at at c.args.positions.now c.loop-position.digests.items c.loop-position.position-index c.position-item.result c.loop-position.invariant.digests c.loop-position-test.true c.position-item.is lack.0,
      lack.1,
    ) in
    record {
      digests = IfOk-from_err result _ failed;
      held = IfOk-from_err result _ failed;
      cause = rw exit.1 (subst (IsLacked at c.args.positions.now) (sym exit.2) lacked);
    }

pub returns : goal.returns
returns g c =
    let at = g.N.Nodes.node_at c.args.nodes.now in
    let all = c.loop-position.invariant.digests ∙ ap (map at) (take_all c.loop-position.position-index c.args.positions.now c.loop-position-test.false) in
    record {
      digests = all;
      held = none_lacked at c.loop-position.digests.items c.args.positions.now all;
      cause = tt;
    }
