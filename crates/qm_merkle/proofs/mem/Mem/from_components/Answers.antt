use Rattle.std.proofs.Common.{ap, arith, inl, length, refl}
use Rattle.std.proofs.lemmas.List.{length-map}
use Rattle.std.proofs.lemmas.Result.{err_from_is_err_and}
use Rattle.qm_model.specs.Trees.{peaks}
use Rattle.qm_merkle.proofs.Numbering.{sizes_tell}
use Rattle.qm_merkle.proofs.mem.Mem.from_components.Goals as goal

pub nodes_to_pin-requires : goal.nodes_to_pin-requires
nodes_to_pin-requires g c =
    let r = c.requires.size in
    omega (arith, r.1, sizes_tell g.F.Family.shape g.F.Family.births g.met.F.Family.numbered c.args.pruned_to r.0 (omega (arith, r.2)))

pub of_parts-requires-clause-pins : goal.of_parts-requires-clause-pins
of_parts-requires-clause-pins g c =
    omega (arith, c.requires.pins, ap length c.in_ok-positions.ensures, length-map (peaks g.F.Family.shape c.args.pruned_to) g.F.Family.shape.position)

pub returns-in_err-positions : goal.returns-in_err-positions
returns-in_err-positions g c =
    let exit = err_from_is_err_and c.from_residual.result c.from_residual.ensures.1 in
    record {
      ok = λ n is. rw exit.1 tt;
      enough = rw exit.1 tt;
      missing = rw (exit.1, exit.2) (inl refl);
    }

pub returns : goal.returns
returns g c = record {
  ok = c.of_parts.ensures;
  enough = omega (arith, c.requires.pins, ap length c.in_ok-positions.ensures, length-map (peaks g.F.Family.shape c.args.pruned_to) g.F.Family.shape.position);
  missing = tt;
}
