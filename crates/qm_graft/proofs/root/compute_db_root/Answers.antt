use Rattle.std.proofs.Common.{◌≡◌, ◌∙◌, ◌+◌, arith, ap, length}
use Rattle.std.proofs.lemmas.Result.{IfOk-from_err}
use Rattle.qm_model.specs.Trees.{peaks}
use Rattle.qm_bits.specs.Bitmaps.{bit_count, all_bits}
use Rattle.qm_graft.specs.Grafting.{grafting}
use Rattle.qm_graft.proofs.Fitting.{grafting-span}
use Rattle.qm_graft.proofs.Rooting.{bits-count, pending-is, partial-is}
use Rattle.qm_graft.proofs.root.compute_db_root.Goals as goal

pub returns : goal.returns
returns g c = record {
  canonical = λ form ops same floor ops_root tells.
      let hash = g.H.Hasher.hash in
      let shape = g.F.Family.shape in
      let size = g.N.Chunks.LEN in
      let height = grafting size in
      let map = g.B.Readable.bitmap c.args.bits.now in
      let power = g.met.N.Chunks.power in
      let span = grafting-span size power.0 power.1 in
      let long = bits-count size map ops same in
      let leaves : c.new-leaves.result ≡ length ops = c.new-leaves.ensures ∙ c.len.ensures ∙ long in
      c.canonical_root.ensures.canonical shape height form ops ops_root (c.in_ok-grafted.ensures.root form ops leaves floor tells)
      (c.in_ok-pending.ensures.digest ∙ pending-is hash shape height size (bit_count size map) (all_bits size map) ops span same long)
      (c.in_ok-partial.ensures.digest ∙ partial-is hash shape height size (bit_count size map) (all_bits size map) ops span same long);
  made =
      let first = c.in_ok-grafted.ensures.made in
      let second = c.in_ok-pending.ensures.made in
      let third = c.in_ok-partial.ensures.made in
      let last = c.canonical_root.ensures.made in
      let leaves = ap (λ n. length (peaks g.F.Family.shape n)) (c.new-leaves.ensures ∙ c.len.ensures) in
      (second.0 + third.0 + 1, omega (arith, second.1, third.1), omega (arith, first, second.2, third.2, last, leaves));
}

pub returns-in_err-grafted : goal.returns-in_err-grafted
returns-in_err-grafted g c = record {
  canonical = λ form ops same floor ops_root tells. IfOk-from_err c.from_residual.result _ c.from_residual.ensures.0;
  made = IfOk-from_err c.from_residual.result _ c.from_residual.ensures.0;
}

pub returns-in_err-pending : goal.returns-in_err-pending
returns-in_err-pending g c = record {
  canonical = λ form ops same floor ops_root tells. IfOk-from_err c.from_residual-in_err-pending.result _ c.from_residual-in_err-pending.ensures.0;
  made = IfOk-from_err c.from_residual-in_err-pending.result _ c.from_residual-in_err-pending.ensures.0;
}

pub returns-in_err-partial : goal.returns-in_err-partial
returns-in_err-partial g c = record {
  canonical = λ form ops same floor ops_root tells. IfOk-from_err c.from_residual-in_err-partial.result _ c.from_residual-in_err-partial.ensures.0;
  made = IfOk-from_err c.from_residual-in_err-partial.result _ c.from_residual-in_err-partial.ensures.0;
}
