use Rattle.std.proofs.Common.{◌≡◌, ◌∙◌, ◌+◌, ◌-◌, ◌++◌, append-nil, length, map, take, ap, ap₂, sym, subst, arith}
use Rattle.std.proofs.lemmas.List.{take_all}
use Rattle.std.proofs.lemmas.Result.{IfOk-from_err}
use Rattle.qm_merkle.specs.Mems.{Stands, more}
use Rattle.qm_merkle.proofs.Counting.{made-next, next-leaves}
use Rattle.qm_merkle.proofs.mem.Mem.add_all.Goals as goal

pub loop-leaf-preserved : goal.loop-leaf-preserved
loop-leaf-preserved g c = record {
  start = c.in_ok-add.ensures.bounds.0 ∙ c.loop-leaf.invariant.start;
  leaves = omega (arith, c.in_ok-add.ensures.bounds.1, c.loop-leaf.invariant.leaves);
  stands = λ list stands. subst (Stands g.F.Family.shape g.D.Digest.bytes g.H.Hasher.hash c.add.new.self)
      (next-leaves g.D.Digest.bytes list c.args.leaves.now c.loop-leaf.leaf-index c.leaf-item.result c.loop-leaf-test.true c.leaf-item.is)
      (c.in_ok-add.ensures.stands (list ++ map g.D.Digest.bytes (take c.loop-leaf.leaf-index c.args.leaves.now)) (c.loop-leaf.invariant.stands list stands));
  made = made-next g.F.Family.shape g.F.Family.births g.met.F.Family.numbered c.args.self.now.leaves c.loop-leaf.leaf-index c.loop-leaf.self.leaves c.args.hasher.now c.loop-leaf.hasher c.add.new.hasher c.loop-leaf.invariant.leaves c.loop-leaf.invariant.made c.in_ok-add.ensures.made;
}

pub returns-in_err-make_room : goal.returns-in_err-make_room
returns-in_err-make_room g c = record {
  bounds = IfOk-from_err c.from_residual.result _ c.from_residual.ensures.0;
  stands = λ list stands. IfOk-from_err c.from_residual.result _ c.from_residual.ensures.0;
  made = IfOk-from_err c.from_residual.result _ c.from_residual.ensures.0;
}

pub returns-in_err-add : goal.returns-in_err-add
returns-in_err-add g c = record {
  bounds = IfOk-from_err c.from_residual-in_err-add.result _ c.from_residual-in_err-add.ensures.0;
  stands = λ list stands. IfOk-from_err c.from_residual-in_err-add.result _ c.from_residual-in_err-add.ensures.0;
  made = IfOk-from_err c.from_residual-in_err-add.result _ c.from_residual-in_err-add.ensures.0;
}

pub loop-leaf-init : goal.loop-leaf-init
loop-leaf-init g c =
    let same = c.in_ok-make_room.ensures in
    let none : c.args.self.now.leaves + 0 ≡ c.args.self.now.leaves = omega arith in
    record {
      start = ap (λ k. k.start) same;
      leaves = ap (λ k. k.leaves) same ∙ sym none;
      stands = λ list stands. subst (Stands g.F.Family.shape g.D.Digest.bytes g.H.Hasher.hash c.make_room.new.self) (sym (append-nil list)) (subst (λ k. Stands g.F.Family.shape g.D.Digest.bytes g.H.Hasher.hash k list) (sym same) stands);
      made = omega (arith, ap g.F.Family.shape.size none);
    }

pub returns : goal.returns
returns g c = record {
  bounds = (c.loop-leaf.invariant.start, omega (arith, c.loop-leaf.invariant.leaves, c.loop-leaf-test.false));
  stands = λ list stands.
      subst (λ ds. Stands g.F.Family.shape g.D.Digest.bytes g.H.Hasher.hash c.loop-leaf.self (list ++ map g.D.Digest.bytes ds)) (take_all c.loop-leaf.leaf-index c.args.leaves.now c.loop-leaf-test.false) (c.loop-leaf.invariant.stands list stands);
  made =
      let all : c.loop-leaf.leaf-index ≡ length c.args.leaves.now = omega (arith, c.loop-leaf-test.false) in
      c.loop-leaf.invariant.made
      ∙ ap₂ (λ n i. more c.args.hasher.now (g.F.Family.shape.size n - g.F.Family.shape.size c.args.self.now.leaves - i)) (sym c.loop-leaf.invariant.leaves) all;
}
