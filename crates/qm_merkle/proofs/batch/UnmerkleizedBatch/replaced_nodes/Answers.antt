use Rattle.std.proofs.Common.{◌≡◌, ◌+◌, ◌-◌, ◌≤◌, length, ap, sym, subst, arith}
use Rattle.std.proofs.lemmas.Result.{err_from_is_err_and}
use Rattle.qm_merkle.specs.Batches.{AreOver, IsRow}
use Rattle.qm_merkle.proofs.Growth.{height_within}
use Rattle.qm_merkle.proofs.Fewness.{few-start, few-next, few-all}
use Rattle.qm_merkle.proofs.batch.UnmerkleizedBatch.replaced_nodes.Goals as goal

pub loop-height-init : goal.loop-height-init
loop-height-init g c =
    let first : 0 ≡ 1 - 1 = omega arith in record {
      own = subst (λ h. AreOver g.F.Family.shape c.args.self.now.replaced c.args.self.now.base h c.replaced_leaves.new.nodes.entries) first c.in_ok-row.ensures.own;
      row = subst (λ h. IsRow g.F.Family.shape c.args.self.now.base h c.replaced_leaves.new.nodes.entries c.in_ok-row.row.items) first c.in_ok-row.ensures.row;
      right = λ list long read. c.in_ok-row.ensures.digests g.D.Digest.bytes g.H.Hasher.hash list long;
      count = omega (arith, c.in_ok-row.ensures.count);
      rows = omega (arith, c.in_ok-row.ensures.rows);
      few = λ k high. few-start (length c.args.self.now.replaced) (length c.replaced_leaves.new.nodes.entries) c.in_ok-row.ensures.count k;
      made = omega (arith, c.in_ok-row.ensures.count);
    }

pub row_above-requires-clause-own : goal.row_above-requires-clause-own
row_above-requires-clause-own g c = c.loop-height.invariant.own

pub row_above-requires-clause-row : goal.row_above-requires-clause-row
row_above-requires-clause-row g c =
    subst (λ xs. IsRow g.F.Family.shape c.args.self.now.base (c.loop-height.height - 1) c.loop-height.nodes.entries xs) (sym c.deref.ensures.value) c.loop-height.invariant.row

pub loop-height-preserved : goal.loop-height-preserved
loop-height-preserved g c =
    let shorter : length c.in_ok-row-2.row.items ≤ length c.loop-height.row.items = omega (arith, c.in_ok-row-2.ensures.fewer, ap length c.deref.ensures.value) in
    let next : c.loop-height.height ≡ c.loop-height.height + 1 - 1 = omega arith in record {
      own = subst (λ h. AreOver g.F.Family.shape c.args.self.now.replaced c.args.self.now.base h c.row_above.new.nodes.entries) next c.in_ok-row-2.ensures.own;
      row = subst (λ h. IsRow g.F.Family.shape c.args.self.now.base h c.row_above.new.nodes.entries c.in_ok-row-2.row.items) next c.in_ok-row-2.ensures.row;
      right = λ list long read. c.in_ok-row-2.ensures.digests list long read (c.loop-height.invariant.right list long read);
      count = omega (arith, c.in_ok-row-2.ensures.count, c.loop-height.invariant.count);
      rows = omega (arith, shorter, c.loop-height.invariant.rows);
      few = λ k high. few-next (length c.args.self.now.replaced) c.args.self.now.base (length c.loop-height.nodes.entries) (length c.row_above.new.nodes.entries) (length c.in_ok-row-2.row.items) k c.loop-height.height (omega arith) high c.in_ok-row-2.ensures.count (omega (arith, shorter, c.loop-height.invariant.rows)) c.in_ok-row-2.ensures.none (c.loop-height.invariant.few k high);
      made = omega (arith, c.loop-height.invariant.made, c.in_ok-row-2.ensures.made, c.in_ok-row-2.ensures.count, c.loop-height.invariant.count);
    }

pub returns : goal.returns
returns g c = record {
  own = λ x born.
      let low = height_within x (omega (arith, born, g.met.F.Family.numbered.inside x, c.replaced_leaves.ensures.few)) in
      (c.loop-height.invariant.own x born).0 (omega (arith, low, c.loop-height-test.false));
  digests = c.loop-height.invariant.right;
  count = c.loop-height.invariant.count;
  few = λ k high. few-all (length c.args.self.now.replaced) (length c.loop-height.nodes.entries) k c.loop-height.height (c.loop-height.invariant.few k high);
  made = c.loop-height.invariant.made;
}

pub returns-in_err-row : goal.returns-in_err-row
returns-in_err-row g c =
    let exit = err_from_is_err_and c.from_residual.result c.from_residual.ensures.1 in
    record {
      own = rw exit.1 tt;
      digests = λ list long read. rw exit.1 tt;
      count = rw exit.1 tt;
      few = λ k high. rw exit.1 tt;
      made = rw exit.1 tt;
    }

pub returns-in_err-row-2 : goal.returns-in_err-row-2
returns-in_err-row-2 g c =
    let exit = err_from_is_err_and c.from_residual-in_err-row-2.result c.from_residual-in_err-row-2.ensures.1 in
    record {
      own = rw exit.1 tt;
      digests = λ list long read. rw exit.1 tt;
      count = rw exit.1 tt;
      few = λ k high. rw exit.1 tt;
      made = rw exit.1 tt;
    }
