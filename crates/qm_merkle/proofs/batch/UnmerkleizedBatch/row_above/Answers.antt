use Rattle.std.proofs.Common.{◌≡◌, ◌∙◌, ◌≤◌, ◌^◌, ap, sym, subst, arith, refl, length, ◌≢◌, ℕ, ◌+◌, ◌-◌, Some}
use Rattle.std.proofs.lemmas.Result.{err_from_is_err_and}
use Rattle.qm_model.specs.Trees.{Node, end_of}
use Rattle.qm_merkle.specs.Batches.{found_at, replaced_from, IsOver, AreRight}
use Rattle.std.specs.Prelude.{is_some}
use Rattle.std.specs.Vec.{vec_capacity}
use Rattle.qm_merkle.specs.Mems.{more}
use Rattle.qm_merkle.proofs.Fewness.{one-more}
use Rattle.qm_merkle.proofs.Rows.{raised-start, raised-skip, raised-put, raised-row, raised-below, raised-over, row_over, row_within, right-put, raised-there, not_some, is_none, too_high}
use Rattle.qm_merkle.proofs.batch.UnmerkleizedBatch.row_above.Goals.{then-not-contains_key+then-is_below+in_ok-replace, else-not-contains_key, else-not-contains_key-via-then-not-contains_key+else-is_below, else-not-contains_key-via-else-not-contains_key}
use Rattle.qm_merkle.proofs.batch.UnmerkleizedBatch.row_above.Goals as goal

pub loop-index-init : goal.loop-index-init
loop-index-init g c = record {
  raised = raised-start c.requires.height.0 c.requires.own c.in_ok-above.ensures.items;
  right = λ list long read right. right;
  count = omega (arith, ap length c.in_ok-above.ensures.items);
  fewer = omega (arith, ap length c.in_ok-above.ensures.items);
  room = c.in_ok-above.ensures.exact;
  none = λ high. ap length c.in_ok-above.ensures.items;
  made = omega arith;
}

pub place-requires : goal.place-requires
place-requires g c =
    subst (λ y. end_of y ≤ 2 ^ 62) (sym c.new-node.ensures)
    (row_within g.F.Family.shape c.args.self.now.replaced c.args.self.now.base c.args.height c.requires.height.0 c.args.nodes.now.entries c.args.row.now c.requires.row c.loop-index.index-index c.loop-index-test.true g.met.F.Family.numbered c.requires.few c.requires.height.1)

pub is_below-requires : goal.is_below-requires
is_below-requires g c =
    subst (λ y. end_of y ≤ 2 ^ 62) (sym c.new-node.ensures)
    (row_within g.F.Family.shape c.args.self.now.replaced c.args.self.now.base c.args.height c.requires.height.0 c.args.nodes.now.entries c.args.row.now c.requires.row c.loop-index.index-index c.loop-index-test.true g.met.F.Family.numbered c.requires.few c.requires.height.1)

pub parent-digest-requires-clause-few : goal.parent-digest-requires-clause-few
parent-digest-requires-clause-few g c = c.requires.few

pub parent-digest-requires-clause-there : goal.parent-digest-requires-clause-there
parent-digest-requires-clause-there g c = c.requires.there

pub parent-digest-requires-clause-start : goal.parent-digest-requires-clause-start
parent-digest-requires-clause-start g c = c.requires.start

pub parent-digest-requires-clause-high : goal.parent-digest-requires-clause-high
parent-digest-requires-clause-high g c = omega (arith, c.requires.height.0, ap (λ (y : Node). y.height) c.new-node.ensures)

pub parent-digest-requires-clause-below : goal.parent-digest-requires-clause-below
parent-digest-requires-clause-below g c = c.if-is_below.ensures.0 refl

pub parent-digest-requires-clause-above : goal.parent-digest-requires-clause-above
parent-digest-requires-clause-above g c =
    subst (λ (y : Node). IsOver c.args.self.now.replaced y.height y.index) (sym c.new-node.ensures)
    (row_over g.F.Family.shape c.args.self.now.replaced c.args.self.now.base c.args.height c.requires.height.0 c.args.nodes.now.entries c.args.row.now c.requires.row c.loop-index.index-index c.loop-index-test.true c.requires.own)

pub parent-digest-requires-clause-own : goal.parent-digest-requires-clause-own
parent-digest-requires-clause-own g c = λ x born low.
    raised-below c.loop-index.invariant.raised c.requires.own x born (omega (arith, low, ap (λ (y : Node). y.height) c.new-node.ensures))

pub loop-index-preserved : goal.loop-index-preserved
loop-index-preserved g c = elim c.if-not-contains_key.branch [
  | then-not-contains_key+then-is_below+in_ok-replace w ↦
      let nodes : c.if-not-contains_key.nodes.entries ≡ w.replace.new.entries.entries = ap (λ m. m.entries) w.nodes-is in
      let at : c.get-number.result ≡ g.F.Family.shape.position c.new-node.result = c.get-number.ensures ∙ c.place.ensures in
      let here : found_at c.if-not-contains_key.nodes.entries c.get-number.result ≡ Some w.parent-digest.result = ap (λ es. found_at es c.get-number.result) nodes ∙ w.in_ok-replace.ensures.here in
      let others = λ (n : ℕ) (apart : n ≢ c.get-number.result). ap (λ es. found_at es n) nodes ∙ w.in_ok-replace.ensures.other n apart in
      let above : IsOver c.args.self.now.replaced c.new-node.result.height c.new-node.result.index = subst (λ (y : Node). IsOver c.args.self.now.replaced y.height y.index) (sym c.new-node.ensures)
      (row_over g.F.Family.shape c.args.self.now.replaced c.args.self.now.base c.args.height c.requires.height.0 c.args.nodes.now.entries c.args.row.now c.requires.row c.loop-index.index-index c.loop-index-test.true c.requires.own) in
      let longer : length c.if-not-contains_key.above.items ≡ length c.loop-index.above.items + 1 = one-more c.loop-index.above.items c.if-not-contains_key.above.items w.index.result (ap (λ xs. xs.items) w.above-is ∙ w.push_reserved.ensures.items) in
      let one : length c.if-not-contains_key.nodes.entries ≡ length c.loop-index.nodes.entries + 1 = ap length nodes ∙ w.in_ok-replace.ensures.count (is_none (found_at c.loop-index.nodes.entries c.get-number.result) w.if-not-contains_key.ensures) in record {
        raised = raised-put c.loop-index.invariant.raised g.met.F.Family.numbered c.new-node.ensures w.index.ensures (w.if-is_below.ensures.0 refl) above at here others
            (ap (λ xs. xs.items) w.above-is ∙ w.push_reserved.ensures.items);
        right = λ list long read right.
            let before = c.loop-index.invariant.right list long read right in
            right-put g.met.F.Family.numbered g.D.Digest.bytes g.H.Hasher.hash (replaced_from g.D.Digest.bytes c.args.self.now.replaced 0 list)
            c.loop-index.nodes.entries c.if-not-contains_key.nodes.entries before at here others (w.parent-digest.ensures.digest list long read before);
        count = omega (arith, one, longer, c.loop-index.invariant.count);
        fewer = omega (arith, longer, c.loop-index.invariant.fewer);
        room = ap (λ xs. vec_capacity xs) w.above-is ∙ w.push_reserved.ensures.capacity ∙ c.loop-index.invariant.room;
        none = λ high.
            let born = w.if-is_below.ensures.0 refl in
            absurd (omega (arith, high, too_high g.met.F.Family.numbered c.new-node.ensures born));
        made = omega (arith, c.loop-index.invariant.made, w.hasher-is ∙ w.parent-digest.ensures.made, one, c.loop-index.invariant.count);
      }
  | else-not-contains_key w ↦
      let same : length c.if-not-contains_key.above.items ≡ length c.loop-index.above.items = ap (λ xs. length xs.items) w.above-is in
      let nodes : c.if-not-contains_key.nodes.entries ≡ c.loop-index.nodes.entries = ap (λ m. m.entries) w.nodes-is in record {
        raised = raised-skip c.loop-index.invariant.raised nodes (ap (λ xs. xs.items) w.above-is) c.new-node.ensures
            (elim w.else-not-contains_key.branch [
              | else-not-contains_key-via-then-not-contains_key+else-is_below v ↦ λ born. absurd (not_some (v.if-is_below.ensures.1 born))
              | else-not-contains_key-via-else-not-contains_key v ↦ λ born.
                  raised-there c.loop-index.invariant.raised c.new-node.ensures born (v.if-not-contains_key.ensures ∙ ap (λ n. is_some (found_at c.loop-index.nodes.entries n)) (c.get-number.ensures ∙ c.place.ensures))
            ]);
        right = λ list long read right. subst (λ es. AreRight g.F.Family.shape g.D.Digest.bytes g.H.Hasher.hash es (replaced_from g.D.Digest.bytes c.args.self.now.replaced 0 list)) (sym nodes) (c.loop-index.invariant.right list long read right);
        count = omega (arith, ap length nodes, same, c.loop-index.invariant.count);
        fewer = omega (arith, same, c.loop-index.invariant.fewer);
        room = ap (λ xs. vec_capacity xs) w.above-is ∙ c.loop-index.invariant.room;
        none = λ high. same ∙ c.loop-index.invariant.none high;
        made = w.hasher-is ∙ c.loop-index.invariant.made ∙ ap (λ es. more c.args.hasher.now (length es - length c.args.nodes.now.entries)) (sym nodes);
      }
]

pub returns : goal.returns
returns g c = record {
  own = raised-over c.loop-index.invariant.raised g.met.F.Family.numbered c.requires.height.0 c.requires.own c.requires.row (omega (arith, c.loop-index-test.false));
  row = raised-row c.loop-index.invariant.raised;
  digests = c.loop-index.invariant.right;
  count = c.loop-index.invariant.count;
  fewer = omega (arith, c.loop-index.invariant.fewer, c.loop-index-test.false);
  none = c.loop-index.invariant.none;
  made = c.loop-index.invariant.made;
}

pub returns-in_err-above : goal.returns-in_err-above
returns-in_err-above g c =
    let exit = err_from_is_err_and c.from_residual.result c.from_residual.ensures.1 in
    record {
      own = rw exit.1 tt;
      row = rw exit.1 tt;
      digests = λ list long read right. rw exit.1 tt;
      count = rw exit.1 tt;
      fewer = rw exit.1 tt;
      none = λ high. rw exit.1 tt;
      made = rw exit.1 tt;
    }

pub returns-in_err-replace : goal.returns-in_err-replace
returns-in_err-replace g c =
    let exit = err_from_is_err_and c.from_residual-in_err-replace.result c.from_residual-in_err-replace.ensures.1 in
    record {
      own = rw exit.1 tt;
      row = rw exit.1 tt;
      digests = λ list long read right. rw exit.1 tt;
      count = rw exit.1 tt;
      fewer = rw exit.1 tt;
      none = λ high. rw exit.1 tt;
      made = rw exit.1 tt;
    }
