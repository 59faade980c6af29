use Rattle.std.proofs.Common.{◌≡◌, ◌∙◌, ◌-◌, ◌^◌, ◌<◌, ◌++◌, ◌∷◌, [], arith, ap, append-nil, length, map, refl, subst, sym}
use Rattle.std.proofs.lemmas.List.{length-append}
use Rattle.std.proofs.lemmas.Result.{IfOk-from_err, err_from_is_err_and}
use Rattle.qm_bits.specs.Bitmaps.{all_bits}
use Rattle.qm_merkle.specs.Batches.{Draft, leaves_of}
use Rattle.qm_merkle.specs.Mems.{more}
use Rattle.qm_graft.specs.Grafting.{made_values}
use Rattle.qm_graft.proofs.Fitting.{chunk-low}
use Rattle.qm_graft.proofs.Following.{more-values}
use Rattle.qm_graft.proofs.tree.add_all.Goals as goal

pub loop-at-preserved : goal.loop-at-preserved
loop-at-preserved g c =
    let ok = c.in_ok-add_leaf_digest.ensures.ok in
    let is = c.loop-at.invariant in
    let draft = c.loop-at.draft in
    let longer = length-append draft.added (c.in_ok-value.value ∷ []) in
    record {
      same = (
        ap (λ (d : Draft g.row.H-Digest.Denot). d.start) ok ∙ is.same.0,
        ap (λ (d : Draft g.row.H-Digest.Denot). d.base) ok ∙ is.same.1,
        ap (λ (d : Draft g.row.H-Digest.Denot). d.layers) ok ∙ is.same.2,
        ap (λ (d : Draft g.row.H-Digest.Denot). d.replaced) ok ∙ is.same.3,
      );
      from = omega (arith, is.from);
      here = omega (arith, is.here, longer, ap (λ (d : Draft g.row.H-Digest.Denot). d.base) ok, ap (λ (d : Draft g.row.H-Digest.Denot). length d.added) ok);
      added = more-values g.H.Digest.Digest.bytes g.H.Hasher.hash (g.O.Nodes.node_at c.args.behind.now.operations.now) g.F.Family.shape g.N.Chunks.LEN (all_bits g.N.Chunks.LEN (g.B.Readable.bitmap c.args.behind.now.bits.now))
          _ (leaves_of c.args.draft.now) c.loop-at.at draft.added c.add_leaf_digest.new.self.added c.in_ok-value.value is.from is.added (ap (λ (d : Draft g.row.H-Digest.Denot). d.added) ok) c.in_ok-value.ensures.value;
      made = omega (arith, is.made, is.from, c.in_ok-value.ensures.made);
    }

pub loop-at-init : goal.loop-at-init
loop-at-init g c =
    let draft = c.args.draft.now in
    let here = c.get-at.ensures ∙ c.leaves.ensures in
    let none : c.get-at.result - leaves_of draft ≡ 0 = omega (arith, here) in
    record {
      same = (refl, refl, refl, refl);
      from = omega (arith, here);
      here = here;
      added = sym (append-nil (map g.H.Digest.Digest.bytes draft.added)) ∙ ap (λ n. map g.H.Digest.Digest.bytes draft.added ++ made_values g.H.Digest.Digest.bytes g.H.Hasher.hash (g.O.Nodes.node_at c.args.behind.now.operations.now) g.F.Family.shape g.N.Chunks.LEN (all_bits g.N.Chunks.LEN (g.B.Readable.bitmap c.args.behind.now.bits.now)) (leaves_of draft) n) (sym none);
      made = omega (arith, none);
    }

pub returns-in_err-value : goal.returns-in_err-value
returns-in_err-value g c = record {
  same = IfOk-from_err c.from_residual.result _ c.from_residual.ensures.0;
  added = IfOk-from_err c.from_residual.result _ c.from_residual.ensures.0;
  made = IfOk-from_err c.from_residual.result _ c.from_residual.ensures.0;
  cause = let exit = err_from_is_err_and c.from_residual.result c.from_residual.ensures.1 in rw (exit.1, exit.2) refl;
}

pub returns-in_err-add_leaf_digest : goal.returns-in_err-add_leaf_digest
returns-in_err-add_leaf_digest g c = record {
  same = IfOk-from_err c.from_residual-in_err-add_leaf_digest.result _ c.from_residual-in_err-add_leaf_digest.ensures.0;
  added = IfOk-from_err c.from_residual-in_err-add_leaf_digest.result _ c.from_residual-in_err-add_leaf_digest.ensures.0;
  made = IfOk-from_err c.from_residual-in_err-add_leaf_digest.result _ c.from_residual-in_err-add_leaf_digest.ensures.0;
  cause = let exit = err_from_is_err_and c.from_residual-in_err-add_leaf_digest.result c.from_residual-in_err-add_leaf_digest.ensures.1 in rw (exit.1, exit.2) refl;
}

pub returns : goal.returns
returns g c = record {
  same = c.loop-at.invariant.same;
  added =
      let draft = c.args.draft.now in
      let end : c.loop-at.at ≡ c.args.count = omega (arith, c.loop-at-test.false, c.loop-at.auto.at-end, c.loop-at.auto.at, c.requires.order, c.get-at.ensures, c.leaves.ensures) in
      c.loop-at.invariant.added ∙ ap (λ n. map g.H.Digest.Digest.bytes draft.added ++ made_values g.H.Digest.Digest.bytes g.H.Hasher.hash (g.O.Nodes.node_at c.args.behind.now.operations.now) g.F.Family.shape g.N.Chunks.LEN (all_bits g.N.Chunks.LEN (g.B.Readable.bitmap c.args.behind.now.bits.now)) (leaves_of draft) (n - leaves_of draft)) end;
  made =
      let draft = c.args.draft.now in
      let end : c.loop-at.at ≡ c.args.count = omega (arith, c.loop-at-test.false, c.loop-at.auto.at-end, c.loop-at.auto.at, c.requires.order, c.get-at.ensures, c.leaves.ensures) in
      c.loop-at.invariant.made ∙ ap (λ n. more c.args.hasher.now (n - leaves_of draft)) end;
  cause = tt;
}

pub add_leaf_digest-requires : goal.add_leaf_digest-requires
add_leaf_digest-requires g c =
    let power = g.met.N.Chunks.power in
    subst (λ n. n < 2 ^ 62) c.loop-at.invariant.here (chunk-low g.N.Chunks.LEN power.0 c.loop-at.at power.1 (c.requires.can c.loop-at.at c.loop-at.invariant.from c.loop-at-test.true).within)
