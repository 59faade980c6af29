use Rattle.std.proofs.Common.{◌≡◌, ◌∙◌, ◌+◌, ◌++◌, ◌∷◌, [], IfOk, length, map, ap, sym, subst, arith}
use Rattle.std.proofs.lemmas.Result.{IfOk-from_err}
use Rattle.qm_merkle.specs.Batches.{all_layers, IsHistory}
use Rattle.qm_store.specs.Log.{digests_from}
use Rattle.qm_store.proofs.Leaves.{digests-count, digests_from-append, length-digests_from}
use Rattle.qm_store.proofs.log.grown_by_items.Goals as goal

pub grown-requires : goal.grown-requires
grown-requires g c =
    let count : length c.deref.result.now ≡ length c.args.items.now =
    ap length c.deref.ensures.value ∙ digests-count g.H.Hasher.hash g.F.Family.shape g.H.Digest.Digest.bytes (λ v. v.items) c.get-size.result c.in_ok-digests.digests.items c.args.items.now c.in_ok-digests.ensures in
    omega (arith, count, c.requires)

pub returns-in_err-digests : goal.returns-in_err-digests
returns-in_err-digests g c =
    let result = c.from_residual.result in
    let failed = c.from_residual.ensures.0 in
    record {
      leaves = IfOk-from_err result _ failed;
      start = IfOk-from_err result _ failed;
      older = IfOk-from_err result _ failed;
      adding = IfOk-from_err result _ failed;
      reach = IfOk-from_err result _ failed;
      history = λ list stands. IfOk-from_err result _ failed;
    }

pub returns : goal.returns
returns g c = record {
  leaves =
      let count : length c.deref.result.now ≡ length c.args.items.now =
      ap length c.deref.ensures.value ∙ digests-count g.H.Hasher.hash g.F.Family.shape g.H.Digest.Digest.bytes (λ v. v.items) c.get-size.result c.in_ok-digests.digests.items c.args.items.now c.in_ok-digests.ensures in
      subst (λ n. IfOk c.grown.result (λ b. b.newest.tree.leaves ≡ c.args.tree.now.leaves + n)) count c.grown.ensures.leaves;
  history = λ list stands.
      let shape = g.F.Family.shape in
      let hash = g.H.Hasher.hash in
      let bytes = g.H.Digest.Digest.bytes in
      let before = digests_from hash shape 0 list in
      let more = map (λ v. v.items) c.args.items.now in
      let start : c.get-size.result ≡ 0 + length list = omega (arith, c.get-size.ensures, c.leaves.ensures, stands.count, length-digests_from hash shape 0 list) in
      subst (λ ds. IfOk c.grown.result (λ b. IsHistory shape bytes hash (all_layers b) (ds ∷ before ∷ [])))
      (ap (λ ds. before ++ map bytes ds) c.deref.ensures.value ∙ ap (λ l. before ++ l) (c.in_ok-digests.ensures ∙ ap (λ i. digests_from hash shape i more) start) ∙ sym (digests_from-append hash shape 0 list more))
      (c.grown.ensures.history before stands);
  start = c.grown.ensures.start;
  older = c.grown.ensures.older;
  adding = c.grown.ensures.adding;
  reach = c.grown.ensures.reach;
}
