use Rattle.std.proofs.Common.{◌≡◌, ◌∙◌, Some, None, OnOk, IfErr, map, arith, ap, subst}
use Rattle.std.proofs.lemmas.Result.{IfOk-weaker}
use Rattle.qm_model.specs.Trees.{digest_of, peaks, peak_positions}
use Rattle.qm_proofs.specs.Proofs.{first_lacked}
use Rattle.qm_store.specs.Log.{IsLacked}
use Rattle.qm_store.proofs.Shown.{told_row}
use Rattle.qm_store.proofs.log.shown.peak_digests.Goals as goal

pub returns : goal.returns
returns g c = record {
  value = λ hash list within tells.
      let shape = g.F.Family.shape in
      let bytes = g.D.Digest.bytes in
      let at = g.N.Nodes.node_at c.args.nodes.now in
      let n = c.args.count in
      let positions = c.deref.ensures.value ∙ c.in_ok-positions.ensures ∙ ap (peak_positions shape) c.new-count.ensures in
      IfOk-weaker c.digests_at.result (λ v. map Some v.items ≡ map at c.deref.result.now) (λ v. map bytes v.items ≡ map (digest_of hash shape list) (peaks shape n))
      (λ v same. told_row shape bytes hash at list tells (peaks shape n) v.items (same ∙ ap (map at) positions)
      (λ k d lt. omega (arith, g.met.F.Family.peaked.born n c.requires k d lt, within)))
      c.digests_at.ensures.digests;
  held =
      let positions = c.deref.ensures.value ∙ c.in_ok-positions.ensures ∙ ap (peak_positions g.F.Family.shape) c.new-count.ensures in
      subst (λ ps. OnOk c.digests_at.result (first_lacked (g.N.Nodes.node_at c.args.nodes.now) ps ≡ None)) positions c.digests_at.ensures.held;
  cause =
      let positions = c.deref.ensures.value ∙ c.in_ok-positions.ensures ∙ ap (peak_positions g.F.Family.shape) c.new-count.ensures in
      subst (λ ps. IfErr c.digests_at.result (IsLacked (g.N.Nodes.node_at c.args.nodes.now) ps)) positions c.digests_at.ensures.cause;
}
