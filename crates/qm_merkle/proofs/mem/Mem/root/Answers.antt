use Rattle.std.proofs.Common.{◌∙◌, ap, sym, subst, arith, All, le_refl, length, map}
use Rattle.std.specs.Prelude.{max}
use Rattle.qm_model.specs.Trees.{peak_positions, root_of}
use Rattle.qm_merkle.specs.Mems.{IsWhole, Holds, node_at, more}
use Rattle.qm_merkle.proofs.PeakCounts.{counted}
use Rattle.qm_merkle.proofs.Standing.{peaks_held, rooted}
use Rattle.qm_merkle.proofs.mem.Mem.root.Goals as goal

pub digests-requires : goal.digests-requires
digests-requires g c =
    let shape = g.F.Family.shape in
    let kept = c.args.self.now in
    let whole = subst (IsWhole shape) c.self.view_is c.self.invariant.1 in
    subst (All (Holds shape kept)) (sym (c.deref.ensures.value ∙ c.in_ok-positions.ensures ∙ ap (λ k. peak_positions shape k.leaves) c.self.view_is))
    (peaks_held shape g.F.Family.births g.met.F.Family.numbered g.met.F.Family.peaked kept whole kept.leaves whole.order (le_refl kept.leaves))

pub root-requires : goal.root-requires
root-requires g c =
    let shape = g.F.Family.shape in
    let kept = c.args.self.now in
    let at = c.deref.ensures.value ∙ c.in_ok-positions.ensures ∙ ap (λ k. peak_positions shape k.leaves) c.self.view_is in
    omega (arith, c.requires, counted shape (node_at shape kept) c.in_ok-peaks.peaks.items c.deref.result.now kept.leaves c.in_ok-peaks.ensures at, ap length c.deref-2.ensures.value)

pub returns : goal.returns
returns g c = record {
  root = λ leaves stands.
      let shape = g.F.Family.shape in
      let kept = c.args.self.now in
      let bytes = g.D.Digest.bytes in
      c.root.ensures.digest ∙ ap (λ ds. root_of g.H.Hasher.hash c.self.inside.leaves c.args.inactive (map bytes ds)) c.deref-2.ensures.value
      ∙ rooted shape g.F.Family.births g.met.F.Family.numbered g.met.F.Family.peaked bytes g.H.Hasher.hash kept leaves stands (subst (IsWhole shape) c.self.view_is c.self.invariant.1)
      c.in_ok-peaks.peaks.items c.self.inside.leaves c.args.inactive (ap (λ k. k.leaves) c.self.view_is)
      (c.in_ok-peaks.ensures ∙ ap (map (node_at shape kept)) (c.deref.ensures.value ∙ c.in_ok-positions.ensures ∙ ap (λ k. peak_positions shape k.leaves) c.self.view_is));
  made =
      let shape = g.F.Family.shape in
      let kept = c.args.self.now in
      let at = c.deref.ensures.value ∙ c.in_ok-positions.ensures ∙ ap (λ k. peak_positions shape k.leaves) c.self.view_is in
      c.root.ensures.made
      ∙ ap (λ n. more c.args.hasher.now (max 1 n)) (ap length c.deref-2.ensures.value ∙ counted shape (node_at shape kept) c.in_ok-peaks.peaks.items c.deref.result.now kept.leaves c.in_ok-peaks.ensures at);
}
