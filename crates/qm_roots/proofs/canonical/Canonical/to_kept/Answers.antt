use Rattle.std.proofs.Common.{◌∙◌, ◌∷◌, [], ap}
use Rattle.qm_graft.proofs.Rooting.{bits-count}
use Rattle.qm_roots.specs.Canonical.{Canonical}
use Rattle.qm_roots.specs.Kept.{Kept, sizes_of}
use Rattle.qm_roots.proofs.Resting.{rests, still}
use Rattle.qm_roots.proofs.canonical.Canonical.to_kept.Goals as goal

pub returns : goal.returns
returns g c =
    let made = c.in_ok-kept.ensures in record {
      sizes = ap (λ (k : Kept g.row.D.Denot). sizes_of k) made;
      kept = λ hash form list is same.
          let count = bits-count g.N.Chunks.LEN c.args.bits.now list same in
          rests g.D.Digest.bytes hash g.F.Family.shape g.N.Chunks.LEN form c.args.self.now c.in_ok-kept.kept list is
          (ap (λ (k : Kept g.row.D.Denot). k.overlays) made ∙ ap (λ n. still n ∷ []) count)
          (ap (λ (k : Kept g.row.D.Denot). k.base) made ∙ count)
          (ap (λ (k : Kept g.row.D.Denot). k.start) made)
          (ap (λ (k : Kept g.row.D.Denot). k.layers) made)
          (ap (λ (k : Kept g.row.D.Denot). k.root) made ∙ ap (λ (o : Canonical g.row.D.Denot). o.root) c.self.view_is);
    }
