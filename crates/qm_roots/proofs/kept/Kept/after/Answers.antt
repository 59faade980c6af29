use Rattle.std.proofs.Common.{◌∙◌, ◌*◌, ◌<◌, map, take, arith, ap, sym, subst}
use Rattle.std.proofs.lemmas.List.{take-map}
use Rattle.qm_graft.specs.Grafting.{grafting}
use Rattle.qm_overlay.specs.Layers.{IsFrom, seen}
use Rattle.qm_roots.specs.Kept.{Kept, AreAgreed}
use Rattle.qm_roots.proofs.Lacking.{stacked, seen-count, seen-pruned, seen-active}
use Rattle.qm_roots.proofs.kept.Kept.after.Given
use Rattle.qm_roots.proofs.kept.Kept.after.Goals as goal

some : (g : Given.Over) → 0 < 8 * g.N.Chunks.LEN
some g = let least = g.met.N.Chunks.least in omega (arith, least)

pub bits_after-requires : goal.bits_after-requires
bits_after-requires g c =
    let agreed = subst (AreAgreed {D = g.row.D.Denot} g.F.Family.shape (grafting g.N.Chunks.LEN)) c.self.view_is c.self.invariant.0 in
    let newest = ap (map (λ r. r.value)) (c.split_at.ensures.front ∙ ap (take c.args.lacking) c.deref.ensures.value) ∙ sym (take-map (λ r. r.value) c.args.lacking c.self.inside.overlays.items)
    ∙ ap (λ (k : Kept g.row.D.Denot). take c.args.lacking k.overlays) c.self.view_is in
    stacked g.F.Family.shape (grafting g.N.Chunks.LEN) g.N.Chunks.LEN (some g) c.args.self.now agreed c.args.bits.now c.args.lacking c.requires.lacked c.requires.at (map (λ r. r.value) c.split_at.result.0.now) newest

pub stepped-requires-clause-not_below : goal.stepped-requires-clause-not_below
stepped-requires-clause-not_below g c =
    let agreed = subst (AreAgreed {D = g.row.D.Denot} g.F.Family.shape (grafting g.N.Chunks.LEN)) c.self.view_is c.self.invariant.0 in
    let newest = ap (map (λ r. r.value)) (c.split_at.ensures.front ∙ ap (take c.args.lacking) c.deref.ensures.value) ∙ sym (take-map (λ r. r.value) c.args.lacking c.self.inside.overlays.items)
    ∙ ap (λ (k : Kept g.row.D.Denot). take c.args.lacking k.overlays) c.self.view_is in
    let count = seen-count g.F.Family.shape (grafting g.N.Chunks.LEN) g.N.Chunks.LEN (some g) c.args.self.now agreed c.args.bits.now c.args.lacking c.requires.lacked c.requires.at (map (λ r. r.value) c.split_at.result.0.now) newest
    (seen g.N.Chunks.LEN c.in_ok-laid.laid) c.in_ok-laid.ensures in
    omega (arith, count, c.requires.grows)

pub returns : goal.returns
returns g c =
    let agreed = subst (AreAgreed {D = g.row.D.Denot} g.F.Family.shape (grafting g.N.Chunks.LEN)) c.self.view_is c.self.invariant.0 in
    let newest = ap (map (λ r. r.value)) (c.split_at.ensures.front ∙ ap (take c.args.lacking) c.deref.ensures.value) ∙ sym (take-map (λ r. r.value) c.args.lacking c.self.inside.overlays.items)
    ∙ ap (λ (k : Kept g.row.D.Denot). take c.args.lacking k.overlays) c.self.view_is in
    let laid = seen g.N.Chunks.LEN c.in_ok-laid.laid in
    let pruned = seen-pruned g.F.Family.shape (grafting g.N.Chunks.LEN) g.N.Chunks.LEN (some g) c.args.self.now agreed c.args.bits.now c.args.lacking c.requires.lacked c.requires.at (map (λ r. r.value) c.split_at.result.0.now) newest
    laid c.in_ok-laid.ensures in record {
      total = c.in_ok-overlay.ensures.total;
      pruned = c.in_ok-overlay.ensures.pruned ∙ pruned;
      count = c.in_ok-overlay.ensures.count;
      from = subst (λ n. IsFrom n c.in_ok-overlay.overlay.value) pruned c.in_ok-overlay.ensures.from;
      made = λ base ops bases are rising same lead ended long.
          let before = seen-active g.F.Family.shape (grafting g.N.Chunks.LEN) g.N.Chunks.LEN (some g) c.args.self.now agreed c.args.bits.now c.args.lacking c.requires.lacked c.requires.at (map (λ r. r.value) c.split_at.result.0.now) newest
          laid c.in_ok-laid.ensures base bases are rising same in
          (c.in_ok-overlay.ensures.active base ops lead ended long before, c.in_ok-overlay.ensures.overlay base ops lead ended long before);
    }
