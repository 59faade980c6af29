use Rattle.std.proofs.Common.{◌≡◌, ◌∙◌, ◌*◌, ◌^◌, ◌<◌, ◌≤◌, All, ℕ, length, map, Some, arith, ap, sym, subst}
use Rattle.std.proofs.lemmas.List.{length-map}
use Rattle.qm_model.specs.Trees.{leaves_from, peaks, peak_positions}
use Rattle.qm_model.specs.Grafted.{chunk_of, grafted_chunks}
use Rattle.qm_merkle.specs.Mems.{Holds, Stands, node_at}
use Rattle.qm_merkle.proofs.Standing.{peaks_held}
use Rattle.qm_graft.specs.Grafting.{grafting, kept_shape}
use Rattle.qm_graft.specs.Numbers.{kept_family, kept_peaks}
use Rattle.qm_graft.proofs.Fitting.{grafting-some, grafting-span}
use Rattle.qm_roots.specs.Canonical.{Canonical, MayGo, values_of}
use Rattle.qm_roots.proofs.Going.{gone-grafted}
use Rattle.qm_roots.proofs.Chunks.{grafted-within}
use Rattle.qm_roots.proofs.Pins.{pins-read}
use Rattle.qm_roots.proofs.canonical.Canonical.pins.Given
use Rattle.qm_roots.proofs.canonical.Canonical.pins.Goals as goal

-- the chunks are grafted
gone : (g : Given.Over) (n c : ℕ) → MayGo g.F.Family.shape (grafting g.N.Chunks.LEN) c n → c ≤ grafted_chunks g.F.Family.shape (grafting g.N.Chunks.LEN) n
gone g n c goes =
    let height = grafting g.N.Chunks.LEN in
    let some = let least = g.met.N.Chunks.least in grafting-some g.N.Chunks.LEN least in
    gone-grafted g.F.Family.shape g.F.Family.births g.met.F.Family.numbered height (λ m k x more needed born. g.met.F.Graftable.absorbed height m k x some more needed born) n c goes

pub nodes_to_pin-requires : goal.nodes_to_pin-requires
nodes_to_pin-requires g c =
    let sized = c.self.invariant in
    let size = ap (λ (o : Canonical g.row.D.Denot). o.size) c.self.view_is in
    let low = gone g c.self.inside.size c.args.chunks (subst (λ n. MayGo g.F.Family.shape (grafting g.N.Chunks.LEN) c.args.chunks n) (sym size) c.requires.may_go) in
    omega (arith, low, sized.leaves, c.bounds.ensures.whole.few, c.new.ensures)

pub digests-requires : goal.digests-requires
digests-requires g c =
    let shape = g.F.Family.shape in
    let kshape = kept_shape shape (grafting g.N.Chunks.LEN) in
    let tree = c.self.inside.tree in
    let same = ap (λ (o : Canonical g.row.D.Denot). o.tree) c.self.view_is in
    subst (All (Holds kshape tree)) (sym (c.deref.ensures.value ∙ c.in_ok-positions.ensures ∙ ap (peak_positions shape) c.new.ensures))
    (peaks_held kshape g.F.Family.births (kept_family shape (grafting g.N.Chunks.LEN) g.F.Family.births g.met.F.Family.numbered) (kept_peaks shape (grafting g.N.Chunks.LEN) g.met.F.Family.peaked) tree c.bounds.ensures.whole c.args.chunks
    (omega (arith, ap (λ t. t.start) same, c.requires.start)) (let low = gone g c.self.inside.size c.args.chunks (subst (λ n. MayGo shape (grafting g.N.Chunks.LEN) c.args.chunks n) (sym (ap (λ (o : Canonical g.row.D.Denot). o.size) c.self.view_is)) c.requires.may_go) in
    omega (arith, low, c.self.invariant.leaves)))

pub returns : goal.returns
returns g c =
    let shape = g.F.Family.shape in
    let size = g.N.Chunks.LEN in
    let height = grafting size in
    let power = g.met.N.Chunks.power in
    let span = grafting-span size power.0 power.1 in
    let least = g.met.N.Chunks.least in
    let some : 0 < 8 * size = omega (arith, least) in
    let tree = c.self.inside.tree in
    let same = ap (λ (o : Canonical g.row.D.Denot). o.tree) c.self.view_is in
    let sized = c.self.invariant in
    let start : tree.start ≤ c.args.chunks = omega (arith, ap (λ t. t.start) same, c.requires.start) in
    let low = gone g c.self.inside.size c.args.chunks (subst (λ n. MayGo shape height c.args.chunks n) (sym (ap (λ (o : Canonical g.row.D.Denot). o.size) c.self.view_is)) c.requires.may_go) in
    let leaves : c.args.chunks ≤ tree.leaves = omega (arith, low, sized.leaves) in
    let read = c.in_ok-pins.ensures ∙ ap (map (node_at (kept_shape shape height) tree)) (c.deref.ensures.value ∙ c.in_ok-positions.ensures ∙ ap (peak_positions shape) c.new.ensures) in
    let whole = grafted-within shape g.F.Family.births g.met.F.Family.numbered size some span (g.met.F.Graftable.prompt height) c.self.inside.size c.args.chunks (omega (arith, leaves, sized.leaves)) in
    let within : c.args.chunks * (8 * size) ≤ 2 ^ 62 = omega (arith, whole, sized.few) in record {
      count = sym (length-map c.in_ok-pins.pins.items Some) ∙ ap length read ∙ length-map (peak_positions shape c.args.chunks) (node_at (kept_shape shape height) tree) ∙ length-map (peaks shape c.args.chunks) shape.position;
      pins = λ hash form list at.
          let long : tree.leaves ≡ grafted_chunks shape height (length list) = sized.leaves ∙ ap (grafted_chunks shape height) (ap (λ (o : Canonical g.row.D.Denot). o.size) c.self.view_is ∙ at.size_is) in
          pins-read hash shape g.F.Family.births g.met.F.Family.numbered g.met.F.Family.peaked height (leaves_from hash shape form 0 list) (chunk_of height list) g.D.Digest.bytes tree (grafted_chunks shape height (length list)) c.args.chunks c.in_ok-pins.pins.items
          c.bounds.ensures.whole (subst (λ t. Stands (kept_shape shape height) g.D.Digest.bytes hash t (values_of hash shape height form list)) (sym same) at.tree) start leaves (omega (arith, long)) (subst (λ w. c.args.chunks * w ≤ 2 ^ 62) (sym span) within) read;
    }
