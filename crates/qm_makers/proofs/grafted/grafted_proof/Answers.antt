use Rattle.std.proofs.Common.{◌≡◌, ◌∙◌, ◌<◌, ℕ, map, arith, ap, ap₂, sym, subst}
use Rattle.std.specs.Prelude.{flat_map}
use Rattle.qm_base.specs.declared.error.MerkleError.TheVariants.{Memory}
use Rattle.qm_model.specs.Trees.{Shape, peaks}
use Rattle.qm_model.specs.Grafted.{grafted_inactive}
use Rattle.qm_model.specs.RangeProofs.{listed_of}
use Rattle.qm_model.proofs.Results.{ok-four, err-then}
use Rattle.qm_proofs.specs.Proofs.{needed_positions, Lacks}
use Rattle.qm_graft.specs.Grafting.{grafting}
use Rattle.qm_graft.proofs.Fitting.{grafting-some}
use Rattle.qm_makers.proofs.Holding.{only_memory}
use Rattle.qm_makers.proofs.Listing.{listed_peaks}
use Rattle.qm_makers.proofs.Viewed.{seen, both, same-view, none-lacked, needed-told}
use Rattle.qm_makers.proofs.grafted.grafted_proof.Given
use Rattle.qm_makers.proofs.grafted.grafted_proof.Goals as goal

module _ (g : Given.Over) where
  abbrev shape : Shape
  shape = g.F.Family.shape

  abbrev height : ℕ
  height = grafting g.N.Chunks.LEN

  some : 0 < height
  some = grafting-some g.N.Chunks.LEN g.met.N.Chunks.least

pub returns-clause-cause : goal.returns-clause-cause
returns-clause-cause g c =
    let lowered = g.met.F.Graftable.lowered in
    let absorbed = g.met.F.Graftable.absorbed in
    let births = g.F.Family.births in
    let numbered = g.met.F.Family.numbered in
    let peaked = g.met.F.Family.peaked in
    let operations = c.args.operations.now in
    let grafted = c.args.grafted.now in
    let leaves = c.bounds-leaves.ensures.leaves in
    let a = c.args.start in
    let b = c.args.end in
    let view = same-view c.new-view.result operations grafted _ c.new-view.ensures leaves in
    let at = seen {D = g.row.D.Denot} (shape g) births (height g) in
    let own = both operations grafted in
    let none = none-lacked (shape g) births numbered peaked (height g) (some g) lowered absorbed operations grafted c.bounds-leaves.ensures.whole c.bounds.ensures.whole c.requires.leaves c.requires.may_go
    a b c.requires.kept c.requires.chunks (omega (arith, c.requires.order, c.requires.within)) in
    err-then c.new.result {Q = λ e. e ≡ Memory} c.new.ensures.cause
    (λ e lack. only_memory (at own) (needed_positions (shape g) operations.leaves a b) e none
    (subst (λ n. Lacks (at own) (needed_positions (shape g) n a b) e) leaves (subst (λ v. Lacks (at v) (needed_positions (shape g) c.bounds-leaves.result.1 a b) e) view lack)))

pub returns-clause-proof : goal.returns-clause-proof
returns-clause-proof g c = λ hash list chunks ops long floor digests values.
    let lowered = g.met.F.Graftable.lowered in
    let absorbed = g.met.F.Graftable.absorbed in
    let births = g.F.Family.births in
    let numbered = g.met.F.Family.numbered in
    let peaked = g.met.F.Family.peaked in
    let bytes = g.D.Digest.bytes in
    let operations = c.args.operations.now in
    let grafted = c.args.grafted.now in
    let leaves = c.bounds-leaves.ensures.leaves in
    let a = c.args.start in
    let b = c.args.end in
    let view = same-view c.new-view.result operations grafted _ c.new-view.ensures leaves in
    let at = seen {D = g.row.D.Denot} (shape g) births (height g) in
    let inactive = c.grafted_inactive-inactive.ensures.list ops (leaves ∙ digests.count ∙ long) floor ∙ ap (λ h. grafted_inactive (shape g) h ops) c.height.ensures.exact in
    ok-four c.new.result c.new.ensures.leaves c.new.ensures.inactive c.new.ensures.digests c.new.ensures.leaves
    (λ p size low listed again.
    let held = listed ∙ ap₂ (λ v n. map (at v) (needed_positions (shape g) n a b)) view leaves in
    let row = needed-told (shape g) births numbered peaked (height g) (some g) lowered absorbed operations grafted c.bounds-leaves.ensures.whole c.bounds.ensures.whole c.requires.leaves c.requires.may_go
    bytes hash list chunks digests values a b p.digests.items held in
    let all = row ∙ sym (listed_peaks hash (shape g) (height g) (some g) list chunks a b operations.leaves) ∙ ap (λ n. flat_map (listed_of hash (shape g) (height g) list chunks a b) (peaks (shape g) n)) digests.count in
    ap₂ (λ (parts : ℕ × ℕ) row. record { leaves = parts.0; inactive = parts.1; digests = row }) (ap₂ (λ (n m : ℕ). (n, m)) (size ∙ leaves ∙ digests.count) (low ∙ inactive)) all)
