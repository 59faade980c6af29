use Rattle.std.proofs.Common.{◌∙◌, ap, map}
use Rattle.std.specs.Prelude.{filter_map}
use Rattle.qm_step.specs.PlanViews.{unordered_view}
use Rattle.qm_model.specs.Live.{live}
use Rattle.qm_model.specs.Writes.{last_writes}
use Rattle.qm_model.proofs.LastWrites.{last_writes-Rising}
use Rattle.qm_step.specs.PlanViews.{site_in, site_view}
use Rattle.qm_step.specs.Touches.{rewrite_here}
use Rattle.qm_step.proofs.PlanLoops.{rewrite-next, none-first, taken-all}
use Rattle.qm_step.proofs.writes.by_location.Goals as goal

pub loop-site-init : goal.loop-site-init
loop-site-init g c = λ base ws are. ap (map (λ e. (e.0, unordered_view g.K.ByteString.bytes g.V.Value.ByteString.bytes e.1))) c.new-rewrites.ensures.empty ∙ none-first (live base)

pub loop-site-preserved : goal.loop-site-preserved
loop-site-preserved g c = λ base ws are.
    let key = g.K.ByteString.bytes in
    let value = g.V.Value.ByteString.bytes in
    let show = map (λ e. (e.0, unordered_view key value e.1)) in
    rewrite-next (site_view key value) base (last_writes ws) c.args.sites.now are c.loop-site.site-index c.site-item.result c.loop-site-test.true c.site-item.is
    (show c.loop-site.rewrites.entries) (show c.put_rewrite.new.rewrites.entries) (last_writes-Rising ws) c.in_ok-put_rewrite.ensures.live (λ none. ap show (c.in_ok-put_rewrite.ensures.other none)) (c.loop-site.invariant base ws are)

pub returns : goal.returns
returns g c = λ base ws are.
    let key = g.K.ByteString.bytes in
    let value = g.V.Value.ByteString.bytes in
    c.loop-site.invariant base ws are
    ∙ ap (λ us. filter_map (rewrite_here us) (live base)) (taken-all (site_view key value) (site_in base) c.args.sites.now (last_writes ws) c.loop-site.site-index are c.loop-site-test.false)
