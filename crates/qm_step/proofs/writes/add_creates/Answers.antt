use Rattle.std.proofs.Common.{◌∙◌, ◌++◌, ap, sym, map, append-nil}
use Rattle.std.specs.Prelude.{filter_map, option_map}
use Rattle.qm_model.specs.Live.{live}
use Rattle.qm_model.specs.Writes.{create_of}
use Rattle.qm_step.specs.PlanViews.{site_in, site_view, unordered_touch, unordered_touches}
use Rattle.qm_step.specs.Touches.{new_touch}
use Rattle.qm_step.proofs.PlanLoops.{create-more, taken-all}
use Rattle.qm_step.proofs.PlanSites.{pushed-shown}
use Rattle.qm_step.proofs.writes.add_creates.Goals as goal

pub loop-site-init : goal.loop-site-init
loop-site-init g c = λ base us are. sym (append-nil (unordered_touches g.K.ByteString.bytes g.V.Value.ByteString.bytes c.args.touches.now.items))

pub loop-site-preserved : goal.loop-site-preserved
loop-site-preserved g c = λ base us are.
    let key = g.K.ByteString.bytes in
    let value = g.V.Value.ByteString.bytes in
    create-more (site_view key value) base us c.args.sites.now are c.loop-site.site-index c.site-item.result c.loop-site-test.true c.site-item.is
    (unordered_touches key value c.args.touches.now.items) (unordered_touches key value c.loop-site.touches.items) (unordered_touches key value c.push_some.new.things.items) (option_map (unordered_touch key value) c.in_ok-touch.touch)
    (λ w is. c.in_ok-touch.ensures base w is) (pushed-shown (unordered_touch key value) c.push_some.new.things.items c.loop-site.touches.items c.in_ok-touch.touch c.in_ok-push_some.ensures) (c.loop-site.invariant base us are)

pub returns : goal.returns
returns g c = λ base us are.
    let key = g.K.ByteString.bytes in
    let value = g.V.Value.ByteString.bytes in
    c.loop-site.invariant base us are
    ∙ ap (λ ws. unordered_touches key value c.args.touches.now.items ++ map new_touch (filter_map (create_of (live base)) ws)) (taken-all (site_view key value) (site_in base) c.args.sites.now us c.loop-site.site-index are c.loop-site-test.false)
