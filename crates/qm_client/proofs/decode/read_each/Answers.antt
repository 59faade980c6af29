use Rattle.std.proofs.Common.{◌≡◌, ◌+◌, ◌-◌, arith, ap, sym, ◌∙◌, subst, map}
use Rattle.qm_client.specs.ProofForms as model
use Rattle.qm_client.proofs.Reading.{behind, behind-none, behind-next, behind-lack, behind-all}
use Rattle.qm_client.proofs.decode.read_each.Goals as goal

pub loop-init : goal.loop-init
loop-init g c =
    let all : c.args.count - 0 ≡ c.args.count = omega arith in
    ap (λ n. behind (map g.D.Digest.bytes c.new-digests.result.items) (model.read_each g.D.Digest.SIZE n c.args.bytes.now)) all
    ∙ ap (λ ds. behind (map g.D.Digest.bytes ds) (model.read_each g.D.Digest.SIZE c.args.count c.args.bytes.now)) c.new-digests.ensures.items
    ∙ behind-none (model.read_each g.D.Digest.SIZE c.args.count c.args.bytes.now)

pub returns-in_default : goal.returns-in_default
returns-in_default g c =
    behind-lack g.D.Digest.bytes g.D.Digest.SIZE c.args.count c.loop.counter _ c.loop.rest.now _ (omega arith) c.in_default.ensures c.loop.invariant

pub loop-preserved : goal.loop-preserved
loop-preserved g c =
    subst (λ ds. behind (map g.D.Digest.bytes ds) (model.read_each g.D.Digest.SIZE (c.args.count - (c.loop.counter + 1)) c.in-Some.read.1.now) ≡ model.read_each g.D.Digest.SIZE c.args.count c.args.bytes.now) (sym c.in_ok-push.ensures.items)
    (behind-next g.D.Digest.bytes g.D.Digest.SIZE c.args.count c.loop.counter c.loop.digests.items c.loop.rest.now c.in-Some.read.0 c.in-Some.read.1.now _ (omega arith) c.in-Some.ensures c.loop.invariant)

pub returns : goal.returns
returns g c =
    behind-all g.D.Digest.bytes g.D.Digest.SIZE (c.args.count - c.loop.counter) _ c.loop.rest.now _ (omega arith) c.loop.invariant
