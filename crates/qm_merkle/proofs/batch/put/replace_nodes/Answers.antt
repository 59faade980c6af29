use Rattle.std.proofs.Common.{arith}
use Rattle.qm_merkle.proofs.Putting.{one_replaced, none_replaced}
use Rattle.qm_merkle.proofs.batch.put.replace_nodes.Goals as goal

pub loop-position-preserved-then-index-nodes : goal.loop-position-preserved-then-index-nodes
loop-position-preserved-then-index-nodes g c =
    one_replaced c.args.size c.in-Some.position.now c.in-Some.digest.now c.args.replaced.now.entries c.loop-position.position-iterator c.next.new.self c.args.nodes.now c.loop-position.nodes
    c.loop-position.invariant c.in-Some.ensures.steps c.if-size-position.true c.if-index-nodes.true

pub loop-position-preserved-else-index-nodes : goal.loop-position-preserved-else-index-nodes
loop-position-preserved-else-index-nodes g c =
    none_replaced c.args.size c.in-Some.position.now c.in-Some.digest.now c.args.replaced.now.entries c.loop-position.position-iterator c.next.new.self c.args.nodes.now c.loop-position.nodes
    c.loop-position.invariant c.in-Some.ensures.steps (λ i lt e. omega (arith, e))

pub loop-position-preserved : goal.loop-position-preserved
loop-position-preserved g c =
    none_replaced c.args.size c.in-Some.position.now c.in-Some.digest.now c.args.replaced.now.entries c.loop-position.position-iterator c.next.new.self c.args.nodes.now c.loop-position.nodes
    c.loop-position.invariant c.in-Some.ensures.steps (λ i lt e. omega (arith, e))
