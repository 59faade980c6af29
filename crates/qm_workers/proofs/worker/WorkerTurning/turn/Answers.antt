use Rattle.std.proofs.Common.{◌≡◌, [], ap, ◌∙◌, refl, length, arith}
use Rattle.std.proofs.lemmas.List.{length-map}
use Rattle.qm_workers.specs.Working.{Work, move_of, work_of}
use Rattle.qm_workers.proofs.Turns.{goes-same, goes-then, left-none, none-left, turn-less, turn-quiet}
use Rattle.qm_workers.proofs.worker.WorkerTurning.turn.Goals as goal

pub loop-init : goal.loop-init
loop-init g c =
    let old = work_of g.I.Unordered.entries g.K.ByteString.bytes c.args.self.now in
    record { goes = goes-same g.I.Unordered.index_key old old refl; long = omega arith; start = λ is. refl }

pub loop-preserved : goal.loop-preserved
loop-preserved g c =
    let index_key = g.I.Unordered.index_key in
    let old = work_of g.I.Unordered.entries g.K.ByteString.bytes c.args.self.now in
    let at = work_of g.I.Unordered.entries g.K.ByteString.bytes c.loop.self in
    let begun = work_of g.I.Unordered.entries g.K.ByteString.bytes c.begin.new.self in
    let new = work_of g.I.Unordered.entries g.K.ByteString.bytes c.work.new.self in
    let did = c.work.ensures.did c.if-not-work.false in
    let same = ap (λ (w : Work). length w.coming) c.begin.ensures.same in
    let before = c.loop.invariant.long in
    record {
      goes = goes-then index_key old at new c.loop.invariant.goes (goes-then index_key at begun new (goes-same index_key at begun c.begin.ensures.same) c.work.ensures.goes);
      long = omega (arith, did, same, before);
      start = λ is. absurd (omega (arith, is));
    }

pub returns-then-not-work : goal.returns-then-not-work
returns-then-not-work g c =
    let index_key = g.I.Unordered.index_key in
    let old = work_of g.I.Unordered.entries g.K.ByteString.bytes c.args.self.now in
    let at = work_of g.I.Unordered.entries g.K.ByteString.bytes c.loop.self in
    let begun = work_of g.I.Unordered.entries g.K.ByteString.bytes c.begin.new.self in
    let new = work_of g.I.Unordered.entries g.K.ByteString.bytes c.work.new.self in
    let not = c.work.ensures.not c.if-not-work.true in
    let same = ap (λ (w : Work). length w.coming) c.begin.ensures.same in
    let before = c.loop.invariant.long in
    record {
      no_more = turn-less index_key old begun new c.loop.counter (omega (arith, same, before)) (λ is. c.begin.ensures.same ∙ c.loop.invariant.start is) not;
      may = record {
        goes = goes-then index_key old at new c.loop.invariant.goes (goes-then index_key at begun new (goes-same index_key at begun c.begin.ensures.same) c.work.ensures.goes);
        quiet = turn-quiet index_key begun new not;
      };
    }

pub returns : goal.returns
returns g c =
    let index_key = g.I.Unordered.index_key in
    let at = work_of g.I.Unordered.entries g.K.ByteString.bytes c.loop.self in
    let all = length-map c.args.self.now.coming.items (move_of g.K.ByteString.bytes) in
    let end = c.len-end.ensures in
    let before = c.loop.invariant.long in
    let over = c.loop-test.false in
    let none : at.coming ≡ [] = none-left index_key at.coming (omega (arith, all, end, before, over)) in
    let nothing = left-none index_key at none in
    record {
      no_more = omega (arith, nothing);
      may = record { goes = c.loop.invariant.goes; quiet = λ asks. none };
    }
