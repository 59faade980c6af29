use Rattle.std.specs.Prelude.{Contains}
use Rattle.std.proofs.Common.{◌≡◌, ◌+◌, ◌++◌, ◌∷◌, [], length, map, take, arith, le_refl, refl, ◌∙◌, ap, subst, Some, append_assoc}
use Rattle.std.proofs.lemmas.List.{length-map, take_all}
use Rattle.qm_model.specs.Batches.{Apart}
use Rattle.qm_machine.specs.Machine.{state_after, turn}
use Rattle.qm_model.specs.Schemes.{chunks_of}
use Rattle.qm_lines.specs.Views.{line_view, answer_view}
use Rattle.qm_store.specs.Given.{store_given}
use Rattle.qm_engine.specs.Parts.{Between}
use Rattle.qm_machine.proofs.Sounds.{sound-steady}
use Rattle.qm_engine.proofs.LastingStores.{turns-self, turns-through, turns-looser}
use Rattle.qm_engine.proofs.Loops.{ended-at, none-at, loop_step, ended_in, ended_at, line_here, goes-between, own-left, none-more, more-parts, Rose-wider, command-among}
use Rattle.qm_engine.proofs.Answerings.{end-done_not_fault}
use Rattle.qm_engine.proofs.runs.run_part.Goals as goal

pub loop-command-init : goal.loop-command-init
loop-command-init g c =
    let a = answer_view g.X.Key.ByteString.bytes g.X.Value.ByteString.bytes g.X.Digest.Digest.bytes in
    let told = g.C.Store.told (store_given g.X.Meaning.inside c.args.session.held) in
    record {
      count = ap length c.new-replies.ensures.items;
      opened = omega arith;
      later = le_refl _;
      ends = ([], turns-self _ (chunks_of g.X.Meaning.scheme) told);
      machine = λ s more rest chose between apart. (
        ap (map a) c.new-replies.ensures.items,
        subst (λ xs. Between g.C.Store g.X.Meaning g.P.Policy.rules c.args.session (xs ++ rest) s)
            (none-more (chunks_of g.X.Meaning.scheme) told told between.stands.store.told.stored more between.stands.store.told.is refl chose) between,
      );
    }

pub returns-in-Some : goal.returns-in-Some
returns-in-Some g c =
    let f = line_view g.X.Key.ByteString.bytes g.X.Value.ByteString.bytes (λ p. p) in
    let a = answer_view g.X.Key.ByteString.bytes g.X.Value.ByteString.bytes g.X.Digest.Digest.bytes in
    let m = g.X.Meaning.scheme in
    let rules = g.P.Policy.rules in
    let i = c.loop-command.command-index in
    let kept : c.step-next.new.replies.items ≡ c.loop-command.replies.items = ended-at _ c.in-Some.is c.step-next.ensures.kept in
    let told = g.C.Store.told (store_given g.X.Meaning.inside c.args.session.held) in
    let before = c.loop-command.invariant.ends in
    let behind = c.step-next.ensures.ends in
    record {
      machine = λ s more rest chose between.
          let parts = more-parts _ _ (chunks_of m) told _ _ between.stands.store.told.stored before.0 behind.0 more between.stands.store.told.is before.1 behind.1 chose in
          let here = subst (λ xs. Between g.C.Store g.X.Meaning rules c.args.session xs s) (ap (λ xs. xs ++ rest) parts ∙ append_assoc before.0 behind.0 rest) between in
          rw kept (ended_in m rules s (map f c.args.commands.now) i (f c.command-item.result) (map a c.loop-command.replies.items) _
          (λ s. Between g.C.Store g.X.Meaning rules c.loop-command.session (behind.0 ++ rest) s)
          (rw (length-map c.args.commands.now f) c.loop-command-test.true)
          (line_here f c.args.commands.now i c.command-item.result c.loop-command-test.true c.command-item.is)
          (length-map c.loop-command.replies.items a ∙ c.loop-command.invariant.count)
          (c.loop-command.invariant.machine s before.0 (behind.0 ++ rest) (turns-looser (chunks_of m) before.0 told _ (λ destroyed. tt) before.1) here)
          (λ bounded s between apart. own-left g.C.Store g.X.Meaning rules g.met.X.Common.bounds c.loop-command.session (behind.0 ++ rest) (f c.command-item.result) _ s bounded between apart
          (c.step-next.ensures.left s between.stands (sound-steady m rules g.met.X.Common.bounds s between.sound) apart)));
      onward = λ e. absurd (ended-at _ c.in-Some.is c.step-next.ensures.not_done e);
      done = λ e. absurd (ended-at _ c.in-Some.is c.step-next.ensures.not_done e);
      short = λ other. omega (arith, ap length kept, c.loop-command.invariant.count, c.loop-command-test.true);
      ends = (
        before.0 ++ behind.0,
        turns-through (chunks_of m) before.0 behind.0 told _ _ (λ among. among)
            (λ destroys. subst (Contains (map f c.args.commands.now)) destroys (command-among f c.args.commands.now i c.command-item.result c.loop-command-test.true c.command-item.is)) before.1 behind.1,
      );
      later = omega (arith, c.loop-command.invariant.later, c.step-next.ensures.later);
      fault = λ e. Rose-wider _ _ _ _ c.loop-command.invariant.later (c.step-next.ensures.fault (c.in-Some.is ∙ ap Some e)) (omega arith);
      opened = omega (arith, c.loop-command.invariant.opened, c.step-next.ensures.opened, c.loop-command-test.true);
    }

pub loop-command-preserved : goal.loop-command-preserved
loop-command-preserved g c =
    let f = line_view g.X.Key.ByteString.bytes g.X.Value.ByteString.bytes (λ p. p) in
    let a = answer_view g.X.Key.ByteString.bytes g.X.Value.ByteString.bytes g.X.Digest.Digest.bytes in
    let m = g.X.Meaning.scheme in
    let rules = g.P.Policy.rules in
    let lines = map f c.args.commands.now in
    let i = c.loop-command.command-index in
    let grown = none-at _ c.in_default.is c.step-next.ensures.grown in
    let told = g.C.Store.told (store_given g.X.Meaning.inside c.args.session.held) in
    let before = c.loop-command.invariant.ends in
    let behind = c.step-next.ensures.ends in
    let chosen = none-at _ c.in_default.is behind.2 in
    record {
      count = grown ∙ ap (λ n. n + 1) c.loop-command.invariant.count;
      opened = omega (arith, c.loop-command.invariant.opened, c.step-next.ensures.opened);
      later = omega (arith, c.loop-command.invariant.later, c.step-next.ensures.later);
      ends = (
        before.0 ++ behind.0,
        turns-through (chunks_of m) before.0 behind.0 told _ _ (λ among. among)
            (λ destroys. subst (Contains (map f c.args.commands.now)) destroys (command-among f c.args.commands.now i c.command-item.result c.loop-command-test.true c.command-item.is)) before.1 behind.1,
      );
      machine = λ s more rest chose between.
          let parts = more-parts _ _ (chunks_of m) told _ _ between.stands.store.told.stored before.0 behind.0 more between.stands.store.told.is before.1 behind.1 chose in
          let here = subst (λ xs. Between g.C.Store g.X.Meaning rules c.args.session xs s) (ap (λ xs. xs ++ rest) parts ∙ append_assoc before.0 behind.0 rest) between in
          loop_step m rules s lines (λ given. given) (λ given answer. given ++ answer ∷ []) (λ given answer. refl) i (f c.command-item.result) (map a c.loop-command.replies.items) (map a c.step-next.new.replies.items)
          (λ s. Between g.C.Store g.X.Meaning rules c.loop-command.session (behind.0 ++ rest) s)
          (λ s. Between g.C.Store g.X.Meaning rules c.step-next.result.0 rest s)
          (rw (length-map c.args.commands.now f) c.loop-command-test.true)
          (line_here f c.args.commands.now i c.command-item.result c.loop-command-test.true c.command-item.is)
          (c.loop-command.invariant.machine s before.0 (behind.0 ++ rest) (turns-looser (chunks_of m) before.0 told _ (λ destroyed. tt) before.1) here)
          (goes-between g.C.Store g.X.Meaning rules g.met.X.Common.bounds c.loop-command.session c.step-next.result.0 behind.0 rest (f c.command-item.result) (λ s. map a c.step-next.new.replies.items ≡ map a c.loop-command.replies.items ++ (turn m rules s (f c.command-item.result)).0 ∷ []) chosen
          (λ s stands sound choices. none-at _ c.in_default.is (c.step-next.ensures.machine s stands sound behind.0 rest (turns-looser (chunks_of m) behind.0 _ _ (λ destroyed. tt) behind.1) choices)));
    }

pub returns : goal.returns
returns g c =
    let f = line_view g.X.Key.ByteString.bytes g.X.Value.ByteString.bytes (λ p. p) in
    let a = answer_view g.X.Key.ByteString.bytes g.X.Value.ByteString.bytes g.X.Digest.Digest.bytes in
    let m = g.X.Meaning.scheme in
    let rules = g.P.Policy.rules in
    let lines = map f c.args.commands.now in
    let i = c.loop-command.command-index in
    let all : take i lines ≡ lines = take_all i lines (omega (arith, length-map c.args.commands.now f, c.loop-command.auto.command-index-end, c.loop-command-test.false)) in
    record {
      machine = λ s more rest chose between.
          ended_at m rules s lines i (map a c.loop-command.replies.items) _
          (omega (arith, length-map c.args.commands.now f, c.loop-command.auto.command-index-end))
          (length-map c.loop-command.replies.items a ∙ c.loop-command.invariant.count)
          (λ apart. let at_end = c.loop-command.invariant.machine s more rest chose between apart in (at_end.0, (at_end.1).stands.store.told, (at_end.1).sound.kept));
      onward = λ e s more rest chose between.
          subst (λ t. Apart m.root (state_after m rules s t).had → Between g.C.Store g.X.Meaning rules c.loop-command.session rest (state_after m rules s t)) all
          (λ apart. (c.loop-command.invariant.machine s more rest chose between apart).1);
      done = λ e. omega (arith, c.loop-command.invariant.count, c.loop-command.auto.command-index-end, c.loop-command-test.false);
      short = λ other. absurd (other refl);
      ends = c.loop-command.invariant.ends;
      later = c.loop-command.invariant.later;
      fault = λ e. absurd (end-done_not_fault e);
      opened = omega (arith, c.loop-command.invariant.opened, c.loop-command.auto.command-index-end);
    }
