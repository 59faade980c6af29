use Rattle.std.proofs.Common.{sym, ◌∙◌, subst, arith, refl, inl}
use Rattle.std.specs.Prelude.{All}
use Rattle.std.proofs.lemmas.Result.{err_from_is_err_and}
use Rattle.qm_crew.specs.Turned.{AreTurned}
use Rattle.qm_crew.proofs.Lefts.{sum_by-turned}
use Rattle.qm_build.proofs.Decoding.{each}
use Rattle.qm_build.proofs.Reading.{read-none, read-then, error-then, operations-then, told}
use Rattle.qm_workers.specs.Working.{work_of, left_of, IsWithin}
use Rattle.qm_workers.specs.Answering.{IsAnswered}
use Rattle.qm_workers.proofs.Answering.{answered-before, undecoded-before, crew-same, crew-turned, crew-told, crew-within, crew-through}
use Rattle.qm_workers.proofs.round.round.Goals as goal

pub loop-alloc-init : goal.loop-alloc-init
loop-alloc-init g c = record {
  ready = c.requires.ready;
  read = read-none g.C.Store g.F.Family.shape g.H.Digest.Digest.bytes g.H.Hasher.hash c.args.log.now;
  worked = crew-same g.C.Store g.U.Update.form g.I.Unordered.index_key c.args.log.now (work_of g.I.Unordered.entries g.U.Key.ByteString.bytes) c.args.crew.now;
}

pub answer_all-requires : goal.answer_all-requires
answer_all-requires g c =
    let view = work_of g.I.Unordered.entries g.U.Key.ByteString.bytes in
    let log = c.args.log.now in
    let before = c.loop-alloc.invariant in
    let worked = crew-turned g.C.Store g.U.Update.form g.I.Unordered.index_key log view g.T.Runs.turns c.requires.turns c.args.crew.now c.loop-alloc.crew c.run.new.crew before.worked c.run.ensures.turned in
    subst (λ t. All (λ w. IsWithin t.start t.leaves (work_of g.I.Unordered.entries g.U.Key.ByteString.bytes w)) c.run.new.crew) (sym before.read.tree)
    (crew-within g.C.Store g.U.Update.form g.I.Unordered.index_key log view c.args.crew.now c.run.new.crew worked (c.has_failed.ensures c.if-has_failed.false) log.tree.start log.tree.leaves c.requires.within)

pub loop-alloc-smaller : goal.loop-alloc-smaller
loop-alloc-smaller g c =
    let turned = sum_by-turned (λ w. left_of g.I.Unordered.index_key (work_of g.I.Unordered.entries g.U.Key.ByteString.bytes w)) g.T.Runs.turns (λ a b t. (c.requires.turns a b t).no_more) c.loop-alloc.crew c.run.new.crew c.run.ensures.turned in
    let less = c.in_ok-answer_all.ensures.less c.if-not-branch.false in
    omega (arith, turned, less)

pub loop-alloc-preserved : goal.loop-alloc-preserved
loop-alloc-preserved g c =
    let members = g.C.Store in
    let shape = g.F.Family.shape in
    let digest = g.H.Digest.Digest.bytes in
    let hash = g.H.Hasher.hash in
    let form = g.U.Update.form in
    let index_key = g.I.Unordered.index_key in
    let view = work_of g.I.Unordered.entries g.U.Key.ByteString.bytes in
    let log = c.args.log.now in
    let before = c.loop-alloc.invariant in
    let worked = crew-turned members form index_key log view g.T.Runs.turns c.requires.turns c.args.crew.now c.loop-alloc.crew c.run.new.crew before.worked c.run.ensures.turned in
    let told = c.in_ok-answer_all.ensures.told in
    record {
      ready = c.run.ensures.ready;
      read = read-then members shape digest hash log c.loop-alloc.log c.answer_all.new.log before.read c.answer_all.ensures.read;
      worked = crew-told members form index_key log view c.args.crew.now c.run.new.crew c.answer_all.new.crew worked
          (record { long = told.long; each = λ j d below. answered-before members shape digest hash form index_key log c.loop-alloc.log _ _ before.read (told.each j d below) });
    }

pub returns-then-not-branch : goal.returns-then-not-branch
returns-then-not-branch g c =
    let members = g.C.Store in
    let shape = g.F.Family.shape in
    let digest = g.H.Digest.Digest.bytes in
    let hash = g.H.Hasher.hash in
    let form = g.U.Update.form in
    let index_key = g.I.Unordered.index_key in
    let view = work_of g.I.Unordered.entries g.U.Key.ByteString.bytes in
    let log = c.args.log.now in
    let before = c.loop-alloc.invariant in
    let turned = c.run.ensures.turned in
    let worked = crew-turned members form index_key log view g.T.Runs.turns c.requires.turns c.args.crew.now c.loop-alloc.crew c.run.new.crew before.worked turned in
    let said = c.in_ok-answer_all.ensures.told in
    let answered : AreTurned (λ a b. IsAnswered members form index_key log (view a) (view b)) c.run.new.crew c.answer_all.new.crew = record { long = said.long; each = λ j d below. answered-before members shape digest hash form index_key log c.loop-alloc.log _ _ before.read (said.each j d below) } in
    record {
      ready = c.run.ensures.ready;
      worked = crew-told members form index_key log view c.args.crew.now c.run.new.crew c.answer_all.new.crew worked answered;
      through = crew-through members form index_key log view g.T.Runs.turns c.requires.turns c.loop-alloc.crew c.run.new.crew c.answer_all.new.crew turned answered (c.has_failed.ensures c.if-has_failed.false) (c.in_ok-answer_all.ensures.quiet c.if-not-branch.true);
      long = answered.long ∙ worked.long;
      decodes = λ ops has. each (members.told log.store) (λ s. tt);
      corrupt = each (members.told log.store) (λ s. tt);
      read = read-then members shape digest hash log c.loop-alloc.log c.answer_all.new.log before.read c.answer_all.ensures.read;
      error = tt;
    }

pub returns-then-has_failed : goal.returns-then-has_failed
returns-then-has_failed g c =
    let before = c.loop-alloc.invariant in
    let turned = c.run.ensures.turned in
    let worked = before.worked in
    record {
      ready = c.run.ensures.ready;
      worked = tt;
      through = tt;
      long = turned.long ∙ worked.long;
      decodes = λ ops has. each (g.C.Store.told c.args.log.now.store) (λ s is. cc);
      corrupt = each (g.C.Store.told c.args.log.now.store) (λ s is. cc);
      read = before.read;
      error = inl (inl refl);
    }

pub returns-in_err-answer_all : goal.returns-in_err-answer_all
returns-in_err-answer_all g c =
    let members = g.C.Store in
    let shape = g.F.Family.shape in
    let digest = g.H.Digest.Digest.bytes in
    let hash = g.H.Hasher.hash in
    let form = g.U.Update.form in
    let index_key = g.I.Unordered.index_key in
    let view = work_of g.I.Unordered.entries g.U.Key.ByteString.bytes in
    let log = c.args.log.now in
    let before = c.loop-alloc.invariant in
    let turned = c.run.ensures.turned in
    let worked = crew-turned members form index_key log view g.T.Runs.turns c.requires.turns c.args.crew.now c.loop-alloc.crew c.run.new.crew before.worked turned in
    let kept = c.answer_all.auto.crew in
    let long = worked.long in
    let exit = err_from_is_err_and c.from_residual.result c.from_residual.ensures.1 in
    rw (exit.1, exit.2) (record {
      ready = c.run.ensures.ready;
      worked = tt;
      through = tt;
      long = omega (arith, kept, long);
      decodes = λ ops has. told _ (members.told c.loop-alloc.log.store) (members.told log.store) before.read.kept.told (c.in_err-answer_all.ensures.decodes ops (operations-then members shape digest hash form log c.loop-alloc.log ops before.read has));
      corrupt = undecoded-before members shape digest hash form log c.loop-alloc.log _ (λ from. All (λ w. IsWithin from c.loop-alloc.log.tree.leaves (view w)) c.run.new.crew) _ before.read c.in_err-answer_all.ensures.corrupt
          (λ from within. subst (λ t. All (λ w. IsWithin from t.leaves (work_of g.I.Unordered.entries g.U.Key.ByteString.bytes w)) c.run.new.crew) (sym before.read.tree)
          (crew-within members form index_key log view c.args.crew.now c.run.new.crew worked (c.has_failed.ensures c.if-has_failed.false) from log.tree.leaves within));
      read = read-then members shape digest hash log c.loop-alloc.log c.answer_all.new.log before.read c.answer_all.ensures.read;
      error = error-then members shape digest hash log c.loop-alloc.log c.answer_all.new.log _ before.read c.in_err-answer_all.ensures.error;
    })
