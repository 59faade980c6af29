use Rattle.std.proofs.Common.{◌≡◌, ◌<◌, ◌≤◌, length, get_or, sym, ◌∙◌, subst, arith, refl, length-set, None}
use Rattle.std.proofs.lemmas.Bool.{true≢false, false≢true}
use Rattle.std.proofs.lemmas.List.{get_or_default}
use Rattle.std.proofs.lemmas.Result.{err_from_is_err_and}
use Rattle.qm_build.proofs.Decoding.{each}
use Rattle.qm_build.proofs.Reading.{read-none, read-then, error-then, operations-then, told}
use Rattle.qm_workers.specs.Working.{work_of, asked, left_of, IsWithin}
use Rattle.qm_workers.specs.Answering.{IsAnswered}
use Rattle.qm_workers.proofs.Crews.{was, told-more, same-more, sum-more}
use Rattle.qm_workers.proofs.Answering.{answered-before, undecoded-before}
use Rattle.qm_workers.proofs.round.answer_all.Goals as goal
use Rattle.qm_workers.proofs.round.answer_all.Goals.{then-branch, else-branch}

pub loop-i-init : goal.loop-i-init
loop-i-init g c = record {
  long = refl;
  read = read-none g.C.Store g.F.Family.shape g.H.Digest.Digest.bytes g.H.Hasher.hash c.args.log.now;
  no_more = omega arith;
  less = λ is. absurd (false≢true is);
  quiet = λ none j d below. absurd (omega (arith, below));
  told = λ j d below. absurd (omega (arith, below));
  same = λ j d more. refl;
}

pub answer-requires : goal.answer-requires
answer-requires g c =
    let before = c.loop-i.invariant in
    let crew = c.loop-i.crew in
    let there : c.loop-i.i < length crew = omega (arith, c.loop-i-test.true, before.long) in
    let first : c.loop-i.i < length c.args.crew.now = omega (arith, there, before.long) in
    let item = c.index-crew-i.result in
    let old = get_or crew c.loop-i.i item in
    let own = was c.args.crew.now crew c.loop-i.i old old there (get_or_default crew c.loop-i.i item old there) before.same in
    subst (λ t. IsWithin t.start t.leaves (work_of g.I.Unordered.entries g.U.Key.ByteString.bytes old)) (sym before.read.tree)
    (subst (λ w. IsWithin c.args.log.now.tree.start c.args.log.now.tree.leaves (work_of g.I.Unordered.entries g.U.Key.ByteString.bytes w)) (own item) (c.requires c.loop-i.i item first))

pub loop-i-preserved : goal.loop-i-preserved
loop-i-preserved g c =
    let members = g.C.Store in
    let index_key = g.I.Unordered.index_key in
    let entries = g.I.Unordered.entries in
    let bytes = g.U.Key.ByteString.bytes in
    let before = c.loop-i.invariant in
    let crew = c.loop-i.crew in
    let item = c.index-crew-i.result in
    let new = c.answer.new.worker in
    let i = c.loop-i.i in
    let there : i < length crew = omega (arith, c.loop-i-test.true, before.long) in
    let old = get_or crew i item in
    let is = get_or_default crew i item old there in
    let sum = sum-more c.args.crew.now crew i old new there is before.same (λ w. left_of index_key (work_of entries bytes w)) in
    let no_more = c.in_ok-answer.ensures.no_more in
    let most = before.no_more in
    record {
      long = length-set crew i new ∙ before.long;
      read = read-then members g.F.Family.shape g.H.Digest.Digest.bytes g.H.Hasher.hash c.args.log.now c.loop-i.log c.answer.new.log before.read c.answer.ensures.read;
      no_more = omega (arith, sum, no_more, most);
      less = λ any. elim c.if-branch.branch [
        | then-branch w ↦ let less = c.in_ok-answer.ensures.less w.if-branch.true in omega (arith, sum, less, most)
        | else-branch w ↦ let less = before.less (sym w.any-is ∙ any) in omega (arith, sum, no_more, less)
      ];
      quiet = λ none. elim c.if-branch.branch [
        | then-branch w ↦ absurd (true≢false (sym w.any-is ∙ none))
        | else-branch w ↦ told-more c.args.crew.now crew i old new there is before.same (λ a b. asked index_key (work_of entries bytes a) ≡ None) (before.quiet (sym w.any-is ∙ none)) (c.in_ok-answer.ensures.quiet w.if-branch.false)
      ];
      told = told-more c.args.crew.now crew i old new there is before.same (λ a b. IsAnswered members g.U.Update.form index_key c.args.log.now (work_of entries bytes a) (work_of entries bytes b)) before.told
          (answered-before members g.F.Family.shape g.H.Digest.Digest.bytes g.H.Hasher.hash g.U.Update.form index_key c.args.log.now c.loop-i.log (work_of entries bytes old) (work_of entries bytes new) before.read c.in_ok-answer.ensures.told);
      same = same-more c.args.crew.now crew i old new there is before.same;
    }

pub returns : goal.returns
returns g c =
    let before = c.loop-i.invariant in
    let end : length c.loop-i.crew ≤ c.loop-i.i = omega (arith, before.long, c.loop-i-test.false) in
    record {
      told = record { long = before.long; each = λ j d below. before.told j d (omega (arith, below, end, before.long)) };
      less = before.less;
      quiet = λ none j d below. before.quiet none j d (omega (arith, below, end, before.long));
      decodes = λ ops has. each (g.C.Store.told c.args.log.now.store) (λ s. tt);
      corrupt = each (g.C.Store.told c.args.log.now.store) (λ s. tt);
      read = before.read;
      error = tt;
    }

pub returns-in_err-answer : goal.returns-in_err-answer
returns-in_err-answer g c =
    let members = g.C.Store in
    let shape = g.F.Family.shape in
    let digest = g.H.Digest.Digest.bytes in
    let hash = g.H.Hasher.hash in
    let bytes = g.U.Key.ByteString.bytes in
    let before = c.loop-i.invariant in
    let crew = c.loop-i.crew in
    let item = c.index-crew-i.result in
    let i = c.loop-i.i in
    let there : i < length crew = omega (arith, c.loop-i-test.true, before.long) in
    let first : i < length c.args.crew.now = omega (arith, there, before.long) in
    let old = get_or crew i item in
    let own = was c.args.crew.now crew i old old there (get_or_default crew i item old there) before.same in
    let exit = err_from_is_err_and c.from_residual.result c.from_residual.ensures.1 in
    rw (exit.1, exit.2) (record {
      told = tt;
      less = tt;
      quiet = tt;
      decodes = λ ops has. told _ (members.told c.loop-i.log.store) (members.told c.args.log.now.store) before.read.kept.told (c.in_err-answer.ensures.decodes ops (operations-then members shape digest hash g.U.Update.form c.args.log.now c.loop-i.log ops before.read has));
      corrupt = undecoded-before members shape digest hash g.U.Update.form c.args.log.now c.loop-i.log _ (λ from. IsWithin from c.loop-i.log.tree.leaves (work_of g.I.Unordered.entries bytes old)) _ before.read c.in_err-answer.ensures.corrupt
          (λ from within. subst (λ t. IsWithin from t.leaves (work_of g.I.Unordered.entries bytes old)) (sym before.read.tree) (subst (λ w. IsWithin from c.args.log.now.tree.leaves (work_of g.I.Unordered.entries bytes w)) (own item) (within i item first)));
      read = read-then members shape digest hash c.args.log.now c.loop-i.log c.answer.new.log before.read c.answer.ensures.read;
      error = error-then members shape digest hash c.args.log.now c.loop-i.log c.answer.new.log _ before.read c.in_err-answer.ensures.error;
    })
