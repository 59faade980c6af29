use Rattle.std.proofs.Common.{◌≡◌, ◌∙◌, ◌≤◌, ◌<◌, ap, sym, arith, Option, None, Some, ℕ, refl}
use Rattle.std.specs.Prelude.{IfSome}
use Rattle.std.proofs.lemmas.Result.{err_from_is_err_and}
use Rattle.qm_bits.specs.Candidates.{candidates}
use Rattle.qm_model.proofs.Results.{ok-four, told-err}
use Rattle.qm_batch.specs.PlanPaths.{path_view}
use Rattle.qm_batch.proofs.PlanGoing.{between-then}
use Rattle.qm_batch.proofs.PlanRounds.{filled-goes, filled-next, filled-round, filled-spaced, filled-within, path-dead}
use Rattle.qm_base.proofs.Reading.{reads-short, read-none}
use Rattle.qm_batch.proofs.plan.walk.walk_round.Goals as goal

-- where the next round begins
begins-there : (o : Option ℕ) (from floor end next : ℕ) → IfSome o (λ n. n ≡ next) → from < next → floor ≤ next → next ≤ end → IfSome o (λ n. (from < n) × (floor ≤ n) × (n ≤ end))
begins-there None from floor end next is low high top = tt
begins-there (Some n) from floor end next is low high top = (omega (arith, is, low), omega (arith, is, high), omega (arith, is, top))

pub visit_all-requires : goal.visit_all-requires
visit_all-requires g c =
    let top = c.new-end.ensures ∙ c.get.ensures in
    let spaced = filled-spaced _ c.args.from c.new-end.result _ c.new-round.result.items c.fill.new.out.items c.deref.result.now c.in_ok-next.next c.in_ok-next.ensures.ok c.new-round.ensures.items c.deref.ensures.value
    c.args.going.now.walk.end top c.requires.high c.args.going.now.walk.floor c.requires.low in
    spaced

pub returns-in_err-next : goal.returns-in_err-next
returns-in_err-next g c =
    let exit = err_from_is_err_and c.from_residual.result c.from_residual.ensures.1 in
    record {
      value = λ lent base list all is active on dead going. told-err _ (g.L.Items.reads.told c.args.log.now) c.from_residual.result exit.0 exit.1;
      low = rw exit.1 tt;
      next = rw exit.1 tt;
      end = rw exit.1 tt;
      reads = reads-short g.L.Items.reads c.from_residual.result (read-none g.L.Items.reads g.met.L.Items.unread c.args.log.now) (rw (exit.1, exit.2) refl);
    }

pub returns : goal.returns
returns g c = record {
  value = λ lent base list all is active on dead going.
      let path = path_view g.U.Update.view g.U.Key.ByteString.bytes g.U.Value.ByteString.bytes c.args.path.now in
      let found = filled-round _ c.args.from c.new-end.result _ c.new-round.result.items c.fill.new.out.items c.deref.result.now c.in_ok-next.next c.in_ok-next.ensures.ok c.new-round.ensures.items c.deref.ensures.value in
      let there = ap (λ bs. candidates bs c.args.from c.in_ok-next.next) (sym active) ∙ found in
      let between = between-then list c.args.going.now.walk.floor c.args.from c.in_ok-next.next c.deref.result.now dead (path-dead path lent base list c.args.from c.in_ok-next.next c.deref.result.now on there) in
      c.visit_all.ensures.value lent base list all is on between going;
  low = c.visit_all.ensures.low;
  next =
      let end = c.args.going.now.walk.end in
      let top = c.new-end.ensures ∙ c.get.ensures in
      let goes = filled-goes _ c.args.from c.new-end.result _ c.new-round.result.items c.fill.new.out.items c.fill.new.out.items c.in_ok-next.next c.in_ok-next.ensures.ok c.new-round.ensures.items refl
      end top c.requires.high c.round_of.ensures c.in_ok-next.ensures.whole in
      let within = filled-within _ c.args.from c.new-end.result _ c.new-round.result.items c.fill.new.out.items c.fill.new.out.items c.in_ok-next.next c.in_ok-next.ensures.ok c.new-round.ensures.items refl
      end top c.requires.high in
      let spaced = filled-next _ c.args.from c.new-end.result _ c.new-round.result.items c.fill.new.out.items c.deref.result.now c.in_ok-next.next c.in_ok-next.ensures.ok c.new-round.ensures.items c.deref.ensures.value
      c.args.going.now.walk.floor c.requires.low in
      ok-four c.visit_all.result c.visit_all.ensures.next c.visit_all.ensures.high c.visit_all.ensures.end c.visit_all.ensures.end (λ next is high same _.
      let above = high c.in_ok-next.next spaced in
      begins-there next c.args.from c.visit_all.new.going.walk.floor c.visit_all.new.going.walk.end c.in_ok-next.next is goes above (omega (arith, within, same)));
  end = c.visit_all.ensures.end;
  reads = c.visit_all.ensures.reads;
}
