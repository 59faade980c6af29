use Rattle.std.proofs.Common.{◌∙◌, ◌≤◌, ap, sym, subst, None}
use Rattle.std.specs.Prelude.{All, fold, option_map}
use Rattle.std.proofs.lemmas.Result.{err_from_is_err_and}
use Rattle.qm_model.proofs.Results.{told-both, told-err, told-one}
use Rattle.qm_step.specs.Nearest.{later_at, limit_view}
use Rattle.qm_step.specs.Views.{read_view}
use Rattle.qm_step.proofs.LentKeys.{bucket-above, own-found, prev-above, prev-found, prev-none}
use Rattle.qm_step.proofs.Reading.{ok-same, told}
use Rattle.qm_base.proofs.Reading.{reads-short, reads-on, reads-where, reads-then}
use Rattle.qm_batch.proofs.neighbours.lent.last_lent.Goals as goal

pub returns-in_err-found : goal.returns-in_err-found
returns-in_err-found g c =
    let exit = err_from_is_err_and c.from_residual.result c.from_residual.ensures.1 in
    record {
      value = λ lent is. told-err _ (g.L.Items.reads.told c.args.log.now) c.from_residual.result exit.0 exit.1;
      reads =
          reads-on g.L.Items.reads c.from_residual.result
          (reads-where g.L.Items.reads _ (λ all.
          let start = g.L.Items.reads.start c.args.log.now in
          let index_key = g.I.Unordered.index_key in
          subst (All (λ at. start ≤ at)) (sym c.bucket.ensures.value) (bucket-above all.list index_key (g.I.Unordered.entries c.args.index.now) (all.lent).indexed (index_key c.args.key.now) start all.none))
          c.in_err-found.ensures.reads) exit.1 exit.2;
      index = c.bucket.ensures.index;
    }

pub returns-in-Some : goal.returns-in-Some
returns-in-Some g c = record {
  value = λ lent is.
      let limit = limit_view c.args.limit in
      let view = read_view g.U.Update.view in
      told-one _ _ (g.L.Items.reads.told c.args.log.now) (c.in_ok-found.ensures.value lent is.logged is.of) (λ said.
      own-found lent g.I.Unordered.index_key (g.I.Unordered.entries c.args.index.now) is.indexed c.args.key.now limit _
      (sym (ap (option_map view) c.in-Some.is) ∙ said ∙ ap (fold (later_at limit lent) None) c.bucket.ensures.value));
  reads = reads-short g.L.Items.reads _ c.last_at.ensures.reads.left tt;
  index = c.bucket.ensures.index;
}

pub returns-in-Some-bucket_before : goal.returns-in-Some-bucket_before
returns-in-Some-bucket_before g c = record {
  value = λ lent is.
      let limit = limit_view c.args.limit in
      let view = read_view g.U.Update.view in
      let read = c.last_at.ensures.reads.left in
      told-both _ _ _ (g.L.Items.reads.told c.args.log.now) (c.in_ok-found.ensures.value lent is.logged is.of)
      (told _ _ _ read.told (c.last_at-in-Some-bucket_before.ensures.value lent (read.stands _ is.logged) is.of)) (λ first second.
      ok-same c.last_at-in-Some-bucket_before.result (option_map view) _ _
      (prev-found lent g.I.Unordered.index_key (g.I.Unordered.entries c.args.index.now) is.indexed c.args.key.now limit c.in-Some-bucket_before.bucket.now c.in-Some-bucket_before.field-0-1
      (sym (ap (option_map view) c.in_default.is) ∙ first ∙ ap (fold (later_at limit lent) None) c.bucket.ensures.value)
      (sym (ap (option_map (λ b. (b.0.now, b.1))) c.in-Some-bucket_before.is) ∙ c.bucket_before.ensures c.requires)) second);
  reads =
      reads-then g.L.Items.reads g.met.L.Items.read_again g.met.L.Items.failed_later c.last_at-in-Some-bucket_before.result c.last_at.ensures.reads.left
      (λ all.
      let read = c.last_at.ensures.reads.left in
      let start = g.L.Items.reads.start c.args.log.now in
      subst (λ t. All (λ at. t ≤ at) c.in-Some-bucket_before.bucket.now) (sym read.start)
      (prev-above all.list g.I.Unordered.index_key (g.I.Unordered.entries c.args.index.now) (all.lent).indexed c.args.key.now c.in-Some-bucket_before.bucket.now c.in-Some-bucket_before.field-0-1
      (sym (ap (option_map (λ b. (b.0.now, b.1))) c.in-Some-bucket_before.is) ∙ c.bucket_before.ensures c.requires) start all.none))
      c.last_at-in-Some-bucket_before.ensures.reads;
  index = c.bucket.ensures.index;
}

pub returns-in-None : goal.returns-in-None
returns-in-None g c = record {
  value = λ lent is.
      let limit = limit_view c.args.limit in
      let view = read_view g.U.Update.view in
      told-one _ _ (g.L.Items.reads.told c.args.log.now) (c.in_ok-found.ensures.value lent is.logged is.of) (λ first.
      prev-none lent g.I.Unordered.index_key (g.I.Unordered.entries c.args.index.now) is.indexed c.args.key.now limit
      (sym (ap (option_map view) c.in_default.is) ∙ first ∙ ap (fold (later_at limit lent) None) c.bucket.ensures.value)
      (sym (ap (option_map (λ b. (b.0.now, b.1))) c.in-None.is) ∙ c.bucket_before.ensures c.requires));
  reads = reads-short g.L.Items.reads _ c.last_at.ensures.reads.left tt;
  index = c.bucket.ensures.index;
}
