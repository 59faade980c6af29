use Rattle.std.proofs.Common.{◌∙◌, ◌≤◌, ◌++◌, ap, ap₂, subst, sym, [], refl}
use Rattle.std.specs.Prelude.{All, fold}
use Rattle.std.proofs.lemmas.Result.{err_from_is_err_and}
use Rattle.qm_model.proofs.Results.{told-one, told-err}
use Rattle.qm_index.specs.Buckets.{bucket_at}
use Rattle.qm_step.specs.Nearest.{limit_view}
use Rattle.qm_step.proofs.LentKeys.{bucket-above}
use Rattle.qm_batch.specs.Gathered.{put_at}
use Rattle.qm_batch.specs.Scans.{ahead_of, behind}
use Rattle.qm_batch.proofs.Ahead.{own-bucket}
use Rattle.qm_batch.proofs.Going.{behind-begun}
use Rattle.qm_base.proofs.Reading.{reads-short, reads-on, reads-where}
use Rattle.qm_batch.proofs.scan.read_own.Goals as goal

pub returns-in_err-pairs : goal.returns-in_err-pairs
returns-in_err-pairs g c =
    let exit = err_from_is_err_and c.from_residual.result c.from_residual.ensures.1 in
    record {
      value = λ list is begins. told-err _ (g.L.Items.reads.told c.args.log.now) c.from_residual.result exit.0 exit.1;
      begun = rw exit.1 tt;
      reads =
          reads-on g.L.Items.reads c.from_residual.result
          (reads-where g.L.Items.reads _ (λ all.
          let start = g.L.Items.reads.start c.args.log.now in
          subst (All (λ at. start ≤ at)) (sym c.bucket.ensures.value) (bucket-above all.list g.I.Unordered.index_key (g.I.Unordered.entries c.args.index.now) (all.lent).indexed (g.I.Unordered.index_key c.as_bytes.result.now) start all.none))
          c.in_err-pairs.ensures.reads) exit.1 exit.2;
    }

pub returns : goal.returns
returns g c = record {
  value = λ list is begins.
      let low = limit_view c.args.low in
      let high = limit_view c.args.high in
      let index_key = g.I.Unordered.index_key in
      let entries = g.I.Unordered.entries c.args.index.now in
      let key = g.U.Key.ByteString.bytes c.args.key.now in
      let key_bytes = g.U.Key.ByteString.are_bytes key (sym (ap g.U.Key.ByteString.has c.as_bytes.ensures.value) ∙ c.as_bytes.ensures.known) in
      told-one _ _ (g.L.Items.reads.told c.args.log.now) (c.in_ok-pairs.ensures.value list is.logged is.of) (λ found.
      own-bucket index_key entries c.bucket.ensures.index list is.indexed g.U.Update.form g.met.U.Steps.known_bytes (g.met.U.Steps.monotone c.requires) is.of key low high key_bytes begins
      ∙ sym (ap₂ (λ ps k. ps ++ ahead_of index_key low high (behind k) list)
      (found ∙ ap (fold (put_at low high list) []) (c.bucket.ensures.value ∙ ap (λ k. bucket_at entries (index_key k)) c.as_bytes.ensures.value))
      (ap g.U.Key.ByteString.bytes c.in_ok-key.ensures)));
  begun = behind-begun (g.U.Key.ByteString.bytes c.in_ok-key.key);
  reads = reads-short g.L.Items.reads _ c.pairs_at.ensures.reads.left tt;
}

pub returns-in_err-key : goal.returns-in_err-key
returns-in_err-key g c =
    let exit = err_from_is_err_and c.from_residual-in_err-key.result c.from_residual-in_err-key.ensures.1 in
    record {
      value = λ list is begins. told-err _ (g.L.Items.reads.told c.args.log.now) c.from_residual-in_err-key.result exit.0 exit.1;
      begun = rw exit.1 tt;
      reads = reads-short g.L.Items.reads c.from_residual-in_err-key.result c.pairs_at.ensures.reads.left (rw (exit.1, exit.2) refl);
    }
