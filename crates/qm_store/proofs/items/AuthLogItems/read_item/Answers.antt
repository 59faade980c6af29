use Rattle.std.proofs.Common.{ap, arith, sym}
use Rattle.std.proofs.lemmas.Option.{slice_get_past}
use Rattle.std.proofs.lemmas.Result.{IfOk-from_err, err_from_is_err_and}
use Rattle.qm_model.proofs.Results.{told-one}
use Rattle.qm_base.proofs.Reading.{reads-short}
use Rattle.qm_store.specs.Reads.{log_reads}
use Rattle.qm_store.proofs.Stores.{any-told}
use Rattle.qm_store.proofs.Reading.{read-none, failed-read}
use Rattle.qm_store.proofs.items.AuthLogItems.read_item.Goals as goal

pub returns-then-size-at : goal.returns-then-size-at
returns-then-size-at g c = record {
  value = λ items is. any-told (g.C.Store.told c.args.self.now.store) (λ held. sym (slice_get_past items c.args.at (omega (arith, is.size, c.size.ensures, c.if-size-at.true))));
  reads = reads-short (log_reads g.C.Store g.F.Family.shape g.H.Digest.Digest.bytes g.H.Hasher.hash) _ (read-none g.C.Store g.F.Family.shape g.H.Digest.Digest.bytes g.H.Hasher.hash c.args.self.now) tt;
}

pub returns-in_err-item : goal.returns-in_err-item
returns-in_err-item g c =
    let result = c.from_residual.result in
    let exit = err_from_is_err_and result c.from_residual.ensures.1 in
    let why = failed-read g.C.Store c.args.self.now c.read.new.self c.args.at c.read.result c.in_err-item.field-0.0 c.in_err-item.was c.in_err-item.ensures.never c.read.ensures.pruned c.read.ensures.cause in
    record {
      value = λ items is. any-told (g.C.Store.told c.args.self.now.store) (λ held. IfOk-from_err result _ c.from_residual.ensures.0);
      reads = record {
        left = record {
          stands = c.read.ensures.stands;
          start = ap (λ t. t.start) c.read.ensures.tree;
          told = c.read.ensures.kept.told;
          keeps = record { tree = c.read.ensures.tree; kept = c.read.ensures.kept; later = c.read.ensures.cause.later };
        };
        error = rw (exit.1, exit.2) why.0;
        whole = λ from. rw (exit.1, exit.2) (why.1 from);
      };
    }

pub returns : goal.returns
returns g c = record {
  value = λ items is. told-one _ _ (g.C.Store.told c.args.self.now.store) (c.in_ok-item.ensures.item items is) (λ there. sym there);
  reads =
      reads-short (log_reads g.C.Store g.F.Family.shape g.H.Digest.Digest.bytes g.H.Hasher.hash) _
      (record {
        stands = c.read.ensures.stands;
        start = ap (λ t. t.start) c.read.ensures.tree;
        told = c.read.ensures.kept.told;
        keeps = record { tree = c.read.ensures.tree; kept = c.read.ensures.kept; later = c.read.ensures.cause.later };
      }) tt;
}
