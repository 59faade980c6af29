use Rattle.qm_model.specs.Taken.{IsTaken, selected_size}
use Rattle.qm_any.specs.Offered.{sha256_layout}
use Rattle.qm_current.specs.Offered.{offered_name, scheme_of}
use Rattle.qm_current.proofs.LastingOffered.{opened-offered}
use Rattle.qm_current.proofs.offer.durable.DbSha256Chunk32Durable.open.Goals as goal

pub returns : goal.returns
returns g c =
    let layout = sha256_layout g.F.Family.shape 32 g.U.Update.form g.I.Unordered.index_key in
    let scheme = scheme_of 32 layout offered_name in
    let r = c.init.result in
    let said = c.init.ensures.opens in
    record {
      opened = opened-offered layout g.C.Store (g.C.Store.told c.args.store) r (λ s list. IsTaken scheme s (selected_size scheme c.args.max_size s) list) said.opened said.counted said.named;
      numbered = said.numbered;
      offered = said.offered;
      became = said.became;
      refused = said.refused;
      unopened = said.unopened;
      left = said.left;
      start = said.start;
      cause = said.cause;
      later = said.later;
      back = said.back;
    }
