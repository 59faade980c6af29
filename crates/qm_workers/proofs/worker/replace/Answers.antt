use Rattle.qm_store.proofs.Stores.{ok-both}
use Rattle.qm_workers.proofs.Located.{then}
use Rattle.qm_workers.proofs.worker.replace.Goals as goal

pub returns : goal.returns
returns c = ok-both c.put_in.result c.put_in.ensures c.put_in.ensures (λ there _. then _ _ c.args.located.now.keys c.take_out.new.located.keys c.put_in.new.located.keys c.take_out.ensures there)
