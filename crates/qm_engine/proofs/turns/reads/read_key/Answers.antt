use Rattle.std.proofs.Common.{[], ◌∷◌, ◌∙◌, ap, map, subst}
use Rattle.qm_machine.specs.Machine.{read}
use Rattle.qm_engine.specs.Session.{Follows}
use Rattle.qm_engine.proofs.ReadStores.{no_memory}
use Rattle.qm_engine.proofs.turns.reads.read_key.Goals as goal

pub returns-in-Err : goal.returns-in-Err
returns-in-Err g c = no_memory g.C.Store g.X.Meaning g.X.Key.ByteString.bytes g.X.Value.ByteString.bytes g.X.Digest.Digest.bytes c.args.session.now (λ s. read g.X.Meaning.scheme s (g.X.Key.ByteString.bytes c.args.key.now ∷ []) c.args.from)

pub returns-in-Ok : goal.returns-in-Ok
returns-in-Ok g c = record {
  machine = λ s k.
      subst (λ keys. Follows g.C.Store g.X.Meaning g.X.Key.ByteString.bytes g.X.Value.ByteString.bytes g.X.Digest.Digest.bytes c.read.new.session c.read.result (read g.X.Meaning.scheme s keys c.args.from))
      (ap (map g.X.Key.ByteString.bytes) (c.deref.ensures.value ∙ c.in-Ok.ensures)) (c.read.ensures.machine s k);
  store = c.read.ensures.store;
  uses = c.read.ensures.uses;
  opened = c.read.ensures.opened;
}
