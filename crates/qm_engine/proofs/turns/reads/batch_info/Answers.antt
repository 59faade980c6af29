use Rattle.std.proofs.Common.{refl}
use Rattle.qm_machine.specs.Machine.{info_in}
use Rattle.qm_engine.proofs.Moves.{none_made_told, not_made}
use Rattle.qm_engine.proofs.turns.reads.batch_info.Goals as goal

pub returns-in_default : goal.returns-in_default
returns-in_default g c =
    none_made_told g.C.Store g.X.Meaning g.X.Key.ByteString.bytes g.X.Value.ByteString.bytes g.X.Digest.Digest.bytes c.args.session.now (λ s. info_in g.X.Meaning.scheme s c.args.number) c.args.number c.no_such_handle.ensures
    (λ s slot. not_made g.C.Store g.X.Meaning (info_in g.X.Meaning.scheme s c.args.number) refl (λ chain above ws. refl) (λ chain above ws keys. refl) s.had _ _ slot c.in_default.ensures)
