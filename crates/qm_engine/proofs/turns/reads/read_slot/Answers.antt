use Rattle.std.proofs.Common.{map, option_map, ◌∙◌}
use Rattle.qm_model.specs.Live.{value_of}
use Rattle.qm_model.specs.Writes.{read_through}
use Rattle.qm_engine.proofs.ReadCommands.{map-through, written_ok, written_err, made_ok, made_err}
use Rattle.qm_engine.proofs.turns.reads.read_slot.Goals as goal

pub returns-in-Ok-clause-machine : goal.returns-in-Ok-clause-machine
returns-in-Ok-clause-machine g c = λ s list named stands in_had is.
    written_ok g.C.Store g.X.Meaning g.X.Key.ByteString.bytes g.X.Value.ByteString.bytes g.X.Digest.Digest.bytes s list c.args.number (map g.X.Key.ByteString.bytes c.args.keys.now) c.in-Writing.batch (map (option_map g.X.Value.ByteString.bytes) c.in-Ok.values.items) named in_had (rw c.in-Writing.is at is)
    (λ chain above ws is. c.in-Ok.ensures.readable list chain above ws stands is)
    (λ chain above ws is known. c.in-Ok.ensures.values list chain above ws stands is known ∙ map-through g.X.Key.ByteString.bytes (read_through chain.base ws) c.args.keys.now)

pub returns-in-Err-clause-machine : goal.returns-in-Err-clause-machine
returns-in-Err-clause-machine g c = λ s list named stands in_had is.
    rw c.turn_of.ensures (written_err g.C.Store g.X.Meaning g.X.Key.ByteString.bytes g.X.Value.ByteString.bytes g.X.Digest.Digest.bytes s list c.args.number (map g.X.Key.ByteString.bytes c.args.keys.now) c.in-Writing.batch c.in-Err.error named in_had (rw c.in-Writing.is at is)
    (λ chain above ws is. c.in-Err.ensures.failure list chain above ws stands is))

pub returns-in-Ok-get_from-clause-machine : goal.returns-in-Ok-get_from-clause-machine
returns-in-Ok-get_from-clause-machine g c = λ s list named stands in_had is.
    made_ok g.C.Store g.X.Meaning g.X.Key.ByteString.bytes g.X.Value.ByteString.bytes g.X.Digest.Digest.bytes s list c.args.number (map g.X.Key.ByteString.bytes c.args.keys.now) c.in-Merkleized.batch (map (option_map g.X.Value.ByteString.bytes) c.in-Ok-get_from.values.items) named in_had (rw c.in-Merkleized.is at is)
    (λ chain tip is. c.in-Ok-get_from.ensures.readable list chain tip stands is)
    (λ chain tip is known. c.in-Ok-get_from.ensures.values list chain tip stands is known ∙ map-through g.X.Key.ByteString.bytes (value_of tip) c.args.keys.now)

pub returns-in-Err-get_from-clause-machine : goal.returns-in-Err-get_from-clause-machine
returns-in-Err-get_from-clause-machine g c = λ s list named stands in_had is.
    rw c.turn_of-in-Err-get_from.ensures (made_err g.C.Store g.X.Meaning g.X.Key.ByteString.bytes g.X.Value.ByteString.bytes g.X.Digest.Digest.bytes s list c.args.number (map g.X.Key.ByteString.bytes c.args.keys.now) c.in-Merkleized.batch c.in-Err-get_from.error named in_had (rw c.in-Merkleized.is at is)
    (λ chain tip is. c.in-Err-get_from.ensures.failure list chain tip stands is))
