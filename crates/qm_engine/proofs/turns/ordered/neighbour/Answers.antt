use Rattle.std.proofs.Common.{sym, ◌∙◌}
use Rattle.qm_engine.specs.Ordered.{key_beside}
use Rattle.qm_engine.proofs.Moves.{found_ok, found_err}
use Rattle.qm_machine.specs.Machine.{neighbour_in, neighbour_of, slot_at}
use Rattle.qm_engine.proofs.ReadStores.{not_offered, none_ordered, no_neighbour}
use Rattle.qm_engine.proofs.turns.ordered.neighbour.Goals as goal

pub returns-in-Ok : goal.returns-in-Ok
returns-in-Ok g c =
    let ordered = sym c.is_ordered.ensures ∙ c.if-not-is_ordered.false in
    found_ok g.C.Store g.X.Meaning g.X.Key.ByteString.bytes g.X.Value.ByteString.bytes g.X.Digest.Digest.bytes c.args.session.now c.in-Database.is c.neighbour_from.ensures.reads c.args.from c.in-Some.number c.in-Some.is (key_beside c.args.side (g.X.Key.ByteString.bytes c.args.key.now)) c.in-Some-merkleized_at.batch.now
    ordered c.in-Some-merkleized_at.ensures c.in-Ok.key (c.in-Ok.ensures.readable ordered) (c.in-Ok.ensures.beside ordered)

pub returns-in-Err : goal.returns-in-Err
returns-in-Err g c =
    found_err g.C.Store g.X.Meaning g.X.Key.ByteString.bytes g.X.Value.ByteString.bytes g.X.Digest.Digest.bytes c.args.session.now c.in-Database.is c.neighbour_from.ensures.reads c.args.from c.in-Some.number c.in-Some.is (key_beside c.args.side (g.X.Key.ByteString.bytes c.args.key.now)) c.in-Some-merkleized_at.batch.now
    (sym c.is_ordered.ensures ∙ c.if-not-is_ordered.false) c.in-Some-merkleized_at.ensures c.in-Err.error c.in-Err.is c.turn_of.ensures c.in-Err.ensures.failure

pub returns-then-not-is_ordered : goal.returns-then-not-is_ordered
returns-then-not-is_ordered g c =
    not_offered g.C.Store g.X.Meaning g.X.Key.ByteString.bytes g.X.Value.ByteString.bytes g.X.Digest.Digest.bytes c.args.session.now (λ s. neighbour_of g.X.Meaning.scheme s (key_beside c.args.side (g.X.Key.ByteString.bytes c.args.key.now)) c.args.from)
    (sym c.is_ordered.ensures ∙ c.if-not-is_ordered.true)

pub returns-in_default-held : goal.returns-in_default-held
returns-in_default-held g c =
    rw c.in-Some.is (none_ordered g.C.Store g.X.Meaning g.X.Key.ByteString.bytes g.X.Value.ByteString.bytes g.X.Digest.Digest.bytes c.args.session.now (λ s list. neighbour_in g.X.Meaning.scheme s c.in-Some.number (key_beside c.args.side (g.X.Key.ByteString.bytes c.args.key.now)) list (slot_at s.table c.in-Some.number))
    (sym c.is_ordered.ensures ∙ c.if-not-is_ordered.false) c.in_default-held.is c.no_database.ensures)

pub returns-in_default-merkleized_at : goal.returns-in_default-merkleized_at
returns-in_default-merkleized_at g c =
    rw c.in-Some.is (no_neighbour g.C.Store g.X.Meaning g.X.Key.ByteString.bytes g.X.Value.ByteString.bytes g.X.Digest.Digest.bytes c.args.session.now (key_beside c.args.side (g.X.Key.ByteString.bytes c.args.key.now)) c.in-Some.number
    (sym c.is_ordered.ensures ∙ c.if-not-is_ordered.false) c.in-Database.is c.in_default-merkleized_at.ensures c.no_such_handle.ensures)
