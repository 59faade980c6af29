use Rattle.std.proofs.Common.{length, sym, map, drop}
use Rattle.qm_model.specs.Forms.{spelling}
use Rattle.qm_store.specs.Given.{store_given}
use Rattle.qm_store.proofs.Told.{appended-part}
use Rattle.qm_engine.proofs.Commands.{left_none}
use Rattle.qm_engine.proofs.BatchCommands.{not_merkleized, apply_ok, apply_err, apply_left}
use Rattle.qm_engine.proofs.turns.batches.apply.Goals as goal

pub returns-in-None-clause-machine : goal.returns-in-None-clause-machine
returns-in-None-clause-machine g c = λ opened s k sound more rest told choices.
    rw c.no_such_handle.ensures (not_merkleized g.C.Store g.X.Meaning g.X.Key.ByteString.bytes g.X.Value.ByteString.bytes g.X.Digest.Digest.bytes c.in-Database.x c.args.table.now.items opened c.args.number s (rw c.in-Database.is at k) (sym c.in-None.ensures))

pub returns-in-Ok-clause-machine : goal.returns-in-Ok-clause-machine
returns-in-Ok-clause-machine g c = λ opened s k sound more rest told choices.
    apply_ok g.C.Store g.X.Meaning g.X.Key.ByteString.bytes g.X.Value.ByteString.bytes g.X.Digest.Digest.bytes g.met.X.Common.bare c.in-Database.x c.in-Ok.x c.args.table.now.items opened c.args.number c.in-Some.batch.now c.info-numbers.result.size s (rw c.in-Database.is at k) sound
    c.in-Ok.ensures.numbered c.in-Ok.ensures.fit c.in-Ok.ensures.applied c.in-Ok.ensures.grown (λ list stands. (c.info-numbers.ensures.list list stands).0) (sym c.in-Some.ensures)

pub returns-in-Ok-clause-left : goal.returns-in-Ok-clause-left
returns-in-Ok-clause-left g c = λ opened s k sound apart.
    apply_left g.C.Store g.X.Meaning g.X.Key.ByteString.bytes g.X.Value.ByteString.bytes g.X.Digest.Digest.bytes g.met.X.Common.bare c.in-Database.x (g.C.Store.told (g.X.Meaning.inside c.in-Ok.x)) c.args.table.now.items opened c.args.number c.in-Some.batch.now s (rw c.in-Database.is at k) sound apart
    (λ list chain tip stands is on.
    let fit = c.in-Ok.ensures.fit list chain tip stands is in
    let part = appended-part g.C.Store (g.X.Meaning.inside c.in-Database.x) (g.X.Meaning.inside c.in-Ok.x) (map (spelling g.X.Meaning.scheme.form) (drop (length list) tip)) (c.in-Ok.ensures.grown list chain tip stands is (on fit)) in
    rw fit (part.told, part.still))
    (sym c.in-Some.ensures)

pub returns-in-Err-clause-machine : goal.returns-in-Err-clause-machine
returns-in-Err-clause-machine g c = λ opened s k sound more rest told choices.
    rw c.turn_of.ensures (apply_err g.C.Store g.X.Meaning g.X.Key.ByteString.bytes g.X.Value.ByteString.bytes g.X.Digest.Digest.bytes c.in-Database.x c.in-Err.refusal.given c.args.table.now.items opened c.args.number c.in-Some.batch.now c.in-Err.refusal.error s (rw c.in-Database.is at k)
    c.in-Err.ensures.stale c.in-Err.ensures.refused (sym c.in-Some.ensures))

pub returns-in-Err-clause-left : goal.returns-in-Err-clause-left
returns-in-Err-clause-left g c = λ opened s k sound apart.
    apply_left g.C.Store g.X.Meaning g.X.Key.ByteString.bytes g.X.Value.ByteString.bytes g.X.Digest.Digest.bytes g.met.X.Common.bare c.in-Database.x (g.C.Store.told (store_given g.X.Meaning.inside c.in-Err.refusal.given)) c.args.table.now.items opened c.args.number c.in-Some.batch.now s (rw c.in-Database.is at k) sound apart
    (λ list chain tip stands is on. let part = c.in-Err.ensures.kept list chain tip stands is in (part.told, part.still)) (sym c.in-Some.ensures)

pub returns-in-Store-clause-left : goal.returns-in-Store-clause-left
returns-in-Store-clause-left g c = λ opened s k sound apart. let held = rw c.in-Store.is at k in rw c.without_database.ensures.given (left_none g.X.Meaning.scheme s.log _ (g.C.Store.told c.in-Store.store) held.store.told)

pub returns-in-None-clause-left : goal.returns-in-None-clause-left
returns-in-None-clause-left g c = λ opened s k sound apart. let held = rw c.in-Database.is at k in left_none g.X.Meaning.scheme s.log _ (g.C.Store.told (g.X.Meaning.inside c.in-Database.x)) held.store.told
