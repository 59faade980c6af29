use Rattle.std.proofs.Common.{ap₂}
use Rattle.qm_machine.specs.Lines as lines
use Rattle.qm_engine.proofs.Commands.{of_list}
use Rattle.qm_engine.proofs.Moves.{none_told}
use Rattle.qm_engine.proofs.turns.reads.root.Goals as goal

pub returns-clause-machine : goal.returns-clause-machine
returns-clause-machine g c = λ s k apart.
    let held = rw c.in-Database.is at k in
    rw c.in-Database.is (of_list g.C.Store g.X.Meaning c.in-Database.x c.args.session.now.table.items c.args.session.now.opened s (lines.Rooted (g.X.Digest.Digest.bytes c.root-root.result.root) (g.X.Digest.Digest.bytes c.root-root.result.operations)) (λ list. lines.Rooted (g.X.Meaning.scheme.canonical list) (g.X.Meaning.scheme.root list)) held
    (λ list stands. let are = c.root-root.ensures list stands in ap₂ lines.Rooted are.root are.operations))

pub returns-in_default : goal.returns-in_default
returns-in_default g c = none_told g.C.Store g.X.Meaning g.X.Key.ByteString.bytes g.X.Value.ByteString.bytes g.X.Digest.Digest.bytes c.args.session.now (λ s list. (lines.Rooted (g.X.Meaning.scheme.canonical list) (g.X.Meaning.scheme.root list), s)) c.in_default.is c.no_database.ensures
