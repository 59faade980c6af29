use Rattle.std.proofs.Common.{arith, refl}
use Rattle.qm_engine.proofs.Handling.{handles_line, performs-held}
use Rattle.qm_engine.proofs.turns.held_turn.Goals as goal

pub returns-in-Open : goal.returns-in-Open
returns-in-Open g c =
    let table = c.args.table.now.items in
    rw c.in-Open.is (record {
      machine = c.open.ensures.machine table;
      left = c.open.ensures.left table c.args.opened.now;
      handles = handles_line _ _ _ _ _ _ (λ rest. refl) (λ never. absurd never) c.open.ensures.handles;
      opened = c.open.ensures.opened;
    })

pub returns-in-Prune : goal.returns-in-Prune
returns-in-Prune g c =
    let table = c.args.table.now.items in
    let count = c.args.opened.now in
    rw c.in-Prune.is (record {
      machine = c.prune.ensures.machine table count;
      left = c.prune.ensures.left table count;
      handles = handles_line _ _ _ _ _ _ (λ rest. refl) (λ never. absurd never) c.prune.ensures.handles;
      opened = omega arith;
    })

pub returns-in-Commit : goal.returns-in-Commit
returns-in-Commit g c =
    let table = c.args.table.now.items in
    let count = c.args.opened.now in
    rw c.in-Commit.is (performs-held (λ rest. refl) (λ never. absurd never) (λ s k sound more rest told choices. c.commit.ensures.machine table count s k) (c.commit.ensures.left table count) c.commit.ensures.handles)

pub returns-in-Sync : goal.returns-in-Sync
returns-in-Sync g c =
    let table = c.args.table.now.items in
    let count = c.args.opened.now in
    rw c.in-Sync.is (performs-held (λ rest. refl) (λ never. absurd never) (c.sync.ensures.machine table count) (c.sync.ensures.left table count) c.sync.ensures.handles)

pub returns-in-Close : goal.returns-in-Close
returns-in-Close g c =
    let table = c.args.table.now.items in
    let count = c.args.opened.now in
    rw c.in-Close.is (performs-held (λ rest. refl) (λ never. absurd never) (λ s k sound more rest told choices. c.close.ensures.machine table count s k) (λ s k sound apart. c.close.ensures.left table count s k apart) c.close.ensures.handles)

pub returns-in-Destroy : goal.returns-in-Destroy
returns-in-Destroy g c =
    let table = c.args.table.now.items in
    let count = c.args.opened.now in
    rw c.in-Destroy.is (performs-held (λ rest. refl) (λ destroyed. refl) (λ s k sound more rest told choices. c.destroy.ensures.machine table count s k) (c.destroy.ensures.left table count) c.destroy.ensures.handles)

pub returns-in-Crash : goal.returns-in-Crash
returns-in-Crash g c =
    let table = c.args.table.now.items in
    let count = c.args.opened.now in
    rw c.in-Crash.is (record {
      machine = c.crash.ensures.machine table count;
      left = c.crash.ensures.left table count;
      handles = c.crash.ensures.handles;
      opened = omega arith;
    })
