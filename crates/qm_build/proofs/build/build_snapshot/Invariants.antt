use Rattle.std.proofs.Common.{◌≡◌, ◌+◌, ◌≤◌, ◌<◌, ℕ, List, length}
use Rattle.std.specs.Prelude.{IfSome}
use Rattle.qm_model.specs.Operations.{Operation}
use Rattle.qm_build.specs.Building.{ArePlaced, AreWithin, between}
use Rattle.qm_build.specs.Cached.{AreKeys}
use Rattle.qm_build.specs.Reads.{SpellsAt, Spells, KeepsLog}
use Rattle.qm_build.proofs.build.build_snapshot.Given as goal

abbrev pub invariant-loop-at : goal.invariant-loop-at
invariant-loop-at g l = record {
  read : KeepsLog g.C.Store g.F.Family.shape g.H.Digest.Digest.bytes g.H.Hasher.hash l.initial.log l.log;
  here : l.at ≡ l.floor + length l.snapshot.activity;
  within : AreWithin l.floor l.at (g.I.Unordered.entries l.index);
  counted : l.snapshot.live ≤ length l.snapshot.activity;
  placed : (ops : List Operation) → l.initial.log.tree.leaves ≡ length ops →
      IfSome (g.C.Store.told l.initial.log.store) (λ s. Spells g.U.Update.form s l.floor ops → ArePlaced g.I.Unordered.index_key (g.I.Unordered.entries l.index) l.snapshot.live l.snapshot.activity l.floor (between l.floor l.at ops) × AreKeys g.U.Key.ByteString.bytes ops l.cache);
  decode : IfSome (g.C.Store.told l.initial.log.store) (λ s. (i : ℕ) → l.floor ≤ i → i < l.at → (op : Operation) × SpellsAt g.U.Update.form s i op);
}
