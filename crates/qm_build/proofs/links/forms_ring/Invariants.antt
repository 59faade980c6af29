use Rattle.std.proofs.Common.{◌≤◌, ℕ, Vec, Global}
use Rattle.std.specs.Prelude.{IfSome, filter_map}
use Rattle.qm_build.specs.Linked.{AreLinks}
use Rattle.qm_build.specs.Reads.{items_within, KeepsLog}
use Rattle.qm_build.proofs.links.forms_ring.Given as goal

abbrev pub invariant-loop-at : goal.invariant-loop-at
invariant-loop-at g l = record {
  read : KeepsLog g.C.Store g.F.Family.shape g.H.Digest.Digest.bytes g.H.Hasher.hash l.initial.log l.log;
  low : l.from ≤ l.at;
  links : IfSome (g.C.Store.told l.initial.log.store) (λ s. AreLinks (λ (v : Vec ℕ Global). v.items) l.links.entries (filter_map (λ item. item) (items_within g.U.Update.form s l.from l.at)));
}
