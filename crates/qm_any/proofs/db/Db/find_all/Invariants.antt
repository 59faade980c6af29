use Rattle.std.proofs.Common.{◌≡◌, map, List}
use Rattle.qm_model.specs.Operations.{Operation}
use Rattle.qm_step.specs.Layers.{LeadOver}
use Rattle.qm_step.specs.Views.{AreReads, keys_of}
use Rattle.qm_any.specs.Layouts.{hashing_of, layout_of}
use Rattle.qm_any.specs.Databases.{IsDatabase, IsLeft}
use Rattle.qm_any.proofs.db.Db.find_all.Given as goal

-- the database as reads left it, and the keys so far, each with what was found of it
abbrev pub invariant-loop-key : goal.invariant-loop-key
invariant-loop-key g l =
    let key = g.U.Key.ByteString.bytes in
    record {
      left : IsLeft g.C.Store (hashing_of g.H.Digest.Digest.bytes g.H.Hasher g.F.Family g.U.Update) l.initial.self l.self;
      keys : keys_of key l.reads.items ≡ map key l.yielded;
      reads : (list base : List Operation) → IsDatabase g.C.Store (layout_of g.N.Chunks.LEN g.H.Digest.Digest.bytes g.H.Hasher g.F.Family g.U.Update g.I.Unordered) l.initial.self list → LeadOver (map (λ l. l.value) l.steps) list base
          → AreReads g.U.Update.view key l.reads.items base;
    }
