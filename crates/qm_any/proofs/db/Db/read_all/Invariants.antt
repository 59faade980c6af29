use Rattle.std.proofs.Common.{◌≡◌, take, map, List}
use Rattle.std.specs.Prelude.{option_map}
use Rattle.qm_model.specs.Operations.{Operation}
use Rattle.qm_model.specs.Writes.{read_through}
use Rattle.qm_step.specs.Layers.{LeadOver}
use Rattle.qm_any.specs.Layouts.{hashing_of, layout_of}
use Rattle.qm_any.specs.Databases.{IsDatabase, IsLeft}
use Rattle.qm_any.proofs.db.Db.read_all.Given as goal

-- the database as reads left it, and the values of the keys so far
abbrev pub invariant-loop-key : goal.invariant-loop-key
invariant-loop-key g l =
    let key = g.U.Key.ByteString.bytes in
    let value = g.U.Value.ByteString.bytes in
    record {
      left : IsLeft g.C.Store (hashing_of g.H.Digest.Digest.bytes g.H.Hasher g.F.Family g.U.Update) l.initial.self l.self;
      values : (list base : List Operation) → IsDatabase g.C.Store (layout_of g.N.Chunks.LEN g.H.Digest.Digest.bytes g.H.Hasher g.F.Family g.U.Update g.I.Unordered) l.initial.self list → LeadOver (map (λ l. l.value) l.steps) list base
          → map (option_map value) l.values.items ≡ map (λ k. read_through base l.writes (key k)) (take l.key-index l.keys);
    }
