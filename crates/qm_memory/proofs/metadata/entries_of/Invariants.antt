use Rattle.std.proofs.Common.{◌≡◌, drop}
use Rattle.qm_model.specs.StoreModel.{metadata_in}
use Rattle.qm_memory.proofs.metadata.entries_of.Given as goal

-- the metadata of the name stand among the rest
abbrev pub invariant-loop-named : goal.invariant-loop-named
invariant-loop-named l = metadata_in (drop l.named-index l.metadata) l.name ≡ metadata_in l.metadata l.name
