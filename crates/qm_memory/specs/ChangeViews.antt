-- How a noted change is held, and how metadata are given.
use Rattle.std.specs.Prelude.{[], String, Vec}
use Rattle.std.specs.String.{string_bytes}
use Rattle.qm_model.specs.StoreModel.{Entry, Named}
use Rattle.qm_memory.specs.Changes.{Change, grew, settled_from, rewound_from, pruned_from, put_new, put_over, restarted_from, emptied}
use Rattle.qm_memory.specs.declared.change.Kind.{Kind}
use Rattle.qm_memory.specs.declared.change.Kind.TheVariants as kinds

abbrev pub change_of : Kind → Change
change_of (kinds.Grew count) = grew count
change_of (kinds.SettledFrom stable) = settled_from stable
change_of (kinds.RewoundFrom cut) = rewound_from cut.value.items cut.value.stable
change_of (kinds.PrunedFrom gone) = pruned_from gone.value.start gone.value.head.items gone.value.items
change_of kinds.PutNew = put_new
change_of (kinds.PutOver place named) = put_over place named.value
change_of (kinds.RestartedFrom cut) = restarted_from cut.value.items cut.value.stable
change_of (kinds.Emptied dropped) = emptied (record { start = dropped.value.start; items = dropped.value.items; head = dropped.value.head.items; metadata = dropped.value.metadata.items; stable = dropped.value.stable; ends = []; past = [] })

abbrev pub named_of : {A : Type 0} → String A × Vec Entry A → Named
named_of (name, entries) = record { name = string_bytes name; entries = entries.items }
