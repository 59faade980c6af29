-- What is told of operations and live updates, over byte strings.
use Rattle.std.specs.Prelude.{Option, Some, option_map}
use Rattle.qm_model.specs.Live.{Live}
use Rattle.qm_model.specs.Operations.{Bytes, Operation, update, delete, commit}
use Rattle.qm_base.specs.declared.listed.Listed.{Listed}
use Rattle.qm_base.specs.declared.listed.Listed.TheVariants as listed
use Rattle.qm_base.specs.declared.listed.Span.{Span}

module _ {K V : Type 0} (key : K → Bytes) (value : V → Bytes) where
  abbrev pub listed_view : Listed K V → Operation
  listed_view (listed.Update k v n) = update (key k) (value v) (option_map key n)
  listed_view (listed.Delete k) = delete (key k)
  listed_view (listed.Commit m f) = commit (option_map value m) f

  -- a live update
  abbrev pub span_view : Span K V → Live
  span_view s = record { location = s.location; key = key s.key; value = value s.value; next = Some (key s.next) }

  -- a value, and the next key
  abbrev pub whole_view : V × K → Bytes × Option Bytes
  whole_view p = (value p.0, Some (key p.1))
