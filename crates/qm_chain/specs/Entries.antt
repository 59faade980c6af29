-- The entries of a diff: their keys, and the entry of a key.
use Rattle.std.specs.Prelude.{List, map, Option, bytes_eq}
use Rattle.std.specs.List.{find}
use Rattle.qm_model.specs.Operations.{Bytes}

module _ {K E : Type 0} (bytes : K → Bytes) where
  -- the keys of entries
  abbrev pub keys_of : List (K × E) → List Bytes
  keys_of entries = map (λ e. bytes e.0) entries

  -- the first entry of this key
  abbrev pub entry_of : List (K × E) → Bytes → Option (K × E)
  entry_of entries key = find (λ e. bytes_eq (bytes e.0) key) entries
