-- Live keys, each with the key that its update names.
use Rattle.std.specs.Prelude.{◌≡◌, List, Option, option_map}
use Rattle.std.specs.Map.{lookup}
use Rattle.std.specs.Cmp.Lexicographic.{slice_cmp}
use Rattle.std.specs.Ordering.{nat_cmp, is_eq}
use Rattle.qm_model.specs.Operations.{Bytes, Operation}
use Rattle.qm_model.specs.Live.{live, live_of}

-- the next key that a key's live update has, if the key is live
abbrev pub next_of : List Operation → Bytes → Option (Option Bytes)
next_of ops key = option_map (λ e. e.next) (live_of (live ops) key)

module _ {K : Type 0} (bytes : K → Bytes) where
  -- what stands beside a key
  abbrev pub link_of : List (K × Option K) → Bytes → Option (Option Bytes)
  link_of entries key = option_map (option_map bytes) (lookup (λ k. is_eq (slice_cmp nat_cmp key (bytes k))) entries)

  -- the keys are the live ones of a list, and beside each stands the next key that its update has
  abbrev pub AreLinks : List (K × Option K) → List Operation → Type 0
  AreLinks entries ops = (key : Bytes) → link_of entries key ≡ next_of ops key
