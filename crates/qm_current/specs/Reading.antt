-- Scans of a current database's ranges: the database that is lent to one, and where it stands.
use Rattle.std.specs.Prelude.{ℕ, List, map}
use Rattle.std.specs.Borrow.{MutBor}
use Rattle.qm_model.specs.Operations.{Bytes, Operation}
use Rattle.qm_batch.specs.Scans.{left_of}
use Rattle.qm_current.specs.Databases.{Database}
use Rattle.qm_current.specs.declared.scan.RangeScan as ranges
use Rattle.qm_current.specs.declared.scan.KeyScan as keys

module _ {F C I H U N D K V : Type 0} where
  -- the database that is lent to a scan of pairs
  abbrev pub lent_to : ranges.RangeScan F C I H U N D K V → MutBor (Database C D)
  lent_to scan = scan.db

  -- the pairs of a list that it has left
  abbrev pub pairs_left : (Bytes → ℕ) → ranges.RangeScan F C I H U N D K V → List Operation → List (Bytes × Bytes)
  pairs_left index_key scan list = left_of index_key scan.scan list

  -- the same of a scan of keys
  abbrev pub lent_to_keys : keys.KeyScan F C I H U N D K V → MutBor (Database C D)
  lent_to_keys scan = lent_to scan.pairs

  abbrev pub keys_left : (Bytes → ℕ) → keys.KeyScan F C I H U N D K V → List Operation → List Bytes
  keys_left index_key scan list = map (λ p. p.0) (pairs_left index_key scan.pairs list)
