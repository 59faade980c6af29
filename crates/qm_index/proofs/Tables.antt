-- Tables of buckets by index key, read as an index.
use Rattle.std.proofs.Common.{◌≡◌, ◌≤◌, ◌<◌, ◌∙◌, ℕ, nat_eq, cond, length, List, [], Some, None, ap, sym}
use Rattle.std.specs.Prelude.{remove, unwrap_or}
use Rattle.std.specs.HashMap.{HashMap, get, IsUnique, Updates, WritesThrough}
use Rattle.std.specs.Map.{lookup, set_value}
use Rattle.std.specs.Option.{is_some}
use Rattle.std.proofs.lemmas.Map.Steps.{set_value_same}
use Rattle.qm_index.specs.Buckets.{bucket_at, Puts, IsIndex}
use Rattle.qm_index.proofs.Changed.{changed-index, changed-by, place-in}
use Rattle.qm_index.proofs.Maps.{remove_last}

-- a bucket that is written through
module _ {V S : Type 0} (m n : HashMap ℕ (List V) S) (k : ℕ) (found written : List V) (is : Some found ≡ get nat_eq m k) (through : WritesThrough nat_eq (nat_eq k) m written n) where
  changed : (q : ℕ) → lookup (nat_eq q) n.entries ≡ cond (nat_eq k q) (Some written) (lookup (nat_eq q) m.entries)
  changed = (through.3 (ap is_some (sym is))).0

  pub written-index : IsIndex m.entries → (written ≡ [] → ⊥) → IsIndex n.entries
  written-index was some = changed-index m.entries k n.entries (Some written) changed was through.4 (λ none. some (ap (λ o. unwrap_or o []) none))

  pub written-puts : (values : List V → List V) → written ≡ values found → Puts m.entries n.entries k (values (bucket_at m.entries k))
  written-puts values by = changed-by m.entries k n.entries (Some written) changed (Some found) is values by

  -- what was found there, written back
  pub written-back : written ≡ found → n.entries ≡ m.entries
  written-back same = through.0 ∙ ap (set_value (nat_eq k) m.entries) same ∙ set_value_same (nat_eq k) m.entries found (sym is)

-- a bucket of one value that is taken out, of a table that has the entries of another
pub lost-puts : {V S : Type 0} (b m n : HashMap ℕ (List V) S) (k : ℕ) (found : List V) (i : ℕ) → m.entries ≡ b.entries → Some found ≡ get nat_eq b k → Updates nat_eq m n k None → i < length (bucket_at b.entries k) → length found ≤ 1 → Puts b.entries n.entries k (remove (bucket_at b.entries k) i)
lost-puts b m n k found i same is updates place one =
    let changed : (q : ℕ) → lookup (nat_eq q) n.entries ≡ cond (nat_eq k q) None (lookup (nat_eq q) b.entries) = λ q. updates.0 q ∙ ap (λ entries. cond (nat_eq k q) None (lookup (nat_eq q) entries)) same in
    changed-by b.entries k n.entries None changed (Some found) is (λ values. remove values i) (sym (remove_last found i (place-in b.entries k found i is place) one))

-- a bucket that is taken out
pub lost-index : {V S : Type 0} (m n : HashMap ℕ (List V) S) (k : ℕ) → IsIndex m.entries → Updates nat_eq m n k None → IsUnique nat_eq n → IsIndex n.entries
lost-index m n k was updates apart = changed-index m.entries k n.entries None updates.0 was apart (λ none. cc)
