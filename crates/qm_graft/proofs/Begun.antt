-- A grafted tree that is begun: it has the pruned chunks' peaks, and the others can be grafted.
use Rattle.std.proofs.Common.{◌≡◌, ◌*◌, ◌^◌, ◌<◌, ◌≤◌, ℕ, zero, suc, List, [], length, map, arith, sym, refl, subst}
use Rattle.std.proofs.lemmas.List.{append-nil}
use Rattle.std.proofs.lemmas.Nat.{mul-le}
use Rattle.std.proofs.Common.{le_refl}
use Rattle.qm_model.specs.Operations.{Bytes}
use Rattle.qm_model.specs.Trees.{Shape, digest_of, peaks}
use Rattle.qm_model.specs.Families.{Births, IsFamily, HasPeaks}
use Rattle.qm_model.specs.Grafted.{chunk_node, grafted_chunks}
use Rattle.qm_model.proofs.GraftedLemmas.{grafted_born}
use Rattle.qm_bits.specs.Bitmaps.{Bitmap, bit_count}
use Rattle.qm_merkle.specs.Mems.{Kept, IsWhole, Stands, node_at}
use Rattle.qm_merkle.proofs.Numbering.{over_later}
use Rattle.qm_merkle.proofs.Lookups.{held}
use Rattle.qm_merkle.proofs.Standing.{node_held}
use Rattle.qm_graft.specs.Grafting.{grafting, CanGraft, IsStep}

module _ (shape : Shape) (births : Births) (family : IsFamily shape births) (peaked : HasPeaks shape) (size : ℕ) (span : 2 ^ grafting size ≡ 8 * size)
    (prompt : (c : ℕ) → shape.birth (chunk_node (grafting size) c) ≤ suc (suc c) * 2 ^ grafting size) where
  -- the grafted chunks are within the leaves
  pub grafted-whole : (n k : ℕ) → k ≤ grafted_chunks shape (grafting size) n → k * 2 ^ grafting size ≤ n
  grafted-whole n zero low = omega arith
  grafted-whole n (suc k) low = omega (arith, family.inside (chunk_node (grafting size) k), grafted_born shape (grafting size) n k prompt low)

  pub can-graft : {D : Type 0} (operations : Kept D) (map : Bitmap) → IsWhole shape operations → bit_count size map ≡ operations.leaves → operations.start < suc map.pruned * (8 * size) →
      (c : ℕ) → map.pruned ≤ c → c < grafted_chunks shape (grafting size) operations.leaves → CanGraft (node_at shape operations) shape size map c
  can-graft operations map whole bits start c kept low =
      let x = chunk_node (grafting size) c in
      let born = grafted_born shape (grafting size) operations.leaves c prompt (omega (arith, low)) in
      let inside : suc c * (8 * size) ≤ shape.birth x = subst (λ s. suc c * s ≤ shape.birth x) span (family.inside x) in
      let begun = mul-le (suc map.pruned) (8 * size) (suc c) (8 * size) (omega (arith, kept)) (le_refl (8 * size)) in
      let later = over_later shape births family x in
      let there = node_held shape births family peaked operations whole x born (omega (arith, start, begun, inside, later)) in record {
        kept = kept;
        complete = omega (arith, inside, born, bits);
        within = omega (arith, inside, born, whole.few);
        node = (held shape births family peaked operations whole (shape.position x) (node_at shape operations (shape.position x)) refl).1 there;
      }

-- a tree of nothing but peaks stands for the leaves below them
pub begun-stands : {D : Type 0} (shape : Shape) (bytes : D → Bytes) (hash : Bytes → Bytes) (kept : Kept D) (values : List Bytes) → kept.start ≡ kept.leaves → kept.leaves ≡ length values →
    map bytes kept.pins ≡ map (digest_of hash shape values) (peaks shape kept.start) → Stands shape bytes hash kept values
begun-stands shape bytes hash kept values same long pins = record { count = long; pins = pins; nodes = λ x late born. absurd (omega (arith, late, born, same)) }

-- no operation was added, and no chunk changed
pub no-step : (g count : ℕ) (leaves : List Bytes) (chunks : ℕ → Bytes) → count * 2 ^ g ≤ length leaves → IsStep g count [] leaves leaves chunks chunks
no-step g count leaves chunks whole = record { added = []; onward = sym (append-nil leaves); complete = whole; same = λ c low apart. refl }
