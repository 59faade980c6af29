-- The numbering of the grafted tree is a family's.
use Rattle.std.proofs.Common.{ℕ}
use Rattle.qm_model.specs.Trees.{Shape}
use Rattle.qm_model.specs.Families.{Births, IsFamily, HasPeaks}
use Rattle.qm_graft.specs.Grafting.{kept_shape}

pub kept_family : (shape : Shape) (g : ℕ) (births : Births) → IsFamily shape births → IsFamily (kept_shape shape g) births
kept_family shape g births family = record {
  none = family.none;
  some = family.some;
  first = family.first;
  placed = family.placed;
  sized = family.sized;
  all = family.all;
  inside = family.inside;
  halves = λ n k some low. let halves = family.halves n k some low in record { height = halves.height; index = halves.index; is = halves.is; left = halves.left; right = halves.right };
}

pub kept_peaks : (shape : Shape) (g : ℕ) → HasPeaks shape → HasPeaks (kept_shape shape g)
kept_peaks shape g peaked = record { born = peaked.born; bare = peaked.bare; all = peaked.all }
