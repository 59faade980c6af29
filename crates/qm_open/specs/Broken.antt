-- Whether the links of an ordered list form a ring.
use Rattle.std.specs.Prelude.{ℕ, Bool, ◌&&◌, not, filter_map}
use Rattle.qm_model.specs.Forms.{Form}
use Rattle.qm_model.specs.Opening.{is_ring}
use Rattle.qm_model.specs.StoreModel.{Stored}
use Rattle.qm_build.specs.Reads.{items_within}

-- the links of an ordered list, from its floor on up to its size, form no ring
abbrev pub links_broken : Form → Stored → ℕ → ℕ → Bool
links_broken form s floor size = form.ordered && not (is_ring (filter_map (λ item. item) (items_within form s floor size)))
