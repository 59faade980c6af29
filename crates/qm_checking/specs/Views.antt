-- What definitions see of what the program is asked.
use Rattle.qm_model.specs.Operations.{Bytes}
use Rattle.qm_model.specs.Trees.{Shape}
use Rattle.qm_model.specs.Mmr.{mmr}
use Rattle.qm_model.specs.Mmb.{mmb}
use Rattle.qm_client.specs.Provable.{claim_view}
use Rattle.qm_checking.specs.Checking.{Asked}
use Rattle.qm_checking.specs.declared.words.Trees.{Trees}
use Rattle.qm_checking.specs.declared.words.Trees.TheVariants.{Mmr, Mmb}
use Rattle.qm_checking.specs.declared.words.Asked as program

abbrev pub trees_view : Trees → Shape
trees_view Mmr = mmr
trees_view Mmb = mmb

abbrev pub asked_view : {D : Type 0} → (D → Bytes) → program.Asked D → Asked
asked_view bytes asked = record { shape = trees_view asked.trees; root = bytes asked.root; claim = claim_view asked.claim }
