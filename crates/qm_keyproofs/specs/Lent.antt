-- Keys and values that are lent to an operation.
use Rattle.qm_model.specs.Operations.{Bytes}
use Rattle.qm_keyproofs.specs.declared.lent.Lent.{Lent}
use Rattle.qm_keyproofs.specs.declared.lent.Lent.TheVariants.{Of, Own}

-- the bytes of a value that is lent, or its own
abbrev pub lent_bytes : {B : Type 0} → (B → Bytes) → Lent B → Bytes
lent_bytes bytes (Of b) = bytes b.now
lent_bytes bytes (Own b) = bytes b
