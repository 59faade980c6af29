-- What the tags announce, each read on its own.
use Rattle.std.specs.Prelude.{ℕ, Option}
use Rattle.qm_model.specs.Operations.{Bytes}
use Rattle.qm_model.specs.Forms.{Form, read_key, read_value, read_metadata}
use Rattle.qm_model.specs.RangeProofs.{emptied}
use Rattle.qm_client.specs.ProofForms.{KeyProof, held, linked, absent, with_lengths, both, read_operation, spanned_of, read_whole}

module _ (form : Form) (chunk size : ℕ) where
  abbrev pub read_linked : Bytes → Option KeyProof
  read_linked bs = read_whole (λ p. linked p.0 p.1) (both (read_operation chunk size) (read_key (with_lengths form))) bs

  abbrev pub read_spanned : Bytes → Option KeyProof
  read_spanned bs = read_whole spanned_of (both (read_operation chunk size) (both (read_key (with_lengths form)) (both (read_value (with_lengths form)) (read_key (with_lengths form))))) bs

  abbrev pub read_emptied : Bytes → Option KeyProof
  read_emptied bs = read_whole (λ p. absent (emptied p.0 p.1)) (both (read_operation chunk size) (read_metadata (with_lengths form))) bs

  abbrev pub read_held : Bytes → Option KeyProof
  read_held bs = read_whole held (read_operation chunk size) bs
