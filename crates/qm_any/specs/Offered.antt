-- The machine of a database's lists, and the hashing of the databases that are offered.
use Rattle.std.specs.Prelude.{ℕ}
use Rattle.sha2.specs.Sha256.{sha256}
use Rattle.qm_model.specs.Operations.{Bytes}
use Rattle.qm_model.specs.Forms.{Form}
use Rattle.qm_model.specs.Schemes.{Scheme, any_scheme}
use Rattle.qm_model.specs.Trees.{Shape}
use Rattle.qm_base.specs.declared.sha256.Sha256Digest.{Sha256Digest}
use Rattle.qm_any.specs.Layouts.{Hashing, Layout}

-- of lists that are hashed so, by digests of this size
abbrev pub scheme_of : {D : Type 0} → ℕ → Hashing D → Scheme
scheme_of size hashing = any_scheme hashing.hash hashing.shape size hashing.form

-- the bytes of a digest
abbrev pub digest_bytes : Sha256Digest → Bytes
digest_bytes d = d.bytes

-- how lists are hashed by sha256, in trees of this shape
abbrev pub sha256_hashing : Shape → Form → Hashing Sha256Digest
sha256_hashing shape form = record { bytes = digest_bytes; hash = sha256; shape = shape; form = form }

-- a layout with this hashing
abbrev pub sha256_layout : Shape → ℕ → Form → (Bytes → ℕ) → Layout Sha256Digest
sha256_layout shape chunk form index_key = record { hashing = sha256_hashing shape form; chunk = chunk; index_key = index_key }
