-- The machines of the program's databases.
use Rattle.std.specs.Prelude.{ℕ, Bool, ◌^◌, ◌*◌, ◌&&◌, if◌then◌else◌, nat_lt, length, Some, None, codes}
use Rattle.sha2.specs.Sha256.{sha256}
use Rattle.qm_model.specs.Checks.{Checks, held_check, absent_check, range_check, witness_check}
use Rattle.qm_model.specs.Operations.{Bytes, are_bytes}
use Rattle.qm_model.specs.Forms.{Form}
use Rattle.qm_model.specs.Live.{floor}
use Rattle.qm_model.specs.Opening.{Chunks}
use Rattle.qm_model.specs.Mmb.{log}
use Rattle.qm_model.specs.Trees.{Shape}
use Rattle.qm_model.specs.Roots.{sha256_root, sha256_proof, sha256_pins}
use Rattle.qm_model.specs.Schemes.{Scheme, current_scheme}

-- a key or a value: bytes whose count four bytes tell
abbrev pub is_string : Bytes → Bool
is_string bs = nat_lt (length bs) (2 ^ 32) && are_bytes bs

-- how the operations of ordered or of unordered databases are spelled: with lengths before keys and values
abbrev pub form_of : Bool → Form
form_of is_ordered = record { ordered = is_ordered; sizes = None; is_key = is_string; is_value = is_string }

-- the machine of any databases of this form, over trees of this shape
abbrev pub scheme : Shape → Form → Scheme
scheme shape form = record {
  form = form;
  shape = shape;
  hash = sha256;
  digest_size = 32;
  root = sha256_root shape;
  canonical = sha256_root shape;
  boundary = floor;
  proof = sha256_proof shape;
  pins = sha256_pins shape;
  grafts = None;
}

-- the checks of current databases of this form, over chunks of 2 ^ g locations; ordered ones alone prove absences
abbrev pub checks : Shape → ℕ → Form → Checks
checks shape g form = record {
  held = held_check sha256 shape g form;
  absent = if form.ordered then Some (absent_check sha256 shape g form) else None;
  range = range_check sha256 shape g form;
  witness = witness_check sha256 shape g form;
}

-- the machine of current databases of this form, over trees of this shape: chunks have 32 bytes, with a bit for each location
abbrev pub current : Shape → Form → Scheme
current shape form =
    let chunks : Chunks = record { height = log (8 * 32); name = codes "grafted" } in
    record (current_scheme sha256 shape 32 form chunks) { grafts = Some (record { chunks = chunks; checks = Some (checks shape chunks.height form) }) }
