-- Spellings of fixed sizes, worked by hand, of a key of 2 and a value of 4 bytes: each has 14 bytes.
use Rattle.std.specs.Prelude.{◌≡◌, false, true, [], ◌∷◌, Some, None, refl}
use Rattle.qm_model.specs.Forms.{Form, decoded, spelling}
use Rattle.qm_model.specs.Operations.{Bytes, commit, delete, eight_bytes, update}

abbrev sized : Form
sized = record { ordered = false; sizes = Some (2, 4); is_key = λ bs. true; is_value = λ bs. true }

abbrev key : Bytes
key = 0x61 ∷ 0x62 ∷ []

abbrev value : Bytes
value = 5 ∷ 6 ∷ 7 ∷ 8 ∷ []

spelled_update : spelling sized (update key value None) ≡ 1 ∷ 0x61 ∷ 0x62 ∷ 5 ∷ 6 ∷ 7 ∷ 8 ∷ 0 ∷ 0 ∷ 0 ∷ 0 ∷ 0 ∷ 0 ∷ 0 ∷ []
spelled_update = refl

spelled_link : spelling (record sized { ordered = true }) (update key value (Some (0x63 ∷ 0x64 ∷ []))) ≡ 1 ∷ 0x61 ∷ 0x62 ∷ 5 ∷ 6 ∷ 7 ∷ 8 ∷ 0x63 ∷ 0x64 ∷ 0 ∷ 0 ∷ 0 ∷ 0 ∷ 0 ∷ []
spelled_link = refl

-- a delete is padded to the longest spelling, which is that of a commit with metadata
spelled_delete : spelling sized (delete key) ≡ 2 ∷ 0x61 ∷ 0x62 ∷ 0 ∷ 0 ∷ 0 ∷ 0 ∷ 0 ∷ 0 ∷ 0 ∷ 0 ∷ 0 ∷ 0 ∷ 0 ∷ []
spelled_delete = refl

spelled_commit : spelling sized (commit None 2) ≡ 3 ∷ 0 ∷ 0 ∷ 0 ∷ 0 ∷ 0 ∷ 0 ∷ 0 ∷ 0 ∷ 2 ∷ 0 ∷ 0 ∷ 0 ∷ 0 ∷ []
unfolding eight_bytes
spelled_commit = refl

spelled_metadata : spelling sized (commit (Some value) 2) ≡ 3 ∷ 1 ∷ 5 ∷ 6 ∷ 7 ∷ 8 ∷ 0 ∷ 0 ∷ 0 ∷ 0 ∷ 0 ∷ 0 ∷ 0 ∷ 2 ∷ []
unfolding eight_bytes
spelled_metadata = refl

read_delete : decoded sized (2 ∷ 0x61 ∷ 0x62 ∷ 0 ∷ 0 ∷ 0 ∷ 0 ∷ 0 ∷ 0 ∷ 0 ∷ 0 ∷ 0 ∷ 0 ∷ 0 ∷ []) ≡ Some (delete key)
read_delete = refl

-- a padding byte that is not zero is no spelling
unread_pad : decoded sized (2 ∷ 0x61 ∷ 0x62 ∷ 0 ∷ 0 ∷ 0 ∷ 0 ∷ 0 ∷ 0 ∷ 0 ∷ 0 ∷ 0 ∷ 0 ∷ 1 ∷ []) ≡ None
unread_pad = refl

-- nor are bytes that are too many or too few
unread_long : decoded sized (2 ∷ 0x61 ∷ 0x62 ∷ 0 ∷ 0 ∷ 0 ∷ 0 ∷ 0 ∷ 0 ∷ 0 ∷ 0 ∷ 0 ∷ 0 ∷ 0 ∷ 0 ∷ []) ≡ None
unread_long = refl

unread_short : decoded sized (2 ∷ 0x61 ∷ 0x62 ∷ []) ≡ None
unread_short = refl
