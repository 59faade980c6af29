-- How operations are spelled: with or without a next key, with lengths or of fixed sizes, and which operation bytes spell.
use Rattle.std.specs.Prelude.{◌≡◌, ℕ, ◌+◌, ◌-◌, ◌<◌, ◌≤◌, ◌^◌, ◌&&◌, ◌==◌, nat_le, max, replicate, Bool, true, false, [], ◌∷◌, ◌++◌, length, take, drop, if◌then◌else◌, Option, Some, None, option_map, option_and_then, is_some, IfSome}
use Rattle.std.specs.Int.{w32, w64, from_be_bytes}
use Rattle.qm_model.specs.Operations.{Bytes, Operation, update, delete, commit, four_bytes, eight_bytes}

-- whether updates name a next key, the sizes of keys and of values if these are fixed, and which bytes are keys and values
pub record Form : Type 0 where
  pub ordered : Bool
  pub sizes : Option (ℕ × ℕ)
  pub is_key : Bytes → Bool
  pub is_value : Bytes → Bool

-- with lengths, and any bytes are keys and values: how the program's operations are spelled, of either kind of database
abbrev pub variable : Form
variable = record { ordered = false; sizes = None; is_key = λ bs. true; is_value = λ bs. true }

abbrev pub key_size : Option (ℕ × ℕ) → Option ℕ
key_size sizes = option_map (λ p. p.0) sizes

abbrev pub value_size : Option (ℕ × ℕ) → Option ℕ
value_size sizes = option_map (λ p. p.1) sizes

-- a key or a value: the bytes alone if they have a fixed size, else their length before them
abbrev pub field : Option ℕ → Bytes → Bytes
field None bs = four_bytes (length bs) ++ bs
field (Some n) bs = bs

abbrev pub optional_field : Option ℕ → Option Bytes → Bytes
optional_field size None = []
optional_field size (Some bs) = field size bs

abbrev pub metadata_field : Option ℕ → Option Bytes → Bytes
metadata_field size None = 0 ∷ []
metadata_field size (Some bs) = 1 ∷ field size bs

-- the bytes of an operation without padding
abbrev pub plain : Option (ℕ × ℕ) → Operation → Bytes
plain sizes (update key value next) = 1 ∷ (field (key_size sizes) key ++ (field (value_size sizes) value ++ optional_field (key_size sizes) next))
plain sizes (delete key) = 2 ∷ field (key_size sizes) key
plain sizes (commit meta floor) = 3 ∷ (metadata_field (value_size sizes) meta ++ eight_bytes floor)

-- the length of the longest spelling, of keys and values of these sizes
abbrev pub longest : Bool → ℕ × ℕ → ℕ
longest ordered p = max (1 + p.0 + p.1 + (if ordered then p.0 else 0)) (10 + p.1)

-- of fixed sizes with zeros up to the longest
abbrev pub padded : Bool → Option (ℕ × ℕ) → Bytes → Bytes
padded ordered None bs = bs
padded ordered (Some p) bs = bs ++ replicate (longest ordered p - length bs) 0

-- the bytes of an operation
abbrev pub spelling : Form → Operation → Bytes
spelling form op = padded form.ordered form.sizes (plain form.sizes op)

-- of this size, or short if there is none
abbrev pub IsSized : Option ℕ → Bytes → Type 0
IsSized None bs = length bs < 2 ^ 32
IsSized (Some n) bs = length bs ≡ n

pub record IsKey (form : Form) (bs : Bytes) : Type 0 where
  pub known : form.is_key bs ≡ true
  pub sized : IsSized (key_size form.sizes) bs

pub record IsValue (form : Form) (bs : Bytes) : Type 0 where
  pub known : form.is_value bs ≡ true
  pub sized : IsSized (value_size form.sizes) bs

-- an operation of a database of this form
abbrev pub IsOf : Form → Operation → Type 0
IsOf form (update key value next) = IsKey form key × IsValue form value × (is_some next ≡ form.ordered) × IfSome next (IsKey form)
IsOf form (delete key) = IsKey form key
IsOf form (commit meta floor) = IfSome meta (IsValue form) × (floor ≤ 2 ^ 62)

-- the bytes spell the operation
pub record IsSpelling (form : Form) (bytes : Bytes) (op : Operation) : Type 0 where
  pub of : IsOf form op
  pub spelled : spelling form op ≡ bytes

-- the number of 4 bytes, the highest first
unfoldable pub number_of_four : Bytes → ℕ
number_of_four bs = from_be_bytes w32 bs

-- the number of 8 bytes, the highest first
unfoldable pub number_of_eight : Bytes → ℕ
number_of_eight bs = from_be_bytes w64 bs

-- the first n bytes, and what follows them
abbrev pub first_bytes : ℕ → Bytes → Option (Bytes × Bytes)
first_bytes n bs = if nat_le n (length bs) then Some (take n bs, drop n bs) else None

-- a key or a value, and what follows it
abbrev pub read_field : Option ℕ → Bytes → Option (Bytes × Bytes)
read_field None bs = option_and_then (λ p. first_bytes (number_of_four p.0) p.1) (first_bytes 4 bs)
read_field (Some n) bs = first_bytes n bs

-- the same, if the bytes are those of a key or a value
abbrev pub tested : (Bytes → Bool) → Bytes × Bytes → Option (Bytes × Bytes)
tested test p = if test p.0 then Some p else None

abbrev pub read_key : Form → Bytes → Option (Bytes × Bytes)
read_key form bs = option_and_then (tested form.is_key) (read_field (key_size form.sizes) bs)

abbrev pub read_value : Form → Bytes → Option (Bytes × Bytes)
read_value form bs = option_and_then (tested form.is_value) (read_field (value_size form.sizes) bs)

-- the next key, in an ordered database
abbrev pub read_next : Form → Bytes → Option (Option Bytes × Bytes)
read_next form bs = if form.ordered then option_map (λ p. (Some p.0, p.1)) (read_key form bs) else Some (None, bs)

-- a mark of 0 for no metadata, or a mark of 1 before it, and what follows it
abbrev pub read_metadata : Form → Bytes → Option (Option Bytes × Bytes)
read_metadata form [] = None
read_metadata form (mark ∷ bs) =
    if mark == 0 then Some (None, bs) else if mark == 1 then option_map (λ p. (Some p.0, p.1)) (read_value form bs) else None

-- 8 bytes of a number of at most 2 ^ 62, and what follows it
abbrev pub read_floor : Bytes → Option (ℕ × Bytes)
read_floor bs = option_and_then (λ p. if nat_le (number_of_eight p.0) (2 ^ 62) then Some (number_of_eight p.0, p.1) else None) (first_bytes 8 bs)

-- only zeros
abbrev pub are_zeros : Bytes → Bool
are_zeros [] = true
are_zeros (b ∷ bs) = b == 0 && are_zeros bs

-- nothing, or the zeros that pad
abbrev pub is_end : Option (ℕ × ℕ) → Bytes → Bool
is_end None bs = length bs == 0
is_end (Some p) bs = are_zeros bs

-- the thing, if nothing but padding is left over
abbrev pub at_end : {A : Type 0} → Option (ℕ × ℕ) → A × Bytes → Option A
at_end sizes p = if is_end sizes p.1 then Some p.0 else None

abbrev pub decoded_update : Form → Bytes → Option Operation
decoded_update form bs =
    option_and_then (λ k. option_and_then (λ v. option_and_then (λ n. at_end form.sizes (update k.0 v.0 n.0, n.1)) (read_next form v.1)) (read_value form k.1)) (read_key form bs)

abbrev pub decoded_delete : Form → Bytes → Option Operation
decoded_delete form bs = option_and_then (λ k. at_end form.sizes (delete k.0, k.1)) (read_key form bs)

abbrev pub decoded_commit : Form → Bytes → Option Operation
decoded_commit form bs = option_and_then (λ m. option_and_then (λ f. at_end form.sizes (commit m.0 f.0, f.1)) (read_floor m.1)) (read_metadata form bs)

-- by the tag
abbrev pub by_tag : Form → Bytes → Option Operation
by_tag form [] = None
by_tag form (tag ∷ bs) =
    if tag == 1 then decoded_update form bs else if tag == 2 then decoded_delete form bs else if tag == 3 then decoded_commit form bs else None

-- bytes of the length that spellings have
abbrev pub is_long : Bool → Option (ℕ × ℕ) → Bytes → Bool
is_long ordered None bs = true
is_long ordered (Some p) bs = length bs == longest ordered p

abbrev pub decoded : Form → Bytes → Option Operation
decoded form bs = if is_long form.ordered form.sizes bs then by_tag form bs else None
