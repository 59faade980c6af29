-- The check of an exported proof: its words, the input, and what it writes.
use Rattle.std.specs.Prelude.{ℕ, Bool, true, false, if◌then◌else◌, List, [], ◌∷◌, ◌++◌, codes, Option, None, Some, Result, Ok, Err, option_map, option_and_then, bytes_eq}
use Rattle.hex.specs.Hex.{decode_of}
use Rattle.hex.specs.declared.error.FromHexError.{FromHexError}
use Rattle.qm_model.specs.Operations.{Bytes}
use Rattle.qm_model.specs.Forms.{Form}
use Rattle.qm_model.specs.Trees.{Shape}
use Rattle.qm_model.specs.Mmr.{mmr}
use Rattle.qm_model.specs.Mmb.{mmb}
use Rattle.qm_client.specs.Claims.{Claim, has, lacks, checked}
use Rattle.qm_machine.specs.Grammar.{within, key_of, value_of, without_feed}

-- what is asked: over which family, by which root, and what is claimed
pub record Asked : Type 0 where
  pub shape : Shape
  pub root : Bytes
  pub claim : Claim

abbrev pub shape_of : Bytes → Option Shape
shape_of word = if bytes_eq word (codes "mmr") then Some mmr else (if bytes_eq word (codes "mmb") then Some mmb else None)

-- a root: so many bytes
abbrev pub root_of : ℕ → Bytes → Option Bytes
root_of size word = within size size (decode_of word)

-- a key and its value, or a key that is absent
abbrev pub claim_of : List Bytes → Option Claim
claim_of (a ∷ b ∷ []) = if bytes_eq a (codes "absent") then option_map lacks (key_of b) else None
claim_of (a ∷ b ∷ c ∷ []) = if bytes_eq a (codes "held") then option_and_then (λ key. option_map (has key) (value_of c)) (key_of b) else None
claim_of words = None

-- the words behind the name of a check
abbrev pub asked_of : ℕ → List Bytes → Option Asked
asked_of size [] = None
asked_of size (a ∷ []) = None
asked_of size (a ∷ b ∷ words) =
    option_and_then (λ shape. option_and_then (λ root. option_map (λ claim. record { shape = shape; root = root; claim = claim }) (claim_of words)) (root_of size b)) (shape_of a)

-- the words behind the name
abbrev pub asked_named : ℕ → Bytes → List Bytes → Option Asked
asked_named size name words = if bytes_eq name (codes "check") then asked_of size words else None

abbrev pub asked_of_words : ℕ → List Bytes → Option Asked
asked_of_words size [] = None
asked_of_words size (name ∷ words) = asked_named size name words

abbrev pub bytes_of : Result Bytes FromHexError → Option Bytes
bytes_of (Ok bytes) = Some bytes
bytes_of (Err e) = None

-- the bytes that an input is in hexadecimal digits of either case, whose last line feed may lack
abbrev pub spelled_in : Bytes → Option Bytes
spelled_in input = bytes_of (decode_of (without_feed input))

-- of an input: none where it spells no proof, or else the verdict
abbrev pub check_of : (Bytes → Bytes) → ℕ → Form → ℕ → Asked → Bytes → Option Bool
check_of hash g form size asked input = option_and_then (λ bytes. checked hash asked.shape g form size bytes asked.claim asked.root) (spelled_in input)

abbrev pub check_line : Option Bool → Bytes
check_line None = codes "no proof"
check_line (Some true) = codes "yes"
check_line (Some false) = codes "no"

abbrev pub check_text : Option Bool → Bytes
check_text verdict = check_line verdict ++ 10 ∷ []

-- the status that it ends with
abbrev pub check_status : Option Bool → ℕ
check_status None = 2
check_status (Some verdict) = 0
