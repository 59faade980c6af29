-- The grammar of lines: words between single spaces.
use Rattle.std.specs.Prelude.{ℕ, ◌+◌, ◌-◌, ◌*◌, ◌^◌, ◌==◌, ◌&&◌, nat_lt, nat_le, slice_index, take, drop, Bool, true, false, if◌then◌else◌, List, [], ◌∷◌, length, codes, Option, None, Some, Result, Ok, Err, option_map, option_and_then, bytes_eq}
use Rattle.std.specs.List.{slice_split}
use Rattle.std.specs.Char.{is_ascii_digit}
use Rattle.hex.specs.Hex.{decode_of}
use Rattle.hex.specs.declared.error.FromHexError.{FromHexError}
use Rattle.qm_model.specs.Operations.{Bytes}
use Rattle.qm_model.specs.Ranges.{Limit, included, excluded, unlimited}
use Rattle.qm_model.specs.Walk.{Limits}
use Rattle.qm_model.specs.Slots.{Slot, keep, put, away}
use Rattle.qm_model.specs.Writes.{Write}
use Rattle.qm_model.specs.Policies.{Policy, proportional, hold, bounded, rule}
use Rattle.qm_machine.specs.Lines.{Line, Open, Batch, Child, Tip, Put, Del, Merkleize, Stage, Expand, Resolve, Apply, Ops, Evicted, Get, Many, Next, Prev, Span, All, Range, Keys, Info, BatchInfo, Root, BatchRoot, BatchProof, Meta, Prove, Pins, Current, Prune, Commit, Sync, Close, Destroy, Crash, Held, Absent, Chunks, Witness}

-- the number with one decimal digit more, below 2 ^ 64
abbrev pub next_digit : ℕ → ℕ → Option ℕ
next_digit n c = let next = 10 * n + (c - 48) in if is_ascii_digit c && nat_lt next (2 ^ 64) then Some next else None

abbrev pub digits_from : ℕ → Bytes → Option ℕ
digits_from n [] = Some n
digits_from n (c ∷ cs) = option_and_then (λ m. digits_from m cs) (next_digit n c)

-- no digit at all, or a zero before others
abbrev pub is_padded : Bytes → Bool
is_padded [] = true
is_padded (c ∷ []) = false
is_padded (c ∷ d ∷ cs) = c == 48

-- a decimal number below 2 ^ 64 without leading zeros
abbrev pub number_of : Bytes → Option ℕ
number_of word = if is_padded word then None else digits_from 0 word

-- a number that is at least 1
abbrev pub positive : ℕ → Option ℕ
positive n = if n == 0 then None else Some n

abbrev pub positive_of : Bytes → Option ℕ
positive_of word = option_and_then positive (number_of word)

-- as many bytes as lie between the bounds
abbrev pub within : ℕ → ℕ → Result Bytes FromHexError → Option Bytes
within low high (Ok bytes) = if nat_le low (length bytes) && nat_le (length bytes) high then Some bytes else None
within low high (Err e) = None

-- 1 to 32 bytes in hexadecimal digits of either case
abbrev pub key_of : Bytes → Option Bytes
key_of word = within 1 32 (decode_of word)

-- a dash for no bytes, or 1 to 64 bytes
abbrev pub value_of : Bytes → Option Bytes
value_of word = if bytes_eq word (codes "-") then Some [] else within 1 64 (decode_of word)

-- whether a word begins with a name, and what follows that
abbrev pub begins_with : Bytes → Bytes → Bool
begins_with name word = bytes_eq (take (length name) word) name

abbrev pub behind : Bytes → Bytes → Bytes
behind name word = drop (length name) word

-- What the first of some parts says after this name, and the parts after it; none, and all parts, if it has another name.
abbrev pub optional : {A : Type 0} → Bytes → (Bytes → Option A) → List Bytes → Option (Option A × List Bytes)
optional name read [] = Some (None, [])
optional name read (part ∷ parts) =
    if begins_with name part then option_map (λ a. (Some a, parts)) (read (behind name part)) else Some (None, part ∷ parts)

-- two values with a sign between them
abbrev pub swap_of_words : List Bytes → Option (Bytes × Bytes)
swap_of_words (a ∷ b ∷ []) = option_and_then (λ from. option_map (λ to. (from, to)) (value_of b)) (value_of a)
swap_of_words words = None

abbrev pub swap_of : Bytes → Option (Bytes × Bytes)
swap_of word = swap_of_words (slice_split (λ c. c == 62) word)

-- the policy of these numbers and values, if no part is left
abbrev pub rule_of : ℕ → ℕ → Option Bytes → Option Bytes → Option (Bytes × Bytes) → Option ℕ × List Bytes → Option Policy
rule_of entries skips drops stops swap (spare, []) = Some (rule entries skips drops stops swap spare)
rule_of entries skips drops stops swap (spare, part ∷ parts) = None

-- a value to drop, one to stop at, two to swap, and how many entries to spare, each if it is given, in this order
abbrev pub rule_with : ℕ → ℕ → List Bytes → Option Policy
rule_with entries skips parts =
    option_and_then (λ d. option_and_then (λ s. option_and_then (λ w. option_and_then (rule_of entries skips d.0 s.0 w.0) (optional (codes "spare=") number_of w.1)) (optional (codes "swap=") swap_of s.1)) (optional (codes "stop=") value_of d.1)) (optional (codes "drop=") value_of parts)

-- entries and skips
abbrev pub limits_of : Bytes → Bytes → Option Limits
limits_of a b = option_and_then (λ entries. option_map (λ skips. record { entries = entries; skips = skips }) (number_of b)) (number_of a)

abbrev pub bounded_of : List Bytes → Option Policy
bounded_of (a ∷ b ∷ []) = option_map (λ l. bounded l.entries l.skips) (limits_of a b)
bounded_of parts = None

abbrev pub ruled_of : List Bytes → Option Policy
ruled_of (a ∷ b ∷ parts) = option_and_then (λ l. rule_with l.entries l.skips parts) (limits_of a b)
ruled_of parts = None

abbrev pub only_policy : Policy → List Bytes → Option Policy
only_policy policy [] = Some policy
only_policy policy parts = None

-- a name, and the parts after it
abbrev pub policy_of_words : List Bytes → Option Policy
policy_of_words [] = None
policy_of_words (name ∷ parts) =
    if bytes_eq name (codes "prop") then only_policy proportional parts
    else (if bytes_eq name (codes "hold") then only_policy hold parts
    else (if bytes_eq name (codes "bounded") then bounded_of parts
    else (if bytes_eq name (codes "rule") then ruled_of parts else None)))

-- parts with colons between them
abbrev pub policy_of : Bytes → Option Policy
policy_of word = policy_of_words (slice_split (λ c. c == 58) word)

abbrev pub metadata_of : Bytes → Option (Option Bytes)
metadata_of word = if bytes_eq word (codes "none") then Some None else option_map (λ v. Some v) (value_of word)

-- the number after a word and an equals sign
abbrev pub named_number : Bytes → Bytes → Option ℕ
named_number name word = if begins_with name word then number_of (behind name word) else None

-- what is read: keys, and the batch through which they are
abbrev pub Reading : Type 0
Reading = List Bytes × Option ℕ

-- a last word: the batch, or a key
abbrev pub batch_or_key : Option ℕ → Bytes → Option Reading
batch_or_key (Some h) word = Some ([], Some h)
batch_or_key None word = option_map (λ k. (k ∷ [], None)) (key_of word)

abbrev pub last_reading : Bytes → Option Reading
last_reading word = batch_or_key (named_number (codes "from=") word) word

abbrev pub with_key : Bytes → Reading → Reading
with_key key (keys, from) = (key ∷ keys, from)

-- keys, at whose end a batch may stand
abbrev pub reading_of : List Bytes → Option Reading
reading_of [] = None
reading_of (w ∷ []) = last_reading w
reading_of (w ∷ v ∷ ws) = option_and_then (λ k. option_map (with_key k) (reading_of (v ∷ ws))) (key_of w)

-- a slot: a name or, after another, a value
abbrev pub slot_of : Bytes → Option Slot
slot_of word =
    if bytes_eq word (codes "keep") then Some keep
    else (if bytes_eq word (codes "del") then Some away
    else (if begins_with (codes "put:") word then option_map put (value_of (behind (codes "put:") word)) else None))

-- a key, an equals sign, and a value or a word for none
abbrev pub write_of_words : List Bytes → Option Write
write_of_words (a ∷ b ∷ []) = option_and_then (λ k. option_map (λ v. record { key = k; value = v }) (metadata_of b)) (key_of a)
write_of_words words = None

abbrev pub write_of : Bytes → Option Write
write_of word = write_of_words (slice_split (λ c. c == 61) word)

-- keys, one or more, each a word
abbrev pub each_key : List Bytes → Option (List Bytes)
each_key [] = Some []
each_key (w ∷ ws) = option_and_then (λ k. option_map (λ ks. k ∷ ks) (each_key ws)) (key_of w)

abbrev pub some_keys : List Bytes → Option (List Bytes)
some_keys [] = None
some_keys (w ∷ ws) = each_key (w ∷ ws)

abbrev pub each_write : List Bytes → Option (List Write)
each_write [] = Some []
each_write (w ∷ ws) = option_and_then (λ x. option_map (λ xs. x ∷ xs) (each_write ws)) (write_of w)

-- what becomes of staged keys, and after that other writes
abbrev pub Resolution : Type 0
Resolution = List Slot × List Write

abbrev pub with_slot : Slot → Resolution → Resolution
with_slot slot (slots, others) = (slot ∷ slots, others)

-- slots as far as there are any, then writes
abbrev pub resolution_of : List Bytes → Option Resolution
resolution_of [] = Some ([], [])
resolution_of (w ∷ ws) = elim (slot_of w) [ Some slot ↦ option_map (with_slot slot) (resolution_of ws) | None ↦ option_map (λ others. ([], others)) (each_write (w ∷ ws)) ]

-- no word more
abbrev pub alone : Line Policy → List Bytes → Option (Line Policy)
alone line [] = Some line
alone line words = None

-- one number more
abbrev pub only_number : List Bytes → Option ℕ
only_number (a ∷ []) = number_of a
only_number words = None

abbrev pub numbered : (ℕ → Line Policy) → List Bytes → Option (Line Policy)
numbered line words = option_map line (only_number words)

-- The commands that need more, each of the words after its name.

abbrev pub info_of : List Bytes → Option (Line Policy)
info_of [] = Some Info
info_of words = numbered BatchInfo words

abbrev pub root_of : List Bytes → Option (Line Policy)
root_of [] = Some Root
root_of words = numbered BatchRoot words

-- up to a size, if one is given
abbrev pub open_of : List Bytes → Option (Line Policy)
open_of [] = Some (Open None)
open_of (a ∷ []) = option_map (λ n. Open (Some n)) (named_number (codes "max=") a)
open_of words = None

abbrev pub child_of : List Bytes → Option (Line Policy)
child_of (a ∷ []) = option_map (λ h. Child h None) (number_of a)
child_of (a ∷ b ∷ []) = option_and_then (λ h. option_map (λ n. Child h (Some n)) (named_number (codes "keep=") b)) (number_of a)
child_of words = None

abbrev pub put_of : List Bytes → Option (Line Policy)
put_of (a ∷ b ∷ c ∷ []) = option_and_then (λ h. option_and_then (λ k. option_map (λ v. Put h k v) (value_of c)) (key_of b)) (number_of a)
put_of words = None

abbrev pub del_of : List Bytes → Option (Line Policy)
del_of (a ∷ b ∷ []) = option_and_then (λ h. option_map (λ k. Del h k) (key_of b)) (number_of a)
del_of words = None

abbrev pub merkleize_of : List Bytes → Option (Line Policy)
merkleize_of (a ∷ b ∷ c ∷ []) = option_and_then (λ h. option_and_then (λ p. option_map (λ meta. Merkleize h p meta) (metadata_of c)) (policy_of b)) (number_of a)
merkleize_of words = None

-- a batch, and keys
abbrev pub keyed_of : (ℕ → List Bytes → Line Policy) → List Bytes → Option (Line Policy)
keyed_of line [] = None
keyed_of line (a ∷ ws) = option_and_then (λ h. option_map (line h) (some_keys ws)) (number_of a)

abbrev pub resolve_of : List Bytes → Option (Line Policy)
resolve_of (a ∷ b ∷ c ∷ ws) =
    option_and_then (λ h. option_and_then (λ p. option_and_then (λ meta. option_map (λ r. Resolve h p meta r.0 r.1) (resolution_of ws)) (metadata_of c)) (policy_of b)) (number_of a)
resolve_of words = None

abbrev pub prove_of : List Bytes → Option (Line Policy)
prove_of (a ∷ b ∷ c ∷ []) = option_and_then (λ size. option_and_then (λ start. option_map (λ max. Prove size start max) (positive_of c)) (number_of b)) (number_of a)
prove_of words = None

abbrev pub one_read : (Bytes → Option ℕ → Line Policy) → Reading → Option (Line Policy)
one_read line (k ∷ [], from) = Some (line k from)
one_read line reading = None

-- a key, at whose end a batch may stand
abbrev pub read_of : (Bytes → Option ℕ → Line Policy) → List Bytes → Option (Line Policy)
read_of line words = option_and_then (one_read line) (reading_of words)

abbrev pub some_read : Reading → Option (Line Policy)
some_read ([], from) = None
some_read (keys, from) = Some (Many keys from)

abbrev pub many_of : List Bytes → Option (Line Policy)
many_of words = option_and_then some_read (reading_of words)

-- a key alone
abbrev pub only_key : (Bytes → Line Policy) → List Bytes → Option (Line Policy)
only_key line (a ∷ []) = option_map line (key_of a)
only_key line words = None

-- a sign for a range's end, or a bracket beside a key: a square one if the key itself is in the range, else a round one
abbrev pub low_of : Bytes → Option Limit
low_of [] = None
low_of (c ∷ cs) =
    if bytes_eq (c ∷ cs) (codes "*") then Some unlimited
    else (if c == 91 then option_map included (key_of cs)
    else (if c == 40 then option_map excluded (key_of cs) else None))

-- what is before the last byte
abbrev pub before_last : Bytes → Bytes
before_last word = take (length word - 1) word

abbrev pub high_of : Bytes → Option Limit
high_of word =
    if bytes_eq word (codes "*") then Some unlimited
    else (if slice_index word (length word - 1) == 93 then option_map included (key_of (before_last word))
    else (if slice_index word (length word - 1) == 41 then option_map excluded (key_of (before_last word)) else None))

-- where a range begins and ends
abbrev pub range_of : (Limit → Limit → Line Policy) → List Bytes → Option (Line Policy)
range_of line (a ∷ b ∷ []) = option_and_then (λ low. option_map (line low) (high_of b)) (low_of a)
range_of line words = None

abbrev pub chunks_of : List Bytes → Option (Line Policy)
chunks_of (a ∷ b ∷ []) = option_and_then (λ start. option_map (λ max. Current (Chunks start max)) (positive_of b)) (number_of a)
chunks_of words = None

-- each command's name, and what the words after it say: of those that a current database offers
abbrev pub current_forms : List (Bytes × (List Bytes → Option (Line Policy)))
current_forms =
    (codes "held", only_key (λ key. Current (Held key)))
    ∷ (codes "absent", only_key (λ key. Current (Absent key)))
    ∷ (codes "chunks", chunks_of)
    ∷ (codes "witness", alone (Current Witness))
    ∷ []

-- of those that make a store last, or end a database
abbrev pub lasting_forms : List (Bytes × (List Bytes → Option (Line Policy)))
lasting_forms =
    (codes "prune", numbered Prune)
    ∷ (codes "commit", alone Commit)
    ∷ (codes "sync", alone Sync)
    ∷ (codes "close", alone Close)
    ∷ (codes "destroy", alone Destroy)
    ∷ (codes "crash", numbered Crash)
    ∷ current_forms

-- of those that tell what a list and a batch are
abbrev pub telling_forms : List (Bytes × (List Bytes → Option (Line Policy)))
telling_forms =
    (codes "info", info_of)
    ∷ (codes "root", root_of)
    ∷ (codes "proof", numbered BatchProof)
    ∷ (codes "meta", alone Meta)
    ∷ (codes "prove", prove_of)
    ∷ (codes "pins", numbered Pins)
    ∷ lasting_forms

-- of those that read
abbrev pub reading_forms : List (Bytes × (List Bytes → Option (Line Policy)))
reading_forms =
    (codes "get", read_of Get)
    ∷ (codes "many", many_of)
    ∷ (codes "next", read_of Next)
    ∷ (codes "prev", read_of Prev)
    ∷ (codes "span", only_key Span)
    ∷ (codes "all", only_key All)
    ∷ (codes "range", range_of Range)
    ∷ (codes "keys", range_of Keys)
    ∷ telling_forms

-- of those that stage a batch, and of what is done with one that is made
abbrev pub staged_forms : List (Bytes × (List Bytes → Option (Line Policy)))
staged_forms =
    (codes "stage", keyed_of Stage)
    ∷ (codes "expand", keyed_of Expand)
    ∷ (codes "resolve", resolve_of)
    ∷ (codes "apply", numbered Apply)
    ∷ (codes "ops", numbered Ops)
    ∷ (codes "evicted", numbered Evicted)
    ∷ reading_forms

-- of all of them
abbrev pub forms : List (Bytes × (List Bytes → Option (Line Policy)))
forms =
    (codes "open", open_of)
    ∷ (codes "batch", alone Batch)
    ∷ (codes "child", child_of)
    ∷ (codes "tip", alone Tip)
    ∷ (codes "put", put_of)
    ∷ (codes "del", del_of)
    ∷ (codes "merkleize", merkleize_of)
    ∷ staged_forms

-- what the first of these forms with this name says
abbrev pub form_of : Bytes → List Bytes → List (Bytes × (List Bytes → Option (Line Policy))) → Option (Line Policy)
form_of name words [] = None
form_of name words ((known, form) ∷ more) = if bytes_eq name known then form words else form_of name words more

abbrev pub of_words : List Bytes → Option (Line Policy)
of_words [] = None
of_words (name ∷ words) = form_of name words forms

-- the command that a line is, if it is one
abbrev pub line_of : Bytes → Option (Line Policy)
line_of line = of_words (slice_split (λ c. c == 32) line)

-- an input without a line feed at its end
abbrev pub without_feed : Bytes → Bytes
without_feed input = if slice_index input (length input - 1) == 10 then take (length input - 1) input else input

-- the lines of an input: each ends with a line feed, which the last may lack
abbrev pub lines_of : Bytes → List Bytes
lines_of [] = []
lines_of (c ∷ cs) = slice_split (λ b. b == 10) (without_feed (c ∷ cs))

abbrev pub onto : Option (Line Policy) → List (Line Policy) → List (Line Policy)
onto None rest = []
onto (Some c) rest = c ∷ rest

-- the commands up to the first line that is none
abbrev pub commands_of : List Bytes → List (Line Policy)
commands_of [] = []
commands_of (line ∷ lines) = onto (line_of line) (commands_of lines)

abbrev pub bad_here : ℕ → Option (Line Policy) → Option ℕ → Option ℕ
bad_here n None later = Some n
bad_here n (Some c) later = later

-- the number of the first line that is none, if they are numbered from n on
abbrev pub bad_from : ℕ → List Bytes → Option ℕ
bad_from n [] = None
bad_from n (line ∷ lines) = bad_here n (line_of line) (bad_from (n + 1) lines)

-- of an input: its commands up to the first bad line, and that line's number
abbrev pub commands_in : Bytes → List (Line Policy)
commands_in input = commands_of (lines_of input)

abbrev pub bad_in : Bytes → Option ℕ
bad_in input = bad_from 1 (lines_of input)
