-- All bits of a bitmap of which one is set or cleared.
use Rattle.std.proofs.Common.{◌≡◌, ◌+◌, ◌-◌, ◌≤◌, ◌<◌, ◌⊎◌, inl, inr, ℕ, Bool, false, set, replicate, arith, ap, sym, ◌∙◌}
use Rattle.std.proofs.lemmas.List.{length-replicate, length-append, length-set, set-append_right, set-get_or, set_past, get_or-replicate, get_or_append_left}
use Rattle.qm_bits.specs.Bitmaps.{Bitmap, start, bit_count, all_bits}

-- a kept bit is one of all
pub kept_all : (size : ℕ) (old new : Bitmap) (at : ℕ) (value : Bool) → new ≡ record { pruned = old.pruned; kept = set old.kept (at - start size old) value } → start size old ≤ at → all_bits size new ≡ set (all_bits size old) at value
kept_all size old new at value is from =
    ap (all_bits size) is
    ∙ sym (set-append_right (replicate (start size old) false) old.kept (start size old) at value (length-replicate {A = Bool} (start size old) false) from)

-- there are as many
pub kept_count : (size : ℕ) (old new : Bitmap) (at : ℕ) (value : Bool) → new ≡ record { pruned = old.pruned; kept = set old.kept (at - start size old) value } → bit_count size new ≡ bit_count size old
kept_count size old new at value is = ap (bit_count size) is ∙ ap (λ n. start size old + n) (length-set old.kept (at - start size old) value)

-- no bit at a place after them is set or cleared
pub not_marked : (size : ℕ) (map : Bitmap) (at : ℕ) (value : Bool) → (at < start size map) ⊎ (bit_count size map ≤ at) → start size map ≤ at → all_bits size map ≡ set (all_bits size map) at value
not_marked size map at value (inl low) from = absurd (omega arith)
not_marked size map at value (inr past) from =
    let long = length-append (replicate (start size map) false) map.kept in
    let front = length-replicate {A = Bool} (start size map) false in
    sym (set_past (all_bits size map) at value (omega arith))

-- to clear a bit that is not kept changes nothing
pub clear_same : (size : ℕ) (map : Bitmap) (at : ℕ) → (at < start size map) ⊎ (bit_count size map ≤ at) → set (all_bits size map) at false ≡ all_bits size map
clear_same size map at (inl low) =
    let front = length-replicate {A = Bool} (start size map) false in
    let clear = get_or_append_left (replicate (start size map) false) map.kept false at (omega arith) ∙ get_or-replicate (start size map) at false false low in
    ap (set (all_bits size map) at) (sym clear) ∙ set-get_or (all_bits size map) at false
clear_same size map at (inr past) =
    let long = length-append (replicate (start size map) false) map.kept in
    let front = length-replicate {A = Bool} (start size map) false in
    set_past (all_bits size map) at false (omega arith)
