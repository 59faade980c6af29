-- Where a range ends: a key and after it a bracket.
use Rattle.std.proofs.Common.{◌≡◌, ◌∙◌, ◌++◌, ◌-◌, ◌==◌, ℕ, true, false, [], ◌∷◌, length, take, get_or, Option, None, Some, option_map, ap, sym, arith, length-append}
use Rattle.std.specs.Prelude.{if◌then◌else◌, bytes_eq, codes}
use Rattle.std.proofs.Math.Seq.{get_or-append_seam, take-append_seam}
use Rattle.qm_model.specs.Operations.{Bytes}
use Rattle.qm_model.specs.Ranges.{Limit, included, excluded, unlimited}
use Rattle.qm_machine.specs.Grammar.{high_of, key_of, before_last}

abbrev pub bracketed : ℕ → Bytes → Option Limit
bracketed b key = if b == 93 then option_map included (key_of key) else (if b == 41 then option_map excluded (key_of key) else None)

pub high-unlimited : (word : Bytes) → true ≡ bytes_eq word (codes "*") → Some unlimited ≡ high_of word
high-unlimited word star = ap (λ t. if t then Some unlimited else bracketed (get_or word (length word - 1) 0) (before_last word)) star

pub high-bracketed : (word key : Bytes) (b : ℕ) → false ≡ bytes_eq word (codes "*") → word ≡ key ++ b ∷ [] → bracketed b key ≡ high_of word
high-bracketed word key b other is =
    let at_end : length (key ++ b ∷ []) - 1 ≡ length key = omega (arith, length-append key (b ∷ [])) in
    let last : b ≡ get_or word (length word - 1) 0 =
    sym (ap (λ (w : Bytes). get_or w (length w - 1) 0) is ∙ ap (λ (i : ℕ). get_or (key ++ b ∷ []) i 0) at_end ∙ get_or-append_seam key b [] 0) in
    let before : key ≡ before_last word = sym (ap before_last is ∙ ap (λ (i : ℕ). take i (key ++ b ∷ [])) at_end ∙ take-append_seam key (b ∷ [])) in
    ap (λ k. bracketed b k) before ∙ ap (λ b. bracketed b (before_last word)) last
    ∙ ap (λ t. if t then Some unlimited else bracketed (get_or word (length word - 1) 0) (before_last word)) other
