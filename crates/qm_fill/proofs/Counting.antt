-- Counts in parts.
use Rattle.std.proofs.Common.{◌≡◌, ℕ, ◌+◌, cond, List, [], ◌∷◌, ◌++◌, sym, ap, ◌∙◌, append_assoc, append-nil, length-append, arith}
use Rattle.std.proofs.lemmas.Grind.{flat_map-append}
use Rattle.std.proofs.lemmas.List.Sums.{sum_by-append}
use Rattle.qm_model.specs.Operations.{Bytes}
use Rattle.qm_machine.specs.Lines.{Line, Answer}
use Rattle.qm_fill.specs.Summary.{Counts, Exchange, counts_of, both, is_refusal, is_refused, shown_line}

abbrev made : ℕ → ℕ → Bytes → Counts
made commands refused shown = record { commands = commands; refused = refused; shown = shown }

same_counts : {a b c d : ℕ} {x y : Bytes} → a ≡ b → c ≡ d → x ≡ y → made a c x ≡ made b d y
same_counts {b = b} {c = c} {d = d} {x = x} p q r = ap (λ n. made n c x) p ∙ ap (λ n. made b n x) q ∙ ap (made b d) r

pub counts_of-append : {P : Type 0} (a b : List (Exchange P)) → counts_of (a ++ b) ≡ both (counts_of a) (counts_of b)
unfolding counts_of both
counts_of-append a b = same_counts (length-append a b) (sum_by-append (λ e. cond (is_refused e) 1 0) a b) (flat_map-append shown_line a b)

pub both-assoc : (a b c : Counts) → both (both a b) c ≡ both a (both b c)
unfolding both
both-assoc a b c = same_counts (omega arith) (omega arith) (append_assoc a.shown b.shown c.shown)

pub both-none : (P : Type 0) (a : Counts) → both a (counts_of {P = P} []) ≡ a
unfolding both counts_of
both-none P a = same_counts (omega arith) (omega arith) (append-nil a.shown)

-- one exchange more
pub counted_one : {P : Type 0} (a : Counts) (line : Line P) (answer : Answer) (refusals : ℕ) (shown : Bytes) → refusals ≡ cond (is_refusal answer) 1 0 → shown ≡ a.shown ++ shown_line (line, answer)
    → made (a.commands + 1) (a.refused + refusals) shown ≡ both a (counts_of ((line, answer) ∷ []))
unfolding both counts_of
counted_one a line answer refusals shown counted adds =
    let refused : a.refused + refusals ≡ a.refused + (0 + cond (is_refusal answer) 1 0) = omega (arith, counted) in
    same_counts (omega arith) refused (adds ∙ ap (λ t. a.shown ++ t) (sym (append-nil (shown_line (line, answer)))))

pub one-command : {P : Type 0} (a b : Counts) (e : Exchange P) → b ≡ both a (counts_of (e ∷ [])) → b.commands ≡ a.commands + 1
unfolding both counts_of
one-command a b e is = ap (λ (c : Counts). c.commands) is
