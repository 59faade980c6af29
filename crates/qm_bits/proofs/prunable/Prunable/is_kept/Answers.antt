use Rattle.std.proofs.Common.{◌≡◌, ℕ, ◌<◌, ◌≤◌, inl, inr, false, true, ltb, leb, arith}
use Rattle.std.proofs.lemmas.Bool.{ltb-true, ltb-false, leb-true}
use Rattle.qm_bits.proofs.prunable.Prunable.is_kept.Goals as goal

-- a place is not before the first kept bit, and has a bit
inside : (first count start len at : ℕ) → start ≡ first → len ≡ count → start ≤ at → ltb at len ≡ true → (first ≤ at) × (at < count)
inside first count start len at from whole low before = let high = ltb-true at len before in (omega arith, omega arith)

past : (count len at : ℕ) → len ≡ count → ltb at len ≡ false → count ≤ at
past count len at whole behind = let high = ltb-false at len behind in omega arith

-- it is before that
not_before : (start at : ℕ) → at < start → leb start at ≡ true → ⊥
not_before start at low from = let high = leb-true start at from in omega arith

pub returns-then-start-at : goal.returns-then-start-at
returns-then-start-at g c = record {
  yes = inside _ _ c.start.result c.len.result c.args.at c.start.ensures.value c.len.ensures.value c.if-start-at.true;
  no = λ behind. inr (past _ c.len.result c.args.at c.len.ensures.value behind);
}

pub returns-else-start-at : goal.returns-else-start-at
returns-else-start-at g c = record {
  yes = λ from. absurd (not_before c.start.result c.args.at c.if-start-at.false from);
  no = λ before. inl (omega (arith, c.start.ensures.value, c.if-start-at.false));
}
