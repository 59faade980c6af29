use Rattle.std.proofs.Common.{arith, ◌∙◌, ap, refl, Some}
use Rattle.std.specs.Prelude.{option_map}
use Rattle.std.proofs.lemmas.Iterator.Adapters.{option_map_id}
use Rattle.std.proofs.lemmas.Result.{err_from_is_err_and}
use Rattle.qm_machine.specs.Lines.{Merkleize}
use Rattle.qm_machine.specs.Grammar.{merkleize_of}
use Rattle.qm_lines.specs.Policies.{policy_view}
use Rattle.qm_lines.proofs.Readings.{unread-of}
use Rattle.qm_lines.proofs.Resolutions.{merkleize-lent}
use Rattle.qm_lines.proofs.Steps.{under_three, over_three}
use Rattle.qm_lines.proofs.parse.merkleize.merkleize.Goals.{in_default-via-then-words-lt3, in_default-via-else-words-lt3+else-words-lt4}
use Rattle.qm_lines.proofs.parse.merkleize.merkleize.Goals as goal

pub returns-in_err-m : goal.returns-in_err-m
returns-in_err-m c =
    let exit = err_from_is_err_and c.from_residual.result c.from_residual.ensures.1 in
    rw (exit.1, exit.2) (unread-of (option_map (λ m. Merkleize m.0 m.1 m.2)) refl _ _ (merkleize-lent c.args.words.now _ c.in-len3.len_at_least c.in-len3.len_below _ refl) _ c.in_err-m.ensures)

pub returns : goal.returns
returns c =
    let m = c.in_ok-m.m in
    ap (λ v. Some (Merkleize m.handle (policy_view m.policy) v)) (option_map_id m.metadata)
    ∙ merkleize-lent c.args.words.now _ c.in-len3.len_at_least c.in-len3.len_below _ c.in_ok-m.ensures

pub returns-in_default : goal.returns-in_default
returns-in_default c = elim c.in_default.branch [
  | in_default-via-then-words-lt3 w ↦ under_three merkleize_of refl (λ a. refl) (λ a b. refl) c.args.words.now (grind arith)
  | in_default-via-else-words-lt3+else-words-lt4 w ↦ over_three merkleize_of (λ a b c d words. refl) c.args.words.now (grind arith)
]
