-- What is told grows piece by piece.
use Rattle.std.proofs.Common.{◌+◌, ℕ, List, [], ◌++◌, take, drop, Option, Some, None, Err, sym, ◌∙◌, ap, subst, append_assoc, append-nil}
use Rattle.std.proofs.Math.Seq.{take-add}
use Rattle.qm_model.specs.Causes.{Grows, GrowsPart}
use Rattle.qm_lines.specs.Ports.{Takes}
use Rattle.qm_lines.specs.declared.ports.SinkError.{SinkError}
use Rattle.qm_lines.specs.declared.ports.SinkError.TheVariants.{Memory, Failed}

pub Grows-trans : (a b c : Option (List ℕ)) (xs ys : List ℕ) → Grows a b xs → Grows b c ys → Grows a c (xs ++ ys)
Grows-trans None b c xs ys p q = tt
Grows-trans (Some old) b c xs ys p q = subst (λ m. Grows m c ys) p q ∙ ap Some (append_assoc old xs ys)

module _ (a b c : Option (List ℕ)) (at : ℕ) (text : List ℕ) (written : Grows a b (take at text)) where
  -- n bytes more
  pub Grows-further : (n : ℕ) → Grows b c (take n (drop at text)) → Grows a c (take (at + n) text)
  Grows-further n p =
      subst (Grows a c) (sym (take-add at n text)) (Grows-trans a b c (take at text) (take n (drop at text)) written p)

  -- an error on the rest
  pub GrowsPart-at_err : (e : SinkError) → Takes b c (Err e) (drop at text) → GrowsPart a c text
  GrowsPart-at_err Failed p = (at + p.0, Grows-further p.0 p.1)
  GrowsPart-at_err Memory p = (at, subst (Grows a c) (append-nil (take at text)) (Grows-trans a b c (take at text) [] written p))
