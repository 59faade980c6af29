-- Whether a call is one of those that fail.
use Rattle.std.proofs.Common.{◌≡◌, ℕ, Bool, true, false, eqb, List, Decides, refl, sym, ◌∙◌, arith}
use Rattle.std.specs.Prelude.{Contains}
use Rattle.std.specs.List.{IsAnyAnswer}
use Rattle.std.proofs.lemmas.Bool.{false≢true}
use Rattle.std.proofs.lemmas.Bool.Decides.{Decides-eqb}

pub Decides-failing : (fail : List ℕ) (call : ℕ) (r : Bool) → IsAnyAnswer (λ y t. eqb y call ≡ t) fail r → Decides r (Contains fail call)
Decides-failing fail call true h = (λ _. (h.0, h.1, (Decides-eqb _ _).0 (h.2 call)), λ _. refl)
Decides-failing fail call false h = (λ e. absurd (false≢true e), λ w. sym (h w.0 call (omega arith) w.1) ∙ (Decides-eqb _ _).1 w.2)
