-- What comes of a merkleize, by what a database of either kind says of it.
use Rattle.std.proofs.Common.{◌≡◌, ◌≢◌, ◌∙◌, ◌⊎◌, ℕ, Bool, true, false, List, Option, None, Some, ap, sym, subst, refl}
use Rattle.std.specs.Prelude.{⊤, IfSome, Result, Ok, Err, IfOk, IfErr}
use Rattle.qm_model.specs.Batches.{Chain, IsOnChain}
use Rattle.qm_model.specs.Operations.{Operation}
use Rattle.qm_model.specs.Refusals.{tip_refusal}
use Rattle.qm_model.specs.Refused.{Refused}
use Rattle.qm_base.specs.declared.error.Error.{Error}
use Rattle.qm_base.specs.declared.error.Error.TheVariants as errors
use Rattle.qm_store.specs.declared.Store as store
use Rattle.qm_store.specs.Log.{Log}
use Rattle.qm_store.specs.Reads.{IsReadError}
use Rattle.qm_store.specs.Refusals.{refusal_of}
use Rattle.qm_any.specs.Reading.{IsOfKeptItem}
use Rattle.qm_any.specs.Tips.{IsTaken, IsRefused}
use Rattle.qm_any.proofs.Offered.{refused-due, taken-offered}
use Rattle.qm_databases.specs.Words.{Fits, Makes, Means, Takes}

none-some : (r : Refused) → None ≡ Some r → ⊥
none-some r is = cc

some-told : (o : Option Refused) (P : Refused → Type 0) → ((r : Refused) → o ≡ Some r → P r) → IfSome o P
some-told None P give = tt
some-told (Some r) P give = give r refl

-- It makes its own list, which is this one, if it can be made at the database's state.
pub makes : {X C B M D : Type 0} (means : Means X C B M) (members : store.Ghosts C) (old : X) (was is : Log C D) (list : List Operation) (chain : Chain) (own tip : List Operation) (r : Result M Error) (can : Bool)
    → own ≡ tip
    → (can ≡ true → Takes means old chain)
    → (can ≡ true → Fits means list chain)
    → (can ≡ false → (n : ℕ) → means.numbered old n → means.takes n chain.instance ≡ true → IsOnChain list chain → ⊥)
    → IfOk r (λ _. can ≡ true)
    → (can ≡ true → IsOnChain list chain → IfOk r (λ b. means.is_merkleized b chain own))
    → (can ≡ true → IsOnChain list chain → IfOk r (λ _. IsTaken means.form chain.base own))
    → (can ≡ true → IsOnChain list chain → IfErr r (λ e. IsRefused means.form chain.base own e ⊎ IsReadError members was is e))
    → IfErr r (λ e. e ≡ errors.StaleBatch → can ≡ false)
    → IfErr r (λ e. e ≢ errors.Memory → e ≢ errors.StaleBatch → can ≡ true)
    → (IsOnChain list chain → IfErr r IsOfKeptItem)
    → Makes means old list chain tip r
makes means members old was is list chain own tip (Ok b) can same took fit off fitted made taken refused stale order whole = record {
  instance = took fitted;
  fit = fit fitted;
  made = λ here. (
    taken-offered means.form chain tip (subst (λ t. IsTaken means.form chain.base t) same (taken fitted here)),
    subst (λ t. means.is_merkleized b chain t) same (made fitted here),
  );
  stale = tt;
  refused = tt;
}
makes means members old was is list chain own tip (Err e) can same took fit off fitted made taken refused stale order whole = record {
  instance = tt;
  fit = tt;
  made = tt;
  stale = λ left. off (stale left);
  refused = λ fresh.
      some-told (refusal_of e) (λ r. Takes means old chain × Fits means list chain × (IsOnChain list chain → tip_refusal means.form chain tip ≡ Some r)) (λ r told.
      let on = order (λ memory. none-some r (sym (ap refusal_of memory) ∙ told)) fresh in
      let due =
      refused-due means.form chain tip members was is ⊤ ⊤ (IsOnChain list chain) e fresh whole
      (λ here. subst (λ t. IsRefused means.form chain.base t e ⊎ IsReadError members was is e) same (refused on here)) tt (λ memory. tt)
      in
      let at = subst (λ o. IfSome o (λ x. ⊤ × ⊤ × (IsOnChain list chain → tip_refusal means.form chain tip ≡ Some x))) told due in
      (took on, fit on, at.2));
}
