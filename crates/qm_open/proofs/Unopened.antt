-- Why an opening fails, whatever its store tells.
use Rattle.std.proofs.Common.{◌≡◌, ◌⊎◌, ◌∙◌, inl, inr, ℕ, ◌<◌, ◌≤◌, Bool, true, false, Option, Some, None, ap, refl, sym}
use Rattle.std.specs.Prelude.{IfSome, IsSome, ◌==◌, ◌&&◌, option_map}
use Rattle.std.specs.Option.{option_or, option_map_or}
use Rattle.qm_model.specs.Forms.{Form}
use Rattle.qm_model.specs.Opening as opening
use Rattle.qm_model.specs.Opening.{when}
use Rattle.qm_model.specs.Refused.{Refused, InvalidInitializationBound}
use Rattle.qm_base.specs.declared.error.Corrupt.TheVariants as corrupt
use Rattle.qm_base.specs.declared.error.Error.{Error}
use Rattle.qm_base.specs.declared.error.Error.TheVariants as errors
use Rattle.qm_base.specs.declared.error.JournalError.TheVariants as journal
use Rattle.qm_store.specs.declared.Store as store
use Rattle.qm_store.specs.Log.{Log}
use Rattle.qm_store.specs.Refusals.{refusal_of, IsDue}
use Rattle.qm_build.specs.Reads.{IsRebuildError}
use Rattle.qm_open.specs.declared.pruned.Pruned.{Pruned}
use Rattle.qm_open.specs.declared.select.Selected.{Selected}
use Rattle.qm_open.specs.Selecting.{selected_refusal, selected_view}
use Rattle.qm_open.specs.Unopened.{early_refusal, IsFailure, IsUnfinished, MayKeep}

-- what is due of a named refusal is that
pub named-failure : (e : Error) (due : Option Refused) → IsSome (refusal_of e) → IsDue e due → IsFailure e due
named-failure e due some is = inr (inr (by (refusal_of e) refl some is))
  where
    by : (o : Option Refused) → refusal_of e ≡ o → IsSome o → IfSome o (λ r. due ≡ Some r) → (r : Refused) × (refusal_of e ≡ Some r) × (due ≡ Some r)
    by None told some is = absurd (cc some)
    by (Some r) told some is = (r, told, is)

-- want of memory and a failing store are failures whatever is due
pub plain-failure : (e : Error) (due : Option Refused) → (e ≡ errors.Memory) ⊎ (e ≡ errors.Journal journal.Store) → IsFailure e due
plain-failure e due (inl memory) = inl memory
plain-failure e due (inr fault) = inr (inl fault)

-- a bound of 0 is refused first
pub zero-first : (b : Bool) (behind : Option Refused) → b ≡ true → option_or (when b InvalidInitializationBound) behind ≡ Some InvalidInitializationBound
zero-first b behind is = rw is refl

-- where it is no 0, what is refused early is the commit that was found
pub early-found : (pruned : Option Pruned) (bound : Option ℕ) (start end first last : ℕ) (at found : Option Selected) → first ≡ start → last ≡ end → option_map_or (λ n. n == 0) bound false ≡ false → at ≡ found
    → early_refusal pruned bound start end (option_map selected_view at) ≡ selected_refusal first (first == 0 && last == 0) pruned (option_map selected_view found)
early-found pruned bound start end first last at found starts ends some same =
    ap (λ b. option_or (when b InvalidInitializationBound) (selected_refusal start (start == 0 && end == 0) pruned (option_map selected_view at))) some
    ∙ ap (λ n. selected_refusal n (n == 0 && end == 0) pruned (option_map selected_view at)) (sym starts)
    ∙ ap (λ n. selected_refusal first (first == 0 && n == 0) pruned (option_map selected_view at)) (sym ends)
    ∙ ap (λ c. selected_refusal first (first == 0 && last == 0) pruned (option_map selected_view c)) same

-- a commit that was found may be kept
pub found-kept : (start end : ℕ) (found : Option Selected) → IfSome found (λ c. (start < c.size) × (c.size ≤ end)) → MayKeep start end (option_map selected_view found)
found-kept start end None within = tt
found-kept start end (Some c) within = within

-- why what a store has beside a commit is not read
pub opened-unfinished : (form : Form) (at : opening.Selected) (e : Error)
    → (e ≡ errors.Memory) ⊎ ((e ≡ errors.Journal journal.Store) ⊎ ((e ≡ errors.DataCorrupted corrupt.HeadDoesNotMatch) ⊎ (e ≡ errors.DataCorrupted corrupt.ItemDoesNotDecode))) → IsUnfinished form (Some at) e
opened-unfinished form at e (inl memory) = inl memory
opened-unfinished form at e (inr (inl fault)) = inr (inl fault)
opened-unfinished form at e (inr (inr (inl head))) = inr (inr (inl head))
opened-unfinished form at e (inr (inr (inr item))) = inr (inr (inr (refl, inl item)))

-- and why its links are refused
pub links-unfinished : {C D : Type 0} (members : store.Ghosts C) (old new : Log C D) (form : Form) (at : opening.Selected) (e : Error)
    → IsRebuildError members old new e ⊎ ((form.ordered ≡ true) × (e ≡ errors.DataCorrupted corrupt.LinksFormNoRing)) → IsUnfinished form (Some at) e
links-unfinished members old new form at e (inl (inl (inl memory))) = inl memory
links-unfinished members old new form at e (inl (inl (inr (fault, rose)))) = inr (inl fault)
links-unfinished members old new form at e (inl (inr item)) = inr (inr (inr (refl, inl item)))
links-unfinished members old new form at e (inr (kind, links)) = inr (inr (inr (refl, inr (kind, links))))

-- want of memory and a failing store end any opening
pub plain-unfinished : (form : Form) (at : Option opening.Selected) (e : Error) → (e ≡ errors.Memory) ⊎ (e ≡ errors.Journal journal.Store) → IsUnfinished form at e
plain-unfinished form at e (inl memory) = inl memory
plain-unfinished form at e (inr fault) = inr (inl fault)

-- and why an empty log is not made
pub fresh-unfinished : (form : Form) (e : Error) → (e ≡ errors.Memory) ⊎ ((e ≡ errors.Journal journal.Store) ⊎ (e ≡ errors.DataCorrupted corrupt.HeadDoesNotMatch)) → IsUnfinished form None e
fresh-unfinished form e (inl memory) = inl memory
fresh-unfinished form e (inr (inl fault)) = inr (inl fault)
fresh-unfinished form e (inr (inr head)) = inr (inr (inl head))
