-- Why an opening fails, whatever its store tells.
use Rattle.std.specs.Prelude.{◌≡◌, ◌⊎◌, ◌≤◌, ◌<◌, ℕ, ◌==◌, ◌&&◌, false, true, Option, None, Some, IfSome, IsSome}
use Rattle.std.specs.Option.{option_or, option_map_or}
use Rattle.qm_model.specs.Forms.{Form}
use Rattle.qm_model.specs.Opening as opening
use Rattle.qm_model.specs.Opening.{when}
use Rattle.qm_model.specs.Refused.{Refused, InvalidInitializationBound}
use Rattle.qm_base.specs.declared.error.Corrupt.TheVariants.{HeadDoesNotMatch, ItemDoesNotDecode, LinksFormNoRing}
use Rattle.qm_base.specs.declared.error.Error.{Error}
use Rattle.qm_base.specs.declared.error.Error.TheVariants.{Memory, DataCorrupted, Journal}
use Rattle.qm_base.specs.declared.error.JournalError.TheVariants as journal
use Rattle.qm_store.specs.Refusals.{refusal_of}
use Rattle.qm_open.specs.declared.pruned.Pruned.{Pruned}
use Rattle.qm_open.specs.Selecting.{selected_refusal}

-- an error is want of memory, a failing store, or this refusal
abbrev pub IsFailure : Error → Option Refused → Type 0
IsFailure e due = (e ≡ Memory) ⊎ ((e ≡ Journal journal.Store) ⊎ ((r : Refused) × (refusal_of e ≡ Some r) × (due ≡ Some r)))

-- a store of this start and end may keep this commit
abbrev pub MayKeep : ℕ → ℕ → Option opening.Selected → Type 0
MayKeep start end at = IfSome at (λ c. (start < c.size) × (c.size ≤ end))

-- why such a store, of which these chunks are pruned, is refused up to a bound where it keeps that commit, before what it has beside that is
-- looked at
abbrev pub early_refusal : Option Pruned → Option ℕ → ℕ → ℕ → Option opening.Selected → Option Refused
early_refusal pruned bound start end at = option_or (when (option_map_or (λ n. n == 0) bound false) InvalidInitializationBound) (selected_refusal start (start == 0 && end == 0) pruned at)

-- why no commit of such a store is selected
abbrev pub IsUnselected : Option Pruned → Option ℕ → ℕ → ℕ → Error → Type 0
IsUnselected pruned bound start end e = (at : Option opening.Selected) × MayKeep start end at × IsFailure e (early_refusal pruned bound start end at)

-- why what it has beside a commit is refused: its head or, where there is a commit, an item, or the links of an ordered list
abbrev pub IsDamage : Form → Option opening.Selected → Error → Type 0
IsDamage form at e = (e ≡ DataCorrupted HeadDoesNotMatch) ⊎ (IsSome at × ((e ≡ DataCorrupted ItemDoesNotDecode) ⊎ ((form.ordered ≡ true) × (e ≡ DataCorrupted LinksFormNoRing))))

-- why the list that ends with a commit, or the fresh one, is not opened
abbrev pub IsUnfinished : Form → Option opening.Selected → Error → Type 0
IsUnfinished form at e = (e ≡ Memory) ⊎ ((e ≡ Journal journal.Store) ⊎ IsDamage form at e)

-- Why a store of this start and end is not opened up to a bound: for some commit that it may keep, or for none, want of memory, a failing
-- store or an early refusal, or, where there is none of those, what it has beside that commit.
abbrev pub IsUnopened : Form → Option Pruned → Option ℕ → ℕ → ℕ → Error → Type 0
IsUnopened form pruned bound start end e =
    (at : Option opening.Selected) × MayKeep start end at × (IsFailure e (early_refusal pruned bound start end at) ⊎ ((early_refusal pruned bound start end at ≡ None) × IsUnfinished form at e))
