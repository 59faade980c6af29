-- Why a current database's opening fails, whatever its store tells.
use Rattle.std.proofs.Common.{◌≡◌, ◌⊎◌, inl, inr, ◌∙◌, ◌*◌, ◌^◌, ◌≤◌, ℕ, true, false, List, [], ap, subst, refl, Option, Some}
use Rattle.std.specs.Prelude.{◌==◌, option_map}
use Rattle.std.specs.Option.{option_or, option_map_or}
use Rattle.qm_model.specs.Grafted.{pair_absorption_threshold}
use Rattle.qm_model.specs.Opening as model
use Rattle.qm_model.specs.Opening.{metadata_refusal, when}
use Rattle.qm_model.specs.Refused as refusals
use Rattle.qm_model.specs.Refused.{InvalidInitializationBound}
use Rattle.qm_model.specs.StoreModel.{Entry}
use Rattle.qm_base.specs.declared.error.Error.{Error}
use Rattle.qm_base.specs.declared.error.Error.TheVariants as errors
use Rattle.qm_base.specs.declared.error.JournalError.TheVariants as journal
use Rattle.qm_base.specs.Views.{corrupt_view}
use Rattle.qm_graft.specs.Grafting.{grafting}
use Rattle.qm_store.specs.Refusals.{refusal_of}
use Rattle.qm_pinned.specs.Metadata.{TellsWhy}
use Rattle.qm_open.specs.Unopened as any
use Rattle.qm_any.specs.Opening.{pruned_view}
use Rattle.qm_current.specs.Opening.{IsUncounted, IsUnfit, IsUnopened}

-- a bound of 0 is refused before metadata is read
pub zero-uncounted : (layout : model.Layout) (bound : Option ℕ) → option_map_or (λ n. n == 0) bound false ≡ true → IsUncounted layout bound errors.InvalidInitializationBound
zero-uncounted layout bound is =
    ([], inr (inr (InvalidInitializationBound, refl, ap (λ b. option_or (when b InvalidInitializationBound) (option_map refusals.DataCorrupted (metadata_refusal layout []))) is)))

-- a store's call that fails tells no entries
pub plain-uncounted : (layout : model.Layout) (bound : Option ℕ) (e : Error) → (e ≡ errors.Memory) ⊎ (e ≡ errors.Journal journal.Store) → IsUncounted layout bound e
plain-uncounted layout bound e (inl memory) = ([], inl memory)
plain-uncounted layout bound e (inr fault) = ([], inr (inl fault))

-- what is wrong with entries is why they are not read
pub damaged-uncounted : (layout : model.Layout) (bound : Option ℕ) (entries : List Entry) (e : Error) → option_map_or (λ n. n == 0) bound false ≡ false → TellsWhy e (metadata_refusal layout entries) → IsUncounted layout bound e
damaged-uncounted layout bound entries e some (inl memory) = (entries, inl memory)
damaged-uncounted layout bound entries e some (inr (c, is, why)) = (
  entries,
  inr (inr (
    refusals.DataCorrupted (corrupt_view c),
    ap refusal_of is,
    ap (λ b. option_or (when b InvalidInitializationBound) (option_map refusals.DataCorrupted (metadata_refusal layout entries))) some ∙ ap (option_map refusals.DataCorrupted) why,
  )),
)

module _ (layout : model.Layout) (chunk : ℕ) (bound : Option ℕ) (count : ℕ) (few : count * 2 ^ grafting chunk ≤ 2 ^ 62) (threshold : Option ℕ) (waits : threshold ≡ pair_absorption_threshold layout.shape (grafting chunk) count) where
  -- an any database that is not opened
  pub any-unopened : (start end : ℕ) (e : Error) → any.IsUnopened layout.form (Some (pruned_view chunk (count, threshold))) bound start end e → IsUnopened layout chunk bound start end e
  any-unopened start end e failed = inr (count, few, inl (subst (λ t. any.IsUnopened layout.form (Some (pruned_view chunk (count, t))) bound start end e) waits failed))

  -- a grafted tree that is not made over one
  pub joined-unopened : (start end from size pruned : ℕ) (other : Option ℕ) (e : Error) → from ≡ start → pruned ≡ count → other ≡ threshold → (e ≡ errors.Memory) ⊎ IsUnfit e chunk other from size pruned → IsUnopened layout chunk bound start end e
  joined-unopened start end from size pruned other e begins counted alike (inl memory) = inl (plain-uncounted layout bound e (inl memory))
  joined-unopened start end from size pruned other e begins counted alike (inr unfit) =
      inr (
        count,
        few,
        inr (
          size,
          subst (λ n. IsUnfit e chunk (pair_absorption_threshold layout.shape (grafting chunk) count) n size count) begins
              (subst (λ n. IsUnfit e chunk (pair_absorption_threshold layout.shape (grafting chunk) count) from size n) counted
              (subst (λ t. IsUnfit e chunk t from size pruned) (alike ∙ waits) unfit)),
        ),
      )
