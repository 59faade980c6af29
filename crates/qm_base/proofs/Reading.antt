-- What reads of a log leave, one after another.
use Rattle.std.proofs.Common.{◌≡◌, ◌<◌, ◌∙◌, refl, subst, sym, inl, inr}
use Rattle.std.specs.Prelude.{Result, Ok, Err, IfErr}
use Rattle.qm_base.specs.declared.error.Error.{Error}
use Rattle.qm_base.specs.declared.error.Error.TheVariants as errors
use Rattle.qm_base.specs.Reads.{ItemsTold, IsItemError, IsOfKeptItem, KeepsItems, ReadsItems}

-- want of memory is no missing item
pub memory-kept : IsOfKeptItem errors.Memory
memory-kept n e = cc

module _ {L : Type 0} (reads : ItemsTold L) where
  pub read-none : ((a : L) → reads.keeps a a) → (a : L) → KeepsItems reads a a
  read-none unread a = record { stands = λ list is. is; start = refl; told = refl; keeps = unread a }

  pub read-then : ((a b c : L) → reads.keeps a b → reads.keeps b c → reads.keeps a c) → (a b c : L) → KeepsItems reads a b → KeepsItems reads b c → KeepsItems reads a c
  read-then again a b c before after = record {
    stands = λ list is. after.stands list (before.stands list is);
    start = after.start ∙ before.start;
    told = after.told ∙ before.told;
    keeps = again a b c before.keeps after.keeps;
  }

  -- an error after reads
  pub error-then : ((a b c : L) → reads.keeps a b → reads.failed b c → reads.failed a c) → (a b c : L) (e : Error) → KeepsItems reads a b → IsItemError reads b c e → IsItemError reads a c e
  error-then later a b c e before (inl memory) = inl memory
  error-then later a b c e before (inr (inl (fault, failed))) = inr (inl (fault, later a b c before.keeps failed))
  error-then later a b c e before (inr (inr (n, below, is))) = inr (inr (n, subst (λ t. n < t) before.start below, is))

  -- a call that answered after its reads, or found no memory
  pub reads-short : {A : Type 0} {old new : L} {there : Type 0} (r : Result A Error) → KeepsItems reads old new → IfErr r (λ e. e ≡ errors.Memory) → ReadsItems reads old new r there
  reads-short (Ok x) left short = record { left = left; error = tt; whole = λ _. tt }
  reads-short (Err e) left short = record { left = left; error = inl short; whole = λ _ n same. memory-kept n (sym short ∙ same) }

  -- the error of a call that is handed on
  pub reads-on : {A B : Type 0} {old new : L} {there : Type 0} (r : Result B Error) {e y : Error} → ReadsItems {A = A} reads old new (Err e) there → r ≡ Err y → y ≡ e → ReadsItems reads old new r there
  reads-on r did is same = record {
    left = did.left;
    error = rw (is, same) did.error;
    whole = λ all. rw (is, same) (did.whole all);
  }

  -- what it reads is there
  pub reads-where : {A : Type 0} {old new : L} {there within : Type 0} (r : Result A Error) → (there → within) → ReadsItems reads old new r within → ReadsItems reads old new r there
  reads-where r comes did = record { left = did.left; error = did.error; whole = λ all. did.whole (comes all) }

  -- a call that reads after reads
  pub reads-then : ((a b c : L) → reads.keeps a b → reads.keeps b c → reads.keeps a c) → ((a b c : L) → reads.keeps a b → reads.failed b c → reads.failed a c)
      → {A : Type 0} {old mid new : L} {there within : Type 0} (r : Result A Error) → KeepsItems reads old mid → (there → within) → ReadsItems reads mid new r within → ReadsItems reads old new r there
  reads-then again later {A} {old} {mid} {new} r before comes after = record {
    left = read-then again old mid new before after.left;
    error = by r after.error;
    whole = λ all. after.whole (comes all);
  }
    where
      by : (r : Result A Error) → IfErr r (IsItemError reads mid new) → IfErr r (IsItemError reads old new)
      by (Ok x) e = tt
      by (Err e) is = error-then later old mid new e before is
