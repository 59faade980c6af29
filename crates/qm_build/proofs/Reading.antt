-- What reads of a log leave.
use Rattle.std.proofs.Common.{◌≡◌, ◌≢◌, ◌⊎◌, ◌<◌, ◌≤◌, ℕ, zero, suc, List, [], ◌∷◌, map, refl, ◌∙◌, subst, Option, Some, arith, ap, inl, inr, Result, Err}
use Rattle.std.specs.Prelude.{All, IfSome, slice_get}
use Rattle.std.proofs.lemmas.List.Elements.{All-head, All-tail}
use Rattle.qm_model.specs.Causes.{IsCause, Rose}
use Rattle.qm_model.specs.Operations.{Bytes, Operation}
use Rattle.qm_model.specs.Trees.{Shape}
use Rattle.qm_model.specs.Forms.{Form, IsOf, IsSpelling, spelling}
use Rattle.qm_base.specs.declared.error.Corrupt.TheVariants.{ItemDoesNotDecode}
use Rattle.qm_base.specs.declared.error.Error.{Error}
use Rattle.qm_base.specs.declared.error.Error.TheVariants as errors
use Rattle.qm_base.specs.declared.error.JournalError.TheVariants as journal
use Rattle.qm_store.specs.declared.Store as store
use Rattle.qm_store.specs.Log.{Log}
use Rattle.qm_store.proofs.Stores.{kept-then}
use Rattle.qm_build.specs.Reads.{HasOperations, KeepsLog, IsReadFault, IsRebuildError}

rose-later : (a b c : ℕ) → a ≤ b → Rose b c → Rose a c
rose-later a b c later rose = omega (arith, later, rose)

module _ {C D : Type 0} (members : store.Ghosts C) (shape : Shape) (bytes : D → Bytes) (hash : Bytes → Bytes) where
  pub read-none : (a : Log C D) → KeepsLog members shape bytes hash a a
  read-none a = record { stands = λ list is. is; tree = refl; kept = record { start = refl; end = refl; told = refl }; later = omega arith }

  pub read-then : (a b c : Log C D) → KeepsLog members shape bytes hash a b → KeepsLog members shape bytes hash b c → KeepsLog members shape bytes hash a c
  read-then a b c before after =
      let first = before.later in
      let second = after.later in
      record {
        stands = λ list is. after.stands list (before.stands list is);
        tree = after.tree ∙ before.tree;
        kept = kept-then members a.store b.store c.store before.kept after.kept;
        later = omega (arith, first, second);
      }

  -- a failure after reads
  pub fault-then : (a b c : Log C D) (e : Error) → KeepsLog members shape bytes hash a b → IsReadFault members b c e → IsReadFault members a c e
  fault-then a b c e before (inl memory) = inl memory
  fault-then a b c e before (inr (fault, rose)) = inr (fault, rose-later (members.faults a.store) (members.faults b.store) (members.faults c.store) before.later rose)

  pub error-then : (a b c : Log C D) (e : Error) → KeepsLog members shape bytes hash a b → IsRebuildError members b c e → IsRebuildError members a c e
  error-then a b c e before (inl fault) = inl (fault-then a b c e before fault)
  error-then a b c e before (inr decodes) = inr decodes

  -- reads leave the operations
  pub operations-then : (form : Form) (a b : Log C D) (ops : List Operation) → KeepsLog members shape bytes hash a b → HasOperations members shape bytes hash form a ops → HasOperations members shape bytes hash form b ops
  operations-then form a b ops read has = record { logged = read.stands _ has.logged; of = has.of }

-- what is told of a store that keeps what it has
pub told : {X : Type 0} (P : Type 0) (o before : Option X) → o ≡ before → IfSome o (λ _. P) → IfSome before (λ _. P)
told P o before same h = subst (λ x. IfSome x (λ _. P)) same h

-- the bytes at a location among spellings spell the operation there
pub spelled-there : (form : Form) (ops : List Operation) (at : ℕ) (bs : Bytes) → All (IsOf form) ops → slice_get (map (spelling form) ops) at ≡ Some bs → (op : Operation) × (slice_get ops at ≡ Some op) × IsSpelling form bs op
spelled-there form [] at bs all is = cc
spelled-there form (op ∷ rest) zero bs all is =
    let same : spelling form op ≡ bs = cc in
    (op, refl, record { of = All-head (IsOf form) op rest all; spelled = same })
spelled-there form (op ∷ rest) (suc at) bs all is = spelled-there form rest at bs (All-tail (IsOf form) op rest all) is

-- an error tells of the store only if its count of faults rose
pub caused : {C D : Type 0} (members : store.Ghosts C) (a b c : Log C D) (e : Error) → members.faults a.store ≤ members.faults b.store → members.faults b.store ≤ members.faults c.store → IsRebuildError members b c e
    → IsCause (members.faults a.store) (members.faults c.store) (e ≡ errors.Journal journal.Store)
caused members a b c e before after failed = record { later = omega (arith, before, after); failed = by failed }
  where
    by : IsRebuildError members b c e → e ≡ errors.Journal journal.Store → Rose (members.faults a.store) (members.faults c.store)
    by (inl (inl memory)) is = cc
    by (inl (inr (fault, rose))) is = rose-later (members.faults a.store) (members.faults b.store) (members.faults c.store) before rose
    by (inr lost) is = cc

-- the errors that reads fail with
pub which-error : {C D : Type 0} (members : store.Ghosts C) (a b : Log C D) (e : Error) → IsRebuildError members a b e → (e ≡ errors.Memory) ⊎ ((e ≡ errors.Journal journal.Store) ⊎ (e ≡ errors.DataCorrupted ItemDoesNotDecode))
which-error members a b e (inl (inl memory)) = inl memory
which-error members a b e (inl (inr (fault, rose))) = inr (inl fault)
which-error members a b e (inr lost) = inr (inr lost)

-- a read's fault is no item that spells no operation
pub decodes-anyway : {C D : Type 0} (members : store.Ghosts C) (a b : Log C D) (e : Error) → IsReadFault members a b e → e ≢ errors.DataCorrupted ItemDoesNotDecode
decodes-anyway members a b e (inl memory) = λ is. cc
decodes-anyway members a b e (inr (fault, rose)) = λ is. cc

-- why a log's read of an item that it has failed
pub read-fault : {C D T : Type 0} (members : store.Ghosts C) (a b : Log C D) (at : ℕ) (read : Result T Error) (e : Error) → read ≡ Err e → a.tree.start ≤ at →
    (read ≡ Err (errors.Journal (journal.ItemPruned at)) → at < a.tree.start) → (e ≡ errors.Memory) ⊎ ((e ≡ errors.Journal journal.Store) ⊎ (e ≡ errors.Journal (journal.ItemPruned at))) →
    IsCause (members.faults a.store) (members.faults b.store) (read ≡ Err (errors.Journal journal.Store)) → IsReadFault members a b e
read-fault members a b at read e was low below (inl memory) cause = inl memory
read-fault members a b at read e was low below (inr (inl fault)) cause = inr (fault, cause.failed (was ∙ ap Err fault))
read-fault members a b at read e was low below (inr (inr pruned)) cause = let less = below (was ∙ ap Err pruned) in absurd (omega (arith, low, less))
