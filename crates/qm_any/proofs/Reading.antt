-- What reads leave of a database, and what they find.
use Rattle.std.proofs.Common.{◌≡◌, ◌≤◌, ◌∙◌, arith, ap, sym, subst, refl, inl, inr, ℕ, Bool, List, [], Option, None, Some}
use Rattle.std.specs.Prelude.{IfErr, IsSome, Result, Ok, Err, option_map, option_and_then}
use Rattle.std.proofs.lemmas.List.Elements.{All-weaker}
use Rattle.qm_model.specs.Operations.{Bytes, Operation}
use Rattle.qm_model.specs.Live.{Live, floor, live, live_of, value_of}
use Rattle.qm_model.specs.Step.{IsGood}
use Rattle.qm_model.proofs.Chains.{Contains-first}
use Rattle.qm_operations.specs.Parts as parts
use Rattle.qm_base.specs.declared.error.Error.{Error}
use Rattle.qm_chain.specs.Bounds.{Bounds, knows}
use Rattle.qm_store.specs.declared.Store as store
use Rattle.qm_step.specs.Changes.{update_of, located}
use Rattle.qm_step.specs.Layers.{Layer, LeadOver}
use Rattle.qm_store.specs.Log.{Log}
use Rattle.qm_store.specs.Reads.{IsReadError, log_reads}
use Rattle.qm_step.specs.Lent.{NoneBelow, ReadsLent}
use Rattle.qm_store.proofs.Reading.{read-none, read-then, error-then}
use Rattle.qm_step.proofs.Reading.{lent-then}
use Rattle.qm_any.specs.Layouts.{Hashing, Layout}
use Rattle.qm_any.specs.Databases.{Database, IsDatabase, IsLeft}
use Rattle.qm_any.specs.Reading.{IsFault, IsFaultThrough, IsOfKeptItem, IsThroughError, Reads, ReadsThrough}

module _ {C D : Type 0} (members : store.Ghosts C) (hashing : Hashing D) where
  -- no read leaves a database as it was
  pub left-none : (a : Database C D) → IsLeft members hashing a a
  left-none a = record { rest = refl; read = read-none members hashing.shape hashing.bytes hashing.hash a.log }

  -- and reads after reads do
  pub left-then : (a b c : Database C D) → IsLeft members hashing a b → IsLeft members hashing b c → IsLeft members hashing a c
  left-then a b c before after = record {
    rest = after.rest ∙ ap (λ (x : Database C D). record x { log = c.log }) before.rest;
    read = read-then members hashing.shape hashing.bytes hashing.hash a.log b.log c.log before.read after.read;
  }

  -- an error after reads
  pub left-error : (a b c : Database C D) (e : Error) → IsLeft members hashing a b → IsReadError members b.log c.log e → IsReadError members a.log c.log e
  left-error a b c e before error = error-then members hashing.shape hashing.bytes hashing.hash a.log b.log c.log e before.read error

-- a database stands after reads for the list that it stood for
pub left-database : {C D : Type 0} (members : store.Ghosts C) (layout : Layout D) (old new : Database C D) (list : List Operation) → IsLeft members layout.hashing old new → IsDatabase members layout old list → IsDatabase members layout new list
left-database members layout old new list left is =
    let by = layout.hashing in
    subst (λ x. IsDatabase members layout x list) (sym left.rest)
    (record {
      told = subst IsSome (sym ((left.read).told)) is.told;
      lent = lent-then (log_reads members by.shape by.bytes by.hash) by.form layout.index_key old.entries old.log new.log list left.read is.lent;
      commitment = is.commitment;
      low = subst (λ n. n ≤ floor list) (sym left.read.start) is.low;
      floor = is.floor;
      live = is.live;
      metadata = is.metadata;
      active = is.active;
      good = is.good;
      ring = is.ring;
    })

-- no steps lead from a list to itself
pub itself-base : (layers : List Layer) (list : List Operation) → layers ≡ [] → LeadOver layers list list
itself-base layers list none = subst (λ ls. LeadOver ls list list) (sym none) (record { older = []; steps = tt; among = Contains-first list [] })

-- the value of an update that is found of a key is its value
pub value-found : (list : List Operation) (key : Bytes) → option_and_then (λ (p : ℕ × Operation). parts.value_of p.1) (update_of list key) ≡ value_of list key
value-found list key = by (live_of (live list) key)
  where
    by : (o : Option Live) → option_and_then (λ (p : ℕ × Operation). parts.value_of p.1) (option_map located o) ≡ option_map (λ (e : Live). e.value) o
    by None = refl
    by (Some e) = refl

-- no live update of a good list stands below its floor
pub good-none : (start : ℕ) (list : List Operation) → IsGood list → start ≤ floor list → NoneBelow start list
good-none start list good from = All-weaker (λ (e : Live). floor list ≤ e.location) (λ e. start ≤ e.location) (λ e high. omega (arith, from, high)) (live list) good.above_floor

-- a read of what a database lends, its index and its log, is one of the database
pub lent-reads : {A C D : Type 0} (members : store.Ghosts C) (layout : Layout D) (old lent : Database C D) (log : Log C D) (result : Result A Error) → lent ≡ old
    → (let by = layout.hashing in ReadsLent (log_reads members by.shape by.bytes by.hash) by.form layout.index_key lent.entries lent.log log result)
    → Reads members layout old (record lent { log = log }) result
lent-reads members layout old lent log result same did =
    subst (λ (db : Database _ _). Reads members layout db (record lent { log = log }) result) same
    (record {
      error = did.error;
      whole = λ list is. did.whole (record { list = list; lent = is.lent; none = good-none lent.log.tree.start list is.good is.low });
      left = record { rest = refl; read = did.left };
    })

-- of a database that stands for a list, a read that is not at an item below the start fails for memory or by the store
fails-kept : {C D : Type 0} (members : store.Ghosts C) (old new : Log C D) (e : Error) → IsOfKeptItem e → IsReadError members old new e → IsFault members old new e
fails-kept members old new e kept (inl memory) = inl memory
fails-kept members old new e kept (inr (inl fault)) = inr fault
fails-kept members old new e kept (inr (inr (n, below, pruned))) = absurd (kept n pruned)

fails-kept-through : {C D : Type 0} (members : store.Ghosts C) (known : Bool) (old new : Log C D) (e : Error) → IsOfKeptItem e → IsThroughError members known old new e → IsFaultThrough members known old new e
fails-kept-through members known old new e kept (inl stale) = inl stale
fails-kept-through members known old new e kept (inr (inl memory)) = inr (inl memory)
fails-kept-through members known old new e kept (inr (inr (is, failed))) = inr (inr (is, fails-kept members old new e kept failed))

pub fails-alone : {C D A : Type 0} (members : store.Ghosts C) (layout : Layout D) (old new : Database C D) (list : List Operation) (result : Result A Error) → IsDatabase members layout old list → Reads members layout old new result
    → IfErr result (IsFault members old.log new.log)
fails-alone members layout old new list (Ok a) is reads = tt
fails-alone members layout old new list (Err e) is reads = fails-kept members old.log new.log e (reads.whole list is) reads.error

pub fails-through : {C D A : Type 0} (members : store.Ghosts C) (layout : Layout D) (old new : Database C D) (list : List Operation) (bounds : Bounds) (result : Result A Error) → IsDatabase members layout old list
    → ReadsThrough members layout old new result bounds → IfErr result (IsFaultThrough members (knows bounds old.commitment) old.log new.log)
fails-through members layout old new list bounds (Ok a) is reads = tt
fails-through members layout old new list bounds (Err e) is reads = fails-kept-through members (knows bounds old.commitment) old.log new.log e (reads.whole list is) reads.error
