-- What crashes leave of a database's store that come inside its calls.
use Rattle.std.proofs.Common.{[], ◌++◌, append-nil, ◌≡◌, ◌⊎◌, inl, inr, ◌<◌, ◌≤◌, ℕ, Bool, true, false, List, length, map, drop, Option, Some, None, IfSome, Result, Ok, Err, IfOk, IfErr, refl, sym, ap, ◌∙◌, subst, arith, le_refl}
use Rattle.std.specs.Prelude.{◌^◌, nat_lt, if◌then◌else◌}
use Rattle.std.proofs.Math.Seq.{take-length, drop-append_seam}
use Rattle.std.proofs.lemmas.Bool.{cases_lt, ltb-true}
use Rattle.std.proofs.lemmas.List.{length-drop, length-map}
use Rattle.qm_model.specs.Batches.{Begins}
use Rattle.qm_model.specs.Families.{Births, IsFamily, HasPeaks}
use Rattle.qm_model.specs.Forms.{spelling}
use Rattle.qm_model.specs.Live.{floor}
use Rattle.qm_model.specs.Operations.{Bytes, Operation}
use Rattle.qm_model.specs.Own.{Engine, Log, no_log, IsOwn, IsBetween, CrashesBetween, CrashLaws, settled_list, ended_part}
use Rattle.qm_model.specs.Own as own
use Rattle.qm_model.specs.Schemes.{Scheme, engine_of, layout_of}
use Rattle.qm_model.specs.Step.{ordered, unordered}
use Rattle.qm_model.specs.StoreModel.{Stored, end_of, left_at, settled, pruned, destroyed, IsImage, DestroyLeaves, ReadsAs, Fails, Turns, Becomes, Leaves, Grows, appended}
use Rattle.qm_model.specs.Trees.{peaks}
use Rattle.qm_model.specs.Walk.{Rules}
use Rattle.qm_model.proofs.Chains.{Begins-length}
use Rattle.qm_model.proofs.Crashes.{ordered-crashes, unordered-crashes, settled-in}
use Rattle.qm_model.proofs.Openings.{ended-whole}
use Rattle.qm_model.proofs.Results.{ok-then, err-then}
use Rattle.qm_model.proofs.Stores.{cut-whole, fails-unmoved, image-whole}
use Rattle.qm_store.specs.declared.Store as store
use Rattle.qm_store.specs.declared.refusal.Given.TheVariants as variants
use Rattle.qm_store.specs.declared.refusal.Refusal.{Refusal}
use Rattle.qm_store.specs.Given.{store_after, store_given, Appended, AppendedPart}
use Rattle.qm_offer.specs.Crashing.{IsSafe}
use Rattle.qm_any.specs.Applying.{store_in, can_apply, lacked, Appends}
use Rattle.qm_any.specs.Databases.{Database, Made, IsDatabase}
use Rattle.qm_any.specs.Layouts.{Hashing}
use Rattle.qm_any.specs.Lasting.{boundary_of, cut_to, FailsPrune, HasLasted, HasLeftPruned, HasLeftStable, HasPruned, IsGivenUp, IsHeadAt}
use Rattle.qm_any.specs.Offered.{scheme_of}
use Rattle.qm_any.proofs.OfferedHeads.{head-is}

-- What crashes leave is between logs.
module _ {P : Type 0} (e : Engine P) where
  -- what is told of a store before a call and after it, as IsSafe says it
  abbrev pub Safe : Log → Log → Option Stored → Option Stored → Type 0
  Safe before after o n = IfSome o (λ s. IsOwn e before s → IfSome n (λ t. CrashesBetween e before after s t))

  pub turn-safe : (before after : Log) (R : Stored → Stored → Type 0) (o n : Option Stored) → ((s t : Stored) → o ≡ Some s → IsOwn e before s → R s t → CrashesBetween e before after s t) → Turns o n R → Safe before after o n
  turn-safe before after R None n each made = tt
  turn-safe before after R (Some s) None each made = absurd made
  turn-safe before after R (Some s) (Some t) each made = λ is. each s t refl is made

  -- what is between a log and one of the same list has all that was settled, so that it is between that log and any other
  widened : (log same other : Log) (u : Stored) → same.list ≡ log.list → IsBetween e log same u → IsBetween e log other u
  widened log same other u alike is = record { log = is.log; own = is.own; part = inl (part is.part); stays = (omega (arith, whole), λ none. inl whole) }
    where
      part : Begins is.log.list log.list ⊎ Begins is.log.list same.list → Begins is.log.list log.list
      part (inl begins) = begins
      part (inr begins) = subst (Begins is.log.list) alike begins

      whole : length (settled_list log) ≤ length (settled_list is.log)
      whole = let stays = is.stays.0 in let most = Begins-length (settled_list log) log.list (settled-in log) in omega (arith, stays, most, ap length alike)

  pub crashes-widened : (log same other : Log) (s t : Stored) → same.list ≡ log.list → CrashesBetween e log same s t → CrashesBetween e log other s t
  crashes-widened log same other s t alike crashes image crash = widened log same other image alike (crashes image crash)

  -- all items of an own store stand in its list
  pub own-end : (log : Log) (s : Stored) → IsOwn e log s → s.stable ≤ end_of s
  own-end log s is =
      let few = is.kept.stable in
      omega (arith, few, is.stored.stable, is.stored.start, ap length is.stored.items, length-map (drop log.start log.list) (spelling e.layout.form), length-drop log.start log.list)

module _ {P : Type 0} (e : Engine P) (laws : CrashLaws e) where
  pub commit-crashes : (log other : Log) (s t : Stored) → IsOwn e log s → t ≡ settled s → CrashesBetween e log other s t
  commit-crashes log other s t is made = crashes-widened e log (record log { stable = length log.list }) other s t refl (subst (CrashesBetween e log (record log { stable = length log.list }) s) (sym made) (laws.commit log s is))

  pub failed-commit-crashes : (log other : Log) (s t : Stored) → IsOwn e log s → Fails (λ s. ReadsAs s.stable (IsImage s)) (λ s. ReadsAs s.stable (IsImage s)) s t → CrashesBetween e log other s t
  failed-commit-crashes log other s t is failed = crashes-widened e log (record log { stable = length log.list }) other s t refl (laws.failed_commit log s t is failed)

  -- if nothing was called
  pub unmoved-crashes : (log other : Log) (s t : Stored) → IsOwn e log s → t ≡ s → CrashesBetween e log other s t
  unmoved-crashes log other s t is same =
      failed-commit-crashes log other s t is
      (subst (Fails (λ s. ReadsAs s.stable (IsImage s)) (λ s. ReadsAs s.stable (IsImage s)) s) (sym same) (fails-unmoved _ _ s (reads-whole s (own-end e log s is))))
    where
      reads-whole : (s : Stored) → s.stable ≤ end_of s → ReadsAs s.stable (IsImage s) s
      reads-whole s within = record { image = left_at (end_of s) s; left = image-whole s within; reads = ap {B = Stored} (λ items. record s { items = items }) (sym (cut-whole s)); least_stable = omega arith; within = within }

-- what both answers leave
pub either : {X C : Type 0} (inside : X → C) (done : Result X (Refusal X C)) (Safe : C → Type 0) → IfOk done (λ x. Safe (inside x)) → IfErr done (λ r. Safe (store_given inside r.given)) → Safe (store_after inside done)
either inside (Ok x) Safe ok err = ok
either inside (Err r) Safe ok err = err

-- Any databases.
module _ {C D : Type 0} (members : store.Ghosts C) (hashing : Hashing D) (size : ℕ) {P : Type 0} (rules : Rules P) where
  abbrev pub m : Scheme
  m = scheme_of size hashing

  abbrev pub e : Engine P
  e = engine_of m rules

  pub laws : CrashLaws e
  laws = by hashing.form.ordered
    where
      by : (b : Bool) → CrashLaws (record { kind = if b then ordered else unordered; rules = rules; hash = hashing.hash; layout = layout_of m })
      by true = ordered-crashes rules hashing.hash hashing.form hashing.shape size
      by false = unordered-crashes rules hashing.hash hashing.form hashing.shape size

  -- a commit or a sync
  pub lasted-safe : (log : Log) (old new : Database C D) → HasLasted members hashing settled old new → IsSafe members e log log old.log.store new.log.store
  lasted-safe log old new made = turn-safe e log log (λ s t. t ≡ settled s) (members.told old.log.store) (members.told new.log.store) (λ s t told is made. commit-crashes e laws log log s t is made) made.store.told

  pub unlasted-safe : (log other : Log) (old : C) (r : Refusal (Database C D) C) → IsGivenUp members (HasLeftStable members) old r → IsSafe members e log other old (store_given store_in r.given)
  unlasted-safe log other old r up = subst (λ g. IsSafe members e log other old (store_given store_in g)) (sym up.given)
      (turn-safe e log other _ (members.told old) (members.told up.store) (λ s t told is failed. failed-commit-crashes e laws log other s t is failed) up.left.told)

  pub settled-safe : (log : Log) (old : Database C D) (done : Result (Database C D) (Refusal (Database C D) C)) → IfOk done (HasLasted members hashing settled old) → IfErr done (IsGivenUp members (HasLeftStable members) old.log.store)
      → IsSafe members e log log old.log.store (store_after store_in done)
  settled-safe log old (Ok new) made refused = lasted-safe log old new made
  settled-safe log old (Err r) made refused = unlasted-safe log log old.log.store r refused

  -- a call that left the store as it was
  pub unmoved-safe : (log other : Log) (old : C) → IsSafe members e log other old old
  unmoved-safe log other old = by (members.told old)
    where
      by : (o : Option Stored) → Safe e log other o o
      by None = tt
      by (Some s) = λ is. unmoved-crashes e laws log other s s is refl

  -- an append of what a batch has after the list
  pub applied-safe : (log : Log) (more : List Operation) (db : Database C D) (batch : Made D) (done : Result (Database C D) (Refusal (Database C D) C)) → db.commitment.size ≡ length log.list → own.IsKept e (record log { list = log.list ++ more })
      → Appends members db batch hashing.form (log.list ++ more) done → IsSafe members e log (record log { list = log.list ++ more }) db.log.store (store_after store_in done)
  applied-safe log more db batch done size kept applies = either store_in done (IsSafe members e log longer db.log.store) (ok-then done applies.grown appends) (err-then done applies.part fails)
    where
      longer : Log
      longer = record log { list = log.list ++ more }

      behind : drop db.commitment.size (log.list ++ more) ≡ more
      behind = ap (λ n. drop n (log.list ++ more)) size ∙ drop-append_seam log.list more

      appends : (new : Database C D) → Appended members db.log.store new.log.store (lacked hashing.form db (log.list ++ more)) → IsSafe members e log longer db.log.store new.log.store
      appends new grown = turn-safe e log longer (λ s t. t ≡ appended (lacked hashing.form db (log.list ++ more)) s) (members.told db.log.store) (members.told new.log.store)
          (λ s t told is made. subst (CrashesBetween e log longer s) (sym (made ∙ ap (λ ops. appended (map (spelling hashing.form) ops) s) behind)) (laws.append log s more is kept)) grown.told

      fails : (r : Refusal (Database C D) C) → AppendedPart members db.log.store (store_given store_in r.given) (if can_apply db batch then lacked hashing.form db (log.list ++ more) else []) → IsSafe members e log longer db.log.store (store_given store_in r.given)
      fails r part = by (can_apply db batch) part.told
        where
          by : (b : Bool) → Grows (members.told db.log.store) (members.told (store_given store_in r.given)) (if b then lacked hashing.form db (log.list ++ more) else []) → IsSafe members e log longer db.log.store (store_given store_in r.given)
          by true grows = turn-safe e log longer _ (members.told db.log.store) (members.told (store_given store_in r.given)) (λ s t told is failed. laws.failed_append log s t more is kept failed)
              (subst (λ ops. Grows (members.told db.log.store) (members.told (store_given store_in r.given)) (map (spelling hashing.form) ops)) behind grows)
          by false grows = turn-safe e log longer _ (members.told db.log.store) (members.told (store_given store_in r.given)) (λ s t told is failed.
              crashes-widened e log (record log { list = log.list ++ [] }) longer s t (append-nil log.list) (laws.failed_append log s t [] is (subst (λ ops. own.IsKept e (record log { list = ops })) (sym (append-nil log.list)) is.kept) failed)) grows

  -- a destroy
  pub destroyed-safe : peaks hashing.shape 0 ≡ [] → (log : Log) (o n : Option Stored) → Becomes o n destroyed → Safe e log no_log o n
  destroyed-safe bare log o n made = turn-safe e log no_log (λ s t. t ≡ destroyed s) o n (λ s t told is made. subst (CrashesBetween e log no_log s) (sym made) (laws.destroy log s bare is)) made

  pub undestroyed-safe : peaks hashing.shape 0 ≡ [] → (log : Log) (o n : Option Stored) → Leaves o n DestroyLeaves → Safe e log no_log o n
  undestroyed-safe bare log o n made = turn-safe e log no_log _ o n (λ s t told is failed. laws.failed_destroy log s t bare is failed) made

  -- A prune to a location up to its boundary.
  module _ (births : Births) (family : IsFamily hashing.shape births) (peaked : HasPeaks hashing.shape) (chunk : ℕ) (index_key : Bytes → ℕ) (db : Database C D) (first : members.start db.log.store ≡ db.log.tree.start) (few : db.commitment.size ≤ 2 ^ 62)
      (told_start : IfSome (members.told db.log.store) (λ s. s.start ≡ members.start db.log.store)) (to : ℕ) (log : Log) (stands : IsDatabase members (record { hashing = hashing; chunk = chunk; index_key = index_key }) db log.list) where
    -- the log that it leaves
    abbrev after : Log
    after = record log { start = to; stable = length log.list }

    module _ (low : to ≤ boundary_of db) where
      within : to ≤ floor log.list
      within = omega (arith, low, stands.floor)

      inside : to ≤ length log.list
      inside = let fits = stands.good.floor_within in omega (arith, within, fits)

      kept : (s : Stored) → IsOwn e log s → own.IsKept e after
      kept s is = record {
        made = is.kept.made;
        start = subst (λ ops. to ≤ floor ops) (sym (ap ended_part (take-length log.list) ∙ ended-whole log.list stands.good.commit_ended)) within;
        stable = le_refl (length log.list);
        chunks = tt;
      }

      start : (s : Stored) → members.told db.log.store ≡ Some s → IsOwn e log s → log.start ≡ db.log.tree.start
      start s told is = sym is.stored.start ∙ (subst (λ o. IfSome o (λ s. s.start ≡ members.start db.log.store)) told told_start ∙ first)

      heads : (head : Bytes) → IsHeadAt members hashing to db.log head → head ≡ own.head_of e (record log { start = to })
      heads head at =
          let long : db.commitment.size ≡ length log.list = ap (λ k. k.size) stands.commitment in
          head-is hashing size births family peaked log.list to (omega (arith, inside, few, long)) inside head (at (map (spelling hashing.form) log.list) stands.lent.logged)

      pruned-crashes : (head : Bytes) (s t : Stored) → members.told db.log.store ≡ Some s → IsOwn e log s → (db.log.tree.start < to → IsHeadAt members hashing to db.log head) → t ≡ cut_to db.log.tree.start to head (settled s) → CrashesBetween e log log s t
      pruned-crashes head s t told is at = by (nat_lt db.log.tree.start to) refl
        where
          by : (b : Bool) → nat_lt db.log.tree.start to ≡ b → t ≡ (if b then pruned to head (settled s) else settled s) → CrashesBetween e log log s t
          by true less made =
              let past = ltb-true db.log.tree.start to less in
              crashes-widened e log after log s t refl (subst (CrashesBetween e log after s) (sym made) (laws.prune log s to head is (omega (arith, past, start s told is)) (kept s is) (heads head (at past))))
          by false less made = commit-crashes e laws log log s t is made

      failed-crashes : (head : Bytes) (s t : Stored) → members.told db.log.store ≡ Some s → IsOwn e log s → db.log.tree.start < to → IsHeadAt members hashing to db.log head → FailsPrune to head (settled s) t → CrashesBetween e log log s t
      failed-crashes head s t told is past at failed = crashes-widened e log after log s t refl (laws.failed_prune log s t to head is (omega (arith, past, start s told is)) (kept s is) (heads head at) failed)

      unpruned : (r : Refusal (Database C D) C) → IsGivenUp members (λ old new. HasLeftStable members old new ⊎ HasLeftPruned members hashing settled to db.log new) db.log.store r → IsSafe members e log log db.log.store (store_given store_in r.given)
      unpruned r up = subst (λ g. IsSafe members e log log db.log.store (store_given store_in g)) (sym up.given) (by up.left)
        where
          by : HasLeftStable members db.log.store up.store ⊎ HasLeftPruned members hashing settled to db.log up.store → IsSafe members e log log db.log.store up.store
          by (inl left) = turn-safe e log log _ (members.told db.log.store) (members.told up.store) (λ s t told is failed. failed-commit-crashes e laws log log s t is failed) left.told
          by (inr cut) = turn-safe e log log (λ s. FailsPrune to cut.head (settled s)) (members.told db.log.store) (members.told up.store) (λ s t told is failed. failed-crashes cut.head s t told is cut.past cut.heads failed) cut.told

    pub pruned-safe : (done : Result (Database C D) (Refusal (Database C D) C)) → IfOk done (λ _. to ≤ boundary_of db) → IfOk done (HasPruned members (record { hashing = hashing; chunk = chunk; index_key = index_key }) settled to db)
        → IfErr done (λ r. (boundary_of db < to) → r.given ≡ variants.Database db)
        → IfErr done (λ r. to ≤ boundary_of db → IsGivenUp members (λ old new. HasLeftStable members old new ⊎ HasLeftPruned members hashing settled to db.log new) db.log.store r)
        → IsSafe members e log log db.log.store (store_after store_in done)
    pruned-safe (Ok new) fits made beyond refused =
        turn-safe e log log (λ s t. t ≡ cut_to db.log.tree.start to made.head (settled s)) (members.told db.log.store) (members.told new.log.store) (λ s t told is same. pruned-crashes fits made.head s t told is made.heads same) made.told
    pruned-safe (Err r) fits made beyond refused = by (cases_lt (boundary_of db) to)
      where
        by : (boundary_of db < to) ⊎ (to ≤ boundary_of db) → IsSafe members e log log db.log.store (store_given store_in r.given)
        by (inl past) = subst (λ g. IsSafe members e log log db.log.store (store_given store_in g)) (sym (beyond past)) (unmoved-safe log log db.log.store)
        by (inr low) = unpruned low r (refused low)
