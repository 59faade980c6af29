-- What crashes leave of a current database's store that come inside its calls.
use Rattle.std.proofs.Common.{◌≡◌, ◌∙◌, ◌⊎◌, inl, inr, ◌++◌, ◌*◌, ◌^◌, ◌<◌, ◌≤◌, ℕ, Bool, true, false, List, [], length, drop, map, Option, Some, None, IfSome, Result, Ok, Err, IfOk, IfErr, refl, sym, ap, subst, arith, append-nil, le_refl}
use Rattle.std.specs.Prelude.{if◌then◌else◌, nat_lt, not, is_none, ◌==◌, ◌∷◌}
use Rattle.std.specs.List.{list_any}
use Rattle.std.proofs.lemmas.Bool.{ltb-false}
use Rattle.std.proofs.lemmas.Nat.{mul-le, pow_pos}
use Rattle.std.proofs.Math.Seq.{take-length, drop-append_seam}
use Rattle.qm_model.specs.Families.{Births, HasPeaks, HasPlaces, IsFamily}
use Rattle.qm_model.specs.Forms.{Form, spelling}
use Rattle.qm_model.specs.Grafted.{metadata}
use Rattle.qm_model.specs.Opening.{Chunks, count_bytes, count_in, entries_of, is_wrong_size, metadata_refusal, pins_found, when}
use Rattle.qm_model.specs.Operations.{Bytes, Operation}
use Rattle.qm_model.specs.Own.{Engine, Log, no_log, IsOwn, IsBetween, CrashesBetween, CrashLaws, ended_part, settled_list}
use Rattle.qm_model.specs.Own as own
use Rattle.qm_model.specs.Schemes.{Scheme, engine_of, layout_of}
use Rattle.qm_model.specs.Step.{ordered, unordered}
use Rattle.qm_model.specs.StoreModel.{Entry, Stored, metadata_in, rest_of, settled, with_metadata, destroyed, DestroyLeaves, Becomes, Leaves, Grows, appended}
use Rattle.qm_model.specs.Trees.{Shape, peaks}
use Rattle.qm_merkle.proofs.Standing.{peaks-none}
use Rattle.qm_model.specs.Walk.{Rules}
use Rattle.qm_model.proofs.Chains.{Begins-length}
use Rattle.qm_model.proofs.Crashes.{counted-metadata, ordered-counted, settled-in, settled-own, unordered-counted, with_chunks}
use Rattle.qm_model.proofs.Metadata.{metadata-counted}
use Rattle.qm_model.proofs.MmbFamily.{log_least}
use Rattle.qm_model.proofs.Openings.{all_pass, ended-whole, not_when, ordered-keeps, unordered-keeps}
use Rattle.qm_model.proofs.Speaking.{peaks_few}
use Rattle.qm_model.specs.Refused.{CountNotValid, CountTooLarge, MissingPin, InvalidPin}
use Rattle.qm_model.proofs.Stores.{metadata_in-same}
use Rattle.qm_graft.specs.Grafting.{grafting}
use Rattle.qm_store.specs.declared.Store as store
use Rattle.qm_store.specs.declared.refusal.Refusal.{Refusal}
use Rattle.qm_store.specs.Given.{store_after, store_given, Appended, AppendedPart}
use Rattle.qm_offer.specs.Crashing.{IsSafe}
use Rattle.qm_any.specs.Applying as anys_applying
use Rattle.qm_any.specs.Applying.{Appends, can_apply, lacked}
use Rattle.qm_any.specs.Databases as anys
use Rattle.qm_any.specs.Lasting.{HasLeftStable, IsGivenUp}
use Rattle.qm_any.specs.Layouts.{Layout}
use Rattle.qm_any.proofs.Crashing.{Safe, commit-crashes, crashes-widened, failed-commit-crashes, turn-safe}
use Rattle.qm_current.specs.Applying.{any_answer, any_given, store_in}
use Rattle.qm_current.specs.Databases.{Database, IsCounted, IsDatabase}
use Rattle.qm_current.specs.Lasting.{AreEntries, FailsPut, HasCounted, HasLeftUncounted}
use Rattle.qm_current.specs.Offered.{scheme_of}
use Rattle.qm_current.proofs.Applying.{store-given}

-- a family's trees have places
pub places-of : (shape : Shape) (births : Births) → IsFamily shape births → HasPeaks shape → HasPlaces shape births
places-of shape births family peaked = record { family = family; peaked = peaked; bare = peaks-none shape births family peaked }

-- a chunk has a byte or more of bits
pub enough-of : (size : ℕ) → 32 ≤ size → 3 ≤ grafting size
enough-of size least = log_least (8 * size) 3 (omega (arith, least)) (omega (arith, least))

-- readable metadata counts no more locations than a list may have
counted-low : {P : Type 0} (e : Engine P) (c : Chunks) (log : Log) (entries : List Entry) → e.layout.chunks ≡ Some c → own.IsCounted e c log entries → log.chunks * 2 ^ c.height ≤ 2 ^ 62
counted-low e c log entries some is =
    let checks = when (not (length (count_bytes entries) == 8)) CountNotValid
    ∷ when (nat_lt (2 ^ 62) (count_in entries * 2 ^ c.height)) CountTooLarge
    ∷ when (list_any is_none (pins_found e.layout.shape entries (count_in entries))) MissingPin
    ∷ when (list_any (is_wrong_size e.layout.digest_size) (pins_found e.layout.shape entries (count_in entries))) InvalidPin
    ∷ [] in
    let low = ltb-false (2 ^ 62) (count_in entries * 2 ^ c.height) (not_when (nat_lt (2 ^ 62) (count_in entries * 2 ^ c.height)) CountTooLarge (all_pass checks 1 (subst (λ o. metadata_refusal (record e.layout { chunks = o }) entries ≡ None) some is.readable))) in
    subst (λ n. n * 2 ^ c.height ≤ 2 ^ 62) is.count low

-- Calls that make all stable, and those that failed in it, over any engine.
module _ {C X : Type 0} (members : store.Ghosts C) (inside : X → C) {P : Type 0} (e : Engine P) (laws : CrashLaws e) where
  pub given-safe : (log other : Log) (old : C) (r : Refusal X C) → IsGivenUp members (HasLeftStable members) old r → IsSafe members e log other old (store_given inside r.given)
  given-safe log other old r up = subst (λ g. IsSafe members e log other old (store_given inside g)) (sym up.given)
      (turn-safe e log other _ (members.told old) (members.told up.store) (λ s t told is failed. failed-commit-crashes e laws log other s t is failed) up.left.told)

  pub settled-safe : (log : Log) (old : C) (done : Result X (Refusal X C)) → IfOk done (λ x. Becomes (members.told old) (members.told (inside x)) settled) → IfErr done (IsGivenUp members (HasLeftStable members) old)
      → IsSafe members e log log old (store_after inside done)
  settled-safe log old (Ok x) made refused = turn-safe e log log (λ s t. t ≡ settled s) (members.told old) (members.told (inside x)) (λ s t told is same. commit-crashes e laws log log s t is same) made
  settled-safe log old (Err r) made refused = given-safe log log old r refused

  -- a destroy
  pub destroyed-safe : peaks e.layout.shape 0 ≡ [] → (log : Log) (o n : Option Stored) → Becomes o n destroyed → Safe e log no_log o n
  destroyed-safe bare log o n made = turn-safe e log no_log (λ s t. t ≡ destroyed s) o n (λ s t told is same. subst (CrashesBetween e log no_log s) (sym same) (laws.destroy log s bare is)) made

  pub undestroyed-safe : peaks e.layout.shape 0 ≡ [] → (log : Log) (o n : Option Stored) → Leaves o n DestroyLeaves → Safe e log no_log o n
  undestroyed-safe bare log o n made = turn-safe e log no_log _ o n (λ s t told is failed. laws.failed_destroy log s t bare is failed) made

-- A database with chunks.
module _ {D : Type 0} (layout : Layout D) (size : ℕ) (name : Bytes) {P : Type 0} (rules : Rules P) (births : Births) (trees : HasPlaces layout.hashing.shape births) (enough : 3 ≤ grafting layout.chunk) where
  abbrev pub m : Scheme
  m = scheme_of size layout name

  abbrev pub e : Engine P
  e = engine_of m rules

  abbrev form : Form
  form = layout.hashing.form

  pub laws : CrashLaws e
  laws = by form.ordered
    where
      by : (b : Bool) → CrashLaws (record { kind = if b then ordered else unordered; rules = rules; hash = layout.hashing.hash; layout = layout_of m })
      by true = ordered-counted rules layout.hashing.hash layout.hashing.form layout.hashing.shape size (record { height = grafting layout.chunk; name = name }) births trees enough
      by false = unordered-counted rules layout.hashing.hash layout.hashing.form layout.hashing.shape size (record { height = grafting layout.chunk; name = name }) births trees enough

  module _ {C : Type 0} (members : store.Ghosts C) (old : Database C D) where
    -- an append of what a batch has after the list
    module _ (log : Log) (more : List Operation) (batch : anys.Made D) (long : old.any.commitment.size ≡ length log.list) (kept : own.IsKept e (record log { list = log.list ++ more })) where
      abbrev pub longer : Log
      longer = record log { list = log.list ++ more }

      behind : drop old.any.commitment.size (log.list ++ more) ≡ more
      behind = ap (λ n. drop n (log.list ++ more)) long ∙ drop-append_seam log.list more

      appends : (new : C) → Appended members old.any.log.store new (lacked form old.any (log.list ++ more)) → IsSafe members e log longer old.any.log.store new
      appends new grown = turn-safe e log longer (λ s t. t ≡ appended (lacked form old.any (log.list ++ more)) s) (members.told old.any.log.store) (members.told new)
          (λ s t told is made. subst (CrashesBetween e log longer s) (sym (made ∙ ap (λ ops. appended (map (spelling form) ops) s) behind)) (laws.append log s more is kept)) grown.told

      fails : (new : C) → AppendedPart members old.any.log.store new (if can_apply old.any batch then lacked form old.any (log.list ++ more) else []) → IsSafe members e log longer old.any.log.store new
      fails new part = by (can_apply old.any batch) part.told
        where
          by : (b : Bool) → Grows (members.told old.any.log.store) (members.told new) (if b then lacked form old.any (log.list ++ more) else []) → IsSafe members e log longer old.any.log.store new
          by true grows = turn-safe e log longer _ (members.told old.any.log.store) (members.told new) (λ s t told is failed. laws.failed_append log s t more is kept failed)
              (subst (λ ops. Grows (members.told old.any.log.store) (members.told new) (map (spelling form) ops)) behind grows)
          by false grows = turn-safe e log longer _ (members.told old.any.log.store) (members.told new) (λ s t told is failed.
              crashes-widened e log (record log { list = log.list ++ [] }) longer s t (append-nil log.list) (laws.failed_append log s t [] is (subst (λ ops. own.IsKept e (record log { list = ops })) (sym (append-nil log.list)) is.kept) failed)) grows

      pub applied-safe : (result : Result (Database C D) (Refusal (Database C D) C)) → Appends members old.any batch form (log.list ++ more) (any_answer result) → IsSafe members e log longer old.any.log.store (store_after store_in result)
      applied-safe (Ok db) applies = appends db.any.log.store applies.grown
      applied-safe (Err r) applies = subst (IsSafe members e log longer old.any.log.store) (sym (store-given r.given)) (fails (store_given anys_applying.store_in (any_given r.given)) applies.part)

    -- a sync, which makes all stable and then counts the pruned chunks anew
    module _ (named : old.name ≡ name) (log : Log) (stands : IsDatabase members layout old log.list) (is_counted : IsCounted members old) (sized : (b : Bytes) → length (layout.hashing.hash b) ≡ size) where
      abbrev settled_log : Log
      settled_log = record log { stable = length log.list }

      -- what is between the settled log and itself is between the log and itself
      before : (u : Stored) → IsBetween e settled_log settled_log u → IsBetween e log log u
      before u is = record { log = is.log; own = is.own; part = is.part; stays = (omega (arith, all), λ none. inl all) }
        where
          whole : settled_list settled_log ≡ log.list
          whole = ap ended_part (take-length log.list) ∙ ended-whole log.list stands.any.good.commit_ended

          all : length (settled_list log) ≤ length (settled_list is.log)
          all = let stays = is.stays.0 in let most = Begins-length (settled_list log) log.list (settled-in log) in omega (arith, stays, most, ap length whole)

      module _ (s : Stored) (told : members.told old.any.log.store ≡ Some s) (is : IsOwn e log s) where
        pub own_settled : IsOwn e settled_log (settled s)
        own_settled = by form.ordered is
          where
            by : (b : Bool) → IsOwn (record { kind = if b then ordered else unordered; rules = rules; hash = layout.hashing.hash; layout = layout_of m }) log s
                → IsOwn (record { kind = if b then ordered else unordered; rules = rules; hash = layout.hashing.hash; layout = layout_of m }) settled_log (settled s)
            by true is = settled-own (ordered-keeps rules) layout.hashing.hash (with_chunks form layout.hashing.shape size (record { height = grafting layout.chunk; name = name }))
                (counted-metadata (ordered-keeps rules) layout.hashing.hash form layout.hashing.shape size (record { height = grafting layout.chunk; name = name }) births trees enough) log s is
            by false is = settled-own (unordered-keeps rules) layout.hashing.hash (with_chunks form layout.hashing.shape size (record { height = grafting layout.chunk; name = name }))
                (counted-metadata (unordered-keeps rules) layout.hashing.hash form layout.hashing.shape size (record { height = grafting layout.chunk; name = name }) births trees enough) log s is

        pub same : old.any.activity.pruned ≡ log.chunks
        same = sym (subst (λ o. IfSome o (λ s. count_in (metadata_in s.metadata old.name) ≡ old.any.activity.pruned)) told is_counted) ∙ ap (λ n. count_in (metadata_in s.metadata n)) named ∙ is.stored.metadata.count

        counts : (entries : List Entry) → AreEntries layout old.canonical old.any.activity.pruned entries → own.MetadataIs e e.layout.chunks settled_log (with_metadata name entries (settled s))
        counts entries are = subst (own.IsCounted e (record { height = grafting layout.chunk; name = name }) settled_log) (sym (metadata_in-same name entries (settled s) ∙ are.pins log.list stands.canonical ∙ ap (λ n. entries_of (metadata layout.hashing.hash layout.hashing.shape (grafting layout.chunk) form log.list n)) same))
            (metadata-counted e (record { height = grafting layout.chunk; name = name }) settled_log refl low sized few small)
          where
            low : log.chunks * 2 ^ grafting layout.chunk ≤ 2 ^ 62
            low = counted-low e (record { height = grafting layout.chunk; name = name }) log (metadata_in s.metadata name) refl is.stored.metadata

            within : log.chunks ≤ 2 ^ 62
            within = let up = mul-le log.chunks 1 log.chunks (2 ^ grafting layout.chunk) (le_refl log.chunks) (pow_pos (grafting layout.chunk)) in omega (arith, low, up)

            few : length (peaks layout.hashing.shape log.chunks) ≤ 2 ^ 64
            few = omega (arith, within, peaks_few layout.hashing.shape births trees.family trees.peaked log.chunks within)

            small : log.chunks < 2 ^ 64
            small = omega (arith, within)

        -- the metadata was put
        put-crashes : (entries : List Entry) (t : Stored) → AreEntries layout old.canonical old.any.activity.pruned entries → t ≡ with_metadata name entries (settled s) → CrashesBetween e log log s t
        put-crashes entries t are made = subst (CrashesBetween e log log s) (sym made)
            (laws.through log log s (settled s) (with_metadata name entries (settled s)) (rest_of s ∷ []) (rest_of (settled s) ∷ []) refl refl (commit-crashes e laws log log s (settled s) is refl)
            (λ image crash. before image (laws.put_meta settled_log (settled s) log.chunks name entries own_settled own_settled.kept (counts entries are) image crash)))

        -- or it failed
        unput-crashes : (entries : List Entry) (t : Stored) → AreEntries layout old.canonical old.any.activity.pruned entries → FailsPut name entries (settled s) t → CrashesBetween e log log s t
        unput-crashes entries t are failed =
            laws.through log log s (settled s) t (rest_of s ∷ []) failed.notes refl failed.past (commit-crashes e laws log log s (settled s) is refl)
            (λ image crash. before image (laws.failed_put_meta settled_log (settled s) t log.chunks name entries own_settled own_settled.kept (counts entries are) failed image crash))

      left-safe : (new : C) → HasLeftStable members old.any.log.store new ⊎ HasLeftUncounted members layout settled old.any.activity.pruned old new → IsSafe members e log log old.any.log.store new
      left-safe new (inl left) = turn-safe e log log _ (members.told old.any.log.store) (members.told new) (λ s t told is failed. failed-commit-crashes e laws log log s t is failed) left.told
      left-safe new (inr (inl made)) = turn-safe e log log (λ s t. t ≡ settled s) (members.told old.any.log.store) (members.told new) (λ s t told is same. commit-crashes e laws log log s t is same) made.told
      left-safe new (inr (inr left)) = turn-safe e log log (λ s. FailsPut old.name left.entries (settled s)) (members.told old.any.log.store) (members.told new)
          (λ s t told is failed. unput-crashes s told is left.entries t left.counts (subst (λ n. FailsPut n left.entries (settled s) t) named failed)) left.told

      pub synced-safe : (result : Result (Database C D) (Refusal (Database C D) C)) → IfOk result (HasCounted members layout settled old)
          → IfErr result (IsGivenUp members (λ old_store new. HasLeftStable members old_store new ⊎ HasLeftUncounted members layout settled old.any.activity.pruned old new) old.any.log.store)
          → IsSafe members e log log old.any.log.store (store_after store_in result)
      synced-safe (Ok db) made given = turn-safe e log log (λ s t. t ≡ with_metadata old.name made.entries (settled s)) (members.told old.any.log.store) (members.told db.any.log.store)
          (λ s t told is same. put-crashes s told is made.entries t made.counts (same ∙ ap (λ n. with_metadata n made.entries (settled s)) named)) made.any.store.told
      synced-safe (Err r) made up = subst (λ g. IsSafe members e log log old.any.log.store (store_given store_in g)) (sym up.given) (left-safe up.store up.left)
