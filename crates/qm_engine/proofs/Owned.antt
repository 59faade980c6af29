-- What may be left of a command of a sound run is a store that databases leave.
use Rattle.std.proofs.Common.{◌≡◌, inl, inr, ◌≤◌, Bool, true, false, cond, length, take, drop, Option, Some, None, IfSome, refl, sym, ap, subst, arith}
use Rattle.std.specs.Prelude.{min, ◌==◌}
use Rattle.std.proofs.lemmas.Bool.{eqb-false}
use Rattle.std.proofs.lemmas.List.{length-map, length-take, length-drop, length-append}
use Rattle.qm_model.specs.Forms.{spelling}
use Rattle.qm_model.specs.Walk.{Rules}
use Rattle.qm_model.specs.Own.{Log, IsKept}
use Rattle.qm_model.specs.Own as own
use Rattle.qm_model.specs.Opening.{Chunks}
use Rattle.qm_model.specs.Policies.{policies}
use Rattle.qm_model.specs.StoreModel.{Stored, end_of}
use Rattle.qm_model.proofs.Chains.{Begins-length}
use Rattle.qm_model.specs.Schemes.{Scheme, chunks_of, engine_of}
use Rattle.qm_machine.proofs.Sounds.{kept-low}
use Rattle.qm_engine.specs.Stores.{HasLog, least, MayBe, grown, cut, counted, moved, emptied, IsLeft}
use Rattle.qm_engine.specs.Runs.{IsOwnStore, IsOwnLeft}
use Rattle.qm_engine.proofs.Commands.{some_is, left_none, left_none-log}
use Rattle.qm_engine.proofs.Followed.{Followed, may-kept}

-- what the metadata says, whatever the policies are
pub counted-alike : {P Q : Type 0} (m : Scheme) (a : Rules P) (b : Rules Q) (chunks : Option Chunks) (log : Log) (s : Stored) → own.MetadataIs (engine_of m a) chunks log s → own.MetadataIs (engine_of m b) chunks log s
counted-alike m a b None log s is = is
counted-alike m a b (Some c) log s is = record { readable = is.readable; count = is.count; pins = is.pins }

-- an own store of a log that is told
pub own-of : (m : Scheme) {P : Type 0} (rules : Rules P) (told : Option Stored) (log : Log) → HasLog m told log → IsKept (engine_of m rules) log → IsOwnStore m rules told log
own-of m rules told log has kept = record {
  stored = has.stored;
  is = has.is;
  own = record { stored = record { start = has.has.start; items = has.has.items; head = has.has.head; metadata = counted-alike m policies rules (chunks_of m) log has.stored has.has.metadata; stable = has.has.stable }; kept = kept };
}

-- nothing of what a command appends to an own store's list
pub none-left : (m : Scheme) {P : Type 0} (rules : Rules P) (told : Option Stored) (before after : Log) → HasLog m told before → IsKept (engine_of m rules) before → IsOwnLeft m rules told before after
none-left m rules told before after has kept = record {
  left = left_none m before after told has;
  own = subst (IsOwnStore m rules told) (sym (left_none-log m before after told has)) (own-of m rules told before has kept);
}

module _ (m : Scheme) {P : Type 0} (rules : Rules P) (before after : Log) (kept : IsKept (engine_of m rules) before) (next : IsKept (engine_of m rules) after) (followed : Followed before after) where
  low_before : before.start ≤ length before.list
  low_before = omega (arith, kept-low m rules before kept, kept.stable)

  low_after : after.start ≤ length after.list
  low_after = omega (arith, kept-low m rules after next, next.stable)

  -- a cut keeps what stands before the start
  above-least : before.start ≤ least before after
  above-least = by (length after.list == 0) refl followed
    where
      by : (b : Bool) → (length after.list == 0) ≡ b → Followed before after → before.start ≤ cond b before.stable (min before.stable (length after.list))
      by true e is = kept-low m rules before kept
      by false e (inl begins) = omega (arith, kept-low m rules before kept, low_before, Begins-length before.list after.list begins)
      by false e (inr (begins, inl none)) = absurd (eqb-false (length after.list) 0 e (ap length none))
      by false e (inr (begins, inr starts)) = omega (arith, kept-low m rules before kept, starts, low_after)

  may-low : (log : Log) → MayBe before after log → log.start ≤ length log.list
  may-low log (grown count stable low same) = omega (arith, low_before, length-append before.list (take count (drop (length before.list) after.list)))
  may-low log (cut to stable final low low_stable) = omega (arith, low_before, above-least, low, length-take to before.list)
  may-low log (counted more starts) = omega (arith, starts, low_after)
  may-low log (moved behind) = low_after
  may-low log (emptied none) = omega arith

  pub owned : (left : Option Stored) → IfSome left (λ t. t.stable ≤ end_of t) → IsLeft m left before after → IsOwnLeft m rules left before after
  owned left stable is = record { left = is; own = own-of m rules left is.log is.has (may-kept m rules before after is.log kept next followed is.may within) }
    where
      within : is.log.stable ≤ length is.log.list
      within =
          let has = is.has.has in
          let told = some_is left is.has.stored (λ t. t.stable ≤ end_of t) is.has.is stable in
          omega (arith, told, has.stable, has.start, may-low is.log is.may, ap length has.items, length-map (drop is.log.start is.log.list) (spelling m.form), length-drop is.log.start is.log.list)
