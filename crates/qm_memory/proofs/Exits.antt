-- What a call that may fail tells at each of its exits.
use Rattle.std.proofs.Common.{◌≡◌, ◌↔◌, ◌∙◌, ◌∷◌, ◌++◌, ◌+◌, ◌-◌, ◌<◌, ◌≤◌, ◌≢◌, ◌^◌, ℕ, length, take, min, max, Bool, true, false, List, [], reverse, refl, ap, ap₂, sym, subst, arith, Result, Ok, Err}
use Rattle.std.proofs.Math.Dec.{eqb}
use Rattle.std.proofs.lemmas.Bool.Decides.{Decides-eqb}
use Rattle.std.proofs.lemmas.List.Elements.{Decides-contains, contains_decides}
use Rattle.std.specs.Bool.{Decides}
use Rattle.std.specs.List.{IsAnyAnswer}
use Rattle.std.proofs.lemmas.List.{reverse-append, length-take}
use Rattle.std.specs.Prelude.{⊤, OnOk, OnErr, IsErrOf, Contains}
use Rattle.qm_model.specs.Causes.{IsCause}
use Rattle.qm_model.specs.Operations.{Bytes}
use Rattle.qm_model.specs.StoreModel.{Stored, rest_of}
use Rattle.qm_store.specs.declared.StoreError.{StoreError}
use Rattle.qm_store.specs.declared.StoreError.TheVariants as stores
use Rattle.qm_memory.specs.Changes.{Change, AreNamedOnce, past_of, with_past}
use Rattle.qm_memory.proofs.Changes.{passed, past-alike}
use Rattle.qm_memory.specs.Mem.{Mem, IsInside, one_more, called, failed, made}

-- the clauses that these calls share, of one that is to have done this
abbrev Told : Result ⊤ StoreError → Mem → Mem → Type 0 → Type 0
Told result old new Done = record {
  inside : IsInside old;
  cause : IsCause old.faults new.faults (IsErrOf result stores.Failed);
  fails : (result ≡ Err stores.Failed) ↔ Contains old.fail old.calls;
  fault : result ≡ Err stores.Failed → new ≡ failed old;
  ok : OnOk result Done;
  memory : result ≡ Err stores.Memory → new ≡ called old;
}

-- one more has room if a call made room for it
pub one_fits : (len capacity : ℕ) → len + 1 ≤ capacity → len < capacity
one_fits len capacity room = omega arith

-- a location between the first and the end, by how many items are before it
pub inside_items : (first to count : ℕ) → to ≤ first + count → to - first ≤ count
inside_items first to count within = omega arith

-- items that are cut off at a location leave those before it
pub cut_fits : (first to : ℕ) (kept left : List Bytes) → left ≡ take (to - first) kept → first ≤ to → to ≤ first + length kept → first + length kept ≤ 2 ^ 62 → (to ≤ first + length left) × (first + length left ≤ 2 ^ 62)
cut_fits first to kept left is from within limit = let long = ap length is ∙ length-take (to - first) kept in (omega arith, omega arith)

-- where a restart may end
pub chosen_within : (first stable count keep len least to : ℕ) → first ≤ stable → stable ≤ first + count → len ≡ count → least ≡ min (first + len) keep → to ≡ max stable least → (first ≤ to) × (to ≤ first + count)
chosen_within first stable count keep len least to from within is lower chosen = (omega arith, omega arith)

-- what changed, after what had changed before
pub noted : (before room after : List Change) (x y : Change) → after ≡ room ++ x ∷ [] → room ≡ before → x ≡ y → reverse after ≡ y ∷ reverse before
noted before room after x y more same is = ap reverse more ∙ reverse-append room (x ∷ []) ∙ ap₂ (λ c cs. c ∷ reverse cs) is same

module _ (counted : Result ⊤ StoreError) (old now : Mem) (inside : IsInside old) (listed : (counted ≡ Err stores.Failed) ↔ Contains old.fail old.calls) where
  -- the count of the call failed
  pub uncounted : (Done : Type 0) (result : Result ⊤ StoreError) (e : StoreError) → counted ≡ Err e → ((y : StoreError) × (result ≡ Err y) × (y ≡ e)) → OnErr counted (now ≡ failed old) → OnErr counted (counted ≡ Err stores.Failed) →
      IsCause old.faults now.faults (IsErrOf counted stores.Failed) → Told result old now Done
  uncounted Done result e was exit err only cause =
      let same : result ≡ counted = exit.1 ∙ ap Err exit.2 ∙ sym was in
      let is : now ≡ failed old = rw was at err in
      let fault : counted ≡ Err stores.Failed = subst (λ r. OnErr r (counted ≡ Err stores.Failed)) was only in
      record {
        inside = inside;
        cause = rw same cause;
        fails = rw same listed;
        fault = λ failed. is;
        ok = rw (same, was) tt;
        memory = λ memory. absurd cc;
      }

  module _ (m : Mem) (x : ⊤) (was : counted ≡ Ok x) (view : m ≡ now) (is : now ≡ called old) where
    -- there was no memory, and nothing has changed but the counts
    pub unmade : (Done : Type 0) (result : Result ⊤ StoreError) (bare before : Stored) (changes : List Change) → ((y : StoreError) × (result ≡ Err y) × (y ≡ stores.Memory)) → bare ≡ before → changes ≡ m.changes → m.held ≡ with_past m.changes before →
        Told result old (record m { held = with_past changes bare; changes = changes }) Done
    unmade Done result bare before changes exit here noted held =
        let same : result ≡ Err stores.Memory = exit.1 ∙ ap Err exit.2 in
        let faults : m.faults ≡ old.faults = ap (λ s. s.faults) (view ∙ is) in
        record {
          inside = inside;
          cause = record { later = omega arith; failed = λ fault. absurd cc };
          fails = (λ fault. absurd cc, λ contains. let never = listed.1 contains in absurd cc);
          fault = λ fault. absurd cc;
          ok = rw same tt;
          memory = λ memory. ap₂ {C = Mem} (λ h cs. record m { held = h; changes = cs }) (ap₂ with_past noted here ∙ sym held) noted ∙ view ∙ is;
        }

    -- the call came off
    pub come_off : (f : Stored → Stored) (change : Stored → Change) (bare before : Stored) (changes : List Change) → bare ≡ passed [] (f m.held) → changes ≡ change m.held ∷ m.changes → m.held ≡ with_past m.changes before
        → ((cs : List Change) (s : Stored) → AreNamedOnce s.metadata → s.past ≡ past_of cs s → past_of (change s ∷ cs) (f s) ≡ (f s).past) →
        Told (Ok tt) old (record m { held = with_past changes bare; changes = changes }) (record m { held = with_past changes bare; changes = changes } ≡ made change f old)
    come_off f change bare before changes here more held law =
        let faults : m.faults ≡ old.faults = ap (λ s. s.faults) (view ∙ is) in
        let known : m.held.past ≡ past_of m.changes m.held = ap (λ (s : Stored). s.past) held ∙ past-alike m.changes before m.held (sym (ap rest_of held)) in
        let once : AreNamedOnce m.held.metadata = subst (λ (x : Mem). AreNamedOnce x.held.metadata) (sym (view ∙ is)) inside.once in
        let told : past_of (change m.held ∷ m.changes) (passed [] (f m.held)) ≡ (f m.held).past = past-alike (change m.held ∷ m.changes) (passed [] (f m.held)) (f m.held) refl ∙ law m.changes m.held once known in
        let there : with_past changes bare ≡ f m.held = ap₂ with_past more here ∙ ap (λ past. passed past (f m.held)) told in
        record {
          inside = inside;
          cause = record { later = omega arith; failed = λ fault. absurd cc };
          fails = (λ fault. absurd cc, λ contains. let never = listed.1 contains in absurd cc);
          fault = λ fault. absurd cc;
          ok = ap₂ {C = Mem} (λ h cs. record m { held = h; changes = cs }) there more ∙ ap {B = Mem} (λ s. record s { held = f s.held; changes = change s.held ∷ s.changes }) (view ∙ is);
          memory = λ memory. absurd cc;
        }

-- a call that is counted fails if its number is listed
pub found-listed : (fail found : List ℕ) (number : ℕ) (fails : Bool) → found ≡ fail → IsAnyAnswer (λ n b. eqb n number ≡ b) found fails → Decides fails (Contains fail number)
found-listed fail found number fails same answer = subst (λ (ks : List ℕ). Decides fails (Contains ks number)) same (Decides-contains found number fails (contains_decides eqb Decides-eqb found number fails answer))

-- what the count of a call tells
abbrev Counted : Result ⊤ StoreError → Mem → Mem → Type 0
Counted result old new = record {
  listed : (result ≡ Err stores.Failed) ↔ Contains old.fail old.calls;
  ok : OnOk result (new ≡ called old);
  err : OnErr result (new ≡ failed old);
  only : OnErr result (result ≡ Err stores.Failed);
  inside : IsInside old;
  cause : IsCause old.faults new.faults (IsErrOf result stores.Failed);
}

module _ (m old : Mem) (view : m ≡ old) (inside : IsInside m) (fails : Bool) (found : Decides fails (Contains m.fail m.calls)) where
  -- of one that is listed
  pub counted-listed : fails ≡ true → m.faults < 2 ^ 64 → (calls faults : ℕ) → calls ≡ one_more m.calls → faults ≡ one_more m.faults → Counted (Err stores.Failed) old (record m { calls = calls; faults = faults })
  counted-listed listed limit calls faults called-more failed-more = record {
    listed = (λ fault. subst (λ (s : Mem). Contains s.fail s.calls) view (found.0 listed), λ contains. refl);
    ok = tt;
    err = ap₂ {C = Mem} (λ n k. record m { calls = n; faults = k }) called-more failed-more ∙ ap failed view;
    only = refl;
    inside = subst IsInside view inside;
    cause = subst (λ (s : Mem). IsCause s.faults faults (IsErrOf {T = ⊤} (Err stores.Failed) stores.Failed)) view (record { later = omega arith; failed = λ fault. omega arith });
  }

  -- of one that is not
  pub counted-other : fails ≡ false → (calls : ℕ) → calls ≡ one_more m.calls → Counted (Ok tt) old (record m { calls = calls })
  counted-other other calls called-more = record {
    listed = (λ fault. absurd cc, λ contains. let listed = found.1 (subst (λ (s : Mem). Contains s.fail s.calls) (sym view) contains) in absurd cc);
    ok = ap {B = Mem} (λ n. record m { calls = n }) called-more ∙ ap called view;
    err = tt;
    only = tt;
    inside = subst IsInside view inside;
    cause = subst (λ (s : Mem). IsCause s.faults m.faults (IsErrOf {T = ⊤} {E = StoreError} (Ok tt) stores.Failed)) view (record { later = omega arith; failed = λ fault. absurd cc });
  }

-- the clauses that the calls share which read
abbrev Asked : {T : Type 0} → Result T StoreError → Mem → Mem → Type 0
Asked result old new = record {
  same : new.held ≡ old.held;
  cause : IsCause old.faults new.faults (IsErrOf result stores.Failed);
  fails : (result ≡ Err stores.Failed) ↔ Contains old.fail old.calls;
  fault : result ≡ Err stores.Failed → new ≡ failed old;
  other : result ≢ Err stores.Failed → new ≡ called old;
}

module _ {T : Type 0} (counted : Result ⊤ StoreError) (old now : Mem) (listed : (counted ≡ Err stores.Failed) ↔ Contains old.fail old.calls) (result : Result T StoreError) where
  -- of one whose count failed
  pub unasked : (e : StoreError) → counted ≡ Err e → ((y : StoreError) × (result ≡ Err y) × (y ≡ e)) → OnErr counted (now ≡ failed old) → OnErr counted (counted ≡ Err stores.Failed) → IsCause old.faults now.faults (IsErrOf counted stores.Failed) → Asked result old now
  unasked e was exit err only cause =
      let is : now ≡ failed old = rw was at err in
      let fault : counted ≡ Err stores.Failed = subst (λ r. OnErr r (counted ≡ Err stores.Failed)) was only in
      let same : result ≡ Err stores.Failed = cc in
      record {
        same = ap (λ s. s.held) is;
        cause = subst (λ r. IsCause old.faults now.faults (IsErrOf r stores.Failed)) (sym same) (record { later = cause.later; failed = λ fails. cause.failed fault });
        fails = (λ fails. listed.0 fault, λ contains. same);
        fault = λ fails. is;
        other = λ other. absurd (other same);
      }

  -- of one that the store let through
  pub asked : (x : ⊤) → counted ≡ Ok x → now ≡ called old → result ≢ Err stores.Failed → Asked result old now
  asked x was is other =
      let faults : now.faults ≡ old.faults = ap (λ s. s.faults) is in
      record {
        same = ap (λ s. s.held) is;
        cause = record { later = omega arith; failed = λ fault. absurd (other fault) };
        fails = (λ fault. absurd (other fault), λ contains. let never = listed.1 contains in absurd cc);
        fault = λ fault. absurd (other fault);
        other = λ rest. is;
      }

  -- of one for which there was no memory
  pub unanswered : (x : ⊤) → counted ≡ Ok x → now ≡ called old → ((y : StoreError) × (result ≡ Err y) × (y ≡ stores.Memory)) → Asked result old now
  unanswered x was is exit =
      let same : result ≡ Err stores.Memory = exit.1 ∙ ap Err exit.2 in
      asked x was is (λ fault. absurd cc)
