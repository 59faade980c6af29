-- Counts of faults, and the bytes that a source and a sink tell.
use Rattle.std.proofs.Common.{◌≡◌, ◌∙◌, ◌+◌, ◌-◌, ◌^◌, ◌<◌, ◌≤◌, ◌==◌, ℕ, Bool, min, true, false, List, [], ◌++◌, length, Option, None, Some, sym, ap, subst, arith, append-nil, append_assoc, length-append}
use Rattle.std.specs.Prelude.{Result, Ok, Err, IfSome, IsErrOf, if◌then◌else◌, is_err, is_ok}
use Rattle.std.proofs.lemmas.Bool.{false≢true}
use Rattle.std.proofs.lemmas.Bool.Decides.{nat_tests}
use Rattle.qm_lines.specs.declared.whole.InputError.{InputError}
use Rattle.qm_lines.specs.declared.whole.InputError.TheVariants.{Memory, Failed, TooLong}
use Rattle.qm_lines.specs.declared.ports.SinkError.TheVariants as sinks
use Rattle.std.specs.Io.KnownBytes.{Appends, Consumes, IsAtEnd, Keeps}
use Rattle.qm_model.specs.Causes.{Grows, IsCause, Rose}

module _ (start before now : ℕ) (F : Type 0) (same : before ≡ start) where
  -- a later call rose if it failed
  pub caused : {G : Type 0} → IsCause before now G → (F → G) → IsCause start now F
  caused cause from = record { later = omega (arith, same, cause.later); failed = λ f. subst (λ n. Rose n now) same (cause.failed (from f)) }

  -- it did not fail
  pub calm : now ≡ before → (F → ⊥) → IsCause start now F
  calm still not = record { later = omega (arith, same, still); failed = λ f. absurd (not f) }

  -- it counts one more, up to the last value
  pub counted : before ≤ 2 ^ 64 - 1 → now ≡ min (before + 1) (2 ^ 64 - 1) → IsCause start now F
  counted within one = record { later = omega (arith, same, within, one); failed = λ f. omega (arith, same, within, one) }

pub appended : (old new : Option (List ℕ)) (more : List ℕ) → Appends old new more → Grows old new more
appended None new more p = tt
appended (Some old) None more p = absurd p
appended (Some old) (Some new) more p = ap Some p

pub kept : (old new : Option (List ℕ)) → Keeps old new → Grows old new []
kept None new p = tt
kept (Some old) None p = absurd p
kept (Some old) (Some new) p = ap Some (p ∙ sym (append-nil old))

-- the sink took bytes
pub took : (n : ℕ) → IsErrOf {T = ℕ} (Ok n) sinks.Failed → ⊥
took n h = cc

pub wanting : IsErrOf {T = ℕ} (Err sinks.Memory) sinks.Failed → ⊥
wanting h = cc

-- something is not empty
pub some_empty : (n : ℕ) (t : Bool) → 0 < n → t ≡ (n == 0) → t ≡ true → ⊥
some_empty n t some is empty = grind (arith, nat_tests)

-- errors of an input, each of which is no other, and no error
module _ {T : Type 0} where
  pub ok-no_err : (x : T) (e : InputError) → IsErrOf (Ok x) e → ⊥
  ok-no_err x e h = cc

  pub memory-not_failed : IsErrOf {T = T} (Err Memory) Failed → ⊥
  memory-not_failed h = cc

  pub memory-not_long : IsErrOf {T = T} (Err Memory) TooLong → ⊥
  memory-not_long h = cc

  pub failed-not_long : IsErrOf {T = T} (Err Failed) TooLong → ⊥
  failed-not_long h = cc

  pub long-not_failed : IsErrOf {T = T} (Err TooLong) Failed → ⊥
  long-not_failed h = cc

-- what was read, and then this part
module _ (start mid end : Option (List ℕ)) (all part : List ℕ) (before : Consumes start mid all) (next : Consumes mid end part) where
  pub read_on : Consumes start end (all ++ part)
  read_on = go start mid end before next
    where
      go : (start mid end : Option (List ℕ)) → Consumes start mid all → Consumes mid end part → Consumes start end (all ++ part)
      go None mid end p q = tt
      go (Some xs) None end p q = absurd p
      go (Some xs) (Some ys) None p q = absurd q
      go (Some xs) (Some ys) (Some zs) p q = p ∙ ap (λ (r : List ℕ). all ++ r) q ∙ sym (append_assoc all part zs)

  pub too_long : (limit count len : ℕ) → limit - len < count → len ≡ length all → count ≡ length part → IfSome start (λ input. limit < length input)
  too_long limit count len more is part_is = go start end read_on
    where
      go : (start end : Option (List ℕ)) → Consumes start end (all ++ part) → IfSome start (λ input. limit < length input)
      go None end p = tt
      go (Some xs) None p = absurd p
      go (Some xs) (Some zs) p = omega (arith, more, is, part_is, ap length p, length-append (all ++ part) zs, length-append all part)

pub all_read : (start mid end : Option (List ℕ)) (all : List ℕ) → Consumes start mid all → Consumes mid end [] → IsAtEnd end → IfSome start (λ input. all ≡ input)
all_read None mid end all p q e = tt
all_read (Some xs) None end all p q e = absurd p
all_read (Some xs) (Some ys) None all p q e = absurd q
all_read (Some xs) (Some ys) (Some zs) all p q e = sym (p ∙ ap (λ (r : List ℕ). all ++ r) (q ∙ e) ∙ append-nil all)

-- what grew, unless that failed
pub extended : {T E : Type 0} (r : Result T E) (t : Bool) (new old more : List ℕ) → new ≡ (if is_ok r then old ++ more else old) → t ≡ is_err r → t ≡ false → new ≡ old ++ more
extended (Ok u) t new old more h is ok = h
extended (Err e) t new old more h is ok = absurd (false≢true (sym ok ∙ is))

-- what grew by a part stays short
pub short_on : {limit count len : ℕ} (new all part : List ℕ) → new ≡ all ++ part → count ≤ limit - len → len ≡ length all → count ≡ length part → length all ≤ limit → length new ≤ limit
short_on new all part items few is part_is before = omega (arith, few, is, part_is, before, ap length items, length-append all part)

-- what stayed, since that failed
pub unextended : {T E : Type 0} (r : Result T E) (t : Bool) (new old more : List ℕ) → new ≡ (if is_ok r then old ++ more else old) → t ≡ is_err r → t ≡ true → new ≡ old
unextended (Ok u) t new old more h is err = absurd (false≢true (sym is ∙ err))
unextended (Err e) t new old more h is err = h

pub itself : (n : ℕ) → n ≤ n
itself n = omega arith
