-- Words that are read one by one, and a last word after keys.
use Rattle.std.proofs.Common.{◌≡◌, ◌+◌, ◌<◌, ℕ, List, [], ◌∷◌, ◌++◌, drop, length, get_or, map, Option, Some, None, option_map, refl, sym, ◌∙◌, ap, append_assoc}
use Rattle.std.specs.Prelude.{option_and_then}
use Rattle.std.specs.Borrow.{Bor}
use Rattle.std.proofs.lemmas.List.{map-append}
use Rattle.qm_model.specs.Operations.{Bytes}
use Rattle.qm_machine.specs.Grammar.{Reading, key_of, each_key, with_key, last_reading, reading_of}
use Rattle.qm_lines.specs.Parsed.{Unreads, with_keys}
use Rattle.qm_lines.specs.declared.parse.unread.Unread.{Unread}
use Rattle.qm_lines.specs.declared.parse.unread.Unread.TheVariants.{Malformed, Memory}
use Rattle.qm_lines.proofs.Lines.{opened}

-- the first and the others, if there are both
abbrev behind : {A : Type 0} → Option A → Option (List A) → Option (List A)
behind o rest = option_and_then (λ k. option_map (λ ks. k ∷ ks) rest) o

behind_done : {A : Type 0} (done : List A) (k : A) (rest : Option (List A)) → option_map (λ (ks : List A). (done ++ k ∷ []) ++ ks) rest ≡ option_map (λ (ks : List A). done ++ ks) (behind (Some k) rest)
behind_done done k None = refl
behind_done done k (Some ks) = ap Some (append_assoc done (k ∷ []) ks)

-- an error of a part is one of the whole, which is none without that part
pub unread-of : {A B : Type 0} (whole : Option A → Option B) → None ≡ whole None → (o : Option A) (all : Option B) → whole o ≡ all → (e : Unread) → Unreads e o → Unreads e all
unread-of whole none o all is Malformed unread = none ∙ ap whole unread ∙ is
unread-of whole none o all is Memory unread = tt

-- Words that are read one by one: the i-th of those that are lent, and what is read of those before it.
module _ {A : Type 0} (read : Bytes → Option A) (each : List Bytes → Option (List A)) (one : (w : Bytes) (ws : List Bytes) → each (w ∷ ws) ≡ behind (read w) (each ws))
    (refs : List (Bor Bytes)) (i : ℕ) (d : Bor Bytes) (h : i < length refs) (done : List A) where
  abbrev words : List Bytes
  words = map (λ (x : Bor Bytes). x.now) refs

  here : each (drop i words) ≡ behind (read (get_or refs i d).now) (each (drop (i + 1) words))
  here = ap each (opened refs i d h) ∙ one (get_or refs i d).now (drop (i + 1) words)

  abbrev from_here : Option A → Option (List A)
  from_here o = option_map (λ (ks : List A). done ++ ks) (behind o (each (drop (i + 1) words)))

  module _ (so_far : option_map (λ (ks : List A). done ++ ks) (each (drop i words)) ≡ each words) where
    all : from_here (read (get_or refs i d).now) ≡ each words
    all = sym (ap (option_map (λ (ks : List A). done ++ ks)) here) ∙ so_far

    pub each-at_err : (e : Unread) → Unreads e (read (get_or refs i d).now) → Unreads e (each words)
    each-at_err = unread-of from_here refl (read (get_or refs i d).now) (each words) all

    pub each-at_one : (k : A) → Some k ≡ read (get_or refs i d).now → option_map (λ (ks : List A). (done ++ k ∷ []) ++ ks) (each (drop (i + 1) words)) ≡ each words
    each-at_one k some = behind_done done k (each (drop (i + 1) words)) ∙ ap from_here some ∙ all

-- what keys and a last word are read as
abbrev ended : Option (List Bytes) → Option Reading → Option Reading
ended keys last = option_and_then (λ ks. option_map (with_keys ks) last) keys

no_more : (last : Option Reading) → last ≡ ended (Some []) last
no_more None = refl
no_more (Some (keys, from)) = refl

ended-behind : (o : Option Bytes) (keys : Option (List Bytes)) (last : Option Reading) → option_and_then (λ k. option_map (with_key k) (ended keys last)) o ≡ ended (behind o keys) last
ended-behind None keys last = refl
ended-behind (Some k) None last = refl
ended-behind (Some k) (Some ks) None = refl
ended-behind (Some k) (Some ks) (Some (more, from)) = refl

first_of_more : (w : Bytes) (before : List Bytes) (last : Bytes) → reading_of (w ∷ before ++ last ∷ []) ≡ option_and_then (λ k. option_map (with_key k) (reading_of (before ++ last ∷ []))) (key_of w)
first_of_more w [] last = refl
first_of_more w (v ∷ ws) last = refl

pub reading-ended : (before : List Bytes) (last : Bytes) → reading_of (before ++ last ∷ []) ≡ ended (each_key before) (last_reading last)
reading-ended [] last = no_more (last_reading last)
reading-ended (w ∷ ws) last =
    first_of_more w ws last
    ∙ ap (λ r. option_and_then (λ k. option_map (with_key k) r) (key_of w)) (reading-ended ws last)
    ∙ ended-behind (key_of w) (each_key ws) (last_reading last)

-- of words that are lent
pub reading-lent : (refs : List (Bor Bytes)) (last : Bor Bytes) (before : List (Bor Bytes)) → refs ≡ before ++ last ∷ [] → (keys : Option (List Bytes)) → keys ≡ each_key (map (λ (x : Bor Bytes). x.now) before) → ended keys (last_reading last.now) ≡ reading_of (map (λ (x : Bor Bytes). x.now) refs)
reading-lent refs last before split keys are =
    ap (λ ks. ended ks (last_reading last.now)) are
    ∙ sym (reading-ended (map (λ (x : Bor Bytes). x.now) before) last.now)
    ∙ ap reading_of (sym (ap (map (λ (x : Bor Bytes). x.now)) split ∙ map-append (λ (x : Bor Bytes). x.now) before (last ∷ [])))

pub reading-lent_err : (refs : List (Bor Bytes)) (last : Bor Bytes) (before : List (Bor Bytes)) → refs ≡ before ++ last ∷ [] → (e : Unread) → Unreads e (each_key (map (λ (x : Bor Bytes). x.now) before)) → Unreads e (reading_of (map (λ (x : Bor Bytes). x.now) refs))
reading-lent_err refs last before split = unread-of (λ keys. ended keys (last_reading last.now)) refl _ _ (reading-lent refs last before split _ refl)
