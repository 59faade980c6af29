-- What each status of a check says.
use Rattle.std.proofs.Common.{◌≡◌, ◌⊎◌, ◌≤◌, ◌<◌, ◌++◌, ℕ, Bool, true, false, List, [], length, take, Option, Some, None, Result, Ok, Err, IfSome, arith, refl, sym, ap, subst, ◌∙◌, inl, inr, append-nil, ⊎_elim}
use Rattle.std.specs.Prelude.{IfOk, ◌==◌}
use Rattle.std.proofs.lemmas.Bool.{eqb-false}
use Rattle.std.specs.Io.KnownBytes.{IsAtEnd}
use Rattle.std.proofs.lemmas.Option.{same_Some}
use Rattle.qm_model.specs.Causes.{Rose, Grows, GrowsPart}
use Rattle.qm_model.specs.Operations.{Bytes, Operation}
use Rattle.qm_model.specs.Forms.{variable}
use Rattle.qm_model.specs.Proofs.{Collides}
use Rattle.qm_model.specs.Grafted.{canonical}
use Rattle.qm_model.specs.RangeProofs.{canonical_inputs}
use Rattle.qm_lines.specs.declared.whole.TheConstants.{LIMIT}
use Rattle.qm_client.specs.ProofForms.{KeyProof, IsProofSpelling}
use Rattle.qm_client.specs.Claims.{ClaimSays, claim_inputs}
use Rattle.qm_client.specs.Provable.{IsProvable, kind_form}
use Rattle.qm_checking.specs.Checking.{Asked, spelled_in, check_text, check_status}
use Rattle.qm_checking.specs.Says.{YesSays, answer, SaysChecked, IsChecked}

-- Statuses that differ.

pub no_answer : {P : Type 0} (verdict : Option Bool) (n : ℕ) → (0 == n) ≡ false → (2 == n) ≡ false → check_status verdict ≡ n → P
no_answer None n zero two e = absurd (eqb-false 2 n two e)
no_answer (Some verdict) n zero two e = absurd (eqb-false 0 n zero e)

no_part : {P : Type 0} (s n : ℕ) → (4 == n) ≡ false → (5 == n) ≡ false → (s ≡ 4) ⊎ (s ≡ 5) → s ≡ n → P
no_part s n four five (inl is) e = absurd (eqb-false 4 n four (sym is ∙ e))
no_part s n four five (inr is) e = absurd (eqb-false 5 n five (sym is ∙ e))

no_early : {P : Type 0} (s n : ℕ) → (3 == n) ≡ false → (5 == n) ≡ false → (7 == n) ≡ false → (s ≡ 3) ⊎ ((s ≡ 5) ⊎ (s ≡ 7)) → s ≡ n → P
no_early s n three five seven (inl is) e = absurd (eqb-false 3 n three (sym is ∙ e))
no_early s n three five seven (inr (inl is)) e = absurd (eqb-false 5 n five (sym is ∙ e))
no_early s n three five seven (inr (inr is)) e = absurd (eqb-false 7 n seven (sym is ∙ e))

abbrev Ends : ℕ → Type 0
Ends s = (s ≡ 0) ⊎ ((s ≡ 2) ⊎ ((s ≡ 3) ⊎ ((s ≡ 4) ⊎ ((s ≡ 5) ⊎ (s ≡ 7)))))

ends_early : (s : ℕ) → (s ≡ 3) ⊎ ((s ≡ 5) ⊎ (s ≡ 7)) → Ends s
ends_early s (inl e) = inr (inr (inl e))
ends_early s (inr (inl e)) = inr (inr (inr (inr (inl e))))
ends_early s (inr (inr e)) = inr (inr (inr (inr (inr e))))

ends_part : (s : ℕ) → (s ≡ 4) ⊎ (s ≡ 5) → Ends s
ends_part s (inl e) = inr (inr (inr (inl e)))
ends_part s (inr e) = inr (inr (inr (inr (inl e))))

ends_answered : (verdict : Option Bool) → Ends (check_status verdict)
ends_answered None = inr (inl refl)
ends_answered (Some verdict) = inl refl

module _ (hash : Bytes → Bytes) (g chunk size : ℕ) (asked : Asked) where
  -- what a yes to the bytes says is what a yes to the input says
  pub yes_says : {E : Type 0} (r : Result (Option Bool) E) (input found : Bytes) → Some found ≡ spelled_in input
      → ((ordered : Bool) (ops : List Operation) (proof : KeyProof) → IsProvable (kind_form ordered) ops → asked.root ≡ canonical hash asked.shape g (kind_form ordered) ops → IsProofSpelling variable chunk size found proof
      → IfOk r (λ verdict. verdict ≡ Some true → ClaimSays ops asked.claim ⊎ Collides hash (claim_inputs hash asked.shape g variable proof asked.claim) (canonical_inputs hash asked.shape g (kind_form ordered) ops)))
      → IfOk r (λ verdict. verdict ≡ Some true → YesSays hash g chunk size asked input)
  yes_says (Err e) input found is says = tt
  yes_says (Ok verdict) input found is says = λ said ordered ops proof bytes made rooted spelled of.
      says ordered ops proof made rooted (subst (λ bs. IsProofSpelling variable chunk size bs proof) (same_Some bytes found (sym spelled ∙ sym is)) of) said

  -- nothing was written
  unanswered : (status : ℕ) → (status ≡ 3) ⊎ ((status ≡ 5) ⊎ (status ≡ 7)) → (input : Bytes) → SaysChecked hash g chunk size asked input status []
  unanswered status h input = record {
    all = ⊎_elim (no_early status 0 refl refl refl h) (no_early status 2 refl refl refl h);
    yes = no_early status 0 refl refl refl h;
    part = λ e. (0, refl);
    nothing = λ e. refl;
  }

  unwritten : (status : ℕ) (left text : Option Bytes) → ((input : Bytes) → SaysChecked hash g chunk size asked input status []) → IfSome left (λ input. IfSome text (λ before. (more : Bytes) × (text ≡ Some (before ++ more)) × SaysChecked hash g chunk size asked input status more))
  unwritten status None text says = tt
  unwritten status (Some input) None says = tt
  unwritten status (Some input) (Some before) says = ([], ap Some (sym (append-nil before)), says input)

  pub early : (status : ℕ) → (status ≡ 3) ⊎ ((status ≡ 5) ⊎ (status ≡ 7)) → (left rest : Option Bytes) (faults later : ℕ) (text : Option Bytes) (sunk : ℕ)
      → (status ≡ 3 → Rose faults later) → (status ≡ 7 → IfSome left (λ input. LIMIT < length input)) → IsChecked hash g chunk size asked status left rest faults later text text sunk sunk
  early status h left rest faults later text sunk rose longer = record {
    headline = unwritten status left text (unanswered status h);
    statuses = ends_early status h;
    read = rose;
    write = no_early status 4 refl refl refl h;
    long = longer;
    ended = ⊎_elim (no_early status 0 refl refl refl h) (⊎_elim (no_early status 2 refl refl refl h) (no_early status 4 refl refl refl h));
    complete = done left longer;
  }
    where
      done : (o : Option Bytes) → (status ≡ 7 → IfSome o (λ input. LIMIT < length input))
          → IfSome o (λ input. length input ≤ LIMIT → ¬ Rose faults later → ¬ Rose sunk sunk → (status ≡ check_status (answer hash g chunk size asked input)) ⊎ (status ≡ 5))
      done None longer = tt
      done (Some input) longer = λ few read write. elim h [
        | inl three ↦ absurd (read (rose three))
        | inr (inl five) ↦ inr five
        | inr (inr seven) ↦ absurd (omega (arith, few, longer seven))
      ]

  -- what was read has an answer
  module _ (verdict : Option Bool) (bytes : Bytes) (is : verdict ≡ answer hash g chunk size asked bytes) (said : verdict ≡ Some true → YesSays hash g chunk size asked bytes) (left rest : Option Bytes) (all : IfSome left (λ input. bytes ≡ input)) (end : IsAtEnd rest)
      (faults later : ℕ) (text written : Option Bytes) (sunk after : ℕ) where
    -- a saying of what was read, where the source told it
    of_left : (P : Bytes → Type 0) → P bytes → IfSome left P
    of_left P holds = go left all
      where
        go : (o : Option Bytes) → IfSome o (λ input. bytes ≡ input) → IfSome o P
        go None same = tt
        go (Some input) same = subst P same holds

    wrote : (status : ℕ) (more : Bytes) → Grows text written more → SaysChecked hash g chunk size asked bytes status more
        → IfSome text (λ before. (more : Bytes) × (written ≡ Some (before ++ more)) × SaysChecked hash g chunk size asked bytes status more)
    wrote status more grown says = go text grown
      where
        go : (o : Option Bytes) → Grows o written more → IfSome o (λ before. (more : Bytes) × (written ≡ Some (before ++ more)) × SaysChecked hash g chunk size asked bytes status more)
        go None grown = tt
        go (Some before) grown = (more, grown, says)

    pub whole : Grows text written (check_text verdict) → IsChecked hash g chunk size asked (check_status verdict) left rest faults later text written sunk after
    whole grown = record {
      headline = of_left _ (wrote (check_status verdict) (check_text verdict) grown (record {
        all = λ e. (ap check_status is, ap check_text is);
        yes = λ zero yes. said (is ∙ yes);
        part = ⊎_elim (no_answer verdict 4 refl refl) (no_answer verdict 5 refl refl);
        nothing = ⊎_elim (no_answer verdict 3 refl refl) (no_answer verdict 7 refl refl);
      }));
      statuses = ends_answered verdict;
      read = no_answer verdict 3 refl refl;
      write = no_answer verdict 4 refl refl;
      long = no_answer verdict 7 refl refl;
      ended = λ e. end;
      complete = of_left _ (λ few read write. inl (ap check_status is));
    }

    pub part : (status : ℕ) → (status ≡ 4) ⊎ (status ≡ 5) → (status ≡ 4 → Rose sunk after) → GrowsPart text written (check_text verdict) → IsChecked hash g chunk size asked status left rest faults later text written sunk after
    part status h rose grown = record {
      headline = of_left _ (wrote status (take grown.0 (check_text verdict)) grown.1 (record {
        all = ⊎_elim (no_part status 0 refl refl h) (no_part status 2 refl refl h);
        yes = no_part status 0 refl refl h;
        part = λ e. (grown.0, ap (λ v. take grown.0 (check_text v)) is);
        nothing = ⊎_elim (no_part status 3 refl refl h) (no_part status 7 refl refl h);
      }));
      statuses = ends_part status h;
      read = no_part status 3 refl refl h;
      write = rose;
      long = no_part status 7 refl refl h;
      ended = λ e. end;
      complete = of_left _ (λ few read write. elim h [ inl four ↦ absurd (write (rose four)) | inr five ↦ inr five ]);
    }

-- what is said of what is not there, of this one, or of each
pub if_none : {A : Type 0} (o : Option A) (Q : A → Type 0) → None ≡ o → IfSome o Q
if_none o Q is = subst (λ x. IfSome x Q) is tt

pub if_some : {A : Type 0} (o : Option A) (x : A) (Q : A → Type 0) → Some x ≡ o → Q x → IfSome o Q
if_some o x Q is given = subst (λ y. IfSome y Q) is given

pub if_each : {A : Type 0} (o : Option A) (Q : A → Type 0) → ((x : A) → Q x) → IfSome o Q
if_each None Q given = tt
if_each (Some x) Q given = given x
