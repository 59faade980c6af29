-- What the checks of a current database's proofs come to, by what makes them and what checks them.
use Rattle.std.proofs.Common.{◌≡◌, ◌∙◌, ◌≤◌, ◌+◌, ◌-◌, ℕ, Bool, List, [], ◌∷◌, length, map, take, drop, Option, None, Some, arith, ap, ap₂, sym, refl}
use Rattle.std.specs.Prelude.{option_map, unwrap_or}
use Rattle.std.proofs.lemmas.List.{take-map, drop-map, length-map, length-take-le, length-drop}
use Rattle.qm_model.specs.Operations.{Bytes, Operation}
use Rattle.qm_model.specs.Forms.{Form, spelling}
use Rattle.qm_model.specs.Live.{Live, live, live_of}
use Rattle.qm_model.specs.Trees.{Shape, ops_root}
use Rattle.qm_model.specs.Grafted.{canonical}
use Rattle.qm_model.specs.Checks.{held_check, range_check, witness_check}
use Rattle.qm_model.specs.RangeProofs as range_proofs
use Rattle.qm_model.specs.Refusals.{proof_count}
use Rattle.qm_step.specs.Changes.{located, update_of}

apart : {A : Type 0} (x : A) → None ≡ Some x → ⊥
apart x is = cc

module _ (hash : Bytes → Bytes) (shape : Shape) (g : ℕ) (form : Form) (list : List Operation) where
  -- the proof of a live update, and the verdict on it
  pub held-shown : (key : Bytes) (at : ℕ) (op : Operation) (proof : range_proofs.OperationProof) (root : Bytes) (is_accepted : Bool)
      → update_of list key ≡ Some (at, op) → proof ≡ range_proofs.operation_proof hash shape g form list at → root ≡ canonical hash shape g form list
      → is_accepted ≡ range_proofs.operation_verdict hash shape g proof (spelling form op) root
      → option_map {U = ℕ × Bool} (λ e. (e.location, held_check hash shape g form list e)) (live_of (live list) key) ≡ Some (at, is_accepted)
  held-shown key at op proof root is_accepted is made of told = by (live_of (live list) key) refl
    where
      verdict : ℕ × Operation → Bool
      verdict p = range_proofs.operation_verdict hash shape g (range_proofs.operation_proof hash shape g form list p.0) (spelling form p.1) (canonical hash shape g form list)

      by : (o : Option Live) → live_of (live list) key ≡ o → option_map {U = ℕ × Bool} (λ e. (e.location, held_check hash shape g form list e)) o ≡ Some (at, is_accepted)
      by None found = absurd (apart (at, op) (sym (ap (option_map located) found) ∙ is))
      by (Some e) found =
          let same : Some (located e) ≡ Some (at, op) = sym (ap (option_map located) found) ∙ is in
          let pair : located e ≡ (at, op) = ap (λ o. unwrap_or o (at, op)) same in
          let yes : is_accepted ≡ verdict (at, op) = told ∙ ap₂ (λ p r. range_proofs.operation_verdict hash shape g p (spelling form op) r) made of in
          ap {B = Option (ℕ × Bool)} (λ p. Some (p.0, verdict p)) pair ∙ ap {B = Option (ℕ × Bool)} (λ b. Some (at, b)) (sym yes)

  -- as many operations are shown as a proof has
  pub count-shown : {E : Type 0} (view : E → Operation) (ops : List E) (start max : ℕ) → map view ops ≡ take (proof_count (length list) start max) (drop start list) → length ops ≡ proof_count (length list) start max
  count-shown view ops start max are =
      let count = proof_count (length list) start max in
      let fits : count ≤ length (drop start list) = omega (arith, length-drop start list) in
      sym (length-map ops view) ∙ ap length are ∙ length-take-le count (drop start list) fits

  -- the proof of operations in a row, and the verdict on it
  pub range-shown : {E : Type 0} (view : E → Operation) (ops : List E) (start count : ℕ) (chunks : List Bytes) (proof : range_proofs.RangeProof) (root : Bytes) (is_accepted : Bool)
      → map view ops ≡ take count (drop start list) → chunks ≡ range_proofs.chunks_of g list start (start + count) → proof ≡ range_proofs.range_proof hash shape g form list start (start + count) → root ≡ canonical hash shape g form list
      → is_accepted ≡ range_proofs.range_verdict hash shape g (map (λ e. spelling form (view e)) ops) start chunks proof root
      → (length chunks, is_accepted) ≡ range_check hash shape g form list start (start + count)
  range-shown view ops start count chunks proof root is_accepted are parts made of told =
      let some : start + count - start ≡ count = omega arith in
      let spelled : map (λ e. spelling form (view e)) ops ≡ take (start + count - start) (drop start (map (spelling form) list)) =
      fused view ops ∙ ap (map (spelling form)) are ∙ sym (take-map (spelling form) count (drop start list)) ∙ ap (take count) (sym (drop-map (spelling form) start list)) ∙ ap (λ n. take n (drop start (map (spelling form) list))) (sym some) in
      let verdict = range_proofs.range_verdict hash shape g in
      ap₂ {C = ℕ × Bool} (λ n b. (n, b)) (ap length parts)
      (told ∙ ap (λ items. verdict items start chunks proof root) spelled ∙ ap (λ cs. verdict (take (start + count - start) (drop start (map (spelling form) list))) start cs proof root) parts
      ∙ ap₂ (verdict (take (start + count - start) (drop start (map (spelling form) list))) start (range_proofs.chunks_of g list start (start + count))) made of)
    where
      fused : {E : Type 0} (view : E → Operation) (es : List E) → map (λ e. spelling form (view e)) es ≡ map (spelling form) (map view es)
      fused view [] = refl
      fused view (e ∷ es) = ap (λ rest. spelling form (view e) ∷ rest) (fused view es)

  -- the witness of the operations root, and the verdict on it
  pub witness-shown : (w : range_proofs.Witness) (operations root : Bytes) (is_accepted : Bool) → w ≡ range_proofs.witness hash shape g form list → operations ≡ ops_root hash shape form list → root ≡ canonical hash shape g form list
      → is_accepted ≡ range_proofs.witness_verdict hash shape g w operations root → is_accepted ≡ witness_check hash shape g form list
  witness-shown w operations root is_accepted made of at told =
      told ∙ ap (λ x. range_proofs.witness_verdict hash shape g x operations root) made ∙ ap₂ (range_proofs.witness_verdict hash shape g (range_proofs.witness hash shape g form list)) of at
