use Rattle.std.proofs.Common.{◌≡◌, ◌++◌, ◌∷◌, [], ◌∙◌, ap, append_assoc, List, ℕ}
use Rattle.std.specs.Prelude.{Result, Ok, Err, OnOk, if◌then◌else◌, is_ok, option_map}
use Rattle.std.proofs.lemmas.Option.{IfSome_then}
use Rattle.std.proofs.lemmas.Result.{IfOk-from_err, on_ok_weaker}
use Rattle.qm_model.specs.Operations.{eight_bytes}
use Rattle.qm_model.specs.Forms.{field, key_size, value_size, metadata_field}
use Rattle.qm_operations.proofs.operation.add_plain.Goals as goal

-- what is written after a tag
tagged : (tag : ℕ) (old first new k : List ℕ) → first ≡ old ++ tag ∷ [] → new ≡ first ++ k → new ≡ old ++ tag ∷ k
tagged tag old first new k begun next = next ∙ ap (λ b. b ++ k) begun ∙ append_assoc old (tag ∷ []) k

ended : (tag : ℕ) (old first second new k e : List ℕ) → first ≡ old ++ tag ∷ [] → second ≡ first ++ k → new ≡ second ++ e → new ≡ old ++ tag ∷ (k ++ e)
ended tag old first second new k e begun next last = last ∙ ap (λ b. b ++ e) (tagged tag old first second k begun next) ∙ append_assoc old (tag ∷ k) e

appended : {E : Type 0} (r : Result (Unit {0}) E) (old new bs : List ℕ) → new ≡ (if is_ok r then old ++ bs else old) → OnOk r (new ≡ old ++ bs)
appended (Ok x) old new bs e = e
appended (Err y) old new bs e = tt

pub returns-in_err-push-in-Delete : goal.returns-in_err-push-in-Delete
returns-in_err-push-in-Delete g c = record {
  spelled = IfOk-from_err c.from_residual.result _ c.from_residual.ensures.0;
  of = IfOk-from_err c.from_residual.result _ c.from_residual.ensures.0;
}

pub returns-in_err-push-in-CommitFloor : goal.returns-in_err-push-in-CommitFloor
returns-in_err-push-in-CommitFloor g c = record {
  spelled = IfOk-from_err c.from_residual-in_err-push-in-CommitFloor.result _ c.from_residual-in_err-push-in-CommitFloor.ensures.0;
  of = IfOk-from_err c.from_residual-in_err-push-in-CommitFloor.result _ c.from_residual-in_err-push-in-CommitFloor.ensures.0;
}

pub returns-in_err-add_metadata-in-CommitFloor : goal.returns-in_err-add_metadata-in-CommitFloor
returns-in_err-add_metadata-in-CommitFloor g c = record {
  spelled = IfOk-from_err c.from_residual-in_err-add_metadata-in-CommitFloor.result _ c.from_residual-in_err-add_metadata-in-CommitFloor.ensures.0;
  of = IfOk-from_err c.from_residual-in_err-add_metadata-in-CommitFloor.result _ c.from_residual-in_err-add_metadata-in-CommitFloor.ensures.0;
}

pub returns-in-Update : goal.returns-in-Update
returns-in-Update g c = rw c.in-Update.is (record {
  spelled = c.add_update.ensures.spelled;
  of = on_ok_weaker c.add_update.result (λ of _. of) c.add_update.ensures.of;
})

pub returns-in_ok-push-in-Delete : goal.returns-in_ok-push-in-Delete
returns-in_ok-push-in-Delete g c =
    let key = g.U.Key.ByteString.bytes c.in-Delete.key in
    let made = c.add_field.ensures in
    let next = rw (c.key_size.ensures, c.sizes-sizes.ensures) at made.spelled in
    rw c.in-Delete.is (record {
      spelled = on_ok_weaker c.add_field.result (tagged 2 c.args.out.now.items c.push.new.self.items c.add_field.new.out.items (field (key_size g.U.Update.form.sizes) key) c.in_ok-push-in-Delete.ensures.items) next;
      of = on_ok_weaker c.add_field.result (λ _ _. g.met.U.Update.keys key made.has made.short) next;
    })

pub returns-in_ok-add_metadata-in-CommitFloor : goal.returns-in_ok-add_metadata-in-CommitFloor
returns-in_ok-add_metadata-in-CommitFloor g c =
    let metadata = option_map g.U.Value.ByteString.bytes c.in-CommitFloor.metadata in
    let made = c.in_ok-add_metadata-in-CommitFloor.ensures in
    let next = rw (c.value_size.ensures, c.sizes-sizes.ensures) at made.spelled in
    let last = appended c.extend_from_slice.result c.add_metadata.new.out.items c.extend_from_slice.new.self.items (eight_bytes c.in-CommitFloor.floor) (rw (c.eight_bytes.ensures, c.get.ensures) at c.extend_from_slice.ensures.items) in
    rw c.in-CommitFloor.is (record {
      spelled = on_ok_weaker c.extend_from_slice.result (ended 3 c.args.out.now.items c.push-in-CommitFloor.new.self.items c.add_metadata.new.out.items c.extend_from_slice.new.self.items (metadata_field (value_size g.U.Update.form.sizes) metadata) (eight_bytes c.in-CommitFloor.floor) c.in_ok-push-in-CommitFloor.ensures.items next) last;
      of = on_ok_weaker c.extend_from_slice.result (λ _ floor. (IfSome_then metadata made.has (λ bs has. g.met.U.Update.values bs has.0 has.1), floor)) last;
    })
