use Rattle.std.proofs.Common.{◌≡◌, ◌++◌, ◌∷◌, [], ◌∙◌, ap, sym, append_assoc, append-nil, List, ℕ, Some, None}
use Rattle.std.specs.Prelude.{is_some, option_map}
use Rattle.std.proofs.lemmas.Result.{IfOk-from_err, on_ok_weaker}
use Rattle.qm_model.specs.Operations.{update}
use Rattle.qm_model.specs.Forms.{field, key_size, value_size}
use Rattle.qm_operations.proofs.operation.add_update.Goals as goal

-- what is written after some bytes, field by field
written : (old tagged first second new k v n : List ℕ) → tagged ≡ old ++ 1 ∷ [] → first ≡ tagged ++ k → second ≡ first ++ v → new ≡ second ++ n → new ≡ old ++ 1 ∷ (k ++ (v ++ n))
written old tagged first second new k v n tag key value next =
    next
    ∙ ap (λ b. b ++ n) (value ∙ ap (λ b. b ++ v) (key ∙ ap (λ b. b ++ k) tag ∙ append_assoc old (1 ∷ []) k) ∙ append_assoc old (1 ∷ k) v)
    ∙ append_assoc old (1 ∷ (k ++ v)) n
    ∙ ap (λ b. old ++ 1 ∷ b) (append_assoc k v n)

pub returns-in_err-push : goal.returns-in_err-push
returns-in_err-push g c = record {
  spelled = IfOk-from_err c.from_residual.result _ c.from_residual.ensures.0;
  of = IfOk-from_err c.from_residual.result _ c.from_residual.ensures.0;
}

pub returns-in_err-add_field : goal.returns-in_err-add_field
returns-in_err-add_field g c = record {
  spelled = IfOk-from_err c.from_residual-in_err-add_field.result _ c.from_residual-in_err-add_field.ensures.0;
  of = IfOk-from_err c.from_residual-in_err-add_field.result _ c.from_residual-in_err-add_field.ensures.0;
}

pub returns-in_err-add_field-2 : goal.returns-in_err-add_field-2
returns-in_err-add_field-2 g c = record {
  spelled = IfOk-from_err c.from_residual-in_err-add_field-2.result _ c.from_residual-in_err-add_field-2.ensures.0;
  of = IfOk-from_err c.from_residual-in_err-add_field-2.result _ c.from_residual-in_err-add_field-2.ensures.0;
}

pub returns-in-None : goal.returns-in-None
returns-in-None g c =
    let sizes = g.U.Update.form.sizes in
    let bytes = g.U.Key.ByteString.bytes in
    let key = bytes c.parts.result.0.now in
    let value = g.U.Value.ByteString.bytes c.parts.result.1.now in
    let is : g.U.Update.view c.args.update.now ≡ update key value None = c.parts.ensures.parts ∙ ap (λ n. update key value (option_map (λ next. bytes next.now) n)) c.in-None.is in
    let key_of = c.in_ok-add_field.ensures in
    let value_of = c.in_ok-add_field-2.ensures in
    let first = rw (c.key_size.ensures, c.sizes-sizes.ensures) at key_of.spelled in
    let second = rw (c.value_size.ensures, c.sizes-sizes.ensures) at value_of.spelled in
    rw is (record {
      spelled = written c.args.out.now.items c.push.new.self.items c.add_field.new.out.items c.add_field-2.new.out.items c.add_field-2.new.out.items (field (key_size sizes) key) (field (value_size sizes) value) [] c.in_ok-push.ensures.items first second (sym (append-nil c.add_field-2.new.out.items));
      of = (g.met.U.Update.keys key key_of.has key_of.short, g.met.U.Update.values value value_of.has value_of.short, sym (ap is_some c.in-None.is) ∙ c.parts.ensures.kind, tt);
    })

pub returns-in-Some : goal.returns-in-Some
returns-in-Some g c =
    let sizes = g.U.Update.form.sizes in
    let bytes = g.U.Key.ByteString.bytes in
    let key = bytes c.parts.result.0.now in
    let value = g.U.Value.ByteString.bytes c.parts.result.1.now in
    let next = bytes c.in-Some.next.now in
    let is : g.U.Update.view c.args.update.now ≡ update key value (Some next) = c.parts.ensures.parts ∙ ap (λ n. update key value (option_map (λ next. bytes next.now) n)) c.in-Some.is in
    let key_of = c.in_ok-add_field.ensures in
    let value_of = c.in_ok-add_field-2.ensures in
    let next_of = c.add_field-in-Some.ensures in
    let first = rw (c.key_size.ensures, c.sizes-sizes.ensures) at key_of.spelled in
    let second = rw (c.value_size.ensures, c.sizes-sizes.ensures) at value_of.spelled in
    let third = rw (c.key_size-in-Some.ensures, c.sizes-sizes.ensures) at next_of.spelled in
    rw is (record {
      spelled = on_ok_weaker c.add_field-in-Some.result (λ last. written c.args.out.now.items c.push.new.self.items c.add_field.new.out.items c.add_field-2.new.out.items c.add_field-in-Some.new.out.items (field (key_size sizes) key) (field (value_size sizes) value) (field (key_size sizes) next) c.in_ok-push.ensures.items first second last) third;
      of = on_ok_weaker c.add_field-in-Some.result (λ _. (g.met.U.Update.keys key key_of.has key_of.short, g.met.U.Update.values value value_of.has value_of.short, sym (ap is_some c.in-Some.is) ∙ c.parts.ensures.kind, g.met.U.Update.keys next next_of.has next_of.short)) third;
    })
