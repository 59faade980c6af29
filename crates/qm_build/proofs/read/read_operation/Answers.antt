use Rattle.std.proofs.Common.{◌⊎◌, ◌∙◌, ap, sym, subst, map, Some, inl, inr}
use Rattle.std.specs.Prelude.{option_and_then}
use Rattle.std.proofs.lemmas.Option.{IfSome_then}
use Rattle.std.proofs.lemmas.Result.{err_from_is_err_and}
use Rattle.qm_model.specs.Forms.{IsSpelling, decoded, spelling}
use Rattle.qm_model.proofs.Forms.{IsSpelling-once}
use Rattle.qm_model.proofs.Results.{told-one, told-any, ok-then, err-then}
use Rattle.qm_operations.specs.Views.{operation_view}
use Rattle.qm_build.proofs.Reading.{decodes-anyway, read-fault, spelled-there}
use Rattle.qm_build.proofs.Decoding.{each}
use Rattle.qm_build.proofs.read.read_operation.Goals as goal

wider : {A B C : Type 0} → A ⊎ C → (A ⊎ B) ⊎ C
wider (inl a) = inl (inl a)
wider (inr c) = inr c

pub returns : goal.returns
returns g c =
    let form = g.U.Update.form in
    let view = operation_view g.U.Update.view g.U.Key.ByteString.bytes g.U.Value.ByteString.bytes in
    let told = g.C.Store.told c.args.log.now.store in
    let item = c.in_ok-item.item.items in
    let result = c.operation_in.result in
    let made = c.operation_in.ensures in
    record {
      value = λ ops has.
          told-one _ _ told (c.in_ok-item.ensures.item (map (spelling form) ops) has.logged) (λ is.
          let there = spelled-there form ops c.args.at item has.of is in
          ok-then result made.spelled (λ op own. there.1 ∙ ap Some (IsSpelling-once form item there.0 (view op) there.2 (subst (λ bs. IsSpelling form bs (view op)) c.deref.ensures.value own))));
      decodes = λ ops has.
          told-one _ _ told (c.in_ok-item.ensures.item (map (spelling form) ops) has.logged) (λ is.
          let there = spelled-there form ops c.args.at item has.of is in
          err-then result made.none (λ e none lost. (none lost).1 there.0 (subst (λ bs. IsSpelling form bs there.0) (sym c.deref.ensures.value) there.2)));
      held = IfSome_then told c.in_ok-item.ensures.held (λ s here.
          ok-then result made.decoded (λ op is. ap (option_and_then (decoded form)) here ∙ ap (decoded form) (sym c.deref.ensures.value) ∙ is));
      spelled = IfSome_then told c.in_ok-item.ensures.held (λ s here.
          ok-then result made.spelled (λ op own. record { item = item; here = here; spells = subst (λ bs. IsSpelling form bs (view op)) c.deref.ensures.value own }));
      corrupt = IfSome_then told c.in_ok-item.ensures.held (λ s here.
          err-then result made.none (λ e none lost. record { item = item; here = here; none = ap (decoded form) (sym c.deref.ensures.value) ∙ (none lost).0 }));
      read = record { stands = c.read.ensures.stands; tree = c.read.ensures.tree; kept = c.read.ensures.kept; later = c.read.ensures.cause.later };
      error = err-then result made.never (λ e never. wider never);
    }

pub read-requires : goal.read-requires
read-requires g c = c.requires.below

pub returns-in_err-item : goal.returns-in_err-item
returns-in_err-item g c =
    let members = g.C.Store in
    let log = c.args.log.now in
    let told = members.told log.store in
    let exit = err_from_is_err_and c.from_residual.result c.from_residual.ensures.1 in
    let fault = read-fault members log c.read.new.self c.args.at c.read.result c.in_err-item.field-0.0 c.in_err-item.was c.requires.kept c.read.ensures.pruned.0 c.in_err-item.ensures.never c.read.ensures.cause in
    let other = decodes-anyway members log c.read.new.self c.in_err-item.field-0.0 fault in
    rw (exit.1, exit.2) (record {
      value = λ ops has. told-any _ told tt;
      decodes = λ ops has. told-any _ told other;
      held = each told (λ s. tt);
      spelled = each told (λ s. tt);
      corrupt = each told (λ s is. absurd (other is));
      read = record { stands = c.read.ensures.stands; tree = c.read.ensures.tree; kept = c.read.ensures.kept; later = c.read.ensures.cause.later };
      error = inl fault;
    })
