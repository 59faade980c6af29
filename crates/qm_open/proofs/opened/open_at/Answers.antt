use Rattle.std.proofs.Common.{◌≡◌, ◌⊎◌, ◌∙◌, ◌-◌, map, take, drop, ap, arith, inl, inr, subst, subst₂, true, false, IfSome}
use Rattle.std.specs.Prelude.{is_none}
use Rattle.std.specs.List.{list_any}
use Rattle.std.proofs.lemmas.List.{length-map}
use Rattle.qm_model.specs.Forms.{spelling}
use Rattle.qm_base.specs.declared.error.Corrupt.TheVariants.{HeadDoesNotMatch, ItemDoesNotDecode}
use Rattle.qm_base.specs.declared.error.Error.{Error}
use Rattle.qm_base.specs.declared.error.Error.TheVariants as errors
use Rattle.qm_base.specs.declared.error.JournalError.TheVariants as journal
use Rattle.qm_store.specs.declared.refusal.Given.TheVariants.{Store}
use Rattle.qm_model.specs.Schemes.{any_scheme}
use Rattle.qm_store.specs.Log.{digests_from, head_over, store_given}
use Rattle.qm_store.proofs.Stores.{both, kept-then}
use Rattle.qm_build.specs.Reads.{items_within}
use Rattle.qm_build.proofs.Decoding.{each}
use Rattle.qm_open.proofs.Checking.{each-known, known-at}
use Rattle.qm_open.proofs.Heads.{head-spelled}
use Rattle.qm_build.proofs.Reading.{caused, which-error}
use Rattle.qm_store.proofs.Exits.{later-cause}
use Rattle.qm_open.proofs.opened.open_at.Goals as goal

no-head : (e : Error) → (e ≡ errors.Memory) ⊎ ((e ≡ errors.Journal journal.Store) ⊎ (e ≡ errors.DataCorrupted ItemDoesNotDecode)) → e ≡ errors.DataCorrupted HeadDoesNotMatch → ⊥
no-head e (inl memory) is = cc
no-head e (inr (inl fault)) is = cc
no-head e (inr (inr lost)) is = cc

no-item : (e : Error) → (e ≡ errors.Memory) ⊎ ((e ≡ errors.Journal journal.Store) ⊎ (e ≡ errors.DataCorrupted HeadDoesNotMatch)) → e ≡ errors.DataCorrupted ItemDoesNotDecode → ⊥
no-item e (inl memory) is = cc
no-item e (inr (inl fault)) is = cc
no-item e (inr (inr head)) is = cc

wider : {A B C D : Type 0} → A ⊎ (B ⊎ D) → A ⊎ (B ⊎ (C ⊎ D))
wider (inl a) = inl a
wider (inr (inl b)) = inr (inl b)
wider (inr (inr d)) = inr (inr (inr d))

wider-behind : {A B C D : Type 0} → A ⊎ (B ⊎ C) → A ⊎ (B ⊎ (C ⊎ D))
wider-behind (inl a) = inl a
wider-behind (inr (inl b)) = inr (inl b)
wider-behind (inr (inr c)) = inr (inr (inl c))

pub returns-in-Ok-rebuilt : goal.returns-in-Ok-rebuilt
returns-in-Ok-rebuilt g c =
    let members = g.C.Store in
    let form = g.U.Update.form in
    let store = c.args.store in
    let made = c.in-Ok.log.store in
    let told = members.told store in
    let opened = c.in-Ok.ensures in
    let rebuilt = c.in-Ok-rebuilt.ensures in
    let read = c.rebuilt.ensures.read in
    record {
      stands = each-known told (λ s is list has low.
          let shape = g.F.Family.shape in
          let hash = g.H.Hasher.hash in
          let n = members.start store in
          let from : s.start ≡ n = known-at _ told s is (g.met.C.Store.told_start store) in
          let items = subst (λ n. take (c.args.selected.size - n) s.items ≡ drop n (map (spelling form) list)) from has.items in
          let head = subst (λ n. s.head ≡ head_over shape hash n (digests_from hash shape 0 (take n (map (spelling form) list)))) from (has.head ∙ head-spelled (any_scheme hash shape g.H.Digest.Digest.SIZE form) list s.start) in
          let logged = known-at _ told s is (opened.stands (map (spelling form) list) (length-map list (spelling form) ∙ has.size_is)) items head in
          known-at _ (members.told made) s (opened.kept.told ∙ is) (rebuilt.opened list (record { logged = logged; of = has.of }) has.good low));
      made = record {
        ends = ap (λ t. t.leaves) read.tree ∙ opened.size;
        kept = kept-then members store made c.rebuilt.new.log.store opened.kept read.kept;
        later = omega (arith, opened.later, read.later);
        pruned = rebuilt.pruned;
        bits = (rebuilt.bits.0 ∙ opened.size, omega (arith, rebuilt.bits.1, opened.size));
      };
      read = both told opened.long (subst₂ (λ o n. IfSome o (λ s. list_any is_none (items_within form s c.args.selected.floor n) ≡ false)) opened.kept.told opened.size rebuilt.decoded) (λ s long whole. (long, whole));
      refused = tt;
    }

pub returns-in-Err-rebuilt : goal.returns-in-Err-rebuilt
returns-in-Err-rebuilt g c =
    let members = g.C.Store in
    let form = g.U.Update.form in
    let store = c.args.store in
    let log = c.in-Ok.log in
    let new = c.rebuilt.new.log in
    let told = members.told store in
    let opened = c.in-Ok.ensures in
    let read = c.rebuilt.ensures.read in
    let error = c.in-Err-rebuilt.error in
    let refused = c.in-Err-rebuilt.ensures in
    let which = which-error members log new error refused.error in
    record {
      stands = each told (λ s list has low. tt);
      made = tt;
      read = each told (λ s. tt);
      refused = record {
        back = (new.store, ap Store c.close.ensures, kept-then members store log.store new.store opened.kept read.kept, later-cause (members.faults store) (members.faults log.store) (members.faults new.store) opened.later (caused members log log new error (omega arith) read.later refused.error));
        other_head = λ is. absurd (no-head error which is);
        undecoded = λ is.
            both told opened.long (subst₂ (λ o n. IfSome o (λ s. list_any is_none (items_within form s c.args.selected.floor n) ≡ true)) opened.kept.told opened.size (refused.undecoded is)) (λ s long here. (long, here));
        never = wider which;
      };
    }

pub returns-in-Err : goal.returns-in-Err
returns-in-Err g c =
    let told = g.C.Store.told c.args.store in
    let refused = c.in-Err.ensures in
    record {
      stands = each told (λ s list has low. tt);
      made = tt;
      read = each told (λ s. tt);
      refused = record {
        back = (refused.back.0, ap Store (c.store_of.ensures ∙ ap store_given refused.back.1), refused.back.2, refused.back.3);
        other_head = refused.head;
        undecoded = λ is. absurd (no-item c.in-Err.refusal.error refused.never is);
        never = wider-behind refused.never;
      };
    }
