use Rattle.std.proofs.Common.{◌≡◌, ap, length, min, map, refl, rules, arith}
use Rattle.std.proofs.lemmas.Grind.{common_steps}
use Rattle.std.proofs.lemmas.Result.{on_ok_weaker}
use Rattle.qm_model.specs.StoreModel.{IsImage, IsOldOrNew, RewindLeaves, ReadsAs, HasAppended, DestroyLeaves, Fails, appended, pruned, with_metadata}
use Rattle.qm_model.proofs.Stores.{reads-kept, reads-kept-or, reads-kept-rewind, reads-kept-append, reads-kept-destroy, fails-unmoved}
use Rattle.qm_memory.specs.Mem.{Mem}
use Rattle.qm_memory.proofs.Mems.{counted-made, counted-asked, held-on_err, kept-on_err, held-inside, restart-chose}
use Rattle.qm_memory.proofs.mem_store.MemStoreStore.TheImpl.Goals as goal

pub append-tells : goal.append-tells
append-tells c =
    let old = c.args.self.now in
    record {
      ok = search rules;
      ok_end = grind (arith, common_steps);
      same_start = search rules;
      grows = grind (arith, common_steps);
      within = grind (arith, common_steps);
      cause = search rules;
      counted = counted-made c.result old c.new.self.now c.ensures.fault c.ensures.memory (on_ok_weaker c.result (λ is. ap (λ (m : Mem). m.calls) is) c.ensures.ok);
      err = kept-on_err c.result old.held c.new.self.now.held (Fails (HasAppended (map (λ v. v.items) c.args.added.now)) (λ s. IsImage (appended (map (λ v. v.items) c.args.added.now) s))) (held-on_err c.result old c.new.self.now c.ensures.fault c.ensures.memory) (fails-unmoved (HasAppended (map (λ v. v.items) c.args.added.now)) (λ s. IsImage (appended (map (λ v. v.items) c.args.added.now) s)) old.held (reads-kept-append (map (λ v. v.items) c.args.added.now) old.held (held-inside old c.ensures.inside)));
      still = kept-on_err c.result old.held c.new.self.now.held (λ s t. length c.args.added.now ≡ 0 → t.stable ≡ s.stable) (held-on_err c.result old c.new.self.now c.ensures.fault c.ensures.memory) (λ none. refl);
    }

pub commit-tells : goal.commit-tells
commit-tells c =
    let old = c.args.self.now in
    record {
      ok = search rules;
      ok_end = search rules;
      same_start = search rules;
      within = search rules;
      cause = search rules;
      counted = counted-made c.result old c.new.self.now c.ensures.fault c.ensures.memory (on_ok_weaker c.result (λ is. ap (λ (m : Mem). m.calls) is) c.ensures.ok);
      err = kept-on_err c.result old.held c.new.self.now.held (Fails (λ s. ReadsAs s.stable (IsImage s)) (λ s. ReadsAs s.stable (IsImage s))) (held-on_err c.result old c.new.self.now c.ensures.fault c.ensures.memory) (fails-unmoved (λ s. ReadsAs s.stable (IsImage s)) (λ s. ReadsAs s.stable (IsImage s)) old.held (reads-kept old.held (held-inside old c.ensures.inside)));
    }

pub sync-tells : goal.sync-tells
sync-tells c =
    let old = c.args.self.now in
    record {
      ok = search rules;
      ok_end = search rules;
      same_start = search rules;
      within = search rules;
      cause = search rules;
      counted = counted-made c.result old c.new.self.now c.ensures.fault c.ensures.memory (on_ok_weaker c.result (λ is. ap (λ (m : Mem). m.calls) is) c.ensures.ok);
      err = kept-on_err c.result old.held c.new.self.now.held (Fails (λ s. ReadsAs s.stable (IsImage s)) (λ s. ReadsAs s.stable (IsImage s))) (held-on_err c.result old c.new.self.now c.ensures.fault c.ensures.memory) (fails-unmoved (λ s. ReadsAs s.stable (IsImage s)) (λ s. ReadsAs s.stable (IsImage s)) old.held (reads-kept old.held (held-inside old c.ensures.inside)));
    }

pub rewind-tells : goal.rewind-tells
rewind-tells c =
    let old = c.args.self.now in
    record {
      ok = search rules;
      ok_end = search rules;
      same_start = search rules;
      within = search rules;
      cause = search rules;
      counted = counted-made c.result old c.new.self.now c.ensures.fault c.ensures.memory (on_ok_weaker c.result (λ is. ap (λ (m : Mem). m.calls) is) c.ensures.ok);
      err = kept-on_err c.result old.held c.new.self.now.held (Fails (λ s. ReadsAs (min s.stable c.args.to) (RewindLeaves c.args.to s)) (λ s. ReadsAs (min s.stable c.args.to) (RewindLeaves c.args.to s))) (held-on_err c.result old c.new.self.now c.ensures.fault c.ensures.memory) (fails-unmoved (λ s. ReadsAs (min s.stable c.args.to) (RewindLeaves c.args.to s)) (λ s. ReadsAs (min s.stable c.args.to) (RewindLeaves c.args.to s)) old.held (reads-kept-rewind c.args.to old.held (held-inside old c.ensures.inside)));
    }

pub prune-tells : goal.prune-tells
prune-tells c =
    let old = c.args.self.now in
    record {
      ok = search rules;
      ok_start = search rules;
      ok_end = grind (arith, common_steps);
      within = grind (arith, common_steps);
      cause = search rules;
      counted = counted-made c.result old c.new.self.now c.ensures.fault c.ensures.memory (on_ok_weaker c.result (λ is. ap (λ (m : Mem). m.calls) is) c.ensures.ok);
      err = kept-on_err c.result old.held c.new.self.now.held (Fails (λ s. ReadsAs s.stable (IsOldOrNew (pruned c.args.to c.args.head.now) s)) (λ s. ReadsAs s.stable (IsOldOrNew (pruned c.args.to c.args.head.now) s))) (held-on_err c.result old c.new.self.now c.ensures.fault c.ensures.memory) (fails-unmoved (λ s. ReadsAs s.stable (IsOldOrNew (pruned c.args.to c.args.head.now) s)) (λ s. ReadsAs s.stable (IsOldOrNew (pruned c.args.to c.args.head.now) s)) old.held (reads-kept-or (pruned c.args.to c.args.head.now) old.held (held-inside old c.ensures.inside)));
    }

pub put_meta-tells : goal.put_meta-tells
put_meta-tells c =
    let old = c.args.self.now in
    record {
      ok = search rules;
      ok_end = search rules;
      same_start = search rules;
      within = search rules;
      cause = search rules;
      counted = counted-made c.result old c.new.self.now c.ensures.fault c.ensures.memory (on_ok_weaker c.result (λ is. ap (λ (m : Mem). m.calls) is) c.ensures.ok);
      err = kept-on_err c.result old.held c.new.self.now.held (Fails (λ s. ReadsAs s.stable (IsOldOrNew (with_metadata c.args.name.now c.args.entries.now) s)) (λ s. ReadsAs s.stable (IsOldOrNew (with_metadata c.args.name.now c.args.entries.now) s))) (held-on_err c.result old c.new.self.now c.ensures.fault c.ensures.memory) (fails-unmoved (λ s. ReadsAs s.stable (IsOldOrNew (with_metadata c.args.name.now c.args.entries.now) s)) (λ s. ReadsAs s.stable (IsOldOrNew (with_metadata c.args.name.now c.args.entries.now) s)) old.held (reads-kept-or (with_metadata c.args.name.now c.args.entries.now) old.held (held-inside old c.ensures.inside)));
    }

pub restart-tells : goal.restart-tells
restart-tells c =
    let old = c.args.self.now in
    record {
      same_start = search rules;
      within = search rules;
      cause = search rules;
      counted = counted-made c.result old c.new.self.now c.ensures.fault c.ensures.memory (on_ok_weaker c.result (λ is. ap (λ (m : Mem). m.calls) is) c.ensures.ok);
      ok = restart-chose c.result old c.new.self.now c.args.keep c.ensures.inside c.ensures.ok;
      err = kept-on_err c.result old.held c.new.self.now.held (Fails (λ s. ReadsAs s.stable (IsImage s)) (λ s. ReadsAs s.stable (IsImage s))) (held-on_err c.result old c.new.self.now c.ensures.fault c.ensures.memory) (fails-unmoved (λ s. ReadsAs s.stable (IsImage s)) (λ s. ReadsAs s.stable (IsImage s)) old.held (reads-kept old.held (held-inside old c.ensures.inside)));
    }

pub destroy-tells : goal.destroy-tells
destroy-tells c =
    let old = c.args.self.now in
    record {
      ok = search rules;
      ok_start = search rules;
      ok_end = search rules;
      within = search rules;
      cause = search rules;
      counted = counted-made c.result old c.new.self.now c.ensures.fault c.ensures.memory (on_ok_weaker c.result (λ is. ap (λ (m : Mem). m.calls) is) c.ensures.ok);
      err = kept-on_err c.result old.held c.new.self.now.held (Fails DestroyLeaves DestroyLeaves) (held-on_err c.result old c.new.self.now c.ensures.fault c.ensures.memory) (fails-unmoved DestroyLeaves DestroyLeaves old.held (reads-kept-destroy old.held (held-inside old c.ensures.inside)));
    }

pub read-tells : goal.read-tells
read-tells c = record {
  item = search rules;
  same_start = search rules;
  same_end = search rules;
  same = search rules;
  cause = search rules;
  counted = counted-asked c.result c.args.self.now c.new.self.now c.ensures.fault c.ensures.other;
}

pub head-tells : goal.head-tells
head-tells c = record {
  value = search rules;
  same_start = search rules;
  same_end = search rules;
  same = search rules;
  cause = search rules;
  counted = counted-asked c.result c.args.self.now c.new.self.now c.ensures.fault c.ensures.other;
}

pub meta-tells : goal.meta-tells
meta-tells c = record {
  value = search rules;
  same_start = search rules;
  same_end = search rules;
  same = search rules;
  cause = search rules;
  counted = counted-asked c.result c.args.self.now c.new.self.now c.ensures.fault c.ensures.other;
}
