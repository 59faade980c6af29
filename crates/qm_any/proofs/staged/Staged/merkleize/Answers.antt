use Rattle.std.proofs.Common.{ℕ, List, ◌≡◌, ◌∙◌, ◌≤◌, ◌+◌, ◌⊎◌, ◌∷◌, ◌++◌, false, ap, ap₂, arith, length, map, option_map, subst, sym, inl, inr}
use Rattle.std.proofs.lemmas.Result.{IfOk-from_err, err_from_is_err_and}
use Rattle.std.proofs.lemmas.List.{length-map}
use Rattle.std.specs.Prelude.{Contains}
use Rattle.qm_merkle.specs.Batches.{stops, lists_since}
use Rattle.qm_model.specs.Forms.{spelling}
use Rattle.qm_model.specs.Live.{floor}
use Rattle.qm_model.specs.Operations.{Operation}
use Rattle.qm_model.specs.Slots.{slotted}
use Rattle.qm_base.specs.Slots.{slot_views, write_views}
use Rattle.qm_model.proofs.Results.{err-then, ok-four, ok-then}
use Rattle.qm_base.specs.declared.error.Error.TheVariants as errors
use Rattle.qm_chain.specs.Bounds.{commitment_view}
use Rattle.qm_operations.specs.Views.{operation_view, operation_views}
use Rattle.qm_store.specs.KeptTrees.{KeptTree, IsKeptTree}
use Rattle.qm_step.specs.Views.{IsPlan, evicted_after, left_after, stepped}
use Rattle.qm_any.specs.Layouts.{hashing_with, list_root, spellings}
use Rattle.qm_any.specs.Databases.{IsLeft, IsMade, IsTree, bases_of, is_on, kept_by}
use Rattle.qm_any.specs.Tips.{IsShort, IsSpelled, IsTooLong, IsTreeAfter}
use Rattle.qm_any.proofs.Agreed.{child-above, child-reached}
use Rattle.qm_any.proofs.Reading.{left-database, left-none}
use Rattle.qm_any.proofs.Reasons.{on-ok}
use Rattle.qm_any.proofs.Staging.{slotted-reads, staged-reads}
use Rattle.qm_any.proofs.Telling.{three}
use Rattle.qm_any.proofs.Unmade.{begun-low, child-found, child-of, child-on, child-stepped, made-leaves, on-same, plan-taken, unplaced, unplaced-kept, unplaced-refused, unread, unsealed, unspelled, unspelled-kept, unspelled-refused}
use Rattle.qm_any.proofs.staged.Staged.merkleize.Goals as goal

pub returns-in_err-child : goal.returns-in_err-child
returns-in_err-child g c =
    let exit = err_from_is_err_and c.from_residual.result c.from_residual.ensures.1 in
    let batch = ap (λ s. s.batch) c.self.view_is in
    let same = on-same c.args.self.batch c.parts-keep.result.0.now c.parts-keep.result.1 (commitment_view g.D.Digest.bytes c.commitment.result.now) c.args.db.now.commitment
    (c.parts-keep.ensures.parent ∙ ap (λ b. b.parent) batch) (c.parts-keep.ensures.keep ∙ ap (λ b. b.keep) batch) c.commitment.ensures.value in
    let e = c.in_err-child.field-0.0 in
    let refusal : (e ≡ errors.Memory) ⊎ ((e ≡ errors.StaleBatch) × (is_on c.args.db.now.commitment c.args.self.batch ≡ false)) = subst (λ t. (e ≡ errors.Memory) ⊎ ((e ≡ errors.StaleBatch) × (t ≡ false))) same c.in_err-child.ensures.refused in
    let unmade = unplaced g.C.Store (is_on c.args.db.now.commitment c.args.self.batch) c.args.db.now.log c.args.db.now.log e refusal in
    record {
      fits = IfOk-from_err c.from_residual.result _ c.from_residual.ensures.0;
      makes = λ list chain above is staged on. record {
        made = IfOk-from_err c.from_residual.result _ c.from_residual.ensures.0;
        taken = IfOk-from_err c.from_residual.result _ c.from_residual.ensures.0;
        next = IfOk-from_err c.from_residual.result _ c.from_residual.ensures.0;
        refused = rw (exit.1, exit.2) (inl (unplaced-refused g.U.Update.form chain.base _ (is_on c.args.db.now.commitment c.args.self.batch) e refusal));
      };
      short = IfOk-from_err c.from_residual.result _ c.from_residual.ensures.0;
      child = IfOk-from_err c.from_residual.result _ c.from_residual.ensures.0;
      unmade = rw (exit.1, exit.2) unmade;
      whole = λ list chain above is staged on. rw (exit.1, exit.2) (unplaced-kept (is_on c.args.db.now.commitment c.args.self.batch) e refusal);
      kept = λ list is low. rw (exit.1, exit.2) (unplaced-kept (is_on c.args.db.now.commitment c.args.self.batch) e refusal);
      left = left-none g.C.Store (hashing_with g.D.Digest.bytes g.H.Hasher.hash g.F.Family.shape g.U.Update.form) c.args.db.now;
    }

pub returns-in_err-plan : goal.returns-in_err-plan
returns-in_err-plan g c =
    let exit = err_from_is_err_and c.from_residual-in_err-plan.result c.from_residual-in_err-plan.ensures.1 in
    let batch = ap (λ s. s.batch) c.self.view_is in
    let same = on-same c.args.self.batch c.parts-keep.result.0.now c.parts-keep.result.1 (commitment_view g.D.Digest.bytes c.commitment.result.now) c.args.db.now.commitment
    (c.parts-keep.ensures.parent ∙ ap (λ b. b.parent) batch) (c.parts-keep.ensures.keep ∙ ap (λ b. b.keep) batch) c.commitment.ensures.value in
    let failed = c.in_err-plan.ensures.error in
    let unmade = unread g.C.Store (is_on c.args.db.now.commitment c.args.self.batch) c.args.db.now.log c.plan.new.self.log _ (sym same ∙ (c.in_ok-child.ensures.placed).on) failed in
    record {
      fits = IfOk-from_err c.from_residual-in_err-plan.result _ c.from_residual-in_err-plan.ensures.0;
      makes = λ list chain above is staged on. record {
        made = IfOk-from_err c.from_residual-in_err-plan.result _ c.from_residual-in_err-plan.ensures.0;
        taken = IfOk-from_err c.from_residual-in_err-plan.result _ c.from_residual-in_err-plan.ensures.0;
        next = IfOk-from_err c.from_residual-in_err-plan.result _ c.from_residual-in_err-plan.ensures.0;
        refused = rw (exit.1, exit.2) (inr failed);
      };
      short = IfOk-from_err c.from_residual-in_err-plan.result _ c.from_residual-in_err-plan.ensures.0;
      child = IfOk-from_err c.from_residual-in_err-plan.result _ c.from_residual-in_err-plan.ensures.0;
      unmade = rw (exit.1, exit.2) unmade;
      whole = λ list chain above is staged on.
          let same = ap (λ b. b.floor) c.base.ensures.value ∙ ap (λ m. m.bounds.inactivity_floor) (c.parts-keep.ensures.parent ∙ ap (λ b. b.parent) batch) in
          let low = begun-low c.args.self.batch list chain above staged.begun on in
          rw (exit.1, exit.2) (c.in_err-plan.ensures.whole list is (subst (λ n. c.args.db.now.log.tree.start ≤ n) (sym same) (omega (arith, is.low, low))));
      kept = λ list is low.
          let same = ap (λ b. b.floor) c.base.ensures.value ∙ ap (λ m. m.bounds.inactivity_floor) (c.parts-keep.ensures.parent ∙ ap (λ b. b.parent) batch) in
          rw (exit.1, exit.2) (c.in_err-plan.ensures.whole list is (subst (λ n. c.args.db.now.log.tree.start ≤ n) (sym same) low));
      left = c.in_err-plan.ensures.left;
    }

pub returns-in_err-tree : goal.returns-in_err-tree
returns-in_err-tree g c =
    let exit = err_from_is_err_and c.from_residual-in_err-tree.result c.from_residual-in_err-tree.ensures.1 in
    let batch = ap (λ s. s.batch) c.self.view_is in
    let same = on-same c.args.self.batch c.parts-keep.result.0.now c.parts-keep.result.1 (commitment_view g.D.Digest.bytes c.commitment.result.now) c.args.db.now.commitment
    (c.parts-keep.ensures.parent ∙ ap (λ b. b.parent) batch) (c.parts-keep.ensures.keep ∙ ap (λ b. b.keep) batch) c.commitment.ensures.value in
    let given = ap (operation_views g.U.Update.view g.U.Key.ByteString.bytes g.U.Value.ByteString.bytes) c.deref-2.ensures.value ∙ ap (λ p. p.operations) c.plan-2.view_is in
    let e = c.in_err-tree.field-0.0 in
    let size = c.tree.result.now.leaves + length c.deref-2.result.now in
    let refusal = subst (λ ops. (e ≡ errors.Memory) ⊎ IsTooLong (map (spelling g.U.Update.form) ops) size e) given c.in_err-tree.ensures.refused in
    let unmade = unspelled g.C.Store (is_on c.args.db.now.commitment c.args.self.batch) c.args.db.now.log c.grown.new.self.log e (map (spelling g.U.Update.form) c.in_ok-plan.plan.operations) size (sym same ∙ (c.in_ok-child.ensures.placed).on) refusal in
    record {
      fits = IfOk-from_err c.from_residual-in_err-tree.result _ c.from_residual-in_err-tree.ensures.0;
      makes = λ list chain above is staged on. record {
        made = IfOk-from_err c.from_residual-in_err-tree.result _ c.from_residual-in_err-tree.ensures.0;
        taken = IfOk-from_err c.from_residual-in_err-tree.result _ c.from_residual-in_err-tree.ensures.0;
        next = IfOk-from_err c.from_residual-in_err-tree.result _ c.from_residual-in_err-tree.ensures.0;
        refused =
            let key = g.U.Key.ByteString.bytes in
            let value = g.U.Value.ByteString.bytes in
            let view = g.U.Update.view in
            let form = g.U.Update.form in
            let batch = ap (λ s. s.batch) c.self.view_is in
            let parent = c.parts-keep.ensures.parent ∙ ap (λ b. b.parent) batch in
            let reads = ap (λ s. s.reads) c.self.view_is in
            let meta = option_map value c.args.metadata in
            let writes = slotted-reads view key value _ c.args.self.batch.writes c.deref.result.now c.self.inside.reads.items c.args.self.reads c.args.slots.now c.args.others.now (c.parts-keep.ensures.writes ∙ ap (λ b. b.writes) batch) c.deref.ensures.value reads in
            let found = child-found c.args.self.batch c.parts-keep.result.0.now _ list chain above c.base.ensures.value parent staged.begun on in
            let plan = subst (λ ws. IsPlan c.in_ok-plan.plan chain.base (stepped form g.P.Policy.rules chain.base ws c.args.policy.now meta) (evicted_after form g.P.Policy.rules chain.base ws c.args.policy.now)) writes
            (c.in_ok-plan.ensures.plan list chain.base is found ((staged.begun).parent).ring (staged-reads view key chain.base c.deref.result.now c.self.inside.reads.items c.args.self.reads c.deref.ensures.value reads staged.reads)).0 in
            let count : size ≡ length chain.base + length c.in_ok-plan.plan.operations =
            ap₂ (λ a b. a + b) (ap (λ t. t.leaves) (c.tree.ensures.value ∙ ap (λ m. m.tree) parent) ∙ made-leaves c.args.self.batch.parent above chain.base (staged.begun).parent)
            (sym (length-map c.deref-2.result.now (operation_view view key value)) ∙ ap length given) in
            rw (exit.1, exit.2) (inl (unspelled-refused form c.in_ok-plan.plan chain.base _ size e plan count refusal));
      };
      short = IfOk-from_err c.from_residual-in_err-tree.result _ c.from_residual-in_err-tree.ensures.0;
      child = IfOk-from_err c.from_residual-in_err-tree.result _ c.from_residual-in_err-tree.ensures.0;
      unmade = rw (exit.1, exit.2) unmade;
      whole = λ list chain above is staged on. rw (exit.1, exit.2) (unspelled-kept (map (spelling g.U.Update.form) c.in_ok-plan.plan.operations) size e refusal);
      kept = λ list is low. rw (exit.1, exit.2) (unspelled-kept (map (spelling g.U.Update.form) c.in_ok-plan.plan.operations) size e refusal);
      left = subst (IsLeft g.C.Store (hashing_with g.D.Digest.bytes g.H.Hasher.hash g.F.Family.shape g.U.Update.form) c.args.db.now) (sym c.grown.ensures.same) c.in_ok-plan.ensures.left;
    }

pub grown-requires-clause-few : goal.grown-requires-clause-few
grown-requires-clause-few g c =
    let agreed = c.tree.ensures.agreed in
    omega (arith, ap (λ t. t.leaves) c.tree.ensures.value, agreed.leaves, agreed.few)

pub grown-requires-clause-reach : goal.grown-requires-clause-reach
grown-requires-clause-reach g c =
    let size = ap (λ k. k.size) c.commitment.ensures.value ∙ sym (ap (λ d. d.commitment.size) c.in_ok-plan.ensures.left.rest) in
    subst (λ (t : KeptTree g.row.D.Denot). Contains (stops t.leaves t.layers) c.plan.new.self.commitment.size) (sym c.tree.ensures.value)
    (subst (Contains (stops c.parts-keep.result.0.now.tree.leaves c.parts-keep.result.0.now.tree.layers)) size
    (child-reached c.parts-keep.result.0.now c.tree.ensures.agreed c.parts-keep.result.1 (commitment_view g.D.Digest.bytes c.commitment.result.now) (c.in_ok-child.ensures.placed).on))

pub grown-requires-clause-boundary : goal.grown-requires-clause-boundary
grown-requires-clause-boundary g c =
    let size = ap (λ k. k.size) c.commitment.ensures.value ∙ sym (ap (λ d. d.commitment.size) c.in_ok-plan.ensures.left.rest) in
    let low = ap (λ k. k.size) (c.in_ok-child.ensures.placed).boundary in
    let above = child-above c.parts-keep.result.0.now c.tree.ensures.agreed c.parts-keep.result.1 (commitment_view g.D.Digest.bytes c.commitment.result.now) c.parts-keep.ensures.few (c.in_ok-child.ensures.placed).on in
    omega (arith, size, low, above)

pub sealed-requires-clause-placed : goal.sealed-requires-clause-placed
sealed-requires-clause-placed g c = ((c.in_ok-child.ensures.placed).boundary, (c.in_ok-child.ensures.placed).tips)

pub sealed-requires-clause-after : goal.sealed-requires-clause-after
sealed-requires-clause-after g c =
    let given = ap (operation_views g.U.Update.view g.U.Key.ByteString.bytes g.U.Value.ByteString.bytes) c.deref-2.ensures.value ∙ ap (λ p. p.operations) c.plan-2.view_is in
    three (λ (t : KeptTree g.row.D.Denot) (ops : List Operation) (n : ℕ). IsTreeAfter g.U.Update.form t ops n c.in_ok-tree.tree) c.tree.ensures.value given (ap (λ k. k.size) (c.in_ok-child.ensures.placed).boundary) c.in_ok-tree.ensures.after

pub sealed-requires-clause-live : goal.sealed-requires-clause-live
sealed-requires-clause-live g c =
    let given = ap length (ap (operation_views g.U.Update.view g.U.Key.ByteString.bytes g.U.Value.ByteString.bytes) c.deref-2.ensures.value ∙ ap (λ p. p.operations) c.plan-2.view_is) in
    let leaves = (c.in_ok-tree.ensures.after).leaves in
    let live = c.in_ok-plan.ensures.live in
    let known = ap (λ b. b.size) c.base.ensures.value in
    let agreed = c.tree.ensures.agreed in
    omega (arith, given, leaves, live, known, ap (λ t. t.leaves) c.tree.ensures.value, agreed.leaves)

pub returns : goal.returns
returns g c =
    let batch = ap (λ s. s.batch) c.self.view_is in
    let same = on-same c.args.self.batch c.parts-keep.result.0.now c.parts-keep.result.1 (commitment_view g.D.Digest.bytes c.commitment.result.now) c.args.db.now.commitment
    (c.parts-keep.ensures.parent ∙ ap (λ b. b.parent) batch) (c.parts-keep.ensures.keep ∙ ap (λ b. b.keep) batch) c.commitment.ensures.value in
    let here = sym same ∙ (c.in_ok-child.ensures.placed).on in
    record {
      fits = on-ok c.sealed.result here;
      makes = λ list chain above is staged on.
          let key = g.U.Key.ByteString.bytes in
          let value = g.U.Value.ByteString.bytes in
          let view = g.U.Update.view in
          let form = g.U.Update.form in
          let parent = c.parts-keep.ensures.parent ∙ ap (λ b. b.parent) batch in
          let reads = ap (λ s. s.reads) c.self.view_is in
          let meta = option_map value c.args.metadata in
          let writes = slotted-reads view key value _ c.args.self.batch.writes c.deref.result.now c.self.inside.reads.items c.args.self.reads c.args.slots.now c.args.others.now (c.parts-keep.ensures.writes ∙ ap (λ b. b.writes) batch) c.deref.ensures.value reads in
          let found = child-found c.args.self.batch c.parts-keep.result.0.now _ list chain above c.base.ensures.value parent staged.begun on in
          let planned = c.in_ok-plan.ensures.plan list chain.base is found ((staged.begun).parent).ring (staged-reads view key chain.base c.deref.result.now c.self.inside.reads.items c.args.self.reads c.deref.ensures.value reads staged.reads) in
          let plan = subst (λ ws. IsPlan c.in_ok-plan.plan chain.base (stepped form g.P.Policy.rules chain.base ws c.args.policy.now meta) (evicted_after form g.P.Policy.rules chain.base ws c.args.policy.now)) writes planned.0 in
          let given = ap (operation_views view key value) c.deref-2.ensures.value ∙ ap (λ p. p.operations) c.plan-2.view_is in
          let spelt = subst (λ ops. IsSpelled form ops c.in_ok-tree.tree.leaves) given (c.in_ok-tree.ensures.after).spelled in
          record {
            made =
                let bytes = g.D.Digest.bytes in
                let hash = g.H.Hasher.hash in
                let shape = g.F.Family.shape in
                let hashing = hashing_with bytes hash shape form in
                let base = chain.base in
                let begun = subst (λ m. IsMade hashing m above base) (sym parent) (staged.begun).parent in
                let kept = (staged.begun).kept ∙ ap (λ k. kept_by k above base) (sym (c.parts-keep.ensures.keep ∙ ap (λ b. b.keep) batch)) in
                let stands = left-database g.C.Store (record { hashing = hashing; chunk = g.N.Chunks.LEN; index_key = g.I.Unordered.index_key }) c.args.db.now c.plan.new.self list c.in_ok-plan.ensures.left is in
                let among = child-on c.parts-keep.result.0.now c.parts-keep.result.1 chain above c.parts-keep.ensures.few begun kept list on in
                let before = subst (λ t. IsTree hashing t base (bases_of above)) (sym c.tree.ensures.value) begun.tree in
                let both = c.in_ok-tree.ensures.tree list base (bases_of above) stands before among in
                let tree = subst (λ ops. IsKeptTree bytes hash shape c.in_ok-tree.tree (spellings hashing (base ++ ops)) (lists_since c.in_ok-child.child.boundary.size (map (spellings hashing) (base ∷ bases_of above)))) given both.tree in
                let low = c.get-floor.ensures ∙ ap (λ p. p.floor) c.plan-2.view_is in
                ok-then c.sealed.result c.sealed.ensures.value (λ b made. (
                  subst (λ m. IsMade hashing m chain (stepped form g.P.Policy.rules base (slotted c.args.self.batch.writes (map (λ r. r.0) c.args.self.reads) (slot_views value c.args.slots.now) (write_views key value c.args.others.now)) c.args.policy.now meta)) (sym made)
                      (child-stepped c.parts-keep.result.0.now c.parts-keep.result.1 chain above c.parts-keep.ensures.few begun kept g.P.Policy.rules c.args.policy.now _ meta c.in_ok-plan.plan c.in_ok-tree.tree (bytes c.in_ok-tree.root) c.in_ok-child.child.boundary.size _ plan spelt tree
                      (ap (λ k. k.size) (c.in_ok-child.ensures.placed).boundary)
                      (λ lowest. both.root (low ∙ lowest ∙ ap (λ ops. floor (base ++ ops)) (sym given)) ∙ ap (λ ops. list_root hashing (base ++ ops)) given)
                      c.in_ok-child.ensures.metadata),
                  ap (λ m. m.evicted) made ∙ plan.told,
                ));
            taken =
                let count : c.in_ok-tree.tree.leaves ≡ length chain.base + length c.in_ok-plan.plan.operations =
                (c.in_ok-tree.ensures.after).leaves ∙ ap₂ (λ a b. a + b) (ap (λ t. t.leaves) (c.tree.ensures.value ∙ ap (λ m. m.tree) parent) ∙ made-leaves c.args.self.batch.parent above chain.base (staged.begun).parent) (ap length given) in
                on-ok c.sealed.result (plan-taken form c.in_ok-plan.plan chain.base _ c.in_ok-tree.tree.leaves plan spelt count);
            next = on-ok c.sealed.result (subst (λ ws. c.plan.new.policy ≡ left_after form g.P.Policy.rules chain.base ws c.args.policy.now) writes planned.1);
            refused = err-then c.sealed.result c.sealed.ensures.memory (λ e memory. inl (inl memory));
          };
      short =
          let given = ap (operation_views g.U.Update.view g.U.Key.ByteString.bytes g.U.Value.ByteString.bytes) c.deref-2.ensures.value ∙ ap (λ p. p.operations) c.plan-2.view_is in
          let spelt = subst (λ ops. IsSpelled g.U.Update.form ops c.in_ok-tree.tree.leaves) given (c.in_ok-tree.ensures.after).spelled in
          ok-then c.sealed.result c.sealed.ensures.value (λ b made. subst (IsShort g.U.Update.form) (sym made) (spelt.short, spelt.few));
      child = ok-four c.sealed.result c.sealed.ensures.value c.sealed.ensures.above c.sealed.ensures.value c.sealed.ensures.above (λ b made above _ _.
          child-of c.args.self.batch c.parts-keep.result.0.now c.parts-keep.result.1 _ _ _ _ b.value (c.parts-keep.ensures.parent ∙ ap (λ b. b.parent) batch) (c.parts-keep.ensures.keep ∙ ap (λ b. b.keep) batch) made above);
      unmade = err-then c.sealed.result c.sealed.ensures.memory (λ e memory. unsealed g.C.Store (is_on c.args.db.now.commitment c.args.self.batch) c.args.db.now.log c.grown.new.self.log e here memory);
      whole = λ list chain above is staged on. err-then c.sealed.result c.sealed.ensures.memory (λ e memory n pruned. absurd (cc (memory, pruned)));
      kept = λ list is low. err-then c.sealed.result c.sealed.ensures.memory (λ e memory n pruned. absurd (cc (memory, pruned)));
      left = subst (IsLeft g.C.Store (hashing_with g.D.Digest.bytes g.H.Hasher.hash g.F.Family.shape g.U.Update.form) c.args.db.now) (sym c.grown.ensures.same) c.in_ok-plan.ensures.left;
    }
