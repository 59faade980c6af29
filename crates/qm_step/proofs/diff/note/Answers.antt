use Rattle.std.proofs.Common.{◌≡◌, ◌++◌, ap, length, true, Some, None, refl, Bor, List, ℕ, ◌∙◌}
use Rattle.std.specs.BTreeMap.{get_by}
use Rattle.std.specs.Cmp.Lexicographic.{slice_cmp}
use Rattle.std.specs.Ordering.{nat_cmp}
use Rattle.std.specs.Prelude.{option_map}
use Rattle.std.proofs.lemmas.Map.Text.{btree_map_updates_str}
use Rattle.qm_operations.specs.Views.{operation_view}
use Rattle.qm_step.specs.PlanViews.{touch_view, noted_view}
use Rattle.qm_step.proofs.PlanDiffs.{update-parts, noted-update, noted-delete, noted-commit, put-answers}
use Rattle.qm_step.proofs.PlanLoops.{insert-kept}
use Rattle.std.proofs.lemmas.Result.{on_ok_weaker}
use Rattle.qm_step.proofs.diff.note.Goals as goal

pub returns-in-Update : goal.returns-in-Update
returns-in-Update g c = record {
  noted = on_ok_weaker c.put.result (λ put base own at from so_far.
      let key = g.U.Key.ByteString.bytes in
      let value = g.U.Value.ByteString.bytes in
      let touch = touch_view g.U.Update.view key value c.args.touch.now in
      let parts = update-parts (g.U.Update.view c.in-Update.update) _ _ c.key.ensures c.value.ensures in
      noted-update base own touch (key c.key.result.now) (value c.value.result.now) parts.0
      (λ q. option_map (noted_view value) (get_by (λ k. slice_cmp nat_cmp q k.now) c.args.notes.now)) (λ q. option_map (noted_view value) (get_by (λ k. slice_cmp nat_cmp q k.now) c.put.new.map))
      (ap (operation_view g.U.Update.view key value) c.in-Update.is ∙ parts.1) from
      (put-answers (noted_view value) (λ q. get_by (λ k. slice_cmp nat_cmp q k.now) c.args.notes.now) (λ q. get_by (λ k. slice_cmp nat_cmp q k.now) c.put.new.map)
      c.as_bytes.result.now (key c.key.result.now) _ (record { now = Some (length (base ++ own), value c.value.result.now); before = touch.before })
      (ap (λ n. record { now = Some (n, value c.value.result.now); before = touch.before }) at) c.as_bytes.ensures.value
      (btree_map_updates_str c.as_bytes.result.now c.args.notes.now c.put.new.map _ put))
      so_far) c.put.ensures.updates;
  known = on_ok_weaker c.put.result (λ put all.
      insert-kept (λ (k : Bor (List ℕ)). g.U.Key.ByteString.has k.now ≡ true) _ c.args.notes.now.entries c.put.new.map.entries c.as_bytes.result _ put c.as_bytes.ensures.known all) c.put.ensures.entries;
}

pub returns-in-Delete : goal.returns-in-Delete
returns-in-Delete g c = record {
  noted = on_ok_weaker c.put-in-Delete.result (λ put base own at from so_far.
      let key = g.U.Key.ByteString.bytes in
      let value = g.U.Value.ByteString.bytes in
      let touch = touch_view g.U.Update.view key value c.args.touch.now in
      noted-delete base own touch (key c.in-Delete.key)
      (λ q. option_map (noted_view value) (get_by (λ k. slice_cmp nat_cmp q k.now) c.args.notes.now)) (λ q. option_map (noted_view value) (get_by (λ k. slice_cmp nat_cmp q k.now) c.put-in-Delete.new.map))
      (ap (operation_view g.U.Update.view key value) c.in-Delete.is) from
      (put-answers (noted_view value) (λ q. get_by (λ k. slice_cmp nat_cmp q k.now) c.args.notes.now) (λ q. get_by (λ k. slice_cmp nat_cmp q k.now) c.put-in-Delete.new.map)
      c.as_bytes-in-Delete.result.now (key c.in-Delete.key) _ (record { now = None; before = touch.before }) refl c.as_bytes-in-Delete.ensures.value
      (btree_map_updates_str c.as_bytes-in-Delete.result.now c.args.notes.now c.put-in-Delete.new.map _ put))
      so_far) c.put-in-Delete.ensures.updates;
  known = on_ok_weaker c.put-in-Delete.result (λ put all.
      insert-kept (λ (k : Bor (List ℕ)). g.U.Key.ByteString.has k.now ≡ true) _ c.args.notes.now.entries c.put-in-Delete.new.map.entries c.as_bytes-in-Delete.result _ put c.as_bytes-in-Delete.ensures.known all) c.put-in-Delete.ensures.entries;
}

pub returns-in-CommitFloor : goal.returns-in-CommitFloor
returns-in-CommitFloor g c = record {
  noted = λ base own at from so_far.
      let key = g.U.Key.ByteString.bytes in
      let value = g.U.Value.ByteString.bytes in
      let view = operation_view g.U.Update.view key value in
      noted-commit base own (view c.args.touch.now.operation) _ _ (λ q. option_map (noted_view value) (get_by (λ k. slice_cmp nat_cmp q k.now) c.args.notes.now)) (ap view c.in-CommitFloor.is) so_far;
  known = λ all. all;
}
