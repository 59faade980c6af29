use Rattle.std.proofs.Common.{◌≡◌, ◌∙◌, ◌-◌, ◌<◌, ◌≤◌, ◌++◌, ◌+◌, [], ℕ, List, length, map, arith, ap, ap₂, sym, subst}
use Rattle.std.specs.Prelude.{All, Err, IsSome, Ok, OnOk, Result}
use Rattle.std.proofs.lemmas.List.{length-map, append_assoc}
use Rattle.std.proofs.lemmas.Result.{err_from_is_err_and, on_ok_weaker}
use Rattle.qm_model.specs.Operations.{Bytes}
use Rattle.qm_model.specs.Grafted.{chunk_values}
use Rattle.qm_model.proofs.GraftedLemmas.{length-chunk_values}
use Rattle.qm_bits.specs.Bitmaps.{all_bits}
use Rattle.qm_merkle.specs.Batches.{Draft, leaves_of, drafted, replaced_from}
use Rattle.qm_graft.specs.Grafting.{grafting, node_over, made_value, made_values, AreMade}
use Rattle.qm_graft.proofs.Following.{fresh-drafted, followed, length-values}
use Rattle.qm_graft.proofs.tree.graft.Goals as goal

ok-both : {E P Q R : Type 0} (r : Result (Unit {0}) E) → OnOk r P → OnOk r Q → (P → Q → R) → OnOk r R
ok-both (Ok x) p q to = to p q
ok-both (Err e) p q to = tt

-- what a draft without leaves of its own has when leaves were added up to a count
fresh-leaves : {D : Type 0} (fresh draft : Draft D) → draft.base ≡ fresh.base → draft.added ≡ fresh.added → fresh.added ≡ [] → leaves_of draft ≡ fresh.base
fresh-leaves fresh draft base added none = omega (arith, base, ap length (added ∙ none))

count-added : {D : Type 0} (bytes : D → Bytes) (old new : List D) (made : List Bytes) (n : ℕ) → old ≡ [] → map bytes new ≡ map bytes old ++ made → length made ≡ n → length new ≡ n
count-added bytes old new made n none added count =
    sym (length-map new bytes) ∙ ap length (added ∙ ap (λ ds. map bytes ds ++ made) none) ∙ count

no-more : (n old more : ℕ) → n ≤ old + more → old ≡ 0 → n ≤ more
no-more n old more few none = omega (arith, few, none)

up-to : (base made count : ℕ) → base ≤ count → made ≡ count - base → base + made ≡ count
up-to base made count low is = omega (arith, low, is)

pub add_all-requires-clause-order : goal.add_all-requires-clause-order
add_all-requires-clause-order g c =
    let same = c.in_ok-update_all.ensures.same in
    subst (λ n. n ≤ c.args.count) (sym (fresh-leaves c.args.draft.now c.update_all.new.draft same.base same.added c.requires.fresh.1)) c.requires.order

pub add_all-requires-clause-can : goal.add_all-requires-clause-can
add_all-requires-clause-can g c = λ chunk past low.
    let same = c.in_ok-update_all.ensures.same in
    c.requires.added chunk (subst (λ n. n ≤ chunk) (fresh-leaves c.args.draft.now c.update_all.new.draft same.base same.added c.requires.fresh.1) past) low

pub returns-in_err-update_all : goal.returns-in_err-update_all
returns-in_err-update_all g c =
    let exit = err_from_is_err_and c.from_residual.result c.from_residual.ensures.1 in
    record {
      same = rw exit.1 tt;
      leaves = rw exit.1 tt;
      replaced = rw exit.1 tt;
      above = λ least each. rw exit.1 tt;
      added = rw exit.1 tt;
      values = λ old new before step tells. rw exit.1 tt;
      made = rw exit.1 tt;
      cause = rw (exit.1, exit.2) c.in_err-update_all.ensures.cause;
    }

pub returns : goal.returns
returns g c =
    let bytes = g.H.Digest.Digest.bytes in
    let hash = g.H.Hasher.hash in
    let held = g.O.Nodes.node_at c.args.behind.now.operations.now in
    let shape = g.F.Family.shape in
    let size = g.N.Chunks.LEN in
    let bits = all_bits size (g.B.Readable.bitmap c.args.behind.now.bits.now) in
    let fresh = c.args.draft.now in
    let count = c.args.count in
    let draft = c.update_all.new.draft in
    let last = c.add_all.new.draft in
    let one = c.in_ok-update_all.ensures in
    let two = c.add_all.ensures in
    let begun : leaves_of draft ≡ fresh.base = fresh-leaves fresh draft one.same.base one.same.added c.requires.fresh.1 in
    let more : ℕ → ℕ → List Bytes = made_values bytes hash held shape size bits in
    let counted : map bytes last.added ≡ map bytes draft.added ++ more (leaves_of draft) (count - leaves_of draft) → length last.added ≡ count - fresh.base =
    λ added. count-added bytes draft.added last.added _ _ (one.same.added ∙ c.requires.fresh.1) added (length-values bytes hash held shape size bits (leaves_of draft) (count - leaves_of draft)) ∙ ap (λ n. count - n) begun in
    record {
      same = on_ok_weaker c.add_all.result (λ same. (same.0 ∙ one.same.start, same.1 ∙ one.same.base, same.2 ∙ one.same.layers)) two.same;
      leaves = ok-both c.add_all.result two.same two.added (λ same added. ap (λ n. n + length last.added) (same.1 ∙ one.same.base) ∙ up-to fresh.base (length last.added) count c.requires.order (counted added));
      replaced = on_ok_weaker c.add_all.result (λ same. subst (λ n. n ≤ length c.args.changed.now) (sym (ap length same.3)) (no-more (length draft.replaced) (length fresh.replaced) (length c.args.changed.now) one.few (ap length c.requires.fresh.0))) two.same;
      above = λ least each.
          let none = subst (All (λ (e : ℕ × g.row.H-Digest.Denot). least ≤ e.0)) (sym c.requires.fresh.0) (λ k d low. absurd (omega (arith, low))) in
          on_ok_weaker c.add_all.result (λ same. subst (All (λ (e : ℕ × g.row.H-Digest.Denot). least ≤ e.0)) (sym same.3) (one.above least none each)) two.same;
      added = on_ok_weaker c.add_all.result counted two.added;
      values = λ old new before step tells.
          let base = fresh.base in
          let values = chunk_values hash shape (grafting size) old before 0 base in
          let long = length-chunk_values hash shape (grafting size) old before 0 base in
          let are : AreMade (made_value bytes hash held shape size bits) c.args.changed.now values (drafted bytes draft values) =
          subst (λ l. AreMade (made_value bytes hash held shape size bits) c.args.changed.now l (drafted bytes draft values)) (fresh-drafted bytes fresh values c.requires.fresh.0 c.requires.fresh.1)
          (one.values values long) in
          ok-both c.add_all.result two.same two.added (λ same added.
          ap₂ (λ r a. replaced_from bytes r 0 values ++ a) same.3 added
          ∙ sym (append_assoc (replaced_from bytes draft.replaced 0 values) (map bytes draft.added) (more (leaves_of draft) (count - leaves_of draft)))
          ∙ ap (λ n. drafted bytes draft values ++ more n (count - n)) begun
          ∙ followed bytes hash held shape size bits count base c.args.changed.now old new before step tells (drafted bytes draft values) c.requires.order are
          (λ i found low. (subst (λ k. k < base → IsSome (node_over held shape (grafting size) k)) found.2 (λ less. (c.requires.changed found.0 i found.1 (less)).node)) low)
          (λ i past low. (c.requires.added i past low).node));
      made = on_ok_weaker c.add_all.result (λ made. (one.made.0, one.made.1, omega (arith, one.made.2, made, begun))) two.made;
      cause = two.cause;
    }
