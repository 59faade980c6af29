use Rattle.std.proofs.Common.{◌≡◌, ◌≤◌, ◌∙◌, ◌+◌, ◌++◌, ◌∷◌, Contains, IfOk, length, map, ap, ap₂, sym, subst, arith}
use Rattle.std.proofs.lemmas.List.Elements.{All-contains}
use Rattle.std.proofs.lemmas.Result.{IfOk-from_err}
use Rattle.qm_merkle.specs.Mems.{Stands}
use Rattle.qm_merkle.specs.Batches.{Draft, all_layers, layers_since, stops, stops_since, lists_since, IsHistory}
use Rattle.qm_merkle.proofs.Putting.{history-count}
use Rattle.qm_merkle.proofs.Since.{stop-since, list-since, first-since}
use Rattle.qm_store.specs.Log.{digests_from}
use Rattle.qm_store.proofs.Trees.{if_both}
use Rattle.qm_store.proofs.Leaves.{digests-count, digests_from-append, length-digests_from}
use Rattle.qm_store.proofs.log.AuthLog.tree_since.Goals as goal

pub grown_behind-requires-clause-room : goal.grown_behind-requires-clause-room
grown_behind-requires-clause-room g c =
    let count : length c.deref.result.now ≡ length c.args.items.now =
    ap length c.deref.ensures.value ∙ digests-count g.H.Hasher.hash g.F.Family.shape g.H.Digest.Digest.bytes (λ v. v.items) c.get-size.result c.in_ok-digests.digests.items c.args.items.now c.in_ok-digests.ensures in
    omega (arith, count, c.requires.room, ap (λ (d : Draft _). d.base) c.in_ok-draft.ensures.draft)

pub grown_behind-requires-clause-reach : goal.grown_behind-requires-clause-reach
grown_behind-requires-clause-reach g c =
    let batch = c.args.batch.now in
    let all = stops batch.newest.tree.leaves (all_layers batch) in
    let n = c.self.inside.tree.leaves in
    let reach = subst (λ log. Contains all log.tree.leaves) (sym c.self.view_is) c.requires.reach in
    let within : c.new.result ≤ n = omega (arith, c.new.ensures, c.requires.boundary, ap (λ log. log.tree.leaves) c.self.view_is) in
    subst (λ ns. Contains ns n) (sym c.in_ok-draft.ensures.stops) (stop-since c.new.result all n reach within)

pub returns : goal.returns
returns g c = record {
  leaves =
      let count : length c.deref.result.now ≡ length c.args.items.now =
      ap length c.deref.ensures.value ∙ digests-count g.H.Hasher.hash g.F.Family.shape g.H.Digest.Digest.bytes (λ v. v.items) c.get-size.result c.in_ok-digests.digests.items c.args.items.now c.in_ok-digests.ensures in
      subst (λ n. IfOk c.grown_behind.result (λ b. b.newest.tree.leaves ≡ n)) (ap₂ (λ m n. m + n) (ap (λ (d : Draft _). d.base) c.in_ok-draft.ensures.draft) count) c.grown_behind.ensures.leaves;
  history = λ list base lists is history found.
      let shape = g.F.Family.shape in
      let hash = g.H.Hasher.hash in
      let bytes = g.H.Digest.Digest.bytes in
      let batch = c.args.batch.now in
      let boundary = c.args.boundary in
      let own = digests_from hash shape 0 list in
      let before = digests_from hash shape 0 base in
      let more = map (λ v. v.items) c.args.items.now in
      let reached = history-count shape g.F.Family.births g.met.F.Family.numbered g.met.F.Family.peaked bytes hash batch.newest batch.older before lists history in
      let start : c.get-size.result ≡ 0 + length base = omega (arith, c.get-size.ensures, c.leaves.ensures.count, reached, length-digests_from hash shape 0 base) in
      let top : c.args.self.now.tree.leaves ≤ c.leaves.result = All-contains (λ n. n ≤ c.leaves.result) (stops batch.newest.tree.leaves (all_layers batch)) c.args.self.now.tree.leaves c.leaves.ensures.most c.requires.reach in
      let first = first-since boundary before lists (omega (arith, c.requires.boundary, top, c.leaves.ensures.count, reached)) in
      let rest = lists_since boundary lists in
      let since = subst (IsHistory shape bytes hash c.in_ok-draft.draft.layers) (ap (λ n. lists_since n (before ∷ lists)) c.new.ensures ∙ first) (c.in_ok-draft.ensures.history hash (before ∷ lists) history) in
      let among = subst (λ ls. Contains ls own) first (list-since boundary (before ∷ lists) own found (omega (arith, c.requires.boundary, is.size, length-digests_from hash shape 0 list))) in
      subst (λ ls. IfOk c.grown_behind.result (λ b. IsHistory shape bytes hash (all_layers b) ls))
      (ap₂ (λ ds ls. ds ∷ ls)
      (ap (λ ds. before ++ map bytes ds) c.deref.ensures.value ∙ ap (λ l. before ++ l) (c.in_ok-digests.ensures ∙ ap (λ i. digests_from hash shape i more) start) ∙ sym (digests_from-append hash shape 0 base more)) (sym first))
      (c.grown_behind.ensures.history own before rest (subst (λ log. Stands shape bytes hash log.tree own) (sym c.self.view_is) is.tree) since among);
  start = subst (λ n. IfOk c.grown_behind.result (λ b. b.newest.tree.start ≡ n)) (ap (λ (d : Draft _). d.base) c.in_ok-draft.ensures.draft) c.grown_behind.ensures.start;
  older =
      subst (λ ls. IfOk c.grown_behind.result (λ b. b.older ≡ ls)) (ap (λ (d : Draft _). d.layers) c.in_ok-draft.ensures.draft ∙ ap (λ n. layers_since n (all_layers c.args.batch.now)) c.new.ensures) c.grown_behind.ensures.older;
  adding = c.grown_behind.ensures.adding;
  stops =
      let all = stops c.args.batch.now.newest.tree.leaves (all_layers c.args.batch.now) in
      if_both c.grown_behind.result (λ b. b.older ≡ c.in_ok-draft.draft.layers) (λ b. b.newest.tree.start ≡ c.in_ok-draft.draft.base) (λ b. stops b.newest.tree.start b.older ≡ stops_since c.args.boundary all)
      (λ b older start. ap₂ stops start older ∙ c.in_ok-draft.ensures.stops ∙ ap (λ n. stops_since n all) c.new.ensures) c.grown_behind.ensures.older c.grown_behind.ensures.start;
  same = c.self.view_is;
}

pub returns-in_err-digests : goal.returns-in_err-digests
returns-in_err-digests g c =
    let result = c.from_residual.result in
    let failed = c.from_residual.ensures.0 in
    record {
      history = λ list base lists is history found. IfOk-from_err result _ failed;
      leaves = IfOk-from_err result _ failed;
      start = IfOk-from_err result _ failed;
      older = IfOk-from_err result _ failed;
      adding = IfOk-from_err result _ failed;
      stops = IfOk-from_err result _ failed;
      same = c.self.view_is;
    }

pub returns-in_err-draft : goal.returns-in_err-draft
returns-in_err-draft g c =
    let result = c.from_residual-in_err-draft.result in
    let failed = c.from_residual-in_err-draft.ensures.0 in
    record {
      history = λ list base lists is history found. IfOk-from_err result _ failed;
      leaves = IfOk-from_err result _ failed;
      start = IfOk-from_err result _ failed;
      older = IfOk-from_err result _ failed;
      adding = IfOk-from_err result _ failed;
      stops = IfOk-from_err result _ failed;
      same = c.self.view_is;
    }
