use Rattle.std.proofs.Common.{◌≡◌, ◌≢◌, ◌≤◌, ◌<◌, ◌-◌, ℕ, arith, inl, inr, length, refl, sym, ◌∙◌, subst, IfSome}
use Rattle.std.proofs.lemmas.Result.{err_from_is_err_and}
use Rattle.qm_model.proofs.Results.{told-any, told-one}
use Rattle.qm_base.specs.declared.error.Corrupt.{Corrupt}
use Rattle.qm_base.specs.declared.error.Corrupt.TheVariants as corrupt
use Rattle.qm_base.specs.declared.error.Error.{Error}
use Rattle.qm_base.specs.declared.error.Error.TheVariants as errors
use Rattle.qm_base.specs.declared.error.JournalError.TheVariants as journal
use Rattle.qm_base.specs.declared.error.TreeRefused.{TreeRefused}
use Rattle.qm_base.specs.declared.error.TreeRefused.TheVariants as tree
use Rattle.qm_store.proofs.Reading.{read-none}
use Rattle.qm_build.proofs.Telling.{floor-ended, past-list, within-list, last-among, offered-there, refused-end, refused-floor, refused-kept, refused-last, refused-none, refused-start, IsFailed}
use Rattle.qm_build.proofs.proof.offered.Goals as goal

zeroth : 0 < 7
zeroth = omega arith

second : 2 < 7
second = omega arith

third : 3 < 7
third = omega arith

fourth : 4 < 7
fourth = omega arith

fifth : 5 < 7
fifth = omega arith

floor-other : (n : ℕ) (e : Error) → e ≡ errors.HistoricalFloorPruned n → (e ≢ errors.StaleBatch) × (e ≢ errors.Journal journal.Store)
floor-other n e this = (λ is. cc, λ is. cc)

corrupt-other : (x : Corrupt) (e : Error) → e ≡ errors.DataCorrupted x → (e ≢ errors.StaleBatch) × (e ≢ errors.Journal journal.Store)
corrupt-other x e this = (λ is. cc, λ is. cc)

tree-other : (x : TreeRefused) (e : Error) → e ≡ errors.Merkle x → (e ≢ errors.StaleBatch) × (e ≢ errors.Journal journal.Store)
tree-other x e this = (λ is. cc, λ is. cc)

item-other : (n : ℕ) (e : Error) → e ≡ errors.Journal (journal.ItemPruned n) → (e ≢ errors.StaleBatch) × (e ≢ errors.Journal journal.Store)
item-other n e this = (λ is. cc, λ is. cc)

failed-late : (at : ℕ) (e : Error) → IsFailed at e → e ≢ errors.StaleBatch
failed-late at e (inl memory) = λ is. cc
failed-late at e (inr (inl fault)) = λ is. cc
failed-late at e (inr (inr pruned)) = λ is. cc

pub returns-then-leaves-size : goal.returns-then-leaves-size
returns-then-leaves-size g c =
    let log = c.args.log.now in
    let told = g.C.Store.told log.store in
    let other = tree-other (tree.RangeOutOfBounds c.args.size) (errors.Merkle (tree.RangeOutOfBounds c.args.size)) refl in
    record {
      offered = λ list is all. told-any _ told tt;
      kept = tt;
      within = tt;
      floor = λ list is all. told-any _ told tt;
      refused = λ list is all.
          told-any _ told (refused-end (g.C.Store.start log.store) list c.args.size c.args.start
          (past-list g.U.Update.form list c.args.size c.bounds-first.result.1 log.tree.leaves c.if-leaves-size.true c.bounds-first.ensures.size is.size));
      causes = (0, zeroth, refl);
      never = other.0;
      cause = λ fault. absurd (other.1 fault);
      read = read-none g.C.Store g.F.Family.shape g.H.Digest.Digest.bytes g.H.Hasher.hash log;
    }

pub returns-in_err-floor_at_end : goal.returns-in_err-floor_at_end
returns-in_err-floor_at_end g c =
    let log = c.args.log.now in
    let told = g.C.Store.told log.store in
    let exit = err_from_is_err_and c.from_residual.result c.from_residual.ensures.1 in
    let error = c.in_err-floor_at_end.field-0.0 in
    let refused = c.in_err-floor_at_end.ensures in
    rw (exit.1, exit.2) (record {
      offered = λ list is all. told-any _ told tt;
      kept = tt;
      within = tt;
      floor = λ list is all. told-any _ told tt;
      refused = λ list is all.
          let within : c.args.size ≤ length list = within-list g.U.Update.form list c.args.size c.bounds-first.result.1 log.tree.leaves c.if-leaves-size.false c.bounds-first.ensures.size is.size in
          told-any _ told (refused-last (g.C.Store.start log.store) list c.args.size c.args.start error within refused.pruned);
      causes = last-among c.args.size c.args.start error refused.causes;
      never = failed-late (c.args.size - 1) error refused.causes;
      cause = refused.cause;
      read = c.floor_at_end.ensures.read;
    })

pub returns-in-None : goal.returns-in-None
returns-in-None g c =
    let log = c.args.log.now in
    let told = g.C.Store.told log.store in
    let ended = c.in_ok-floor_at_end.ensures in
    let other = floor-other c.args.size (errors.HistoricalFloorPruned c.args.size) refl in
    record {
      offered = λ list is all. told-any _ told tt;
      kept = tt;
      within = tt;
      floor = λ list is all. told-any _ told tt;
      refused = λ list is all.
          let within : c.args.size ≤ length list = within-list g.U.Update.form list c.args.size c.bounds-first.result.1 log.tree.leaves c.if-leaves-size.false c.bounds-first.ensures.size is.size in
          told-one _ _ told (ended.floor list is all) (λ found.
          refused-none (g.C.Store.start log.store) list c.args.size c.args.start within ended.kept (sym c.in-None.is ∙ found));
      causes = (2, second, refl);
      never = other.0;
      cause = λ fault. absurd (other.1 fault);
      read = c.floor_at_end.ensures.read;
    }

pub returns-in-Some : goal.returns-in-Some
returns-in-Some g c =
    let log = c.args.log.now in
    let told = g.C.Store.told log.store in
    let ended = c.in_ok-floor_at_end.ensures in
    let other = corrupt-other corrupt.FloorExceedsCommit (errors.DataCorrupted corrupt.FloorExceedsCommit) refl in
    record {
      offered = λ list is all. told-any _ told tt;
      kept = tt;
      within = tt;
      floor = λ list is all. told-any _ told tt;
      refused = λ list is all.
          let within : c.args.size ≤ length list = within-list g.U.Update.form list c.args.size c.bounds-first.result.1 log.tree.leaves c.if-leaves-size.false c.bounds-first.ensures.size is.size in
          told-one _ _ told (ended.floor list is all) (λ found.
          refused-floor (g.C.Store.start log.store) list c.args.size c.args.start c.in-Some.floor within ended.kept (subst (λ f. IfSome f (λ _. 0 < c.args.size)) c.in-Some.is ended.some) (sym c.in-Some.is ∙ found) c.if-floor-size.true);
      causes = (3, third, refl);
      never = other.0;
      cause = λ fault. absurd (other.1 fault);
      read = c.floor_at_end.ensures.read;
    }

pub returns-in-Some-2 : goal.returns-in-Some-2
returns-in-Some-2 g c =
    let log = c.args.log.now in
    let told = g.C.Store.told log.store in
    let ended = c.in_ok-floor_at_end.ensures in
    let other = tree-other (tree.RangeOutOfBounds c.args.start) (errors.Merkle (tree.RangeOutOfBounds c.args.start)) refl in
    record {
      offered = λ list is all. told-any _ told tt;
      kept = tt;
      within = tt;
      floor = λ list is all. told-any _ told tt;
      refused = λ list is all.
          let within : c.args.size ≤ length list = within-list g.U.Update.form list c.args.size c.bounds-first.result.1 log.tree.leaves c.if-leaves-size.false c.bounds-first.ensures.size is.size in
          told-one _ _ told (ended.floor list is all) (λ found.
          refused-start (g.C.Store.start log.store) list c.args.size c.args.start c.in-Some.floor within ended.kept (subst (λ f. IfSome f (λ _. 0 < c.args.size)) c.in-Some.is ended.some) (sym c.in-Some.is ∙ found) c.if-floor-size.false c.if-start-size.true);
      causes = (4, fourth, refl);
      never = other.0;
      cause = λ fault. absurd (other.1 fault);
      read = c.floor_at_end.ensures.read;
    }

pub returns-in-Some-3 : goal.returns-in-Some-3
returns-in-Some-3 g c =
    let log = c.args.log.now in
    let told = g.C.Store.told log.store in
    let ended = c.in_ok-floor_at_end.ensures in
    let other = item-other c.args.start (errors.Journal (journal.ItemPruned c.args.start)) refl in
    record {
      offered = λ list is all. told-any _ told tt;
      kept = tt;
      within = tt;
      floor = λ list is all. told-any _ told tt;
      refused = λ list is all.
          let within : c.args.size ≤ length list = within-list g.U.Update.form list c.args.size c.bounds-first.result.1 log.tree.leaves c.if-leaves-size.false c.bounds-first.ensures.size is.size in
          told-one _ _ told (ended.floor list is all) (λ found.
          refused-kept (g.C.Store.start log.store) list c.args.size c.args.start c.in-Some.floor within ended.kept (subst (λ f. IfSome f (λ _. 0 < c.args.size)) c.in-Some.is ended.some) (sym c.in-Some.is ∙ found) c.if-floor-size.false c.if-start-size.false
          (omega (arith, c.if-start-first.true, c.bounds-first.ensures.start, c.bounds-first.ensures.first)));
      causes = (5, fifth, refl);
      never = other.0;
      cause = λ fault. absurd (other.1 fault);
      read = c.floor_at_end.ensures.read;
    }

pub returns-in-Some-4 : goal.returns-in-Some-4
returns-in-Some-4 g c =
    let log = c.args.log.now in
    let told = g.C.Store.told log.store in
    let ended = c.in_ok-floor_at_end.ensures in
    let from : g.C.Store.start log.store ≤ c.args.start = omega (arith, c.if-start-first.false, c.bounds-first.ensures.start, c.bounds-first.ensures.first) in
    record {
      offered = λ list is all.
          let within : c.args.size ≤ length list = within-list g.U.Update.form list c.args.size c.bounds-first.result.1 log.tree.leaves c.if-leaves-size.false c.bounds-first.ensures.size is.size in
          told-one _ _ told (ended.floor list is all) (λ found. offered-there (g.C.Store.start log.store) list c.args.size c.args.start c.in-Some.floor within ended.kept (subst (λ f. IfSome f (λ _. 0 < c.args.size)) c.in-Some.is ended.some) (sym c.in-Some.is ∙ found) c.if-floor-size.false c.if-start-size.false from);
      kept = from;
      within = (omega (arith, c.if-leaves-size.false, c.bounds-first.ensures.size), c.if-start-size.false);
      floor = λ list is all. told-one _ _ told (ended.floor list is all) (λ found. floor-ended list c.args.size c.in-Some.floor (sym found ∙ c.in-Some.is));
      refused = λ list is all. told-any _ told tt;
      causes = tt;
      never = tt;
      cause = tt;
      read = c.floor_at_end.ensures.read;
    }
