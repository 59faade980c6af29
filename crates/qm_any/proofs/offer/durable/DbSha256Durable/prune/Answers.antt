use Rattle.std.proofs.Common.{◌≡◌, ◌≤◌, ◌<◌, ◌^◌, ◌∙◌, length, ⊎_elim, List, arith, ap, ap₂, inl, inr, sym, subst}
use Rattle.std.specs.Prelude.{max}
use Rattle.std.proofs.lemmas.Bool.{cases_lt}
use Rattle.qm_model.specs.Live.{floor}
use Rattle.qm_model.specs.Operations.{Bytes, Operation}
use Rattle.qm_model.specs.StoreModel.{settled, Becomes, Turns}
use Rattle.qm_model.specs.Taken.{head_at, after_prune, LeavesPrune}
use Rattle.qm_base.specs.declared.error.Error.TheVariants as errors
use Rattle.qm_any.specs.Databases.{IsDatabase}
use Rattle.qm_any.specs.Lasting.{boundary_of, HasLeftPruned, HasLeftStable}
use Rattle.qm_any.proofs.OfferedHeads.{scheme}
use Rattle.qm_any.proofs.OfferedStores.{leaves-now, untold, heads-of, imaged-beside, left-pruned, left-stable, pruned-same, pruned-beside, unpruned-beside}
use Rattle.qm_any.proofs.offer.durable.DbSha256Durable.prune.Goals as goal
use Rattle.qm_any.specs.Offered.{sha256_hashing}

pub returns-in-Ok : goal.returns-in-Ok
returns-in-Ok g c = record {
  pruned =
      let old = c.args.self in
      let form = g.U.Update.form in
      let shape = g.F.Family.shape in
      let index_key = g.I.Unordered.index_key in
      let is_database = IsDatabase g.C.Store (record { hashing = sha256_hashing shape form; chunk = g.N.Chunks.LEN; index_key = index_key }) old in
      let start = g.C.Store.start old.log.store in
      let made = c.in-Ok.ensures.pruned in
      let same = c.new.ensures in
      let before = c.bounds.ensures.first in
      let low : (list : List Operation) → is_database list → c.new.result ≤ floor list = λ list is. omega (arith, c.prune.ensures.boundary list is, c.in-Ok.ensures.fits) in
      record {
        stands = λ list is. (omega (arith, low list is, same), c.in-Ok.ensures.stands list is);
        numbered = λ n is. tt;
        start = c.bounds-in-Ok.ensures.first ∙ made.start ∙ ap₂ max (sym before) same;
        head = made.head;
        heads = λ past list is few. subst (λ to. made.head ≡ head_at (scheme shape form) list to) same
            (heads-of g.F.Family.shape g.F.Family.births g.met.F.Family.numbered g.met.F.Family.peaked g.C.Store form g.N.Chunks.LEN index_key old c.new.result made.head (made.heads (omega (arith, past, before, same))) list is (low list is) few);
        store = record {
          told = λ list writes. subst (λ to. Becomes (g.C.Store.told old.log.store) (g.C.Store.told c.in-Ok.db.log.store) (after_prune (scheme shape form) list start to made.head)) same
              (pruned-same shape form (g.C.Store.told old.log.store) (g.C.Store.told c.in-Ok.db.log.store) old.log.tree.start start c.new.result made.head (sym before) made.told list);
          beside = pruned-beside shape form (g.C.Store.told old.log.store) (g.C.Store.told c.in-Ok.db.log.store) old.log.tree.start c.new.result made.head made.told;
        };
        later = made.later;
      };
  refused = tt;
}

pub returns-in-Err : goal.returns-in-Err
returns-in-Err g c = record {
  pruned = tt;
  refused =
      let old = c.args.self in
      let form = g.U.Update.form in
      let shape = g.F.Family.shape in
      let index_key = g.I.Unordered.index_key in
      let is_database = IsDatabase g.C.Store (record { hashing = sha256_hashing shape form; chunk = g.N.Chunks.LEN; index_key = index_key }) old in
      let start = g.C.Store.start old.log.store in
      let same = c.new.ensures in
      let before = c.bounds.ensures.first in
      ⊎_elim
      (λ (past : boundary_of old < c.new.result).
      let beyond = c.in-Err.ensures.beyond past in
      inl (boundary_of old, omega (arith, past, same), λ list is. c.prune.ensures.boundary list is, beyond.0, beyond.1 ∙ ap (λ n. errors.PruneBeyondMinRequired n (boundary_of old)) same))
      (λ (within : c.new.result ≤ boundary_of old).
      let left = c.in-Err.ensures.refused within in
      let IsHead : Bytes → Type 0 = λ head. (list : List Operation) → is_database list → length list ≤ 2 ^ 62 → head ≡ head_at (scheme shape form) list c.args.to in
      inr (
        λ list is. omega (arith, c.prune.ensures.boundary list is, within, same),
        record {
          store = left.store;
          given = left.given;
          left = record {
            told = λ over writes. ⊎_elim
                (λ (kept : HasLeftStable g.C.Store old.log.store left.store). left-stable shape form over (g.C.Store.told old.log.store) (g.C.Store.told left.store) start IsHead c.args.to (leaves-now _ _ _ kept.told))
                (λ (cut : HasLeftPruned g.C.Store (sha256_hashing shape form) settled c.new.result old.log left.store).
                subst (λ to. Turns (g.C.Store.told old.log.store) (g.C.Store.told left.store) (LeavesPrune (scheme shape form) over start IsHead to)) same
                (left-pruned shape form over (g.C.Store.told old.log.store) (g.C.Store.told left.store) start IsHead c.new.result cut.head (omega (arith, cut.past, before))
                (λ list is few. subst (λ to. cut.head ≡ head_at (scheme shape form) list to) same
                (heads-of g.F.Family.shape g.F.Family.births g.met.F.Family.numbered g.met.F.Family.peaked g.C.Store form g.N.Chunks.LEN index_key old c.new.result cut.head cut.heads list is (omega (arith, c.prune.ensures.boundary list is, within)) few))
                cut.told))
                left.left;
            beside = ⊎_elim
                (λ (kept : HasLeftStable g.C.Store old.log.store left.store). imaged-beside shape form (g.C.Store.told old.log.store) (g.C.Store.told left.store) (leaves-now _ _ _ kept.told))
                (λ (cut : HasLeftPruned g.C.Store (sha256_hashing shape form) settled c.new.result old.log left.store).
                unpruned-beside shape form (g.C.Store.told old.log.store) (g.C.Store.told left.store) c.new.result cut.head cut.told)
                left.left;
          };
          never = untold c.in-Err.refused.error left.never;
          cause = left.cause;
        },
      ))
      (cases_lt (boundary_of old) c.new.result);
}
