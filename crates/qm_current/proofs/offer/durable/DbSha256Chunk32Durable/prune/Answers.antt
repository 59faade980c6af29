use Rattle.std.proofs.Common.{◌≡◌, ◌⊎◌, ◌≤◌, ◌^◌, ◌∙◌, ⊎_elim, ℕ, List, arith, ap, inl, inr, length, refl, subst, sym}
use Rattle.std.specs.Prelude.{max}
use Rattle.qm_model.proofs.GraftedLemmas.{boundary_most}
use Rattle.qm_model.specs.Grafted.{boundary}
use Rattle.qm_model.specs.Live.{floor}
use Rattle.qm_model.specs.Operations.{Bytes, Operation}
use Rattle.qm_model.specs.StoreModel.{settled}
use Rattle.qm_model.specs.Taken.{head_at}
use Rattle.qm_base.specs.declared.sha256.Sha256Digest.{Sha256Digest}
use Rattle.qm_graft.specs.Grafting.{grafting}
use Rattle.qm_graft.proofs.Fitting.{grafting-span}
use Rattle.qm_any.specs.Lasting.{HasLeftStable, IsGivenUp}
use Rattle.qm_any.specs.Offered.{sha256_layout}
use Rattle.qm_any.proofs.OfferedStores.{heads-of, untold}
use Rattle.qm_current.specs.Databases.{Database, IsDatabase}
use Rattle.qm_current.specs.Lasting.{boundary_of, chunks_after, HasLeftPruned, HasLeftUncounted, HasPruned}
use Rattle.qm_current.specs.Offered.{offered_name, scheme_of, IsOffered}
use Rattle.qm_current.proofs.LastingOffered.{cut-beside, failed-beside, prune-cut, prune-left, pruned-told, uncounted-beside, under-name, unpruned-beside}
use Rattle.qm_current.proofs.offer.durable.DbSha256Chunk32Durable.prune.Goals as goal

pub returns-in-Ok : goal.returns-in-Ok
returns-in-Ok g c = record {
  pruned =
      let members = g.C.Store in
      let told = members.told in
      let form = g.U.Update.form in
      let index_key = g.I.Unordered.index_key in
      let layout = sha256_layout g.F.Family.shape 32 form index_key in
      let self = c.args.self in
      let to = c.args.to in
      let new = c.in-Ok.db in
      let base : Database g.row.C.Denot Sha256Digest = record self { name = offered_name } in
      let is : c.named.result ≡ base = c.named.ensures in
      let same = c.new.ensures in
      let made = subst (λ t. HasPruned members layout settled t base new) same (subst (λ d. HasPruned members layout settled c.new.result d new) is c.in-Ok.ensures.pruned) in
      let fits = subst (λ t. t ≤ boundary_of g.F.Family.shape 32 base) same (subst (λ (d : Database g.row.C.Denot Sha256Digest). c.new.result ≤ boundary_of g.F.Family.shape 32 d) is c.in-Ok.ensures.fits) in
      let before = subst (λ (d : Database g.row.C.Denot Sha256Digest). members.start d.any.log.store ≡ d.any.log.tree.start) c.self.view_is c.bounds.ensures.first in
      let after = subst (λ (d : Database g.row.C.Denot Sha256Digest). members.start d.any.log.store ≡ d.any.log.tree.start) c.db.view_is c.bounds-in-Ok.ensures.first in
      let exact : (list : List Operation) → IsOffered members layout self list → boundary_of g.F.Family.shape 32 base ≡ boundary g.F.Family.shape (grafting 32) list =
      λ list at. subst (λ (d : Database g.row.C.Denot Sha256Digest). IsDatabase members layout d list → boundary_of g.F.Family.shape 32 d ≡ boundary g.F.Family.shape (grafting 32) list) is (c.in-Ok.ensures.boundary list) (under-name layout members self list at).at in
      let low : (list : List Operation) → IsOffered members layout self list → to ≤ floor list = λ list at. omega (arith, fits, exact list at, boundary_most g.F.Family.shape (grafting 32) (floor list) (length list)) in
      record {
        stands = λ list at.
            let own = under-name layout members self list at in (
              omega (arith, fits, exact list at),
              record { at = c.in-Ok.ensures.stands list (subst (λ d. IsDatabase members layout d list) (sym is) own.at); counted = c.in-Ok.ensures.counted; named = ap (λ (d : Database g.row.C.Denot Sha256Digest). d.name) made.rest },
            );
        numbered = λ n at. ap (λ (d : Database g.row.C.Denot Sha256Digest). d.instance) made.rest ∙ at;
        start = after ∙ made.any.start ∙ ap (λ n. max n to) (sym before);
        head = made.any.head;
        heads = λ past list at few. heads-of g.F.Family.shape g.F.Family.births g.met.F.Family.numbered g.met.F.Family.peaked members form 32 index_key base.any to made.any.head (made.any.heads (omega (arith, past, before))) list at.at.any (low list at) few;
        store = record {
          told = λ list at.
              pruned-told 32 layout members base list (under-name layout members self list at) (grafting-span 32 5 refl) to (told new.any.log.store) made.entries (members.start self.any.log.store) self.any.log.tree.start made.any.head made.counts (sym before) made.any.told;
          beside = cut-beside 32 layout (told self.any.log.store) (told new.any.log.store) offered_name made.entries self.any.log.tree.start to made.any.head refl made.any.told;
        };
        later = made.any.later;
      };
  refused = tt;
}

pub returns-in-Err : goal.returns-in-Err
returns-in-Err g c = record {
  pruned = tt;
  refused =
      let members = g.C.Store in
      let told = members.told in
      let form = g.U.Update.form in
      let index_key = g.I.Unordered.index_key in
      let layout = sha256_layout g.F.Family.shape 32 form index_key in
      let self = c.args.self in
      let to = c.args.to in
      let base : Database g.row.C.Denot Sha256Digest = record self { name = offered_name } in
      let is : c.named.result ≡ base = c.named.ensures in
      let same = c.new.ensures in
      let start = members.start self.any.log.store in
      let before = subst (λ (d : Database g.row.C.Denot Sha256Digest). members.start d.any.log.store ≡ d.any.log.tree.start) c.self.view_is c.bounds.ensures.first in
      let fits : to ≤ boundary_of g.F.Family.shape 32 self = omega (arith, c.if-to-boundary.false, c.get-boundary.ensures, c.sync_boundary.ensures.exact) in
      let exact : (list : List Operation) → IsOffered members layout self list → boundary_of g.F.Family.shape 32 self ≡ boundary g.F.Family.shape (grafting 32) list = λ list at. sym c.sync_boundary.ensures.exact ∙ c.sync_boundary.ensures.list list at.at in
      let low : (list : List Operation) → IsOffered members layout self list → to ≤ floor list = λ list at. omega (arith, fits, exact list at, boundary_most g.F.Family.shape (grafting 32) (floor list) (length list)) in
      let Left : ℕ → Database g.row.C.Denot Sha256Digest → g.row.C.Denot → g.row.C.Denot → Type 0 =
      λ t d old new. HasLeftStable members old new ⊎ (HasLeftUncounted members layout settled (chunks_after 32 t d) d new ⊎ HasLeftPruned members layout settled t d new) in
      let up = subst (λ t. t ≤ boundary_of g.F.Family.shape 32 base → IsGivenUp members (Left t base) base.any.log.store c.in-Err.refused) same
      (subst (λ (d : Database g.row.C.Denot Sha256Digest). c.new.result ≤ boundary_of g.F.Family.shape 32 d → IsGivenUp members (Left c.new.result d) d.any.log.store c.in-Err.refused) is c.in-Err.ensures.refused) fits in
      let IsHead : Bytes → Type 0 = λ head. (list : List Operation) → IsOffered members layout self list → length list ≤ 2 ^ 62 → head ≡ head_at (scheme_of 32 layout offered_name) list to in
      inr (
        λ list at. omega (arith, fits, exact list at),
        record {
          store = up.store;
          given = up.given;
          left = record {
            told = λ list at.
                let own = under-name layout members self list at in
                ⊎_elim
                (λ (left : HasLeftStable members self.any.log.store up.store). prune-left 32 layout members base list own (grafting-span 32 5 refl) to start IsHead up.store (inl left))
                (⊎_elim
                (λ (left : HasLeftUncounted members layout settled (chunks_after 32 to base) base up.store). prune-left 32 layout members base list own (grafting-span 32 5 refl) to start IsHead up.store (inr left))
                (λ (left : HasLeftPruned members layout settled to base up.store). prune-cut 32 layout members base list own (grafting-span 32 5 refl) to start IsHead up.store (sym before) left
                (λ list at few. heads-of g.F.Family.shape g.F.Family.births g.met.F.Family.numbered g.met.F.Family.peaked members form 32 index_key base.any to left.any.head left.any.heads list at.at.any (low list at) few)))
                up.left;
            beside = ⊎_elim
                (λ (left : HasLeftStable members self.any.log.store up.store). failed-beside 32 layout members base refl up.store left)
                (⊎_elim
                (λ (left : HasLeftUncounted members layout settled (chunks_after 32 to base) base up.store). uncounted-beside 32 layout members base refl up.store (chunks_after 32 to base) left)
                (λ (left : HasLeftPruned members layout settled to base up.store). unpruned-beside 32 layout members base refl up.store to left))
                up.left;
          };
          never = untold c.in-Err.refused.error up.never;
          cause = up.cause;
        },
      );
}

pub returns-then-to-boundary : goal.returns-then-to-boundary
returns-then-to-boundary g c = record {
  pruned = tt;
  refused = inl (c.get-boundary.result, omega (arith, c.if-to-boundary.true), λ list at. c.get-boundary.ensures ∙ c.sync_boundary.ensures.list list at.at, refl, refl);
}
