use Rattle.std.proofs.Common.{◌≡◌, ◌∙◌, ◌≤◌, ◌++◌, map, ap, sym, subst}
use Rattle.qm_model.proofs.Results.{ok-then, err-then}
use Rattle.qm_store.specs.Log.{Log, IsLog, HasGrown, HasGrownPart}
use Rattle.qm_store.specs.KeptTrees.{leaves_of}
use Rattle.qm_store.proofs.Kept.{kept-among}
use Rattle.qm_store.proofs.Stores.{refused-whole, log-stored}
use Rattle.qm_store.proofs.log.AuthLog.append_tree.Goals as goal

pub returns-in-Ok : goal.returns-in-Ok
returns-in-Ok g c = record {
  stands = λ list older is kept found.
      let members = g.C.Store in
      let shape = g.F.Family.shape in
      let bytes = g.H.Digest.Digest.bytes in
      let hash = g.H.Hasher.hash in
      let old : Log g.row.C.Denot g.row.H-Digest.Denot = record { store = c.self.inside.store; tree = c.self.inside.tree } in
      let more = map (λ v. v.items) c.args.items.now in
      let was = subst (λ l. IsLog members shape bytes hash l list) (sym c.self.view_is) is in
      let last = subst (λ l. members.«end» l.store ≡ l.tree.leaves) (sym c.self.view_is) c.requires.last in
      let among = kept-among hash shape bytes c.args.tree.now (list ++ more) older kept list found in
      let stands = c.in-Ok.ensures.stands hash (leaves_of hash shape list) (leaves_of hash shape (list ++ more)) kept.lists kept.history among was.tree in
      log-stored members shape bytes hash old c.put_into.new.tree c.stored.result list more was stands c.in-Ok.ensures.start
      c.stored.ensures.tree c.stored.ensures.grown (g.met.C.Store.told_start old.store) (g.met.C.Store.told_end old.store) last (g.met.C.Store.ordered old.store);
  refused =
      err-then c.stored.result c.stored.ensures.refused (λ r refused. refused c.args.self (sym (ap (λ l. l.store) c.self.view_is)));
  start = ok-then c.stored.result c.stored.ensures.tree (λ log same. ap (λ t. t.start) same ∙ c.in-Ok.ensures.start ∙ ap (λ l. l.tree.start) c.self.view_is);
  grown =
      let members = g.C.Store in
      ok-then c.stored.result c.stored.ensures.grown (λ log grown. subst (λ l. HasGrown members l.store log.store (map (λ v. v.items) c.args.items.now)) c.self.view_is grown);
  later =
      let members = g.C.Store in
      ok-then c.stored.result c.stored.ensures.later (λ log later. subst (λ l. members.faults l.store ≤ members.faults log.store) c.self.view_is later);
  size = ok-then c.stored.result c.stored.ensures.tree (λ log same. ap (λ t. t.leaves) same ∙ c.in-Ok.ensures.leaves ∙ c.requires.count);
}

pub returns-in-Err : goal.returns-in-Err
returns-in-Err g c = record {
  refused =
      let same = ap (λ t. record { store = c.self.inside.store; tree = t }) c.in-Err.ensures.err ∙ c.self.view_is in
      refused-whole g.C.Store (λ old new. HasGrownPart g.C.Store old new (map (λ v. v.items) c.args.items.now)) c.args.self _ same;
  stands = λ list older is kept found. tt;
  start = tt;
  size = tt;
  grown = tt;
  later = tt;
}
