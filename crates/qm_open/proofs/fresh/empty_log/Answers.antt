use Rattle.std.proofs.Common.{ap, subst, sym, ◌∙◌}
use Rattle.qm_merkle.specs.Mems.{IsWhole}
use Rattle.qm_store.specs.declared.refusal.Given.TheVariants.{Store}
use Rattle.qm_store.specs.Log.{store_given}
use Rattle.qm_open.proofs.Empty.{log-none, head-bare, head-some}
use Rattle.qm_open.proofs.fresh.empty_log.Goals as goal

pub returns-in-Ok : goal.returns-in-Ok
returns-in-Ok g c =
    let opened = c.in-Ok.ensures in
    record {
      made = record {
        stands = log-none g.C.Store g.F.Family.shape g.F.Family.births g.met.F.Family.numbered g.met.F.Family.peaked g.H.Digest.Digest.bytes g.H.Hasher.hash c.in-Ok.log
            (subst (IsWhole g.F.Family.shape) c.tree.ensures c.bounds.ensures.whole) (opened.start ∙ c.requires.start) opened.size (opened.start ∙ sym opened.kept.start);
        kept = opened.kept;
        later = opened.later;
        bare = head-bare g.F.Family.shape g.F.Family.births g.met.F.Family.numbered g.met.F.Family.peaked (g.C.Store.start c.args.store) g.H.Digest.Digest.SIZE c.requires.start (g.C.Store.told c.args.store) opened.long;
      };
      refused = tt;
    }

pub returns-in-Err : goal.returns-in-Err
returns-in-Err g c =
    let refused = c.in-Err.ensures in
    record {
      made = tt;
      refused = record {
        back = (refused.back.0, ap Store (c.store_of.ensures ∙ ap store_given refused.back.1), refused.back.2, refused.back.3);
        head = λ corrupt.
            head-some g.F.Family.shape g.F.Family.births g.met.F.Family.numbered g.met.F.Family.peaked (g.C.Store.start c.args.store) g.H.Digest.Digest.SIZE c.requires.start (g.C.Store.told c.args.store) (refused.head corrupt);
        causes = refused.never;
      };
    }
