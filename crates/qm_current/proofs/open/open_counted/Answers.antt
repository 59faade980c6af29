use Rattle.std.proofs.Common.{◌≡◌, ◌∙◌, ◌*◌, ◌^◌, ◌≤◌, refl, length, map, ap, ap₂, sym, subst}
use Rattle.std.proofs.lemmas.List.{length-map}
use Rattle.qm_model.specs.Grafted.{pair_absorption_threshold}
use Rattle.qm_model.specs.Trees.{peaks}
use Rattle.qm_model.proofs.Results.{err-then}
use Rattle.qm_graft.specs.Grafting.{grafting}
use Rattle.qm_open.proofs.Checking.{each-known, known-at}
use Rattle.qm_any.specs.Layouts.{layout_of}
use Rattle.qm_current.specs.Opening.{Counts, lies}
use Rattle.qm_current.proofs.Opening.{opens-joined, opens-refused}
use Rattle.qm_current.proofs.Unopened.{any-unopened, joined-unopened}
use Rattle.qm_current.proofs.open.open_counted.Goals as goal

pub returns-in-Ok-clause-opens : goal.returns-in-Ok-clause-opens
returns-in-Ok-clause-opens g c =
    let size = g.H.Digest.Digest.SIZE in
    let chunk = g.N.Chunks.LEN in
    let shape = g.F.Family.shape in
    let name = c.args.config.metadata.now in
    let told = g.C.Store.told c.args.store in
    let pruned = c.pruned-pruned.result in
    let counted = c.pruned-pruned.ensures.chunks in
    let pins = map g.H.Digest.Digest.bytes c.args.pinned.pins.items in
    let counts = each-known told (λ s is. subst (λ n. Counts (lies g.U.Update.form shape size chunk name) name s n pins) (sym counted) (known-at _ told s is c.requires.counts)) in
    let whole : length pins ≡ length (peaks shape pruned.0) = length-map c.args.pinned.pins.items g.H.Digest.Digest.bytes ∙ c.requires.whole ∙ ap (λ n. length (peaks shape n)) (sym counted) in
    opens-joined g.C.Store (layout_of chunk g.H.Digest.Digest.bytes g.H.Hasher g.F.Family g.U.Update g.I.Unordered) size name c.args.max_size c.args.config.instance c.args.store c.requires.stable
    pruned.0 pruned.1 pins counts g.F.Family.births g.met.F.Family.numbered g.met.F.Family.peaked whole (g.met.C.Store.told_start c.args.store) c.in-Ok.any c.in-Ok.ensures.opens
    (g.met.C.Store.told_end c.in-Ok.any.log.store) (c.pruned-pruned.ensures.threshold ∙ ap₂ (pair_absorption_threshold shape) c.height.ensures.exact (sym counted))
    c.joined.result c.joined.ensures.made c.joined.ensures.canonical c.joined.ensures.refused

pub returns-in-Err-clause-opens : goal.returns-in-Err-clause-opens
returns-in-Err-clause-opens g c =
    let size = g.H.Digest.Digest.SIZE in
    let chunk = g.N.Chunks.LEN in
    let name = c.args.config.metadata.now in
    let told = g.C.Store.told c.args.store in
    let pruned = c.pruned-pruned.result in
    let pins = map g.H.Digest.Digest.bytes c.args.pinned.pins.items in
    let counts = each-known told (λ s is. subst (λ n. Counts (lies g.U.Update.form g.F.Family.shape size chunk name) name s n pins) (sym c.pruned-pruned.ensures.chunks) (known-at _ told s is c.requires.counts)) in
    opens-refused g.C.Store (layout_of chunk g.H.Digest.Digest.bytes g.H.Hasher g.F.Family g.U.Update g.I.Unordered) size name c.args.max_size c.args.config.instance c.args.store c.requires.stable
    pruned.0 pruned.1 pins counts c.in-Err.field-0 c.store_back.result c.store_back.ensures c.in-Err.ensures.opens

pub returns-in-Ok-clause-causes : goal.returns-in-Ok-clause-causes
returns-in-Ok-clause-causes g c =
    let chunk = g.N.Chunks.LEN in
    let shape = g.F.Family.shape in
    let layout = lies g.U.Update.form shape g.H.Digest.Digest.SIZE chunk c.args.config.metadata.now in
    let pruned = c.pruned-pruned.result in
    let counted = c.pruned-pruned.ensures.chunks in
    let few = subst (λ n. n * 2 ^ grafting chunk ≤ 2 ^ 62) (sym counted) c.requires.within in
    let waits = c.pruned-pruned.ensures.threshold ∙ ap₂ (pair_absorption_threshold shape) c.height.ensures.exact (sym counted) in
    let opens = c.in-Ok.ensures.opens in
    err-then c.joined.result c.joined.ensures.refused (λ r refused.
    joined-unopened layout chunk c.args.max_size pruned.0 few pruned.1 waits (g.C.Store.start c.args.store) (g.C.Store.«end» c.args.store) (g.C.Store.start c.in-Ok.any.log.store) (g.C.Store.«end» c.in-Ok.any.log.store)
    c.in-Ok.any.activity.pruned pruned.1 r.error opens.start opens.pruned refl refused.1)

pub returns-in-Err-clause-causes : goal.returns-in-Err-clause-causes
returns-in-Err-clause-causes g c =
    let chunk = g.N.Chunks.LEN in
    let shape = g.F.Family.shape in
    let layout = lies g.U.Update.form shape g.H.Digest.Digest.SIZE chunk c.args.config.metadata.now in
    let pruned = c.pruned-pruned.result in
    let counted = c.pruned-pruned.ensures.chunks in
    let few = subst (λ n. n * 2 ^ grafting chunk ≤ 2 ^ 62) (sym counted) c.requires.within in
    let waits = c.pruned-pruned.ensures.threshold ∙ ap₂ (pair_absorption_threshold shape) c.height.ensures.exact (sym counted) in
    any-unopened layout chunk c.args.max_size pruned.0 few pruned.1 waits (g.C.Store.start c.args.store) (g.C.Store.«end» c.args.store) c.in-Err.field-0.error c.in-Err.ensures.causes
