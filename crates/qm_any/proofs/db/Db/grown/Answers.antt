use Rattle.std.proofs.Common.{arith, ◌≡◌, ◌∙◌, ◌⊎◌, ◌∷◌, ◌+◌, ◌++◌, length, map, ap, ap₂, sym, subst, inl, refl, option_map}
use Rattle.std.proofs.lemmas.List.{length-map, length-append, map-append}
use Rattle.std.proofs.lemmas.Result.{IfOk-from_err, err_from_is_err_and}
use Rattle.qm_model.specs.Forms.{spelling}
use Rattle.qm_model.specs.Trees.{inactive_peaks}
use Rattle.qm_merkle.specs.Batches.{lists_since}
use Rattle.qm_operations.specs.Views.{operation_view, operation_views}
use Rattle.qm_store.specs.KeptTrees.{IsKeptTree}
use Rattle.qm_store.specs.Log.{IsLog, Log}
use Rattle.qm_base.specs.declared.error.Error.TheVariants as errors
use Rattle.qm_chain.specs.Bounds.{commitment_view}
use Rattle.qm_any.specs.Layouts.{hashing_of, spellings}
use Rattle.qm_any.specs.Tips.{IsSpelled, IsTooLong}
use Rattle.qm_any.proofs.Known.{contains-mapped}
use Rattle.qm_any.proofs.Trees.{root-kept}
use Rattle.qm_any.proofs.Unmade.{same-log}
use Rattle.qm_any.proofs.db.Db.grown.Goals as goal

pub inactive_peaks-inactive-requires : goal.inactive_peaks-inactive-requires
inactive_peaks-inactive-requires g c =
    let room = c.in_ok-items.ensures.taken.few in
    omega (arith, c.new.ensures, c.len.ensures, c.in_ok-items.items.ok.0, room)

pub grown-requires-clause-room : goal.grown-requires-clause-room
grown-requires-clause-room g c =
    let room = c.in_ok-items.ensures.taken.few in
    omega (arith, room, c.leaves-size.ensures, ap length c.deref.ensures.value)

pub returns-in_err-items : goal.returns-in_err-items
returns-in_err-items g c =
    let exit = err_from_is_err_and c.from_residual.result c.from_residual.ensures.1 in
    let list = operation_views g.U.Update.view g.U.Key.ByteString.bytes g.U.Value.ByteString.bytes c.args.operations.now in
    record {
      after = IfOk-from_err c.from_residual.result _ c.from_residual.ensures.0;
      tree = λ list base older is kept found. IfOk-from_err c.from_residual.result _ c.from_residual.ensures.0;
      refused = rw (exit.1, exit.2) (subst (λ n. (c.in_err-items.field-0.0 ≡ errors.Memory) ⊎ IsTooLong (map (spelling g.U.Update.form) list) (n + length c.args.operations.now) c.in_err-items.field-0.0) c.leaves-size.ensures c.in_err-items.ensures.refused);
      same = refl;
    }

pub returns-in_err-grown : goal.returns-in_err-grown
returns-in_err-grown g c =
    let exit = err_from_is_err_and c.from_residual-in_err-grown.result c.from_residual-in_err-grown.ensures.1 in
    record {
      after = IfOk-from_err c.from_residual-in_err-grown.result _ c.from_residual-in_err-grown.ensures.0;
      tree = λ list base older is kept found. IfOk-from_err c.from_residual-in_err-grown.result _ c.from_residual-in_err-grown.ensures.0;
      refused = rw (exit.1, exit.2) (inl refl);
      same = same-log c.args.self.now (λ (l : Log g.row.C.Denot g.row.H-Digest.Denot). record { entries = g.I.Unordered.entries c.self.inside.index; activity = c.self.inside.activity; log = l; commitment = commitment_view g.H.Digest.Digest.bytes c.self.inside.commitment; floor = c.self.inside.floor; live = c.self.inside.live; metadata = option_map (λ m. g.U.Value.ByteString.bytes m.value) c.self.inside.metadata }) c.grown.new.log c.self.inside.log c.grown.ensures.same c.self.view_is;
    }

pub returns : goal.returns
returns g c =
    let view = operation_view g.U.Update.view g.U.Key.ByteString.bytes g.U.Value.ByteString.bytes in
    let form = g.U.Update.form in
    let list = map view c.args.operations.now in
    let items = ap (map (λ v. v.items)) c.deref.ensures.value ∙ c.in_ok-items.ensures.items in
    let given = ap length c.deref.ensures.value in
    let count : length c.in_ok-items.items.items ≡ length c.args.operations.now =
    sym (length-map c.in_ok-items.items.items (λ v. v.items)) ∙ ap length c.in_ok-items.ensures.items ∙ length-map list (spelling form) ∙ length-map c.args.operations.now view in
    record {
      after = record {
        leaves = c.in_ok-grown.ensures.leaves ∙ ap (λ n. c.args.tree.now.leaves + n) (given ∙ count ∙ sym (length-map c.args.operations.now view));
        spelled = subst (IsSpelled form list) (ap₂ (λ a b. a + b) c.leaves-size.ensures (sym given) ∙ sym c.in_ok-grown.ensures.leaves) c.in_ok-items.ensures.taken;
        through = c.in_ok-grown.ensures.stops;
      };
      tree = λ all base older is kept found.
          let by = hashing_of g.H.Digest.Digest.bytes g.H.Hasher g.F.Family g.U.Update in
          let sp = spellings by in
          let log = subst (λ log. IsLog g.C.Store g.F.Family.shape g.H.Digest.Digest.bytes g.H.Hasher.hash log (sp all)) (sym (ap (λ db. db.log) c.self.view_is)) is.lent.logged in
          let spelled = ap (λ xs. sp base ++ xs) items ∙ sym (map-append (spelling form) base list) in
          let size = c.leaves-size.result + c.len.result in
          let long : size ≡ length (base ++ list) =
          omega (arith, c.leaves-size.ensures, kept.leaves, length-map base (spelling form), c.len.ensures, c.in_ok-items.items.ok.0, count, length-map c.args.operations.now view, length-append base list) in
          let inactive = c.inactive_peaks-inactive.ensures ∙ ap₂ (inactive_peaks g.F.Family.shape) c.new.ensures c.new-2.ensures in
          record {
            tree =
                subst (λ xs. IsKeptTree g.H.Digest.Digest.bytes g.H.Hasher.hash g.F.Family.shape c.in_ok-grown.field-0.0 xs (lists_since c.args.boundary (sp base ∷ map sp older))) spelled
                (c.in_ok-grown.ensures.tree (sp all) (sp base) (map sp older) log kept (contains-mapped sp (base ∷ older) all found));
            root = λ lowest.
                c.in_ok-grown.ensures.root (sp all) (sp base) (map sp older) log kept (contains-mapped sp (base ∷ older) all found)
                ∙ root-kept by (sp base ++ map (λ v. v.items) c.deref.result.now) (base ++ list) c.inactive_peaks-inactive.result size c.args.floor spelled long lowest inactive;
          };
      refused = tt;
      same = same-log c.args.self.now (λ (l : Log g.row.C.Denot g.row.H-Digest.Denot). record { entries = g.I.Unordered.entries c.self.inside.index; activity = c.self.inside.activity; log = l; commitment = commitment_view g.H.Digest.Digest.bytes c.self.inside.commitment; floor = c.self.inside.floor; live = c.self.inside.live; metadata = option_map (λ m. g.U.Value.ByteString.bytes m.value) c.self.inside.metadata }) c.grown.new.log c.self.inside.log c.grown.ensures.same c.self.view_is;
    }
