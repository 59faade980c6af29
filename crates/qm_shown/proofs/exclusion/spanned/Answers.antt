use Rattle.std.proofs.Common.{◌∙◌, ap, sym, subst, refl, true, Some}
use Rattle.qm_model.specs.Checks.{exclusion_by}
use Rattle.qm_model.specs.Forms.{Form}
use Rattle.qm_model.specs.Live.{Live}
use Rattle.qm_model.specs.RangeProofs.{spanned}
use Rattle.qm_graft.specs.Grafting.{grafting}
use Rattle.qm_graft.proofs.Fitting.{grafting-span}
use Rattle.qm_any.specs.Layouts.{Layout, hashing_with}
use Rattle.qm_store.specs.Refusals.{IsDue}
use Rattle.qm_shown.proofs.Absences.{around-live, other-key, own-key, spanned-around, spanned-own}
use Rattle.qm_shown.proofs.Keys.{IsFound, call-due, kept-none, live-offered}
use Rattle.qm_shown.proofs.exclusion.spanned.Goals as goal

pub returns-then-is_key-clause-refused : goal.returns-then-is_key-clause-refused
returns-then-is_key-clause-refused g c = λ list stands own is.
    let bytes = g.K.ByteString.bytes in
    let u = c.args.found.1 in
    spanned-own list (bytes c.args.key.now) c.args.found.0 (bytes u.key) (g.V.Value.ByteString.bytes u.value) (Some (bytes u.next_key)) is (own-key (bytes u.key) (bytes c.args.key.now) (sym c.is_key.ensures ∙ c.if-is_key.true))

pub returns-in-Ok-clause-absent : goal.returns-in-Ok-clause-absent
returns-in-Ok-clause-absent g c = λ list stands own is.
    let bytes = g.K.ByteString.bytes in
    let u = c.args.found.1 in
    let other = other-key (bytes u.key) (bytes c.args.key.now) (sym c.is_key.ensures ∙ c.if-is_key.false) in
    (spanned-around list (bytes c.args.key.now) c.args.found.0 (bytes u.key) (g.V.Value.ByteString.bytes u.value) (Some (bytes u.next_key)) is other).absent

pub returns-in-Ok-clause-proof : goal.returns-in-Ok-clause-proof
returns-in-Ok-clause-proof g c = λ list stands own is.
    let bytes = g.K.ByteString.bytes in
    let u = c.args.found.1 in
    let value = g.V.Value.ByteString.bytes u.value in
    let form : Form = record { ordered = true; sizes = g.V.ValueEncoding.fixed; is_key = g.K.ByteString.has; is_value = g.V.Value.ByteString.has } in
    let other = other-key (bytes u.key) (bytes c.args.key.now) (sym c.is_key.ensures ∙ c.if-is_key.false) in
    let around = spanned-around list (bytes c.args.key.now) c.args.found.0 (bytes u.key) value (Some (bytes u.next_key)) is other in
    ap (λ p. spanned p (bytes u.key) value (bytes u.next_key)) (c.in-Ok.ensures.proof list stands own)
    ∙ sym (ap (exclusion_by g.H.Hasher.hash g.F.Family.shape (grafting g.N.Chunks.LEN) form list) around.around)

pub returns-in-Err-clause-refused : goal.returns-in-Err-clause-refused
returns-in-Err-clause-refused g c = λ list stands own is.
    let bytes = g.K.ByteString.bytes in
    let u = c.args.found.1 in
    let value = g.V.Value.ByteString.bytes u.value in
    let size = g.N.Chunks.LEN in
    let power = g.met.N.Chunks.power in
    let db = c.args.db.now in
    let form : Form = record { ordered = true; sizes = g.V.ValueEncoding.fixed; is_key = g.K.ByteString.has; is_value = g.V.Value.ByteString.has } in
    let layout : Layout g.row.H-Digest.Denot = record { hashing = hashing_with g.H.Digest.Digest.bytes g.H.Hasher.hash g.F.Family.shape form; chunk = size; index_key = g.I.Unordered.index_key } in
    let e : Live = record { location = c.args.found.0; key = bytes u.key; value = value; next = Some (bytes u.next_key) } in
    let other = other-key (bytes u.key) (bytes c.args.key.now) (sym c.is_key.ensures ∙ c.if-is_key.false) in
    let around = spanned-around list (bytes c.args.key.now) c.args.found.0 (bytes u.key) value (Some (bytes u.next_key)) is other in
    let there : IsFound list (bytes u.key) c.args.found.0 = record { entry = e; found = around-live list (bytes c.args.key.now) e around.around; here = refl } in
    let offered = live-offered g.C.Store size db list (grafting-span size power.0 power.1) stands.active (bytes u.key) c.args.found.0 there (kept-none g.C.Store layout db list stands) in
    call-due c.in-Err.error _ (subst (IsDue c.in-Err.error) offered (c.in-Err.ensures.refused list stands own))
