use Rattle.std.proofs.Common.{◌∙◌, true, [], ap, sym}
use Rattle.std.proofs.lemmas.Bool.{false≢true}
use Rattle.std.specs.Prelude.{not, bytes_eq, option_map}
use Rattle.qm_model.specs.Forms.{Form}
use Rattle.qm_graft.specs.Grafting.{grafting}
use Rattle.qm_keyproofs.specs.Views.{operation_view}
use Rattle.qm_keyproofs.specs.Exclusions.{exclusion_view}
use Rattle.qm_keyproofs.proofs.Absences.{told_by_span, told_by_commit, answered_by_span, refused_by_span, answered_by_commit}
use Rattle.qm_keyproofs.proofs.exclusion.ExclusionProof.verify.Given
use Rattle.qm_keyproofs.proofs.exclusion.ExclusionProof.verify.Goals as goal

-- how the database's operations are spelled
abbrev form_of : Given.Over → Form
form_of g = record { ordered = true; sizes = g.V.ValueEncoding.fixed; is_key = g.K.ByteString.has; is_value = g.V.Value.ByteString.has }

pub returns-then-not-excludes : goal.returns-then-not-excludes
returns-then-not-excludes g c = record {
  answer =
      let update = c.in-KeyValue.update in
      let view = exclusion_view g.D.Digest.bytes g.K.ByteString.bytes g.V.Value.ByteString.bytes in
      refused_by_span g.H.Hasher.hash g.F.Family.shape (grafting g.N.Chunks.LEN) (form_of g) [] (g.K.ByteString.bytes c.args.key.now) (g.D.Digest.bytes c.args.root.now) (view c.args.self.now) (operation_view g.D.Digest.bytes c.in-KeyValue.proof)
      (g.K.ByteString.bytes update.key) (g.V.Value.ByteString.bytes update.value) (g.K.ByteString.bytes update.next_key) (ap view c.in-KeyValue.is) (sym c.excludes.ensures ∙ c.if-not-excludes.true);
  speaks = λ ops few fit good ring is yes_is. absurd (false≢true yes_is);
}

pub returns-else-not-excludes : goal.returns-else-not-excludes
returns-else-not-excludes g c =
    let update = c.in-KeyValue.update in
    let view = exclusion_view g.D.Digest.bytes g.K.ByteString.bytes g.V.Value.ByteString.bytes in
    let x = g.K.ByteString.bytes c.args.key.now in
    let key = g.K.ByteString.bytes update.key in
    let value = g.V.Value.ByteString.bytes update.value in
    let next = g.K.ByteString.bytes update.next_key in
    let proof = operation_view g.D.Digest.bytes c.in-KeyValue.proof in
    let within = sym c.excludes.ensures ∙ c.if-not-excludes.false in
    record {
      answer = answered_by_span g.H.Hasher.hash g.F.Family.shape (grafting g.N.Chunks.LEN) (form_of g) [] x (g.D.Digest.bytes c.args.root.now) (view c.args.self.now) proof key value next c.shows_update.result
          (ap view c.in-KeyValue.is) within c.shows_update.ensures.answer;
      speaks = λ ops few fit good ring is yes_is.
          told_by_span g.H.Hasher.hash g.F.Family.shape (grafting g.N.Chunks.LEN) (form_of g) ops x (view c.args.self.now) proof key value next (not (bytes_eq key x)) (ap view c.in-KeyValue.is) ring within
          (c.shows_update.ensures.speaks ops few fit is yes_is);
    }

pub returns-in-Commit : goal.returns-in-Commit
returns-in-Commit g c =
    let view = exclusion_view g.D.Digest.bytes g.K.ByteString.bytes g.V.Value.ByteString.bytes in
    let x = g.K.ByteString.bytes c.args.key.now in
    let proof = operation_view g.D.Digest.bytes c.in-Commit.proof in
    let meta = option_map g.V.Value.ByteString.bytes c.in-Commit.metadata in
    record {
      answer = answered_by_commit g.H.Hasher.hash g.F.Family.shape (grafting g.N.Chunks.LEN) (form_of g) [] x (g.D.Digest.bytes c.args.root.now) (view c.args.self.now) proof meta c.shows_commit.result (ap view c.in-Commit.is) c.shows_commit.ensures.answer;
      speaks = λ ops few fit good ring is yes_is.
          told_by_commit g.H.Hasher.hash g.F.Family.shape (grafting g.N.Chunks.LEN) (form_of g) ops x (view c.args.self.now) proof meta (ap view c.in-Commit.is) (c.shows_commit.ensures.speaks ops few fit good is yes_is x);
    }
