use Rattle.qm_model.proofs.Metadata.{metadata-counted}
use Rattle.qm_model.proofs.laws.metadata_is_read.Goals as goal

pub returns : goal.returns
returns g c e chunks log is low sized few small = metadata-counted e chunks log is low sized few small
