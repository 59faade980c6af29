-- What follows the answers, and the status when all is written.
use Rattle.std.specs.Prelude.{ℕ, ◌+◌, []}
use Rattle.qm_model.specs.Operations.{Bytes}
use Rattle.qm_filling.specs.Says.{fault_text}
use Rattle.qm_run.specs.Program.{bad_text}
use Rattle.qm_engine.specs.declared.answers.Ending.{Ending}
use Rattle.qm_engine.specs.declared.answers.Ending.TheVariants.{Done, BadLine, Memory, StoreFault}

-- so many lines were answered before
abbrev pub tail_text : Ending → ℕ → Bytes
tail_text Done answered = []
tail_text BadLine answered = bad_text (answered + 1)
tail_text Memory answered = []
tail_text StoreFault answered = fault_text

abbrev pub tail_status : Ending → ℕ
tail_status Done = 0
tail_status BadLine = 2
tail_status Memory = 5
tail_status StoreFault = 6
