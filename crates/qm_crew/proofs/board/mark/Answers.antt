use Rattle.std.proofs.Common.{◌%◌, arith}
use Rattle.qm_crew.proofs.Moves.{marks, one_shifted}
use Rattle.qm_crew.proofs.board.mark.Goals as goal

pub fetch_or-requires : goal.fetch_or-requires
fetch_or-requires c = (c.requires.table, c.requires.within, marks _ _ _ _ (c.args.place % 64) _ (omega arith) (one_shifted (c.args.place % 64) (omega arith)) c.requires.fresh)
