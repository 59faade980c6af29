use Rattle.qm_any.proofs.Owned.{own-stands}
use Rattle.qm_any.proofs.laws.an_own_store_is_opened_to_the_beginning_of_its_list.Goals as goal

pub returns : goal.returns
returns g c layout digest_size bound old result log s own told opens = own-stands g.C.Store layout digest_size g.P.Ruled.rules bound old result log s own told opens
