-- What comes of applying a batch, of the any database within.
use Rattle.std.specs.Prelude.{Result, Ok, Err}
use Rattle.qm_store.specs.declared.refusal.Given.{Given}
use Rattle.qm_store.specs.declared.refusal.Given.TheVariants as given
use Rattle.qm_store.specs.declared.refusal.Refusal.{Refusal}
use Rattle.qm_any.specs.Databases as anys
use Rattle.qm_current.specs.Databases.{Database}

-- the store of a database
abbrev pub store_in : {C D : Type 0} → Database C D → C
store_in db = db.any.log.store

-- the any database of one that is given back, or the store
abbrev pub any_given : {C D : Type 0} → Given (Database C D) C → Given (anys.Database C D) C
any_given (given.Database db) = given.Database db.any
any_given (given.Store store) = given.Store store

-- what a call answered of the any database
abbrev pub any_answer : {C D : Type 0} → Result (Database C D) (Refusal (Database C D) C) → Result (anys.Database C D) (Refusal (anys.Database C D) C)
any_answer (Ok db) = Ok db.any
any_answer (Err refusal) = Err (record { given = any_given refusal.given; error = refusal.error })
