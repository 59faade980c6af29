-- Keys that were read, with what was found of them.
use Rattle.std.proofs.Common.{◌≡◌, ◌∙◌, ap, ap₂, sym, subst, refl, ℕ, List, [], ◌∷◌, ◌++◌, map, Option}
use Rattle.std.specs.Prelude.{All, option_map}
use Rattle.std.proofs.lemmas.List.{append-nil, map-append}
use Rattle.std.proofs.lemmas.List.Elements.{All-append, All-cons, All-head, All-map, All-nil, All-tail}
use Rattle.qm_model.specs.Operations.{Bytes, Operation}
use Rattle.qm_model.specs.Slots.{slotted}
use Rattle.qm_model.specs.Writes.{Write, last_writes, overwritten, read_through, write_of}
use Rattle.qm_base.specs.Slots.{slot_views, write_views}
use Rattle.qm_base.specs.declared.slot.Slot.{Slot}
use Rattle.qm_base.specs.declared.write.Write as declared
use Rattle.qm_step.specs.Changes.{update_of}
use Rattle.qm_step.specs.Views.{AreReads, keys_of, read_view, reads_view}
use Rattle.qm_step.specs.declared.wanted.Read.{Read}
use Rattle.qm_step.proofs.Steps.{map-twice}
use Rattle.qm_any.specs.Databases.{read_under}
use Rattle.qm_any.proofs.Reading.{value-found}

-- if nothing is staged and nothing else is written, the recorded writes are all
pub slotted-staged : {F U K V : Type 0} (view : U → Operation) (key : K → Bytes) (value : V → Bytes) (ws : List Write) (reads : List (Read F U K V)) (slots : List (Slot V)) (others : List (declared.Write K V)) → reads ≡ [] → slots ≡ [] → others ≡ []
    → slotted ws (map (λ (r : Bytes × Option (ℕ × Operation)). r.0) (reads_view view key reads)) (slot_views value slots) (write_views key value others) ≡ ws
slotted-staged view key value ws reads slots others no_reads no_slots no_others =
    ap (λ rs. slotted ws (map (λ (r : Bytes × Option (ℕ × Operation)). r.0) (reads_view view key rs)) (slot_views value slots) (write_views key value others)) no_reads
    ∙ ap (λ ss. slotted ws [] (slot_views value ss) (write_views key value others)) no_slots
    ∙ ap (λ os. slotted ws [] [] (write_views key value os)) no_others
    ∙ ap (λ xs. xs ++ []) (append-nil ws) ∙ append-nil ws

-- the keys of reads, with one more
pub keys-more : {F U K V : Type 0} (key : K → Bytes) (reads all : List (Read F U K V)) (r : Read F U K V) (keys : List K) (k : K) → all ≡ reads ++ r ∷ [] → keys_of key reads ≡ map key keys → r.key ≡ k → keys_of key all ≡ map key (keys ++ k ∷ [])
keys-more key reads all r keys k more same is =
    ap (keys_of key) more ∙ map-append (λ (r : Read _ _ _ _). key r.key) reads (r ∷ [])
    ∙ ap₂ (λ ks b. ks ++ b ∷ []) same (ap key is)
    ∙ sym (map-append key keys (k ∷ []))

-- the keys of a staged batch of these reads
pub staged-keys : {F U K V : Type 0} (view : U → Operation) (key : K → Bytes) (now reads : List (Read F U K V)) (staged : List (Bytes × Option (ℕ × Operation))) → now ≡ reads → reads_view view key reads ≡ staged
    → keys_of key now ≡ map (λ r. r.0) staged
staged-keys view key now reads staged is same =
    ap (keys_of key) is
    ∙ sym (map-twice (λ (r : Bytes × Option (ℕ × Operation)). r.0) (λ (r : Read _ _ _ _). (key r.key, option_map (read_view view) r.found)) reads)
    ∙ ap (map (λ (r : Bytes × Option (ℕ × Operation)). r.0)) same

-- the writes that are wanted of one
pub slotted-reads : {F U K V : Type 0} (view : U → Operation) (key : K → Bytes) (value : V → Bytes) (own recorded : List Write) (now reads : List (Read F U K V)) (staged : List (Bytes × Option (ℕ × Operation))) (slots : List (Slot V)) (others : List (declared.Write K V))
    → own ≡ recorded → now ≡ reads → reads_view view key reads ≡ staged
    → slotted own (keys_of key now) (slot_views value slots) (write_views key value others) ≡ slotted recorded (map (λ r. r.0) staged) (slot_views value slots) (write_views key value others)
slotted-reads view key value own recorded now reads staged slots others same is are =
    ap₂ (λ ws ks. slotted ws ks (slot_views value slots) (write_views key value others)) same (staged-keys view key now reads staged is are)

-- and of one that has more after what it had
pub staged-keys-more : {F U K V : Type 0} (view : U → Operation) (key : K → Bytes) (all had : List (Bytes × Option (ℕ × Operation))) (found : List (Read F U K V)) (keys : List K) → all ≡ had ++ reads_view view key found
    → keys_of key found ≡ map key keys → map (λ r. r.0) all ≡ map (λ r. r.0) had ++ map key keys
staged-keys-more view key all had found keys more are =
    ap (map (λ (r : Bytes × Option (ℕ × Operation)). r.0)) more ∙ map-append (λ (r : Bytes × Option (ℕ × Operation)). r.0) had (reads_view view key found)
    ∙ ap (λ ks. map (λ (r : Bytes × Option (ℕ × Operation)). r.0) had ++ ks) (sym (staged-keys view key found found (reads_view view key found) refl refl) ∙ are)

-- a staged key has what the list has of it
abbrev IsStagedRead : List Operation → Bytes × Option (ℕ × Operation) → Type 0
IsStagedRead base r = r.1 ≡ update_of base r.0

module _ {F U K V : Type 0} (view : U → Operation) (key : K → Bytes) (base : List Operation) where
  -- what was found of the key is what the list has of it
  abbrev IsFound : Read F U K V → Type 0
  IsFound r = option_map (read_view view) r.found ≡ update_of base (key r.key)

  -- no reads are those of any list
  pub reads-none : (reads : List (Read F U K V)) → reads ≡ [] → AreReads view key reads base
  reads-none reads none = subst (All IsFound) (sym none) (All-nil IsFound)

  -- one more
  pub reads-more : (reads all : List (Read F U K V)) (r : Read F U K V) → all ≡ reads ++ r ∷ [] → IsFound r → AreReads view key reads base → AreReads view key all base
  reads-more reads all r more found are = subst (All IsFound) (sym more) (All-append IsFound reads (r ∷ []) are (All-cons IsFound r [] found (All-nil IsFound)))

  -- as a staged batch has them
  reads-staged : (reads : List (Read F U K V)) → AreReads view key reads base → All (IsStagedRead base) (reads_view view key reads)
  reads-staged reads are = All-map (IsStagedRead base) (λ (r : Read F U K V). (key r.key, option_map (read_view view) r.found)) reads are

  -- none is staged at first
  pub staged-none : (reads : List (Read F U K V)) → reads ≡ [] → All (IsStagedRead base) (reads_view view key reads)
  staged-none reads none = reads-staged reads (reads-none reads none)

  -- and back
  reads-back : (reads : List (Read F U K V)) → All (IsStagedRead base) (reads_view view key reads) → AreReads view key reads base
  reads-back [] all = All-nil IsFound
  reads-back (r ∷ rs) all =
      let first : Bytes × Option (ℕ × Operation) = (key r.key, option_map (read_view view) r.found) in
      All-cons IsFound r rs (All-head (IsStagedRead base) first (reads_view view key rs) all) (reads-back rs (All-tail (IsStagedRead base) first (reads_view view key rs) all))

  -- the reads that a staged batch has
  pub staged-reads : (now reads : List (Read F U K V)) (staged : List (Bytes × Option (ℕ × Operation))) → now ≡ reads → reads_view view key reads ≡ staged → All (IsStagedRead base) staged → AreReads view key now base
  staged-reads now reads staged is same all = subst (All IsFound) (sym is) (reads-back reads (subst (All (IsStagedRead base)) (sym same) all))

  -- and more after what it had
  pub staged-more : (all had : List (Bytes × Option (ℕ × Operation))) (found : List (Read F U K V)) → all ≡ had ++ reads_view view key found
      → All (IsStagedRead base) had → AreReads view key found base → All (IsStagedRead base) all
  staged-more all had found more before are =
      subst (All (IsStagedRead base)) (sym more) (All-append (IsStagedRead base) had (reads_view view key found) before (reads-staged found are))

  -- what was found and what the list has of keys have the same values under writes
  pub read-through : (ws : List Write) (reads : List (Read F U K V)) → AreReads view key reads base
      → map (λ r. read_under ws (key r.key) (option_map (read_view view) r.found)) reads ≡ map (read_through base ws) (keys_of key reads)
  read-through ws [] are = refl
  read-through ws (r ∷ rs) are =
      ap₂ (λ v vs. v ∷ vs)
      (ap (read_under ws (key r.key)) (All-head IsFound r rs are) ∙ ap (overwritten (write_of (last_writes ws) (key r.key))) (value-found base (key r.key)))
      (read-through ws rs (All-tail IsFound r rs are))
