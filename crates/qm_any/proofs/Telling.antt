-- What a fresh list stands for, proofs in the first operations of a list, and the floor of these.
use Rattle.std.proofs.Common.{◌≡◌, ℕ, ◌+◌, ◌*◌, ◌++◌, false, List, [], length, take, map, refl, sym, ◌∙◌, ap, ap₂, subst, arith, Option, None, Some, IfSome, All}
use Rattle.std.specs.Prelude.{replicate, IsSome, Result, Ok, Err, IfOk}
use Rattle.std.proofs.lemmas.List.{take_all}
use Rattle.std.proofs.lemmas.List.Elements.{All-cons, All-nil}
use Rattle.std.proofs.lemmas.List.Sorted.{IsPermutation-refl}
use Rattle.qm_model.specs.Batches.{Commitment}
use Rattle.qm_model.specs.Bits.{bits}
use Rattle.qm_model.specs.StoreModel.{Stored, Becomes}
use Rattle.qm_model.specs.Keys.{successor}
use Rattle.qm_model.specs.Live.{Live, floor}
use Rattle.qm_model.specs.Forms.{Form, IsOf, spelling}
use Rattle.qm_model.specs.Operations.{Bytes, Operation, commit, fresh}
use Rattle.qm_model.specs.Proofs.{Proof, ops_proof}
use Rattle.qm_model.specs.Refusals.{proof_count}
use Rattle.qm_model.specs.Trees.{Shape, root, ops_root, inactive_peaks}
use Rattle.qm_model.proofs.Steps.{fresh-good}
use Rattle.qm_store.specs.declared.Store as store
use Rattle.qm_store.specs.Log.{Log, IsLog, digests_from}
use Rattle.qm_store.proofs.Leaves.{leaves-spelled}
use Rattle.qm_any.specs.Layouts.{Layout, list_root}
use Rattle.qm_any.specs.Databases.{Database, IsDatabase}

-- the root over a list's spellings is its operations root
pub root-spelled : (hash : Bytes → Bytes) (shape : Shape) (form : Form) (list : List Bytes) (ops : List Operation) (inactive : ℕ) → list ≡ map (spelling form) ops → inactive ≡ inactive_peaks shape (length ops) (floor ops)
    → root hash shape (digests_from hash shape 0 list) inactive ≡ ops_root hash shape form ops
root-spelled hash shape form list ops inactive spelled is =
    ap₂ (root hash shape) (ap (digests_from hash shape 0) spelled ∙ sym (leaves-spelled hash shape form 0 ops)) is

-- a store that told what it holds still does when its items have grown
pub grown-told : (o new : Option Stored) (f : Stored → Stored) (P : Type 0) → Becomes o new f → (IsSome new → P) → IfSome o (λ _. P)
grown-told None new f P grows give = tt
grown-told (Some s) None f P grows give = absurd grows
grown-told (Some s) (Some t) f P grows give = give refl

-- an operation of a fresh list is one of each form
fresh-of : (form : Form) → All (IsOf form) fresh
fresh-of form = All-cons (IsOf form) (commit None 0) [] (tt, omega arith) (All-nil (IsOf form))

-- no chunks have no bits
no-chunks : (n : ℕ) → 0 * n ≡ 0
no-chunks n = omega arith

-- an empty index, the fresh list's bits, a log of it and its commitment are a database of it
pub fresh-stands : {C D : Type 0} (members : store.Ghosts C) (layout : Layout D) (db : Database C D) (log : Log C D) (first : Commitment)
    → db ≡ record { entries = []; activity = record { pruned = 0; kept = bits fresh }; log = log; commitment = first; floor = 0; live = 0; metadata = None }
    → first ≡ record { size = 1; root = list_root layout.hashing fresh } → log.tree.start ≡ 0 → IsSome (members.told log.store)
    → IsLog members layout.hashing.shape layout.hashing.bytes layout.hashing.hash log (map (spelling layout.hashing.form) fresh) → IsDatabase members layout db fresh
fresh-stands members layout db log first is committed from told logged = subst (λ d. IsDatabase members layout d fresh) (sym is) (record {
  told = told;
  lent = record { indexed = λ k. IsPermutation-refl []; logged = logged; of = fresh-of layout.hashing.form };
  commitment = committed;
  low = omega (arith, from);
  floor = refl;
  live = refl;
  metadata = refl;
  active = ap (λ n. replicate n false ++ bits fresh) (no-chunks (8 * layout.chunk));
  good = fresh-good;
  ring = λ _. All-nil (λ (e : Live). e.next ≡ successor [] e.key);
})

-- the proof in all operations is the list's
pub proof-whole : {X E : Type 0} (r : Result X E) (hash : Bytes → Bytes) (shape : Shape) (form : Form) (list : List Operation) (view : X → Proof) (n a m : ℕ) → n ≡ length list
    → IfOk r (λ x. view x ≡ ops_proof hash shape form (take n list) a (a + proof_count n a m)) → IfOk r (λ x. view x ≡ ops_proof hash shape form list a (a + proof_count (length list) a m))
proof-whole (Err e) hash shape form list view n a m all is = tt
proof-whole (Ok x) hash shape form list view n a m all is =
    is ∙ ap (λ k. ops_proof hash shape form (take k list) a (a + proof_count k a m)) all
    ∙ ap (λ l. ops_proof hash shape form l a (a + proof_count (length list) a m)) (take_all (length list) list (omega arith))

-- what holds of three things holds of others that are the same
pub three : {A B C : Type 0} (T : A → B → C → Type 0) {a a2 : A} {b b2 : B} {c c2 : C} → a ≡ a2 → b ≡ b2 → c ≡ c2 → T a b c → T a2 b2 c2
three T {a} {a2} {b} {b2} {c} {c2} p q r is = subst (λ x. T a2 b2 x) r (subst (λ x. T a2 x c) q (subst (λ x. T x b c) p is))

-- what three things make is what others make that are the same
pub same-three : {A B C D : Type 0} (f : A → B → C → D) {a a2 : A} {b b2 : B} {c c2 : C} → a ≡ a2 → b ≡ b2 → c ≡ c2 → f a b c ≡ f a2 b2 c2
same-three f {a} {a2} {b} {b2} {c} {c2} p q r = ap (λ x. f x b c) p ∙ ap (λ x. f a2 x c) q ∙ ap (f a2 b2) r
