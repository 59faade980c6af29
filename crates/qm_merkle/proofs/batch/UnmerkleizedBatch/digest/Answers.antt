use Rattle.std.proofs.Common.{◌≡◌, ◌∙◌, Option, None, ap, sym, map}
use Rattle.std.specs.Prelude.{is_some}
use Rattle.std.specs.Option.{option_or}
use Rattle.qm_merkle.specs.Mems.{node_at}
use Rattle.qm_merkle.specs.Batches.{found_at, layers_at}
use Rattle.qm_merkle.proofs.batch.UnmerkleizedBatch.digest.Goals as goal

pub returns-in-Some : goal.returns-in-Some
returns-in-Some g c =
    ap (λ o. option_or o (option_or (layers_at g.F.Family.shape c.args.self.now.layers c.args.position) (node_at g.F.Family.shape c.args.mem.now c.args.position))) (ap (found_at c.args.nodes.now.entries) (sym c.get.ensures) ∙ sym c.in-Some.ensures.value)

pub returns-in-Some-layers_digest : goal.returns-in-Some-layers_digest
returns-in-Some-layers_digest g c =
    let none : found_at c.args.nodes.now.entries c.args.position ≡ None = ap (found_at c.args.nodes.now.entries) (sym c.get.ensures) ∙ sym c.in_default.ensures.value in
    ap (λ o. option_or o (option_or (layers_at g.F.Family.shape c.args.self.now.layers c.args.position) (node_at g.F.Family.shape c.args.mem.now c.args.position))) none
    ∙ ap (λ o. option_or o (node_at g.F.Family.shape c.args.mem.now c.args.position)) (sym (c.in-Some-layers_digest.ensures ∙ ap (λ rs. layers_at g.F.Family.shape (map (λ r. r.value) rs) c.args.position) c.deref.ensures.value ∙ ap (λ b. layers_at g.F.Family.shape b.layers c.args.position) c.self.view_is))

-- neither the nodes nor the layers have it
in_tree : {D : Type 0} (own below kept : Option D) → own ≡ None → below ≡ None → option_or own (option_or below kept) ≡ kept
in_tree own below kept none past = ap (λ o. option_or o (option_or below kept)) none ∙ ap (λ o. option_or o kept) past

pub unwrap-requires : goal.unwrap-requires
unwrap-requires g c =
    let none = ap (found_at c.args.nodes.now.entries) (sym c.get.ensures) ∙ sym c.in_default.ensures.value in
    let tree = in_tree (found_at c.args.nodes.now.entries c.args.position) (layers_at g.F.Family.shape c.args.self.now.layers c.args.position) (node_at g.F.Family.shape c.args.mem.now c.args.position) none
    (sym (c.in_default-layers_digest.ensures ∙ ap (λ rs. layers_at g.F.Family.shape (map (λ r. r.value) rs) c.args.position) c.deref.ensures.value ∙ ap (λ b. layers_at g.F.Family.shape b.layers c.args.position) c.self.view_is)) in
    ap is_some (c.get_node.ensures.value ∙ sym tree) ∙ c.requires

pub returns : goal.returns
returns g c =
    let none = ap (found_at c.args.nodes.now.entries) (sym c.get.ensures) ∙ sym c.in_default.ensures.value in
    let tree = in_tree (found_at c.args.nodes.now.entries c.args.position) (layers_at g.F.Family.shape c.args.self.now.layers c.args.position) (node_at g.F.Family.shape c.args.mem.now c.args.position) none
    (sym (c.in_default-layers_digest.ensures ∙ ap (λ rs. layers_at g.F.Family.shape (map (λ r. r.value) rs) c.args.position) c.deref.ensures.value ∙ ap (λ b. layers_at g.F.Family.shape b.layers c.args.position) c.self.view_is)) in
    tree ∙ sym c.get_node.ensures.value ∙ c.unwrap.ensures
