use Rattle.std.proofs.Common.{◌+◌, ◌-◌, inl, inr, get_or, drop, ap, sym, ◌∙◌, arith}
use Rattle.tl_tree_index.specs.Trees.{leaf, first_trees, trees_of}
use Rattle.tl_tree.proofs.Flat.{no-tree, split-inner, split-leaf}
use Rattle.tl_tree.proofs.cursor.CursorTrees.split_first.Goals as goal
use Rattle.tl_tree.proofs.cursor.CursorTrees.split_first.Goals.{then-self-eq0-via-then-self-eq0, then-self-eq0-via-else-self-eq0+then-self-lists}

pub returns-then-self-eq0 : goal.returns-then-self-eq0
returns-then-self-eq0 c =
    elim c.then-self-eq0.branch [
      | then-self-eq0-via-then-self-eq0 w ↦ no-tree c.args.self.now.count c.args.self.now.at c.args.self.now.lists.now.nodes.now (inl w.if-self-eq0.true)
      | then-self-eq0-via-else-self-eq0+then-self-lists w ↦ no-tree c.args.self.now.count c.args.self.now.at c.args.self.now.lists.now.nodes.now (inr w.if-self-lists.true)
    ]

pub returns-in-Inner : goal.returns-in-Inner
returns-in-Inner c =
    let self = c.args.self.now in
    split-inner self.count (get_or self.lists.now.sizes.now self.at 0) self.at self.lists.now.nodes.now c.in-Inner.rect c.in-Inner.children c.index-lists-self.result
    c.if-self-eq0.false c.if-self-lists.false c.in-Inner.is (self.lists.now.sized.right self.at (omega arith) c.if-self-lists.false)

pub returns-in-Leaf : goal.returns-in-Leaf
returns-in-Leaf c =
    let self = c.args.self.now in
    let size = get_or self.lists.now.sizes.now self.at 0 in
    split-leaf self.count size self.at self.lists.now.nodes.now c.in-Leaf.rect c.in-Leaf.items c.index-lists-self.result
    c.if-self-eq0.false c.if-self-lists.false c.in-Leaf.is (self.lists.now.sized.right self.at (omega arith) c.if-self-lists.false)
    ∙ ap (λ xs. leaf c.in-Leaf.rect xs (first_trees (self.count - 1) (trees_of (drop (self.at + size) self.lists.now.nodes.now)))) (sym c.as_slice.ensures.value)
