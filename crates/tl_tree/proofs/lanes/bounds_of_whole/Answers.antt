use Rattle.std.proofs.Common.{◌≡◌, ℕ, zero, suc, ◌<◌, List, length, get_or, ◌∙◌, lit<, arith}
use Rattle.tl_geom.specs.EightRectangles.{lane}
use Rattle.tl_tree_index.specs.Fits.{AreBelow}
use Rattle.tl_tree.proofs.Steps.{below-at}
use Rattle.tl_tree.proofs.lanes.bounds_of_whole.Goals as goal
use Rattle.tl_geom.proofs.Masks.{by_eight as each}

-- each of eight items is known
known : (n : ℕ) (xs : List ℕ) (k : ℕ) → length xs ≡ 8 → k < 8 → AreBelow n xs → get_or xs k 0 < n
known n xs k e h b = below-at n xs k (omega arith) b

pub bounds-requires : goal.bounds-requires
bounds-requires g c = known _ _ 0 c.requires.eight (lit< tt) c.requires.some

pub bounds-requires-2 : goal.bounds-requires-2
bounds-requires-2 g c = known _ _ 1 c.requires.eight (lit< tt) c.requires.some

pub bounds-requires-3 : goal.bounds-requires-3
bounds-requires-3 g c = known _ _ 2 c.requires.eight (lit< tt) c.requires.some

pub bounds-requires-4 : goal.bounds-requires-4
bounds-requires-4 g c = known _ _ 3 c.requires.eight (lit< tt) c.requires.some

pub bounds-requires-5 : goal.bounds-requires-5
bounds-requires-5 g c = known _ _ 4 c.requires.eight (lit< tt) c.requires.some

pub bounds-requires-6 : goal.bounds-requires-6
bounds-requires-6 g c = known _ _ 5 c.requires.eight (lit< tt) c.requires.some

pub bounds-requires-7 : goal.bounds-requires-7
bounds-requires-7 g c = known _ _ 6 c.requires.eight (lit< tt) c.requires.some

pub bounds-requires-8 : goal.bounds-requires-8
bounds-requires-8 g c = known _ _ 7 c.requires.eight (lit< tt) c.requires.some

pub returns : goal.returns
returns g c k l m =
    let P : ℕ → Type 0 = λ j. lane c.gather.result j ≡ g.I.Items.bounds_of c.args.items.now (get_or c.args.some.now j 0) in
    let e = c.gather.ensures in
    each P (e 0 (omega arith) ∙ c.bounds.ensures) (e 1 (omega arith) ∙ c.bounds-2.ensures) (e 2 (omega arith) ∙ c.bounds-3.ensures) (e 3 (omega arith) ∙ c.bounds-4.ensures)
    (e 4 (omega arith) ∙ c.bounds-5.ensures) (e 5 (omega arith) ∙ c.bounds-6.ensures) (e 6 (omega arith) ∙ c.bounds-7.ensures) (e 7 (omega arith) ∙ c.bounds-8.ensures) k l
