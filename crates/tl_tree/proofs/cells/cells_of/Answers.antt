use Rattle.std.proofs.Common.{◌≡◌, ℕ, suc, ◌-◌, ◌*◌, ◌^◌, length, sym, ap, subst, ◌∙◌, lit<, arith}
use Rattle.tl_tree.specs.Keeping.Cells.{AreLaneCells}
use Rattle.tl_tree.proofs.CellRows.{room, room-fits, row-before}
use Rattle.tl_tree.proofs.Steps.{below-at}
use Rattle.tl_tree.proofs.cells.cells_of.Goals as goal

pub loop-k-init : goal.loop-k-init
loop-k-init g c =
    let none : 8 * (length c.args.some.now - length c.args.some.now) ≡ 0 = omega arith in
    record { marked = λ i j l k. absurd (omega (arith, l)); room = rw none (lit< tt) }

pub row_of-requires : goal.row_of-requires
row_of-requires g c = below-at _ _ (c.loop-k.k - 1) (omega (arith, c.loop-k-test.true, c.loop-k.auto.k)) c.requires.some

pub overflow_mul-cells : goal.overflow_mul-cells
overflow_mul-cells g c =
    let h = room-fits (length c.args.some.now - c.loop-k.k) c.loop-k.cells (omega (arith, c.requires.few, c.loop-k-test.true)) c.loop-k.invariant.room in
    omega (arith, h)

pub overflow_add-cells : goal.overflow_add-cells
overflow_add-cells g c =
    let h = room-fits (length c.args.some.now - c.loop-k.k) c.loop-k.cells (omega (arith, c.requires.few, c.loop-k-test.true)) c.loop-k.invariant.room in
    omega (arith, h, c.row_of.ensures.eight)

pub loop-k-preserved : goal.loop-k-preserved
loop-k-preserved g c =
    let xs = c.args.some.now in
    let b = g.I.Items.bounds_of c.args.items.now in
    let eight = c.args.bounds.now in
    let k = c.loop-k.k - 1 in
    let e : suc k ≡ c.loop-k.k = omega (arith, c.loop-k-test.true) in
    let left : length xs - k ≡ suc (length xs - c.loop-k.k) = omega (arith, c.loop-k-test.true, c.loop-k.auto.k) in
    let Q : ℕ → Type 0 = λ v. AreLaneCells b xs eight v c.loop-k.cells in
    let v = ap (λ n. 2 ^ (8 * n)) left ∙ room (length xs - c.loop-k.k) in
    record {
      marked = row-before b xs eight k c.loop-k.cells c.row_of.result c.row_of.ensures.eight c.row_of.ensures.marks (subst Q (sym e) c.loop-k.invariant.marked);
      room = omega (arith, v, c.loop-k.invariant.room, c.row_of.ensures.eight);
    }

pub returns : goal.returns
returns g c =
    let Q : ℕ → Type 0 = λ v. AreLaneCells (g.I.Items.bounds_of c.args.items.now) c.args.some.now c.args.bounds.now v c.loop-k.cells in
    let first : c.loop-k.k ≡ 0 = omega (arith, c.loop-k-test.false) in
    subst Q first c.loop-k.invariant.marked
