use Rattle.std.proofs.Common.{◌≡◌, ℕ, suc, ◌+◌, ◌/◌, ◌^◌, ◌<◌, ◌≤◌, length, w64, sym, ap, ◌∙◌, arith}
use Rattle.std.specs.Int.{bit_at, trailing_zeros}
use Rattle.std.proofs.lemmas.Nat.Bits.{bit_at-suc, bit_at-zero, bit_at-trailing_zeros}
use Rattle.tl_tree_index.specs.Pairs.{meeting, AreToldApart}
use Rattle.tl_tree.proofs.CellRows.{bit-behind, rest-start, rest-end, cell-step, all-rest-start, all-rest-end, all-cell-step, marked-meets, skip-unmarked, skip-least, free-skip}
use Rattle.tl_tree.proofs.Leaving.{enough_all, enough_from, enough_both, stops_after, goes}
use Rattle.tl_tree.proofs.Steps.{below-at}
use Rattle.tl_tree.proofs.search.test_cells.Goals as goal

-- what is known of the first mark of a number that isn't 0
first : (m : ℕ) → (m ≡ 0 → ⊥) → m < 2 ^ 64 → (bit_at m (trailing_zeros w64 m) ≡ 1) × ((i : ℕ) → i < trailing_zeros w64 m → bit_at m i ≡ 0)
first m ne l = let h = bit_at-trailing_zeros w64 m (omega (arith, ne)) l in (h.1, h.2)

pub loop-later-init : goal.loop-later-init
loop-later-init g c =
    let meet = meeting (g.I.Items.bounds_of c.args.items.now) in
    let free = AreToldApart (g.I.Items.tells c.args.items.now) in
    let e = rest-start meet c.args.some.now c.args.others.now in
    record {
      left = omega (arith, e);
      spent = enough_all (λ f. let e = rest-start f c.args.some.now c.args.others.now in omega (arith, e));
      free = all-rest-start free c.args.some.now c.args.others.now;
      nothing_found = c.requires.nothing_found;
      within = omega arith;
      marks = λ k. let z : k ≡ 0 + k = omega arith in ap (bit_at c.args.cells) z;
    }

pub returns-then-some-row : goal.returns-then-some-row
returns-then-some-row g c =
    let n = g.I.Items.count c.args.items.now in
    let b = g.I.Items.bounds_of c.args.items.now in
    let tells = g.I.Items.tells c.args.items.now in
    let xs = c.args.some.now in
    let ys = c.args.others.now in
    let m = c.loop-later.later in
    let p = c.loop-later.place in
    let t = trailing_zeros w64 m in
    let none : (k : ℕ) → k < t → bit_at c.args.cells (p + k) ≡ 0 = λ k l. sym (c.loop-later.invariant.marks k) ∙ (first m c.loop-later-test.true c.loop-later.auto.later-fits.fits).1 k l in
    let s = skip-unmarked b xs ys c.args.cells c.requires.cells c.requires.few_others t p none in
    let e = rest-end (meeting b) xs ys (p + t) c.if-some-row.true in
    record {
      left = omega (arith, s, e, c.loop-later.invariant.left);
      spent = enough_from c.loop-later.invariant.spent (λ f s p. omega (arith, p));
      free = c.loop-later.invariant.free (free-skip b xs ys c.args.cells c.requires.cells c.requires.few_others n tells (g.met.I.Items.apart c.args.items.now) c.requires.some c.requires.others t p none (all-rest-end (AreToldApart tells) xs ys (p + t) c.if-some-row.true));
      nothing_found = c.loop-later.invariant.nothing_found;
    }

pub test_cell-requires-clause-item : goal.test_cell-requires-clause-item
test_cell-requires-clause-item g c =
    below-at _ _ ((c.loop-later.place + trailing_zeros w64 c.loop-later.later) / 8) (omega (arith, c.if-some-row.false)) c.requires.some

pub test_cell-requires-clause-meeting : goal.test_cell-requires-clause-meeting
test_cell-requires-clause-meeting g c =
    let b = g.I.Items.bounds_of c.args.items.now in
    let xs = c.args.some.now in
    let ys = c.args.others.now in
    let m = c.loop-later.later in
    let t = trailing_zeros w64 m in
    let q = c.loop-later.place + t in
    let one : bit_at c.args.cells q ≡ 1 = sym (c.loop-later.invariant.marks t) ∙ (first m c.loop-later-test.true c.loop-later.auto.later-fits.fits).0 in
    λ l. marked-meets b xs ys c.args.cells c.requires.cells q (omega (arith, c.if-some-row.false)) one l

pub test_cell-requires-clause-nothing_found : goal.test_cell-requires-clause-nothing_found
test_cell-requires-clause-nothing_found g c = c.loop-later.invariant.nothing_found

pub returns-then-not-test_cell : goal.returns-then-not-test_cell
returns-then-not-test_cell g c =
    let xs = c.args.some.now in
    let ys = c.args.others.now in
    let p = c.loop-later.place in
    let t = trailing_zeros w64 c.loop-later.later in
    let q = p + t in
    let row : q / 8 < length xs = omega (arith, c.if-some-row.false) in
    stops_after _ _ _ _ _ _ _ _ _ _ c.test_cell.ensures c.if-not-test_cell.true c.loop-later.invariant.spent (λ f s i u h. omega (arith, h, i, cell-step f xs ys q row c.requires.few_others, skip-least f xs ys c.requires.few_others t p))

pub loop-later-preserved : goal.loop-later-preserved
loop-later-preserved g c =
    let n = g.I.Items.count c.args.items.now in
    let b = g.I.Items.bounds_of c.args.items.now in
    let tells = g.I.Items.tells c.args.items.now in
    let xs = c.args.some.now in
    let ys = c.args.others.now in
    let m = c.loop-later.later in
    let p = c.loop-later.place in
    let t = trailing_zeros w64 m in
    let q = p + t in
    let none : (k : ℕ) → k < t → bit_at c.args.cells (p + k) ≡ 0 = λ k l. sym (c.loop-later.invariant.marks k) ∙ (first m c.loop-later-test.true c.loop-later.auto.later-fits.fits).1 k l in
    let row : q / 8 < length xs = omega (arith, c.if-some-row.false) in
    let s = skip-unmarked b xs ys c.args.cells c.requires.cells c.requires.few_others t p none in
    let e = cell-step (meeting b) xs ys q row c.requires.few_others in
    let k = goes _ _ _ _ _ _ _ _ c.test_cell.ensures c.if-not-test_cell.false in
    record {
      left = omega (arith, s, e, k.left, c.loop-later.invariant.left);
      spent = enough_both k.spent c.loop-later.invariant.spent (λ f s u i. omega (arith, u, i, cell-step f xs ys q row c.requires.few_others, skip-least f xs ys c.requires.few_others t p));
      free = λ h. c.loop-later.invariant.free (free-skip b xs ys c.args.cells c.requires.cells c.requires.few_others n tells (g.met.I.Items.apart c.args.items.now) c.requires.some c.requires.others t p none (all-cell-step (AreToldApart tells) xs ys q row c.requires.few_others k.free h));
      nothing_found = k.nothing_found;
      within = omega (arith, row, c.requires.few);
      marks = λ j. let a : p + (suc j + t) ≡ q + 1 + j = omega arith in sym (bit_at-suc (m / 2 ^ t) j) ∙ bit-behind m t (suc j) ∙ c.loop-later.invariant.marks (suc j + t) ∙ ap (bit_at c.args.cells) a;
    }

pub returns : goal.returns
returns g c =
    let n = g.I.Items.count c.args.items.now in
    let b = g.I.Items.bounds_of c.args.items.now in
    let tells = g.I.Items.tells c.args.items.now in
    let xs = c.args.some.now in
    let ys = c.args.others.now in
    let p = c.loop-later.place in
    let none : (k : ℕ) → k < 64 → bit_at c.args.cells (p + k) ≡ 0 = λ k l. sym (c.loop-later.invariant.marks k) ∙ ap (λ v. bit_at v k) c.loop-later-test.false ∙ bit_at-zero k in
    let beyond : length xs ≤ (p + 64) / 8 = omega (arith, c.requires.few) in
    let s = skip-unmarked b xs ys c.args.cells c.requires.cells c.requires.few_others 64 p none in
    let e = rest-end (meeting b) xs ys (p + 64) beyond in
    record {
      left = omega (arith, s, e, c.loop-later.invariant.left);
      spent = enough_from c.loop-later.invariant.spent (λ f s p. omega (arith, p));
      free = c.loop-later.invariant.free (free-skip b xs ys c.args.cells c.requires.cells c.requires.few_others n tells (g.met.I.Items.apart c.args.items.now) c.requires.some c.requires.others 64 p none (all-rest-end (AreToldApart tells) xs ys (p + 64) beyond));
      nothing_found = c.loop-later.invariant.nothing_found;
    }
