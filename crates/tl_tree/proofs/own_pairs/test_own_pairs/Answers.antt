use Rattle.std.proofs.Common.{◌≡◌, ℕ, suc, ◌+◌, ◌-◌, ◌/◌, ◌^◌, ◌<◌, ◌≤◌, w32, sym, ap, subst, ◌∙◌, arith}
use Rattle.std.specs.Int.{bit_at, trailing_zeros}
use Rattle.std.proofs.lemmas.Nat.Bits.{bit_at-suc, bit_at-zero, bit_at-trailing_zeros}
use Rattle.tl_tree_index.specs.Pairs.{meeting, AreToldApart}
use Rattle.tl_tree.proofs.CellRows.{bit-behind}
use Rattle.tl_tree.proofs.Leaving.{enough_all, enough_from, enough_both, stops_after, goes}
use Rattle.tl_tree.proofs.OwnPairs.{own_sums, AllOwns, own-start, own-more, owns-more, own-skip, owns-skip, marked-below, own-total, own-least, all-owns}
use Rattle.tl_tree.proofs.PairTests.{meeting-swap, free-turned}
use Rattle.tl_tree.proofs.own_pairs.test_own_pairs.Goals as goal

-- what is known of the first mark of a number that isn't 0
first : (m : ℕ) → (m ≡ 0 → ⊥) → m < 2 ^ 32 → (bit_at m (trailing_zeros w32 m) ≡ 1) × ((i : ℕ) → i < trailing_zeros w32 m → bit_at m i ≡ 0)
first m ne l = let h = bit_at-trailing_zeros w32 m (omega (arith, ne)) l in (h.1, h.2)

pub loop-later-init : goal.loop-later-init
loop-later-init g c =
    record {
      left = omega (arith, own-start (meeting (g.I.Items.bounds_of c.args.items.now)) c.args.some.now);
      spent = enough_all (λ f. omega arith);
      free = λ p lt. absurd (omega (arith, lt));
      nothing_found = c.requires.nothing_found;
      within = omega arith;
      marks = λ k. let z : k ≡ 0 + k = omega arith in ap (bit_at c.args.cells) z;
    }

pub test_own_cell-requires-clause-meeting : goal.test_own_cell-requires-clause-meeting
test_own_cell-requires-clause-meeting g c = λ there.
    let m = c.loop-later.later in
    let t = trailing_zeros w32 m in
    let q = c.loop-later.place + t in
    let one : bit_at c.args.cells q ≡ 1 = sym (c.loop-later.invariant.marks t) ∙ (first m c.loop-later-test.true c.loop-later.auto.later-fits.fits).0 in
    (c.requires.cells q (marked-below c.args.cells q c.requires.no_others one) there).0 one

pub test_own_cell-requires-clause-nothing_found : goal.test_own_cell-requires-clause-nothing_found
test_own_cell-requires-clause-nothing_found g c = c.loop-later.invariant.nothing_found

pub loop-later-smaller : goal.loop-later-smaller
loop-later-smaller g c =
    let m = c.loop-later.later in
    let t = trailing_zeros w32 m in
    let q = c.loop-later.place + t in
    let one : bit_at c.args.cells q ≡ 1 = sym (c.loop-later.invariant.marks t) ∙ (first m c.loop-later-test.true c.loop-later.auto.later-fits.fits).0 in
    omega (arith, marked-below c.args.cells q c.requires.no_others one)

pub returns-then-not-test_own_cell : goal.returns-then-not-test_own_cell
returns-then-not-test_own_cell g c =
    let xs = c.args.some.now in
    let p = c.loop-later.place in
    let t = trailing_zeros w32 c.loop-later.later in
    let q = p + t in
    let one : bit_at c.args.cells q ≡ 1 = sym (c.loop-later.invariant.marks t) ∙ (first c.loop-later.later c.loop-later-test.true c.loop-later.auto.later-fits.fits).0 in
    let below = marked-below c.args.cells q c.requires.no_others one in
    let e : q + 1 + (27 - q) ≡ 28 = omega (arith, below) in
    stops_after _ _ _ _ _ _ _ _ _ _ c.test_own_cell.ensures c.if-not-test_own_cell.true c.loop-later.invariant.spent
    (λ f s i u h. omega (arith, h, i, own-least f xs t p, own-least f xs (27 - q) (q + 1), ap (own_sums f xs) e, own-total f s xs c.requires.few, own-more f xs q))

pub loop-later-preserved : goal.loop-later-preserved
loop-later-preserved g c =
    let n = g.I.Items.count c.args.items.now in
    let b = g.I.Items.bounds_of c.args.items.now in
    let tells = g.I.Items.tells c.args.items.now in
    let xs = c.args.some.now in
    let m = c.loop-later.later in
    let p = c.loop-later.place in
    let t = trailing_zeros w32 m in
    let q = p + t in
    let one : bit_at c.args.cells q ≡ 1 = sym (c.loop-later.invariant.marks t) ∙ (first m c.loop-later-test.true c.loop-later.auto.later-fits.fits).0 in
    let none : (k : ℕ) → k < t → bit_at c.args.cells (p + k) ≡ 0 = λ k l. sym (c.loop-later.invariant.marks k) ∙ (first m c.loop-later-test.true c.loop-later.auto.later-fits.fits).1 k l in
    let below = marked-below c.args.cells q c.requires.no_others one in
    let s = own-skip b xs c.args.cells c.requires.cells t p (omega (arith, below)) none in
    let k = goes _ _ _ _ _ _ _ _ c.test_own_cell.ensures c.if-not-test_own_cell.false in
    record {
      left = omega (arith, s, own-more (meeting b) xs q, k.left, c.loop-later.invariant.left);
      spent = enough_both k.spent c.loop-later.invariant.spent (λ f s u i. omega (arith, u, i, own-least f xs t p, own-more f xs q));
      free = owns-more (AreToldApart tells) xs q (owns-skip b xs c.args.cells c.requires.cells n tells (g.met.I.Items.apart c.args.items.now) c.requires.some t p (omega (arith, below)) none c.loop-later.invariant.free) k.free;
      nothing_found = k.nothing_found;
      within = omega (arith, below);
      marks = λ j. let a : p + (suc j + t) ≡ q + 1 + j = omega arith in sym (bit_at-suc (m / 2 ^ t) j) ∙ bit-behind m t (suc j) ∙ c.loop-later.invariant.marks (suc j + t) ∙ ap (bit_at c.args.cells) a;
    }

pub returns : goal.returns
returns g c =
    let n = g.I.Items.count c.args.items.now in
    let b = g.I.Items.bounds_of c.args.items.now in
    let tells = g.I.Items.tells c.args.items.now in
    let xs = c.args.some.now in
    let p = c.loop-later.place in
    let none : (k : ℕ) → k < 28 - p → bit_at c.args.cells (p + k) ≡ 0 = λ k l. sym (c.loop-later.invariant.marks k) ∙ ap (λ v. bit_at v k) c.loop-later-test.false ∙ bit_at-zero k in
    let within : p + (28 - p) ≤ 28 = omega (arith, c.loop-later.invariant.within) in
    let e : p + (28 - p) ≡ 28 = omega (arith, c.loop-later.invariant.within) in
    let s = own-skip b xs c.args.cells c.requires.cells (28 - p) p within none in
    let o = ap (own_sums (meeting b) xs) e in
    let all = own-total (meeting b) (meeting-swap b) xs c.requires.few in
    let Q : ℕ → Type 0 = AllOwns (AreToldApart tells) xs in
    record {
      left = omega (arith, s, o, all, c.loop-later.invariant.left);
      spent = enough_from c.loop-later.invariant.spent (λ f s i. omega (arith, i, own-least f xs (28 - p) p, ap (own_sums f xs) e, own-total f s xs c.requires.few));
      free = all-owns (AreToldApart tells) (free-turned tells) xs c.requires.few (subst Q e (owns-skip b xs c.args.cells c.requires.cells n tells (g.met.I.Items.apart c.args.items.now) c.requires.some (28 - p) p within none c.loop-later.invariant.free));
      nothing_found = c.loop-later.invariant.nothing_found;
    }
