use Rattle.std.proofs.Common.{◌≡◌, ℕ, suc, ◌+◌, ◌<◌, ◌∷◌, length, get_or, set, sym, ap, ◌∙◌, subst, length-set, get_or-set_same, get_or-set_other, arith}
use Rattle.tl_geom.specs.Rectangle.{nothing}
use Rattle.tl_tree.specs.Keeping.Marking.{roots}
use Rattle.tl_tree_index.proofs.Times.{same_or}
use Rattle.tl_tree.proofs.Roots.{roots-split}
use Rattle.tl_tree.proofs.lanes.fill_roots.Goals as goal

pub loop-k-init : goal.loop-k-init
loop-k-init g c =
    let all = roots (g.W.Trees.forest c.args.trees.now) in
    let none_passed : (m : ℕ) → m ≡ m + 0 = λ m. omega arith in
    record {
      eight = c.requires.eight;
      found = λ m lt. absurd (omega (arith, lt));
      behind = λ m. ap (λ i. get_or all i nothing) (none_passed m);
      count = omega arith;
    }

pub loop-k-preserved : goal.loop-k-preserved
loop-k-preserved g c =
    let see = g.W.Trees.forest in
    let all = roots (see c.args.trees.now) in
    let others = roots (see c.in-Some.rest) in
    let rects = c.loop-k.rects in
    let k = c.loop-k.k in
    let r = c.in-Some.tree.rect in
    let is = c.loop-k.invariant in
    let split : roots (see c.loop-k.left) ≡ r ∷ others = roots-split see (see c.loop-k.left) r c.in-Some.tree.below (see c.in-Some.rest) c.in-Some.ensures in
    let here : 0 + k ≡ k = omega arith in
    let passed : (m : ℕ) → suc m + k ≡ m + (k + 1) = λ m. omega arith in
    let next : r ≡ get_or all k nothing = sym (ap (λ xs. get_or xs 0 nothing) split) ∙ is.behind 0 ∙ ap (λ i. get_or all i nothing) here in
    let within : k < length rects = omega (arith, c.loop-k-test.true, is.eight) in
    let P : ℕ → Type 0 = λ m. get_or (set rects k r) m nothing ≡ get_or all m nothing in
    record {
      eight = length-set rects k r ∙ is.eight;
      found = λ m lt known. same_or m k
          (λ e. subst P (sym e) (get_or-set_same rects k r nothing within ∙ next))
          (λ ne. get_or-set_other rects k m r nothing ne ∙ is.found m (omega (arith, lt, ne)) known);
      behind = λ m. sym (ap (λ xs. get_or xs (suc m) nothing) split) ∙ is.behind (suc m) ∙ ap (λ i. get_or all i nothing) (passed m);
      count = omega (arith, ap length split, is.count);
    }

pub returns-in_default-clause-found : goal.returns-in_default-clause-found
returns-in_default-clause-found g c k lt known =
    c.loop-k.invariant.found k (omega (arith, ap (λ f. length (roots f)) c.in_default.ensures, c.loop-k.invariant.count, known)) known

pub returns-clause-found : goal.returns-clause-found
returns-clause-found g c k lt known = c.loop-k.invariant.found k (omega (arith, lt, c.loop-k-test.false)) known
