use Rattle.std.proofs.Common.{ℕ, List, get_or, take, sym, subst, arith}
use Rattle.std.proofs.lemmas.List.{at_drop_more, at_drop_all}
use Rattle.tl_tree_index.specs.Pairs.{meeting, row_sum, AllRow, AreToldApart}
use Rattle.tl_tree.proofs.Leaving.{enough_all, leaves_same}
use Rattle.tl_tree.proofs.Steps.{below-at}
use Rattle.tl_tree.proofs.search.test_cell.Goals as goal

pub returns-then-others-at : goal.returns-then-others-at
returns-then-others-at g c =
    let i = c.args.i in
    let ys = c.args.others.now in
    let meet = meeting (g.I.Items.bounds_of c.args.items.now) in
    let P : List ℕ → Type 0 = λ zs. AllRow (AreToldApart (g.I.Items.tells c.args.items.now)) i (take 1 zs) in
    let none = at_drop_all (λ (zs : List ℕ). zs) ys c.args.at c.if-others-at.true in
    record {
      left = omega (arith, at_drop_all (λ zs. row_sum meet i (take 1 zs)) ys c.args.at c.if-others-at.true);
      spent = enough_all (λ f. omega arith);
      free = subst P (sym none) tt;
      nothing_found = c.requires.nothing_found;
    }

pub test_meeting-requires-clause-second : goal.test_meeting-requires-clause-second
test_meeting-requires-clause-second g c = below-at _ _ c.args.at (omega (arith, c.if-others-at.false)) c.requires.others

pub test_meeting-requires-clause-meeting : goal.test_meeting-requires-clause-meeting
test_meeting-requires-clause-meeting g c = c.requires.meeting (omega (arith, c.if-others-at.false))

pub returns : goal.returns
returns g c =
    let i = c.args.i in
    let ys = c.args.others.now in
    let at = c.args.at in
    let meet = meeting (g.I.Items.bounds_of c.args.items.now) in
    let tells = g.I.Items.tells c.args.items.now in
    let P : List ℕ → Type 0 = λ zs. AllRow (AreToldApart tells) i (take 1 zs) in
    let one = at_drop_more (λ (zs : List ℕ). zs) ys at 0 (omega (arith, c.if-others-at.false)) in
    leaves_same (g.I.Items.count c.args.items.now) (g.I.Items.bounds_of c.args.items.now) tells (λ f. f i (get_or ys at 0)) (AreToldApart tells i (get_or ys at 0)) _ _ _ _ c.test_meeting.result
    (λ f s. let sum = at_drop_more (λ (zs : List ℕ). row_sum f i (take 1 zs)) ys at 0 (omega (arith, c.if-others-at.false)) in omega (arith, sum))
    (λ f. subst P (sym one) (f, tt))
    c.test_meeting.ensures
