use Rattle.std.proofs.Common.{◌≤◌, ◌%◌, ◌⊎◌, length, get_or, sym, inl, inr, arith}
use Rattle.tl_tree_index.specs.Pairs.{meeting, AreToldApart}
use Rattle.tl_tree.specs.Keeping.OwnPairs.{partner, AreThere}
use Rattle.tl_tree.proofs.Leaving.{enough_all, leaves_same}
use Rattle.tl_tree.proofs.OwnPairs.{own-in, own-out, all-own-in, all-own-out}
use Rattle.tl_tree.proofs.Steps.{below-at}
use Rattle.tl_tree.proofs.own_pairs.test_own_cell.Goals.{then-some-first-via-then-some-first, then-some-first-via-else-some-first+then-some-second}
use Rattle.tl_tree.proofs.own_pairs.test_own_cell.Goals as goal

pub test_meeting-requires-clause-first : goal.test_meeting-requires-clause-first
test_meeting-requires-clause-first g c = below-at _ _ (partner c.args.place) (omega (arith, c.if-some-second.false)) c.requires.some

pub test_meeting-requires-clause-second : goal.test_meeting-requires-clause-second
test_meeting-requires-clause-second g c = below-at _ _ (c.args.place % 8) (omega (arith, c.if-some-first.false)) c.requires.some

pub returns-then-some-first : goal.returns-then-some-first
returns-then-some-first g c =
    let xs = c.args.some.now in
    let p = c.args.place in
    let out : (length xs ≤ p % 8) ⊎ (length xs ≤ partner p) = elim c.then-some-first.branch [
      | then-some-first-via-then-some-first w ↦ inl (omega (arith, w.if-some-first.true))
      | then-some-first-via-else-some-first+then-some-second w ↦ inr (omega (arith, w.if-some-second.true))
    ] in
    record {
      left = omega (arith, own-out (meeting (g.I.Items.bounds_of c.args.items.now)) xs p out);
      spent = enough_all (λ f. omega arith);
      free = all-own-out (AreToldApart (g.I.Items.tells c.args.items.now)) xs p out;
      nothing_found = c.requires.nothing_found;
    }

pub test_meeting-requires-clause-meeting : goal.test_meeting-requires-clause-meeting
test_meeting-requires-clause-meeting g c = c.requires.meeting (record { first = omega (arith, c.if-some-first.false); second = omega (arith, c.if-some-second.false) })

pub returns : goal.returns
returns g c =
    let xs = c.args.some.now in
    let p = c.args.place in
    let second = get_or xs (partner p) 0 in
    let first = get_or xs (p % 8) 0 in
    let tells = g.I.Items.tells c.args.items.now in
    let there : AreThere xs p = record { first = omega (arith, c.if-some-first.false); second = omega (arith, c.if-some-second.false) } in
    leaves_same (g.I.Items.count c.args.items.now) (g.I.Items.bounds_of c.args.items.now) tells (λ f. f second first) (AreToldApart tells second first) _ _ _ _ c.test_meeting.result
    (λ f s. sym (own-in f xs p there))
    (all-own-in (AreToldApart tells) xs p there)
    c.test_meeting.ensures
