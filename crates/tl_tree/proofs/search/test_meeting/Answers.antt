use Rattle.std.proofs.Common.{◌≡◌, arith}
use Rattle.tl_tree_index.specs.Pairs.{meeting}
use Rattle.tl_tree.proofs.PairTests.{meeting-equal, meeting-1, free-equal, free-told}
use Rattle.tl_tree.proofs.Apart.{turned}
use Rattle.tl_tree.proofs.Choosing.{enough_pair}
use Rattle.tl_tree.proofs.Leaving.{enough_all, enough_from}
use Rattle.tl_tree.proofs.search.test_meeting.Goals as goal

pub returns-then-low-high : goal.returns-then-low-high
returns-then-low-high g c =
    let b = g.I.Items.bounds_of c.args.items.now in
    let tells = g.I.Items.tells c.args.items.now in
    let e : c.args.i ≡ c.args.j = omega (arith, c.if-low-high.true, c.min-low.ensures, c.max-high.ensures) in
    record { left = omega (arith, meeting-equal b c.args.i c.args.j e); spent = enough_all (λ f. omega arith); free = free-equal tells c.args.i c.args.j e; nothing_found = c.requires.nothing_found }

pub returns-then-progress-eq0 : goal.returns-then-progress-eq0
returns-then-progress-eq0 g c =
    let b = g.I.Items.bounds_of c.args.items.now in
    let m : meeting b c.args.i c.args.j ≡ 1 = meeting-1 b c.args.i c.args.j (λ e. c.if-low-high.false (omega (arith, e))) (turned (b c.args.j) (b c.args.i) c.requires.meeting) in
    rw c.requires.nothing_found (record { x = c.args.i; y = c.args.j; further = m; spent = enough_all (λ f. omega (arith, c.if-progress-eq0.true)) })

pub returns-in-None : goal.returns-in-None
returns-in-None g c =
    let b = g.I.Items.bounds_of c.args.items.now in
    let tells = g.I.Items.tells c.args.items.now in
    let m : meeting b c.args.i c.args.j ≡ 1 = meeting-1 b c.args.i c.args.j (λ e. c.if-low-high.false (omega (arith, e))) (turned (b c.args.j) (b c.args.i) c.requires.meeting) in
    let ne : c.args.i ≡ c.args.j → ⊥ = λ e. c.if-low-high.false (omega (arith, e)) in
    let e = enough_pair c.args.i c.args.j c.requires.first c.requires.second ne (turned (b c.args.j) (b c.args.i) c.requires.meeting) (rw (← c.min-low.ensures, ← c.max-high.ensures) c.in-None.ensures) in
    record { left = omega (arith, m); spent = enough_from e (λ f s p. omega (arith, p)); free = free-told tells c.args.i c.args.j (rw (← c.min-low.ensures, ← c.max-high.ensures) c.in-None.ensures); nothing_found = c.requires.nothing_found }
