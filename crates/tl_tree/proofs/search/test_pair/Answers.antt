use Rattle.std.proofs.Common.{sym, ◌∙◌, arith}
use Rattle.std.proofs.lemmas.Bool.{false≢true}
use Rattle.tl_geom.specs.Rectangle.{AreMeeting}
use Rattle.tl_tree.proofs.Apart.{one-none, one-none_free}
use Rattle.tl_tree.proofs.Leaving.{enough_all}
use Rattle.tl_tree.proofs.search.test_pair.Goals as goal

pub test_meeting-requires-clause-meeting : goal.test_meeting-requires-clause-meeting
test_meeting-requires-clause-meeting g c = rw (← c.bounds.ensures, ← c.bounds-2.ensures) (c.meets.ensures.0 c.if-meets.true)

pub returns-else-meets : goal.returns-else-meets
returns-else-meets g c =
    let n = g.I.Items.count c.args.items.now in
    let b = g.I.Items.bounds_of c.args.items.now in
    let no : AreMeeting (b c.args.j) (b c.args.i) → ⊥ = λ h. false≢true (sym c.if-meets.false ∙ c.meets.ensures.1 (rw (c.bounds.ensures, c.bounds-2.ensures) h)) in
    let e = one-none b c.args.i c.args.j no in
    record { left = omega (arith, e); spent = enough_all (λ f. omega arith); free = one-none_free n (g.I.Items.tells c.args.items.now) b (g.met.I.Items.apart c.args.items.now) c.args.i c.args.j c.requires.first c.requires.second no; nothing_found = c.requires.nothing_found }

pub test_meeting-requires-clause-first : goal.test_meeting-requires-clause-first
test_meeting-requires-clause-first g c = c.requires.first

pub test_meeting-requires-clause-second : goal.test_meeting-requires-clause-second
test_meeting-requires-clause-second g c = c.requires.second

pub test_meeting-requires-clause-nothing_found : goal.test_meeting-requires-clause-nothing_found
test_meeting-requires-clause-nothing_found g c = c.requires.nothing_found

pub returns-then-meets : goal.returns-then-meets
returns-then-meets g c = c.test_meeting.ensures
