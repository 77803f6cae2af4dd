use Rattle.std.proofs.Common.{◌≡◌, Some, sym, ap, subst, ◌∙◌, arith}
use Rattle.std.proofs.lemmas.Bool.{false≢true}
use Rattle.tl_check_sides.specs.Cells.Keeping.Kept.{KeepFirst}
use Rattle.tl_check_sides.proofs.CellsLemmas.Cells.{IsHere, first_at, keep_on, keep_more, odd_here}
use Rattle.tl_check_sides.proofs.cells.find.keep_first.Goals as goal

pub loop-dart-preserved-in_default : goal.loop-dart-preserved-in_default
loop-dart-preserved-in_default c =
    let none = c.dart_cell.ensures ∙ ap Some c.in_default.is in
    keep_on c.args.map.now.chains c.loop-dart.dart c.loop-dart.kept none c.loop-dart.invariant

pub returns-then-first-id-clause-at_odds : goal.returns-then-first-id-clause-at_odds
returns-then-first-id-clause-at_odds c =
    let chains = c.args.map.now.chains in
    let before = c.loop-dart.invariant in
    let node = c.dart_node-node in
    let here : IsHere chains before.nodes c.loop-dart.dart c.in-Some.id node.result = record {
      has = c.dart_cell.ensures ∙ ap Some c.in-Some.is;
      starts = node.ensures.start before.nodes before.are;
      within = node.ensures.within before.nodes before.are;
    } in
    let e : c.unwrap_or-first.result ≡ first_at c.loop-dart.kept node.result c.in-Some.id c.loop-dart.dart = c.unwrap_or-first.ensures in
    rw e (odd_here chains c.loop-dart.dart c.in-Some.id node.result c.loop-dart.kept before here (rw e at c.if-first-id.true))

pub loop-dart-preserved : goal.loop-dart-preserved
loop-dart-preserved c =
    let chains = c.args.map.now.chains in
    let before = c.loop-dart.invariant in
    let node = c.dart_node-node in
    let here : IsHere chains before.nodes c.loop-dart.dart c.in-Some.id node.result = record {
      has = c.dart_cell.ensures ∙ ap Some c.in-Some.is;
      starts = node.ensures.start before.nodes before.are;
      within = node.ensures.within before.nodes before.are;
    } in
    let e : c.unwrap_or-first.result ≡ first_at c.loop-dart.kept node.result c.in-Some.id c.loop-dart.dart = c.unwrap_or-first.ensures in
    rw e (keep_more chains c.loop-dart.dart c.in-Some.id node.result c.loop-dart.kept before here (rw e at c.if-first-id.false))

pub returns-then-first-id-clause-kept : goal.returns-then-first-id-clause-kept
returns-then-first-id-clause-kept c = λ none. absurd (false≢true (sym none))

pub returns-clause-at_odds : goal.returns-clause-at_odds
returns-clause-at_odds c = tt

pub returns-clause-kept : goal.returns-clause-kept
returns-clause-kept c = λ none.
    subst (λ d. KeepFirst c.args.map.now.chains d c.loop-dart.kept) (omega (arith, c.loop-dart-test.false, c.loop-dart.auto.dart-end, c.darts-dart-end.ensures)) c.loop-dart.invariant

pub loop-dart-init : goal.loop-dart-init
loop-dart-init c = c.requires
