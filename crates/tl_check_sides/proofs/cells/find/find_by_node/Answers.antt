use Rattle.std.proofs.Common.{◌*◌, length, refl, sym}
use Rattle.std.proofs.lemmas.Bool.{false≢true}
use Rattle.std.proofs.lemmas.Option.{IfSome_then}
use Rattle.tl_check_sides.specs.Cells.Keeping.Kept.{KeepFirst}
use Rattle.tl_check_sides.proofs.CellsLemmas.Cells.{all_agree, repeat_at_odds}
use Rattle.tl_check_sides.proofs.cells.find.find_by_node.Goals as goal

pub returns-clause-agree : goal.returns-clause-agree
returns-clause-agree c = λ none.
    let chains = c.args.map.now.chains in
    let keep : KeepFirst chains (2 * length chains) c.keep_first.new.kept = c.in_default.ensures.kept refl in
    all_agree chains c.keep_first.new.kept c.sort_by_id.new.kept keep c.sort_by_id.ensures.moved (c.find_repeat.ensures.none none)

pub returns-clause-at_odds : goal.returns-clause-at_odds
returns-clause-at_odds c =
    let chains = c.args.map.now.chains in
    let keep : KeepFirst chains (2 * length chains) c.keep_first.new.kept = c.in_default.ensures.kept refl in
    IfSome_then c.find_repeat.result c.find_repeat.ensures.some (λ found repeat. repeat_at_odds chains c.keep_first.new.kept c.sort_by_id.new.kept (2 * length chains) found keep c.sort_by_id.ensures.moved repeat)

pub returns-in-Some-clause-agree : goal.returns-in-Some-clause-agree
returns-in-Some-clause-agree c = λ none. absurd (false≢true (sym none))

pub returns-in-Some-clause-at_odds : goal.returns-in-Some-clause-at_odds
returns-in-Some-clause-at_odds c = c.in-Some.ensures.at_odds

pub keep_first-requires : goal.keep_first-requires
keep_first-requires c = c.requires

pub find_repeat-requires : goal.find_repeat-requires
find_repeat-requires c = c.sort_by_id.ensures.ordered
