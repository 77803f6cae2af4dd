use Rattle.std.proofs.Common.{◌∙◌, sym}
use Rattle.tl_map.proofs.JoinedLemmas.JoinLemmas.{ends_differ, sides_differ, unless_apart}
use Rattle.tl_map.proofs.joined.join.is_told_twice.Goals as goal

pub returns-then-not-are_two : goal.returns-then-not-are_two
returns-then-not-are_two c = ends_differ c.args.records.now c.args.tlid (sym c.are_two.ensures ∙ c.if-not-are_two.true)

pub returns-then-not-are_two-2 : goal.returns-then-not-are_two-2
returns-then-not-are_two-2 c = sides_differ c.args.records.now c.args.tlid (sym c.are_two-2.ensures ∙ c.if-not-are_two-2.true)

pub returns : goal.returns
returns c = unless_apart c.args.records.now c.args.tlid c.contains.result (sym c.are_two.ensures ∙ c.if-not-are_two.false)
    (sym c.are_two-2.ensures ∙ c.if-not-are_two-2.false) (c.contains.ensures ∙ c.requires.apart c.args.tlid)
