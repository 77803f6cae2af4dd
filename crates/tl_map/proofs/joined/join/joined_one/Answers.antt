use Rattle.std.proofs.lemmas.Option.{slice_get_within}
use Rattle.tl_map.proofs.JoinedLemmas.JoinLemmas.{at_none, at_once, at_second, at_first, at_never}
use Rattle.tl_map.proofs.joined.join.joined_one.Goals as goal

pub bounds-records-first : goal.bounds-records-first
bounds-records-first c = let two = c.in-Some-two_at.ensures in slice_get_within c.args.records.now c.in-Some-two_at.first two.told two.here

pub returns-in_default : goal.returns-in_default
returns-in_default c = λ r here. at_none c.args.records.now r _ c.args.at _ c.place_of.result c.place_of.ensures c.in_default.is here

pub returns-then-not-is_told_twice : goal.returns-then-not-is_told_twice
returns-then-not-is_told_twice c = λ r here.
    at_once c.args.records.now r _ c.args.at _ c.in-Some.place c.place_of.result c.is_told_twice.result c.place_of.ensures c.in-Some.is
    c.is_told_twice.ensures c.if-not-is_told_twice.true here

pub returns-then-second-at : goal.returns-then-second-at
returns-then-second-at c = λ r here.
    at_second c.args.records.now r _ _ c.in-Some-two_at.first c.in-Some-two_at.second c.args.at c.in-Some.place c.place_of.result c.is_told_twice.result
    c.one_of_two.result c.place_of.ensures c.in-Some.is c.is_told_twice.ensures c.if-not-is_told_twice.false c.in-Some-two_at.ensures c.if-second-at.true
    c.one_of_two.ensures here

pub returns-else-second-at : goal.returns-else-second-at
returns-else-second-at c = λ r here.
    at_first c.args.records.now r _ c.in-Some-two_at.first c.in-Some-two_at.second c.args.at c.in-Some.place c.place_of.result c.is_told_twice.result
    c.place_of.ensures c.in-Some.is c.is_told_twice.ensures c.if-not-is_told_twice.false c.in-Some-two_at.ensures c.if-second-at.false here

pub returns-in-None : goal.returns-in-None
returns-in-None c = λ r here. absurd (
    at_never c.args.records.now r _ c.args.at c.in-Some.place c.place_of.result c.is_told_twice.result c.place_of.ensures c.in-Some.is
    c.is_told_twice.ensures c.if-not-is_told_twice.false c.in-None.ensures here)
