use Rattle.std.proofs.Common.{◌<◌, length, sym, ◌∙◌, arith}
use Rattle.std.proofs.lemmas.Option.{slice_get_within}
use Rattle.tl_check_inside.proofs.Misplacing.{outside, in_other, placed}
use Rattle.tl_check_inside.proofs.misplaced.misplaced_at_counts.Goals as goal

pub returns-then-near-own : goal.returns-then-near-own
returns-then-near-own c =
    outside c.args.map.now c.args.p c.args.polygon c.args.crossed.now c.args.near.now c.args.far.now c.requires.is c.requires.nears c.requires.fars c.requires.tell c.requires.tallies c.if-near-own.true

pub returns-in-Some : goal.returns-in-Some
returns-in-Some c =
    in_other c.args.map.now c.args.p c.args.polygon c.args.crossed.now c.args.near.now c.args.far.now c.requires.is c.requires.nears c.requires.fars c.requires.tell c.requires.tallies c.in-Some.q c.polygon.result c.polygon.ensures c.in-Some.ensures

pub returns-in-None : goal.returns-in-None
returns-in-None c =
    placed c.args.map.now c.args.p c.args.polygon c.args.crossed.now c.args.near.now c.args.far.now c.requires.is c.requires.nears c.requires.fars c.requires.tell c.requires.tallies c.requires.off c.if-near-own.false c.in-None.ensures

pub find_odd-requires-clause-alike : goal.find_odd-requires-clause-alike
find_odd-requires-clause-alike c = c.requires.fars ∙ sym c.requires.nears

pub find_odd-requires-clause-tallies : goal.find_odd-requires-clause-tallies
find_odd-requires-clause-tallies c = c.requires.tallies

pub polygon-requires : goal.polygon-requires
polygon-requires c = let odd = c.in-Some.ensures in let within = odd.within in omega (arith, within, c.requires.nears)

pub bounds-near-own : goal.bounds-near-own
bounds-near-own c = let within : c.args.p < length c.args.map.now.polygons = slice_get_within c.args.map.now.polygons c.args.p c.args.polygon c.requires.is in omega (arith, within, c.requires.nears)
