use Rattle.std.proofs.Common.{arith}
use Rattle.std.proofs.lemmas.Str.Pattern.{strip_prefix_char}
use Rattle.tigertopo_words.proofs.DegreesLemmas.{minus_front, no_minus_front, with_minus, without_minus}
use Rattle.tigertopo_words.proofs.degrees.degrees_of.Goals as goal

pub returns-in-Some : goal.returns-in-Some
returns-in-Some c =
    let front = minus_front c.args.text.now c.strip_prefix.result c.in-Some.rest (strip_prefix_char 45 c.args.text.now c.strip_prefix.result c.strip_prefix.ensures.cases (omega arith)) c.in-Some.is in
    with_minus c.args.text.now c.in-Some.rest.now c.args.limit c.below_zero.result c.requires front c.below_zero.ensures

pub returns-in-None : goal.returns-in-None
returns-in-None c =
    let other = no_minus_front c.args.text.now c.strip_prefix.result (strip_prefix_char 45 c.args.text.now c.strip_prefix.result c.strip_prefix.ensures.cases (omega arith)) c.in-None.is in
    without_minus c.args.text.now c.args.limit c.from_zero.result c.requires other c.from_zero.ensures
