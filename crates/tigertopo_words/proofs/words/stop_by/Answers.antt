use Rattle.std.proofs.Common.{map}
use Rattle.clap.specs.Values.{kind_of}
use Rattle.tigertopo_words.proofs.WordsLemmas.{stops_for}
use Rattle.tigertopo_words.proofs.words.stop_by.Goals as goal

pub returns-in_default-clause-stops : goal.returns-in_default-clause-stops
returns-in_default-clause-stops g c =
    stops_for (map g.S.AsStr.text c.args.words.now) (kind_of c.args.error.now) _ c.in_default.not-Memory c.stop_of.ensures.stop c.requires.passes c.requires.kinds

pub returns-in_default-clause-texts : goal.returns-in_default-clause-texts
returns-in_default-clause-texts g c = c.stop_of.ensures.texts
