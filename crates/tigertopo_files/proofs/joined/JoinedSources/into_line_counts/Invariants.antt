use Rattle.std.proofs.Common.{◌≡◌, vec_len}
use Rattle.tigertopo_files.specs.Counting.{AreCounted}
use Rattle.tigertopo_files.proofs.joined.JoinedSources.into_line_counts.Given as goal

abbrev pub invariant-loop-at : goal.invariant-loop-at
invariant-loop-at g l = AreCounted g.R.Source.remaining g.T.Texts.texts l.at l.readers.items l.counts.items × (vec_len l.counts ≡ vec_len l.initial.counts)
