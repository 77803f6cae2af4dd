use Rattle.std.proofs.Common.{◌≤◌, [], length, map, ap, ◌∙◌, arith}
use Rattle.tigertopo_files.specs.Counting.{lines_with}
use Rattle.tigertopo_files.proofs.CountsLemmas.{counts_rest, counts_within, all_counted}
use Rattle.tigertopo_files.proofs.joined.JoinedSources.into_line_counts.Goals as goal

pub index_mut-requires : goal.index_mut-requires
index_mut-requires g c =
    let within = counts_within g.R.Source.remaining g.T.Texts.texts c.loop-at.at c.loop-at.readers.items c.loop-at.counts.items c.loop-at.invariant.0 in
    omega (arith, within, c.loop-at-test.true, c.len-at-end.ensures, c.loop-at.invariant.1, c.loop-at.readers.ok.0, c.loop-at.counts.ok.0)

pub loop-at-preserved : goal.loop-at-preserved
loop-at-preserved g c = (
  counts_rest g.R.Source.remaining g.T.Texts.texts c.loop-at.at c.loop-at.readers.items c.loop-at.counts.items _ c.count_rest.new.source _ _ c.in_ok-counts.field-0 c.index_mut.ensures.value c.index.ensures c.loop-at.invariant.0 c.in_ok-counts.ensures.counted,
  c.loop-at.invariant.1,
)

pub returns-clause-counts : goal.returns-clause-counts
returns-clause-counts g c = λ texts known.
    let past : length c.loop-at.counts.items ≤ c.loop-at.at = omega (arith, c.loop-at-test.false, c.len-at-end.ensures, c.loop-at.invariant.1, c.loop-at.counts.ok.0) in
    let all = all_counted g.R.Source.remaining g.T.Texts.texts c.loop-at.at c.loop-at.readers.items c.loop-at.counts.items c.loop-at.invariant.0 past texts known in
    c.in_ok-lines_of_each.ensures ∙ ap (map (λ count. lines_with count [])) c.deref.ensures.value ∙ all
