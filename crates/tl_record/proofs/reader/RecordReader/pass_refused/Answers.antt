use Rattle.std.proofs.Common.{refl, rules}
use Rattle.tl_record.proofs.FrontLemmas.{passes_skipped}
use Rattle.tl_record.proofs.reader.RecordReader.pass_refused.Goals as goal

pub returns-in-Ok-clause-passes : goal.returns-in-Ok-clause-passes
returns-in-Ok-clause-passes g c = (
  search rules,
  record {
    standing = refl;
    lines = refl;
    skipped = refl;
    ahead = passes_skipped _ _ _ (rw c.in-Ok.is at c.skip_line.ensures.skips);
    left = search rules;
    refusals = search rules;
  },
)
