use Rattle.tl_record.specs.Layout.{layout_with}
use Rattle.tl_record.proofs.LeavingLemmas.{left_first}
use Rattle.tl_record.proofs.reader.RecordReader.with.Goals as goal

pub returns-clause-left : goal.returns-clause-left
returns-clause-left g c = rw (c.new.ensures, c.layout_with.ensures) (left_first (layout_with c.args.options) (g.R.Source.remaining c.args.source))
