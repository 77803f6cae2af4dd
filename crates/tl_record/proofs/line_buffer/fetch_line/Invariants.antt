use Rattle.std.proofs.Common.{◌≡◌, ◌≤◌, ◌-◌, length, take}
use Rattle.std.specs.Io.KnownBytes.{Keeps, prepend_known}
use Rattle.tl_record.specs.Lines.{line_feeds}
use Rattle.tl_record.proofs.line_buffer.fetch_line.Given as goal

abbrev pub invariant-fetches : goal.invariant-fetches
invariant-fetches g l = record {
  searched : l.searched ≤ length l.buffer;
  none : line_feeds (take l.searched l.buffer) ≡ 0;
  bytes : Keeps (prepend_known l.fn.buffer (g.R.Source.remaining l.fn.source)) (prepend_known l.buffer (g.R.Source.remaining l.source));
  failures : g.R.Source.failure_count l.source ≡ g.R.Source.failure_count l.fn.source;
  same : g.R.Source.reference l.source ≡ g.R.Source.reference l.fn.source;
}

abbrev pub decreases-fetches : goal.decreases-fetches
decreases-fetches g l = g.row.N - length l.buffer
