use Rattle.std.proofs.Common.{◌≡◌}
use Rattle.std.specs.Option.{IfSome}
use Rattle.tl_cert.specs.Reading.{source_of, standing_of, unread}
use Rattle.tl_cert.specs.Keeping.Collecting.{left_of}
use Rattle.tl_check_verdict.specs.Valid.{AllowsSearch}
use Rattle.tl_check_verdict.specs.Texts.{TextAllowsSearch}
use Rattle.tl_check.specs.Keeping.Parts.{IsSearched, IsBehindSearch}
use Rattle.tl_check.specs.Keeping.Streams.{Stands}
use Rattle.tl_check.proofs.Meeting.{PlanarBy}
use Rattle.tl_check.proofs.as_read.check_parts.Given as goal

-- the state holds of the parts so far, a search was made if it may be, and no read has failed
abbrev pub invariant-parts : goal.invariant-parts
invariant-parts g l = record {
  stands : Stands g.R.Source.remaining l.map l.fn.reader l.reader l.state;
  searched : IsSearched l.map l.budget l.state;
  behind : IsBehindSearch l.map l.state;
  allowed : AllowsSearch l.map stands.cert → IfSome (unread g.R.Source.remaining l.fn.reader) (TextAllowsSearch l.map);
  planar : PlanarBy l.map (unread g.R.Source.remaining l.fn.reader);
  failures : g.R.Source.failure_count (source_of l.reader) ≡ g.R.Source.failure_count (source_of l.fn.reader);
  same : g.R.Source.reference (source_of l.reader) ≡ g.R.Source.reference (source_of l.fn.reader);
}

-- fewer parts are left
abbrev pub decreases-parts : goal.decreases-parts
decreases-parts g l = left_of (standing_of l.reader)
