-- Kept on the way: a walk along a chain's points. No public contract cites this file.
use Rattle.std.specs.Prelude.{List, ◌++◌}
use Rattle.tigertopo_faults.specs.declared.records.walk.HeldPoint.{HeldPoint}
use Rattle.tigertopo_faults.specs.declared.records.walk.HeldSegment.{HeldSegment}
use Rattle.tigertopo_faults.specs.declared.records.walk.Walk.{Walk}
use Rattle.tigertopo_faults.specs.Records.Ends.{segments_from}

-- the segments that are found in the end, where these points are still to come
abbrev pub going : Walk → List HeldPoint → List HeldSegment
going walk rest = walk.segments.items ++ segments_from walk.before rest
