use Rattle.std.proofs.Common.{◌≡◌, ◌++◌, drop}
use Rattle.tl_map.specs.Joined.Told.{joined_rest, joined_records}
use Rattle.tl_map.proofs.joined.join.join_records.Given as goal

abbrev pub invariant-loop-at : goal.invariant-loop-at
invariant-loop-at l = l.joined.items ++ joined_rest l.records (drop l.at l.records) ≡ joined_records l.records
