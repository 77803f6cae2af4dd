use Rattle.std.proofs.Common.{◌≡◌, ◌^◌}
use Rattle.tigertopo_faults.proofs.places.degrees.power.Given as goal

abbrev pub invariant-loop : goal.invariant-loop
invariant-loop l = l.power ≡ 10 ^ l.counter
