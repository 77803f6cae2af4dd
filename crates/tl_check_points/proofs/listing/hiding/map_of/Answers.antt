use Rattle.std.proofs.Common.{arith}
use Rattle.tl_check_points.proofs.listing.hiding.map_of.Goals as goal

pub new-requires-clause-beside : goal.new-requires-clause-beside
new-requires-clause-beside c = omega (arith, c.no_landmarks.ensures.points, c.no_landmarks.ensures.rows)

pub new-requires-clause-within : goal.new-requires-clause-within
new-requires-clause-within c = λ k d lt. absurd (omega (arith, lt, c.no_landmarks.ensures.rows))

pub new-requires-clause-among : goal.new-requires-clause-among
new-requires-clause-among c = let among = c.requires.parts.among in rw c.requires.polygons among

pub new-chains-requires-clause-few : goal.new-chains-requires-clause-few
new-chains-requires-clause-few c = c.requires.segments
