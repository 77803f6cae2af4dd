-- How much a county may have of each thing.
use Rattle.std.specs.Prelude.{ℕ}

-- how many chains, segments of all chains, polygons and landmarks a county may have: this project's own limits
abbrev pub most_chains : ℕ
most_chains = 1048576

abbrev pub most_segments : ℕ
most_segments = 16777216

abbrev pub most_polygons : ℕ
most_polygons = 1048576

abbrev pub most_landmarks : ℕ
most_landmarks = 1048576
