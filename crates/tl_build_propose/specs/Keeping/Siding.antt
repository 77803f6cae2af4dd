-- What lies on the left of rings.
use Rattle.std.specs.Prelude.{◌≡◌, ℕ, ◌<◌, List, length, slice_index}
use Rattle.tl_map_county.specs.TheMap.{TheMap, MapChain}
use Rattle.tl_map_county.specs.Darts.{dart_left}
use Rattle.tl_check_sides.specs.Sides.{SidesAgree}
use Rattle.tl_check_verdict.specs.declared.fault.MapFault.{MapFault}
use Rattle.tl_check_verdict.specs.Truth.{IsTrueOfMap}

-- the ring has one side on the left of all its darts
abbrev pub HasOneLeft : List MapChain → List ℕ → Type 0
HasOneLeft chains ring = (k : ℕ) → k < length ring → dart_left chains (slice_index ring k) ≡ dart_left chains (slice_index ring 0)

-- the fault is true of the map, and sides don't agree
abbrev pub IsOfDifferingSides : TheMap → MapFault → Type 0
IsOfDifferingSides m fault = IsTrueOfMap m fault × (¬ SidesAgree m.chains)
