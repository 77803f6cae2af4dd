-- The chains of a map that remain where some are taken out.
use Rattle.std.specs.Prelude.{Bool, List, [], ◌∷◌, if◌then◌else◌}
use Rattle.tl_map_county.specs.TheMap.{MapChain, TheMap}

-- the chains that aren't marked, in their order; one that has no mark isn't
abbrev pub remaining : List Bool → List MapChain → List MapChain
remaining marks [] = []
remaining [] (c ∷ chains) = c ∷ remaining [] chains
remaining (mark ∷ marks) (c ∷ chains) = if mark then remaining marks chains else c ∷ remaining marks chains

-- the map without the chains that are marked, and without landmarks
abbrev pub map_without : List Bool → TheMap → TheMap
map_without marks m = record { chains = remaining marks m.chains; polygons = m.polygons; landmarks = []; skipped = m.skipped }
