-- The line of a place in a map.
use Rattle.std.specs.Prelude.{ℕ, List, [], ◌∷◌, ◌++◌, codes, decimal, slice_get}
use Rattle.std.specs.Option.{option_map_or}
use Rattle.tl_map_county.specs.TheMap.{TheMap, MapChain, MapLandmark}
use Rattle.tigertopo_program.specs.Print.Printing.{listed_text}

-- the line of a point on the chain with this number
abbrev pub on_text : List MapChain → ℕ → List ℕ
on_text chains number = option_map_or (λ (chain : MapChain). codes "on tlid " ++ decimal chain.tlid ++ codes "\n") (slice_get chains number) []

-- a blank and the LAND of the landmark with this number
abbrev pub land_text : List MapLandmark → ℕ → List ℕ
land_text landmarks number = option_map_or (λ (landmark : MapLandmark). codes " " ++ decimal landmark.land) (slice_get landmarks number) []

-- the landmarks one after the other
abbrev pub lands_text : List MapLandmark → List ℕ → List ℕ
lands_text landmarks [] = []
lands_text landmarks (number ∷ rest) = land_text landmarks number ++ lands_text landmarks rest

-- the landmarks, or a word that says that there are none
abbrev pub listed_lands : List MapLandmark → List ℕ → List ℕ
listed_lands landmarks [] = codes " none"
listed_lands landmarks (number ∷ rest) = lands_text landmarks (number ∷ rest)

-- the line of a point on no chain, in the polygons and the landmarks with these numbers
unfoldable pub inside_text : TheMap → List ℕ → List ℕ → List ℕ
inside_text m polygons landmarks =
    codes "in polygons" ++ listed_text m.polygons polygons ++ codes " landmarks" ++ listed_lands m.landmarks landmarks ++ codes "\n"
