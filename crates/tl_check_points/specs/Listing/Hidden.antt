-- Maps that are alike but for sides that name polygons of some kind, the hidden ones.
use Rattle.std.specs.Prelude.{⊤, ◌≡◌, ℕ, Bool, true, false, List, [], ◌∷◌, slice_index_or}
use Rattle.tl_map_county.specs.declared.sides.Side.{Side}
use Rattle.tl_map_county.specs.TheMap.{TheMap, MapChain}
use Rattle.tl_check_inside.specs.Inside.{is_polygon}

-- the polygon has a mark
abbrev pub IsMarked : List Bool → ℕ → Type 0
IsMarked marks p = slice_index_or marks p false ≡ true

-- of the polygons that aren't hidden one side names those that the other does
abbrev pub NameAlike : (Hidden : ℕ → Type 0) → (one other : Side) → Type 0
NameAlike Hidden one other = (p : ℕ) → ¬ Hidden p → is_polygon p one ≡ is_polygon p other

-- the chains are alike but for that
pub record AreAlikeChains (Hidden : ℕ → Type 0) (one other : MapChain) : Type 0 where
  pub tlids : one.tlid ≡ other.tlid
  pub points : one.points ≡ other.points
  pub lefts : NameAlike Hidden one.left other.left
  pub rights : NameAlike Hidden one.right other.right

-- so are all chains, each with that at its place
abbrev pub AreAlikeBut : (Hidden : ℕ → Type 0) → (chains others : List MapChain) → Type 0
AreAlikeBut Hidden [] [] = ⊤
AreAlikeBut Hidden [] (d ∷ others) = ⊥
AreAlikeBut Hidden (c ∷ chains) [] = ⊥
AreAlikeBut Hidden (c ∷ chains) (d ∷ others) = AreAlikeChains Hidden c d × AreAlikeBut Hidden chains others

-- the maps have such chains, and the same polygons
pub record AreMapsAlikeBut (Hidden : ℕ → Type 0) (m other : TheMap) : Type 0 where
  pub chains : AreAlikeBut Hidden m.chains other.chains
  pub polygons : other.polygons ≡ m.polygons
