-- Some of a map's chains, with their sides by other names.
use Rattle.std.specs.Prelude.{◌≡◌, ◌⊎◌, Bool, true, false, List, [], ◌∷◌}
use Rattle.tl_map_county.specs.declared.sides.Side.{Side}
use Rattle.tl_map_county.specs.TheMap.{MapChain}

-- the chain with its sides by other names; its zero-cell ids are left open
pub record IsNamed (names : Side → Side) (chain named : MapChain) : Type 0 where
  pub tlid : named.tlid ≡ chain.tlid
  pub points : named.points ≡ chain.points
  pub left : named.left ≡ names chain.left
  pub right : named.right ≡ names chain.right

-- the others are those of the chains that are told, in their order, each with its sides by these names
abbrev pub AreTold : (names : Side → Side) (told : MapChain → Bool) (chains others : List MapChain) → Type 0
AreTold names told [] others = others ≡ []
AreTold names told (c ∷ chains) [] = (told c ≡ false) × AreTold names told chains []
AreTold names told (c ∷ chains) (o ∷ others) =
    ((told c ≡ true) × (IsNamed names c o × AreTold names told chains others)) ⊎ ((told c ≡ false) × AreTold names told chains (o ∷ others))
