-- The sides that segments name are polygons of the map.
use Rattle.std.proofs.Common.{◌≡◌, ℕ, Bool, true, false, if◌then◌else◌, Some, List, All, sym, subst}
use Rattle.std.specs.Prelude.{slice_get}
use Rattle.std.proofs.lemmas.Option.{slice_get_within, get_or_from_slice_get}
use Rattle.tl_map_county.specs.declared.sides.Side.{Side}
use Rattle.tl_map_county.specs.TheMap.{MapChain}
use Rattle.tl_map_county.specs.Sides.{IsSideAmong, HasSidesAmong}
use Rattle.tl_check_planar.specs.ByHeight.Heights.{widest}
use Rattle.tl_check_faces.specs.Odd.{NamesWest, NamesEast}

chosen : (n : ℕ) (b : Bool) (x y : Side) → IsSideAmong n x → IsSideAmong n y → IsSideAmong n (if b then x else y)
chosen n true x y one other = one
chosen n false x y one other = other

of_chain : (n : ℕ) (chains : List MapChain) (c : ℕ) (chain : MapChain) → All (HasSidesAmong n) chains → slice_get chains c ≡ Some chain → HasSidesAmong n chain
of_chain n chains c chain all is =
    subst (HasSidesAmong n) (get_or_from_slice_get chains c chain chain is) (all c chain (slice_get_within chains c chain is))

pub west_among : (n : ℕ) (chains : List MapChain) (s : ℕ) (side : Side) → All (HasSidesAmong n) chains → NamesWest widest chains s side → IsSideAmong n side
west_among n chains s side all named =
    let of = of_chain n chains named.is.c named.is.joins.chain all named.is.joins.is in
    subst (IsSideAmong n) (sym named.names) (chosen n _ _ _ of.left of.right)

pub east_among : (n : ℕ) (chains : List MapChain) (s : ℕ) (side : Side) → All (HasSidesAmong n) chains → NamesEast widest chains s side → IsSideAmong n side
east_among n chains s side all named =
    let of = of_chain n chains named.is.c named.is.joins.chain all named.is.joins.is in
    subst (IsSideAmong n) (sym named.names) (chosen n _ _ _ of.right of.left)
