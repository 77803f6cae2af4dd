-- The landmarks of a place, one by one.
use Rattle.std.proofs.Common.{◌≡◌, ℕ, ◌+◌, ◌<◌, List, [], ◌∷◌, ◌++◌, length, take, get_or, refl, sym, ap, ◌∙◌, append_assoc, append-nil, add-one}
use Rattle.std.proofs.Math.Seq.{take-suc}
use Rattle.std.specs.Prelude.{codes, decimal, slice_get}
use Rattle.tl_geom.specs.declared.point.Point.{Point}
use Rattle.tl_map_county.specs.declared.sides.Side.{Side}
use Rattle.tl_map_county.specs.TheMap.{MapChain, MapLandmark, IsChain}
use Rattle.tigertopo_program.specs.Print.Places.{on_text, land_text, lands_text}

module _ (landmarks : List MapLandmark) where
  lands_text-append : (xs ys : List ℕ) → lands_text landmarks (xs ++ ys) ≡ lands_text landmarks xs ++ lands_text landmarks ys
  lands_text-append [] ys = refl
  lands_text-append (x ∷ xs) ys =
      ap (λ l. land_text landmarks x ++ l) (lands_text-append xs ys)
      ∙ sym (append_assoc (land_text landmarks x) (lands_text landmarks xs) (lands_text landmarks ys))

  -- one landmark more
  pub lands_text-next : (numbers : List ℕ) (i : ℕ) → i < length numbers
      → lands_text landmarks (take (i + 1) numbers) ≡ lands_text landmarks (take i numbers) ++ land_text landmarks (get_or numbers i 0)
  lands_text-next numbers i within = rw (add-one, take-suc numbers i 0, lands_text-append, append-nil) refl

-- the line of a chain that is there
pub on_text-of : (chains : List MapChain) (number tlid : ℕ) (points : List Point) (left right : Side) → IsChain (slice_get chains number) tlid points left right
    → codes "on tlid " ++ decimal tlid ++ codes "\n" ≡ on_text chains number
on_text-of chains number tlid points left right is = rw (is.is, is.tlid_is) refl
