-- What is named on both sides of a gap of a list is what is counted there.
use Rattle.std.proofs.Common.{◌≡◌, ⊎_elim, ◌⊎◌, ℕ, ℤ, Option, Some, List, [], ◌∷◌, ◌++◌, take, drop, append_assoc, refl, sym, ap, ◌∙◌}
use Rattle.std.specs.Prelude.{slice_get}
use Rattle.std.proofs.lemmas.List.{take-append-drop}
use Rattle.tl_geom.specs.declared.point.Point.{Point}
use Rattle.tl_geom.specs.declared.segment.Segment.{Segment}
use Rattle.tl_map_county.specs.declared.sides.Side.{Side}
use Rattle.tl_map_county.specs.declared.sides.Side.TheVariants.{Outside}
use Rattle.tl_map_county.specs.TheMap.{MapChain}
use Rattle.tl_check_inside.specs.declared.flanks.Flanks.{Flanks}
use Rattle.tl_check_inside.specs.Inside.{flanks_at}
use Rattle.tl_check_active.specs.Blocks.Lined.{last_of}
use Rattle.tl_check_active.proofs.Lining.{last_more}
use Rattle.tl_check_planar.specs.ByHeight.Heights.{widest}
use Rattle.tl_check_planar.specs.ByHeight.Neighbours.{IsNumbered}
use Rattle.tl_check_faces.specs.declared.odd.OddGap.{OddGap}
use Rattle.tl_check_faces.specs.Odd.{NamesWest, NamesEast, IsNamedWest, IsNamedEast, first_number, last_number}
use Rattle.tl_check_gaps.specs.declared.watch.Watch.{Watch}
use Rattle.tl_check_gaps.specs.Beside.{seen_side}
use Rattle.tl_check_gaps.specs.Telling.{IsToldAlong}
use Rattle.tl_check_gaps.specs.Keeping.Facing.{raised, last_far, gaps_of, IsCounted}
use Rattle.tl_check_gaps.specs.Keeping.Passing.{HasLooked}
use Rattle.tl_check_gaps.specs.Keeping.Watched.{IsOpen}
use Rattle.tl_check_gaps.proofs.Counts.{none_between}
use Rattle.tl_check_gaps.proofs.Raised.{sides_are}

-- ---- lists

pub last_is : (xs : List ℕ) → last_of xs ≡ last_number xs
last_is [] = refl
last_is (x ∷ []) = refl
last_is (x ∷ (y ∷ xs)) = last_more x y xs ∙ last_is (y ∷ xs)

pub first_is : (xs : List ℕ) → slice_get xs 0 ≡ first_number xs
first_is [] = refl
first_is (x ∷ xs) = refl

pub parted : (west ins east : List ℕ) (k : ℕ) → (west ++ take k ins) ++ (drop k ins ++ east) ≡ (west ++ ins) ++ east
parted west ins east k =
    append_assoc west (take k ins) (drop k ins ++ east)
    ∙ ap (λ l. west ++ l) (sym (append_assoc (take k ins) (drop k ins) east) ∙ ap (λ l. l ++ east) (take-append-drop k ins))
    ∙ sym (append_assoc west ins east)

-- ---- what is named there

module _ (chains : List MapChain) where
  far_named : (west : Side) (s : ℕ) (rest : List ℕ) (side : Side) → IsNamedWest widest chains (last_number (s ∷ rest)) side →
      side ≡ last_far (raised chains) west (s ∷ rest)
  far_named west s [] side named = named.names ∙ sym (ap (λ (f : Flanks). f.far) (sides_are chains s named.segment named.is))
  far_named west s (t ∷ rest) side named = far_named (flanks_at (raised chains) s).far t rest side named

  named_far : (front : List ℕ) (side : Side) → IsNamedWest widest chains (last_number front) side → side ≡ last_far (raised chains) Outside front
  named_far [] side named = named
  named_far (s ∷ rest) side named = far_named Outside s rest side named

  named_near : (back : List ℕ) (side : Side) → IsNamedEast widest chains (first_number back) side → side ≡ seen_side (raised chains) back
  named_near [] side named = named
  named_near (s ∷ rest) side named = named.names ∙ sym (ap (λ (f : Flanks). f.near) (sides_are chains s named.segment named.is))

  -- what a segment names by its height, as it is counted
  pub west_named : (s : ℕ) (u : Segment) → IsNumbered chains s u → (flanks : Flanks) → flanks ≡ flanks_at (raised chains) s →
      NamesWest widest chains s flanks.near
  west_named s u is flanks e = record { segment = u; is = is; names = ap (λ (f : Flanks). f.near) (e ∙ sides_are chains s u is) }

  pub east_named : (s : ℕ) (u : Segment) → IsNumbered chains s u → (flanks : Flanks) → flanks ≡ flanks_at (raised chains) s →
      NamesEast widest chains s flanks.far
  east_named s u is flanks e = record { segment = u; is = is; names = ap (λ (f : Flanks). f.far) (e ∙ sides_are chains s u is) }

  pub both_named : (s : ℕ) (flanks : Flanks) → NamesWest widest chains s flanks.near → NamesEast widest chains s flanks.far →
      flanks ≡ flanks_at (raised chains) s
  both_named s flanks west east =
      let near : flanks.near ≡ (flanks_at (raised chains) s).near = west.names ∙ sym (ap (λ (f : Flanks). f.near) (sides_are chains s west.segment west.is)) in
      let far : flanks.far ≡ (flanks_at (raised chains) s).far = east.names ∙ sym (ap (λ (f : Flanks). f.far) (sides_are chains s east.segment east.is)) in
      λ i. record { near = near i; far = far i }

  -- where sides differ nowhere along a list, nothing is to be told of it
  none_along : (n : ℤ) (list : List ℕ) (gaps : List OddGap) → gaps_of (raised chains) list ≡ 0 → IsToldAlong chains n list gaps
  none_along n list gaps none front back is odd =
      absurd (odd.differ (named_far front odd.side odd.named_west
      ∙ none_between (raised chains) front back (ap (gaps_of (raised chains)) (sym is) ∙ none)
      ∙ sym (named_near back odd.opposite odd.named_east)))

  -- nothing more is told of a list along which sides differ nowhere, or when no more gaps are told
  pub nothing_more : (p : Point) (list next : List ℕ) (gaps : Option ℕ) (watch : Watch) → IsCounted chains gaps next →
      (gaps ≡ Some 0) ⊎ ¬ IsOpen watch → HasLooked chains p list next gaps watch watch
  nothing_more p list next gaps watch counted why = record {
    asked = refl;
    told = λ still before.
        ⊎_elim (λ zero. none_along _ next watch.told.items (sym (counted 0 zero))) (λ closed. absurd (closed still)) why;
    kept = λ n w e listed. listed;
    true_ones = λ of all. all;
    here = λ all. all;
    quiet = λ e. refl;
    closed = λ never. refl;
  }
