-- What a gap of a slab's list tells of the segments on both sides of it.
use Rattle.std.proofs.Common.{◌≡◌, ℕ, ◌<◌, ℤ, pos, ◌-ℤ◌, Option, None, Some, List, [], ◌∷◌, ◌++◌, length, refl, sym, ap, subst, ◌∙◌}
use Rattle.std.specs.Prelude.{slice_get}
use mathlib.Core.List.{append_assoc}
use Rattle.tl_geom.specs.declared.point.Point.{Point}
use Rattle.tl_geom.specs.declared.segment.Segment.{Segment}
use Rattle.tl_geom.proofs.Places.{same_sym}
use Rattle.tl_map_county.specs.declared.sides.Side.{Side}
use Rattle.tl_map_county.specs.declared.sides.Side.TheVariants.{Outside}
use Rattle.tl_map_county.specs.TheMap.{TheMap, MapChain, IsChain}
use Rattle.tl_map_county.specs.Segments.{segments_before, IsSegmentOf}
use Rattle.tl_check_planar.specs.Planar.{IsPlanar}
use Rattle.tl_check_planar.specs.Keeping.Apart.{one_found}
use Rattle.tl_check_planar.proofs.Numbering.{one_chain, below_total}
use Rattle.tl_check_planar.specs.ByHeight.Heights.{height, widest}
use Rattle.tl_check_planar.specs.ByHeight.Neighbours.{IsNumbered}
use Rattle.tl_check_planar.specs.ByHeight.Slabs.{IsListOf}
use Rattle.tl_check_faces.specs.Facing.{IsStrictlyOn}
use Rattle.tl_check_faces.specs.Lists.{west_side, east_side, AreAllNear}
use Rattle.tl_check_faces.specs.Odd.{IsOddGap, NamesWest, NamesEast, IsNamedWest, IsNamedEast, first_number, last_number}
use Rattle.tl_check_faces.specs.declared.odd.OddGap.{OddGap}
use Rattle.tl_check_faces.specs.Disagreements.{from_place, facing_west, facing_east}
use Rattle.tl_check_faces.proofs.Midway.{neighbours_midway, first_midway, last_midway}
use Rattle.tl_check_gaps.specs.FaceFaults.Keeping.Told.{IsFaceOf}
use Rattle.tl_check_gaps.proofs.Sides.{one_west, one_east}
use Rattle.tl_check_faces.proofs.Rewritten.{first_rewritten, last_rewritten, outward_rewritten}
use Rattle.tl_check_faces.specs.declared.fault.NamedFace.{NamedFace}
use Rattle.tl_check_faces.specs.declared.fault.Way.TheVariants.{West, East}
use Rattle.tl_check_faces.specs.declared.fault.FaceFault.TheVariants.{Facing, Outward}
use Rattle.tl_check_faces.specs.Faults.{side_key, IsNamed, IsLowestMidway, IsTrueFacing, IsTrueOutward, IsWestFace, IsEastFace, IsOfBothSides}

-- ---- the ends of lists

pub last_split : (xs : List ℕ) (s : ℕ) → last_number xs ≡ Some s → (front : List ℕ) × (xs ≡ front ++ (s ∷ []))
last_split [] s e = absurd (cc)
last_split (x ∷ []) s e = let same : x ≡ s = cc in ([], ap (λ (n : ℕ). n ∷ []) same)
last_split (x ∷ (y ∷ rest)) s e = let r = last_split (y ∷ rest) s e in (x ∷ r.0, ap (λ (l : List ℕ). x ∷ l) r.1)

pub last_none : (xs : List ℕ) → last_number xs ≡ None → xs ≡ []
last_none [] e = refl
last_none (x ∷ []) e = absurd (cc)
last_none (x ∷ (y ∷ rest)) e = let r : y ∷ rest ≡ [] = last_none (y ∷ rest) e in absurd (cc)

pub first_split : (xs : List ℕ) (s : ℕ) → first_number xs ≡ Some s → (back : List ℕ) × (xs ≡ s ∷ back)
first_split [] s e = absurd (cc)
first_split (x ∷ rest) s e = let same : x ≡ s = cc in (rest, ap (λ (n : ℕ). n ∷ rest) same)

pub first_none : (xs : List ℕ) → first_number xs ≡ None → xs ≡ []
first_none [] e = refl
first_none (x ∷ rest) e = absurd (cc)

-- ---- faces as they are read

pub face_read : (m : TheMap) (n : ℤ) (s : ℕ) (u : Segment) → IsNumbered m.chains s u → (d j : ℕ) → IsSegmentOf m.chains s d j → (tlid : ℕ)
    (points : List Point) (left right : Side) → IsChain (slice_get m.chains d) tlid points left right → (face : NamedFace) → IsLowestMidway widest n u face.at →
    face.tlid ≡ tlid → (side : Side) → face.polygon ≡ side_key m.polygons side → IsFaceOf m n s side face
face_read m n s u is d j number tlid points left right read face midway tlid_is side polygon_is = record {
  segment = u;
  is = is;
  midway = midway;
  named = record { tlid = tlid_is ∙ read.tlid_is ∙ ap (λ (c : MapChain). c.tlid) read_is; polygon = polygon_is };
}
  where
    read_is : read.chain ≡ is.joins.chain
    read_is =
        one_found read.chain is.joins.chain (slice_get m.chains d) read.is
        (ap (λ n. slice_get m.chains n) (one_chain m.chains s d j is.c is.k number is.number) ∙ is.joins.is)

-- what it names by its height
module _ (m : TheMap) (n : ℤ) (s : ℕ) (side : Side) (face : NamedFace) (of : IsFaceOf m n s side face) where
  pub west_face : NamesWest widest m.chains s side → IsWestFace widest m n s face
  west_face west = record {
    segment = of.segment;
    is = of.is;
    midway = of.midway;
    named = subst (λ side. IsNamed m of.is.joins.chain side face) (west.names ∙ one_west m.chains s west.segment of.segment west.is of.is) of.named;
  }

  pub east_face : NamesEast widest m.chains s side → IsEastFace widest m n s face
  east_face east = record {
    segment = of.segment;
    is = of.is;
    midway = of.midway;
    named = subst (λ side. IsNamed m of.is.joins.chain side face) (east.names ∙ one_east m.chains s east.segment of.segment east.is of.is) of.named;
  }

-- ---- a fault of a gap

module _ (m : TheMap) (n : ℤ) where
  pub of_two : (west east : Option ℕ) (s t : ℕ) → west ≡ Some s → east ≡ Some t → (first last : NamedFace) → IsEastFace widest m n s first →
      IsWestFace widest m n t last → IsOfBothSides widest m n west east (Facing first last)
  of_two west east s t e f first last one other =
      subst (λ o. IsOfBothSides widest m n o east (Facing first last)) (sym e)
      (subst (λ o. IsOfBothSides widest m n (Some s) o (Facing first last)) (sym f) (one, other))

  pub of_western : (west east : Option ℕ) (s : ℕ) → west ≡ Some s → east ≡ None → (face : NamedFace) → IsEastFace widest m n s face →
      IsOfBothSides widest m n west east (Outward face East)
  of_western west east s e f face one =
      subst (λ o. IsOfBothSides widest m n o east (Outward face East)) (sym e)
      (subst (λ o. IsOfBothSides widest m n (Some s) o (Outward face East)) (sym f) (one, refl))

  pub of_eastern : (west east : Option ℕ) (t : ℕ) → west ≡ None → east ≡ Some t → (face : NamedFace) → IsWestFace widest m n t face →
      IsOfBothSides widest m n west east (Outward face West)
  of_eastern west east t e f face one =
      subst (λ o. IsOfBothSides widest m n o east (Outward face West)) (sym e)
      (subst (λ o. IsOfBothSides widest m n None o (Outward face West)) (sym f) (one, refl))

-- ---- an odd gap

module _ (m : TheMap) (gap : OddGap) (odd : IsOddGap widest m.chains gap) where
  abbrev n : ℤ
  n = height widest gap.at

  pub list_of : (front back : List ℕ) → odd.front ≡ front → odd.back ≡ back → IsListOf widest n m.chains (front ++ back)
  list_of front back e f = subst (λ l. IsListOf widest n m.chains (l ++ back)) e (subst (λ l. IsListOf widest n m.chains (odd.front ++ l)) f odd.listed)

  pub names_east : (s : ℕ) → gap.west ≡ Some s → NamesEast widest m.chains s odd.west
  names_east s e = subst (λ o. IsNamedWest widest m.chains o odd.west) e odd.named_west

  pub names_west : (t : ℕ) → gap.east ≡ Some t → NamesWest widest m.chains t odd.east
  names_west t e = subst (λ o. IsNamedEast widest m.chains o odd.east) e odd.named_east

  pub west_known : (s : ℕ) → gap.west ≡ Some s → s < segments_before m.chains (length m.chains)
  west_known s e = let k = names_east s e in below_total m.chains s k.is.c k.is.k k.is.number

  pub east_known : (t : ℕ) → gap.east ≡ Some t → t < segments_before m.chains (length m.chains)
  east_known t e = let k = names_west t e in below_total m.chains t k.is.c k.is.k k.is.number

  -- what the segments on both sides name
  west_is : (s : ℕ) → gap.west ≡ Some s → (u : Segment) (is : IsNumbered m.chains s u) → odd.west ≡ east_side widest is.joins.chain u
  west_is s e u is = let k = names_east s e in k.names ∙ one_east m.chains s k.segment u k.is is

  east_is : (t : ℕ) → gap.east ≡ Some t → (w : Segment) (is : IsNumbered m.chains t w) → odd.east ≡ west_side widest is.joins.chain w
  east_is t e w is = let k = names_west t e in k.names ∙ one_west m.chains t k.segment w k.is is

  pub west_outside : gap.west ≡ None → odd.west ≡ Outside
  west_outside e = subst (λ o. IsNamedWest widest m.chains o odd.west) e odd.named_west

  pub east_outside : gap.east ≡ None → odd.east ≡ Outside
  east_outside e = subst (λ o. IsNamedEast widest m.chains o odd.east) e odd.named_east

  pub some_side : gap.west ≡ None → gap.east ≡ None → ⊥
  some_side e f = odd.differ (west_outside e ∙ sym (east_outside f))

  module _ (planar : IsPlanar m.chains) (near : AreAllNear widest m.chains) where
    pub facing : (s t : ℕ) → gap.west ≡ Some s → gap.east ≡ Some t → (first last : NamedFace) → IsEastFace widest m n s first → IsWestFace widest m n t last →
        IsTrueFacing m first last
    facing s t e f first last one other =
        let front = last_split odd.front s (sym odd.is_west ∙ e) in
        let back = first_split odd.back t (sym odd.is_east ∙ f) in
        let listed : IsListOf widest n m.chains (front.0 ++ (s ∷ (t ∷ back.0))) =
        subst (λ l. IsListOf widest n m.chains l) (append_assoc front.0 (s ∷ []) (t ∷ back.0))
        (list_of (front.0 ++ (s ∷ [])) (t ∷ back.0) front.1 back.1) in
        let east = facing_east widest one.is.joins.chain one.segment one.midway.place in
        let west = facing_west widest other.is.joins.chain other.segment other.midway.place in
        record {
          one = from_place east first.at;
          other = from_place west last.at;
          disagree =
              last_rewritten last.at m.chains (from_place east first.at) west (same_sym last.at other.midway.place other.midway.lowest.same)
              (first_rewritten first.at m.chains east west (same_sym first.at one.midway.place one.midway.lowest.same)
              (neighbours_midway widest n m.chains near planar front.0 back.0 s one.segment one.is one.midway.place one.midway.midway t other.segment
              other.is other.midway.place other.midway.midway listed
              (λ k. odd.differ (west_is s e one.segment one.is ∙ k ∙ sym (east_is t f other.segment other.is)))));
          at_first = refl;
          at_last = refl;
          lowest_first = one.midway.lowest.lowest;
          lowest_last = other.midway.lowest.lowest;
          named_first = one.named;
          named_last = other.named;
        }

    pub eastward : (s : ℕ) → gap.west ≡ Some s → gap.east ≡ None → (face : NamedFace) → IsEastFace widest m n s face → IsTrueOutward m face East
    eastward s e f face one =
        let front = last_split odd.front s (sym odd.is_west ∙ e) in
        let none : odd.back ≡ [] = first_none odd.back (sym odd.is_east ∙ f) in
        let listed : IsListOf widest n m.chains (front.0 ++ (s ∷ [])) =
        subst (λ l. IsListOf widest n m.chains l) (append_assoc front.0 (s ∷ []) []) (list_of (front.0 ++ (s ∷ [])) [] front.1 none) in
        let east = facing_east widest one.is.joins.chain one.segment one.midway.place in
        record {
          one = from_place east face.at;
          disagree =
              outward_rewritten face.at m.chains east widest (pos 1) (same_sym face.at one.midway.place one.midway.lowest.same)
              (last_midway widest n m.chains near planar front.0 [] s one.segment one.is one.midway.place one.midway.midway listed
              (λ k. odd.differ (west_is s e one.segment one.is ∙ k ∙ sym (east_outside f))));
          at = refl;
          lowest = one.midway.lowest.lowest;
          named = one.named;
        }

    pub westward : (t : ℕ) → gap.west ≡ None → gap.east ≡ Some t → (face : NamedFace) → IsWestFace widest m n t face → IsTrueOutward m face West
    westward t e f face one =
        let none : odd.front ≡ [] = last_none odd.front (sym odd.is_west ∙ e) in
        let back = first_split odd.back t (sym odd.is_east ∙ f) in
        let west = facing_west widest one.is.joins.chain one.segment one.midway.place in
        record {
          one = from_place west face.at;
          disagree =
              outward_rewritten face.at m.chains west (pos 0 -ℤ widest) (pos 0 -ℤ pos 1)
              (same_sym face.at one.midway.place one.midway.lowest.same)
              (first_midway widest n m.chains near planar [] back.0 t one.segment one.is one.midway.place one.midway.midway
              (list_of [] (t ∷ back.0) none back.1)
              (λ k. odd.differ (west_outside e ∙ sym k ∙ sym (east_is t f one.segment one.is))));
          at = refl;
          lowest = one.midway.lowest.lowest;
          named = one.named;
        }

    -- the places lie strictly within the segments
    pub within_both : (s t : ℕ) → gap.west ≡ Some s → gap.east ≡ Some t → (first last : NamedFace) → (one : IsEastFace widest m n s first) →
        (other : IsWestFace widest m n t last) → IsStrictlyOn one.segment first.at × IsStrictlyOn other.segment last.at
    unfolding facing
    within_both s t e f first last one other =
        let told = facing s t e f first last one other in (told.disagree.on_first, told.disagree.on_last)

    pub within_western : (s : ℕ) → gap.west ≡ Some s → gap.east ≡ None → (face : NamedFace) → (one : IsEastFace widest m n s face) →
        IsStrictlyOn one.segment face.at
    unfolding eastward
    within_western s e f face one = let told = eastward s e f face one in told.disagree.on

    pub within_eastern : (t : ℕ) → gap.west ≡ None → gap.east ≡ Some t → (face : NamedFace) → (one : IsWestFace widest m n t face) →
        IsStrictlyOn one.segment face.at
    unfolding westward
    within_eastern t e f face one = let told = westward t e f face one in told.disagree.on
