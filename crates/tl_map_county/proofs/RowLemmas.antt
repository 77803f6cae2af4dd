use Rattle.std.proofs.Common.{◌≡◌, ◌≢◌, ℕ, ◌+◌, ◌-◌, ◌<◌, Option, Some, None, List, [], ◌∷◌, length, take, drop, map, get_or, All, refl, sym, ap, ◌∙◌, arith, zero, suc, subst}
use Rattle.std.specs.Prelude.{slice_get}
use Rattle.std.specs.Option.{option_map}
use Rattle.std.proofs.lemmas.Option.{slice_get-map, slice_get-get_or, same_Some}
use Rattle.std.proofs.lemmas.List.{get_or_default, get_or-drop, get_or-map, get_or-take, length-drop, length-map, length-take-le}
use Rattle.std.proofs.lemmas.List.Elements.{All-head, All-tail}
use Rattle.tl_geom.specs.declared.point.Point.{Point}
use Rattle.tl_map_county.specs.declared.chains.ChainRow.{ChainRow}
use Rattle.tl_geom.specs.declared.segment.Segment.{Segment}
use Rattle.tl_geom.specs.Plane.{end_a, end_b}
use Rattle.tl_map_county.specs.Chains.{CompleteChain, IsProperChain, segment_count}
use Rattle.tl_map_county.specs.Keeping.Numbered.{IsNumber, JoinsPoints}
use Rattle.tl_map_county.specs.Rows.{IsTable, chain_in, chains_in, HasPolygonsOf, landmark_in, landmarks_in}
use Rattle.tl_map_county.specs.declared.landmarks.LandmarkRow.{LandmarkRow}
use Rattle.tl_map_county.specs.TheMap.{MapLandmark}
use Rattle.tl_map_county.specs.Landmarks.{ArePolygonsOf}

-- what is read of the chain of a row
pub row_read : {Y : Type 0} (f : CompleteChain → Y) (points : List Point) (rows : List ChainRow) (i : ℕ) (row : ChainRow) → i < length rows → row ≡ get_or rows i row → slice_get (map f (chains_in points rows)) i ≡ Some (f (chain_in points row))
row_read f points rows i row h at =
    slice_get-map f (chains_in points rows) i
    ∙ ap (option_map f) (slice_get-map (chain_in points) rows i ∙ ap (option_map (chain_in points)) (slice_get-get_or rows i row h))
    ∙ ap (λ r. Some (f (chain_in points r))) (sym at)

-- a range of a list, as a slice reads it
pub cut_read : {X : Type 0} (first count : ℕ) (points slice : List X) → slice ≡ points → Some (take count (drop first points)) ≡ Some (take (first + count - first) (drop first slice))
cut_read first count points slice same =
    let n : first + count - first ≡ count = omega arith in
    rw (n, same) refl

-- what holds of the polygons of each row holds of those of each landmark
pub of_each : (n : ℕ) (linked : List ℕ) (es : List (ℕ × Option Point)) (rows : List LandmarkRow) → All (HasPolygonsOf n linked) rows → (l : ℕ) (landmark : MapLandmark) → slice_get (landmarks_in linked es rows) l ≡ Some landmark → ArePolygonsOf n landmark.polygons
of_each n linked [] rows all l landmark is = absurd (cc)
of_each n linked (e ∷ es) [] all l landmark is = absurd (cc)
of_each n linked (e ∷ es) (row ∷ rows) all zero landmark is =
    subst (λ (z : MapLandmark). ArePolygonsOf n z.polygons) (same_Some (landmark_in linked e row) landmark is) (All-head (HasPolygonsOf n linked) row rows all)
of_each n linked (e ∷ es) (row ∷ rows) all (suc l) landmark is = of_each n linked es rows (All-tail (HasPolygonsOf n linked) row rows all) l landmark is

-- as many landmarks as rows
pub length-landmarks_in : (linked : List ℕ) (es : List (ℕ × Option Point)) (rows : List LandmarkRow) → length rows ≡ length es → length (landmarks_in linked es rows) ≡ length es
length-landmarks_in linked [] rows same = refl
length-landmarks_in linked (e ∷ es) [] same = absurd (omega arith)
length-landmarks_in linked (e ∷ es) (row ∷ rows) same = ap suc (length-landmarks_in linked es rows (omega arith))

-- the landmark at a place
pub slice_get-landmarks_in : (linked : List ℕ) (es : List (ℕ × Option Point)) (rows : List LandmarkRow) (i : ℕ) (e : ℕ × Option Point) (row : LandmarkRow) → slice_get es i ≡ Some e → slice_get rows i ≡ Some row → slice_get (landmarks_in linked es rows) i ≡ Some (landmark_in linked e row)
slice_get-landmarks_in linked [] rows i e row a b = absurd (let h : None ≡ Some e = a in cc)
slice_get-landmarks_in linked (x ∷ es) [] i e row a b = absurd (let h : None ≡ Some row = b in cc)
slice_get-landmarks_in linked (x ∷ es) (y ∷ rows) zero e row a b = let f : x ≡ e = cc in let g : y ≡ row = cc in rw (f, g) refl
slice_get-landmarks_in linked (x ∷ es) (y ∷ rows) (suc i) e row a b = slice_get-landmarks_in linked es rows i e row a b

-- a chain's point among the points of all chains
pub point_among : (points : List Point) (rows : List ChainRow) (c k n : ℕ) (d : CompleteChain) (p : Point) → IsTable points rows → c < length rows → k < length (get_or (chains_in points rows) c d).points → n ≡ segment_count (take c (chains_in points rows)) + c + k → get_or (get_or (chains_in points rows) c d).points k p ≡ get_or points n p
point_among points rows c k n d p table lt within at =
    let x : ChainRow = record { tlid = 0; first = 0; count = 0 } in
    let row : ChainRow = get_or rows c x in
    let is : get_or (chains_in points rows) c d ≡ chain_in points row = get_or-map (chain_in points) rows c x d lt in
    let long : length (take row.count (drop row.first points)) ≡ row.count = length-take-le row.count (drop row.first points) (omega (arith, table.within c x lt, length-drop row.first points)) in
    let few : k < row.count = omega (arith, within, ap (λ (e : CompleteChain). length e.points) is, long) in
    ap (λ (e : CompleteChain). get_or e.points k p) is
    ∙ get_or-take row.count (drop row.first points) k p few
    ∙ get_or-drop row.first points k p
    ∙ ap (λ m. get_or points m p) (omega (arith, at, table.behind c x lt))

-- how many segments the chains of a table have
pub segments_in : (points : List Point) (rows : List ChainRow) → IsTable points rows → length points - length rows ≡ segment_count (chains_in points rows)
segments_in points rows table = omega (arith, table.total)

-- a segment's points among those of all chains
pub number_among : (points : List Point) (rows : List ChainRow) (s c k : ℕ) → IsTable points rows → IsNumber (chains_in points rows) (length (chains_in points rows)) s c k → s + c + 1 < length points
number_among points rows s c k table number =
    let x : ChainRow = record { tlid = 0; first = 0; count = 0 } in
    let d : CompleteChain = record { tlid = 0; points = [] } in
    let lt : c < length rows = omega (arith, number.chain, length-map rows (chain_in points)) in
    let row : ChainRow = get_or rows c x in
    let is : get_or (chains_in points rows) c d ≡ chain_in points row = get_or-map (chain_in points) rows c x d lt in
    let long : length (take row.count (drop row.first points)) ≡ row.count = length-take-le row.count (drop row.first points) (omega (arith, table.within c x lt, length-drop row.first points)) in
    omega (arith, number.place d, ap (λ (e : CompleteChain). length e.points) is, long, table.within c x lt, table.behind c x lt, number.number)

-- the segment between them
pub joins_among : (points : List Point) (rows : List ChainRow) (s c k : ℕ) (p : Point) (segment : Segment) → IsTable points rows → IsNumber (chains_in points rows) (length (chains_in points rows)) s c k → end_a segment ≡ get_or points (s + c) p → end_b segment ≡ get_or points (s + c + 1) p → JoinsPoints (chains_in points rows) c k segment
joins_among points rows s c k p segment table number from to =
    let lt : c < length rows = omega (arith, number.chain, length-map rows (chain_in points)) in
    let inside = number_among points rows s c k table number in
    record {
      from = λ d q. point_among points rows c k (s + c) d q table lt (omega (arith, number.place d)) (omega (arith, number.number)) ∙ get_or_default points (s + c) q p (omega (arith, inside)) ∙ sym from;
      to = λ d q. point_among points rows c (k + 1) (s + c + 1) d q table lt (number.place d) (omega (arith, number.number)) ∙ get_or_default points (s + c + 1) q p inside ∙ sym to;
    }

-- the points that they join differ
pub differ_among : (points : List Point) (rows : List ChainRow) (s c k : ℕ) (p : Point) → IsTable points rows → IsNumber (chains_in points rows) (length (chains_in points rows)) s c k → All (λ (chain : CompleteChain). IsProperChain chain.points) (chains_in points rows) → get_or points (s + c) p ≢ get_or points (s + c + 1) p
differ_among points rows s c k p table number proper same =
    let d : CompleteChain = record { tlid = 0; points = [] } in
    let lt : c < length rows = omega (arith, number.chain, length-map rows (chain_in points)) in
    (proper c d number.chain).distinct k p (number.place d)
    (point_among points rows c k (s + c) d p table lt (omega (arith, number.place d)) (omega (arith, number.number)) ∙ same
    ∙ sym (point_among points rows c (k + 1) (s + c + 1) d p table lt (number.place d) (omega (arith, number.number))))
