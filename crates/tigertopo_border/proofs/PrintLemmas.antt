-- The text of a border, put together from its parts.
use Rattle.std.proofs.Common.{◌≡◌, ℕ, ◌+◌, ◌-◌, ◌*◌, ◌<◌, ◌≤◌, ◌||◌, true, false, List, [], ◌∷◌, ◌++◌, Option, Some, None, length, take, drop, get_or, slice_get, add-one, append-nil, arith, refl, sym, ap, ◌∙◌, take_all}
use Rattle.std.specs.List.{flat_map}
use Rattle.std.proofs.lemmas.List.{flat_map_more, take_more, length-take, length-drop, get_or-drop, get_or-take}
use Rattle.std.proofs.lemmas.List.Concat.{flat_map-append}
use Rattle.std.proofs.lemmas.Option.{slice_get-get_or, slice_get_past}
use Rattle.tl_geom.specs.declared.point.Point.{Point}
use Rattle.tl_record.specs.declared.record.Record.TheVariants.{Chain, Shape, Sides}
use Rattle.tl_cert_output.specs.Writing.{line_of}
use Rattle.tl_map_county.specs.declared.polygons.Polygon.{Polygon}
use Rattle.tl_map_county.specs.declared.sides.Side.{Side}
use Rattle.tl_map_county.specs.TheMap.{TheMap, MapChain, IsChain}
use Rattle.tigertopo_border.specs.Whole.Homes.{is_blank}
use Rattle.tigertopo_border.specs.Whole.Borders.{has_blank}
use Rattle.tigertopo_border.specs.Spelling.{pair_fields, record_line, records_text, chain_line, shape_line, sides_line, point_line}
use Rattle.tigertopo_border.specs.Border.{border_key, side_key, start_of, end_of, inner, pairs_from, shapes_below, shape_count, chain_records, records_of_chain, records_at, polygon_records, border_records}

-- one shape pair more
pub one_pair_more : (points : List Point) (first place : ℕ) (pair : Option Point) → pair ≡ slice_get points (first + place)
    → flat_map pair_fields (pairs_from points first place) ++ pair_fields pair ≡ flat_map pair_fields (pairs_from points first (place + 1))
one_pair_more points first place pair is =
    ap (λ (p : Option Point). flat_map pair_fields (pairs_from points first place) ++ pair_fields p) is
    ∙ flat_map_more pair_fields [] (pairs_from points first place) (slice_get points (first + place))
    ∙ ap (λ n. flat_map pair_fields (pairs_from points first n)) (sym (add-one place))

-- one type 2 record more
pub one_shape_more : (tlid : ℕ) (points : List Point) (number : ℕ)
    → records_text (shapes_below tlid points number) ++ line_of (shape_line tlid (number + 1) (pairs_from points (10 * number) 10)) ≡ records_text (shapes_below tlid points (number + 1))
one_shape_more tlid points number =
    flat_map_more (λ r. line_of (record_line r)) [] (shapes_below tlid points number) (Shape tlid (number + 1) (pairs_from points (10 * number) 10))
    ∙ ap (λ n. records_text (shapes_below tlid points n)) (sym (add-one number))

-- the records of a chain
pub chain_parts : (name : List ℕ) (tlid : ℕ) (points : List Point) (left right : Side)
    → line_of (chain_line tlid (start_of points) (end_of points)) ++ records_text (shapes_below tlid (inner points) (shape_count points)) ++ line_of (sides_line tlid (side_key name left) (side_key name right))
    ≡ records_text (chain_records name tlid points left right)
unfolding chain_records
chain_parts name tlid points left right =
    flat_map_more (λ r. line_of (record_line r)) [] (Chain tlid (start_of points) (end_of points) ∷ shapes_below tlid (inner points) (shape_count points))
    (Sides tlid None None (side_key name left) (side_key name right))

of_border : (name : List ℕ) (chain : MapChain) (tlid : ℕ) (points : List Point) (left right : Side) → tlid ≡ chain.tlid → points ≡ chain.points → left ≡ chain.left → right ≡ chain.right
    → (is_blank left || is_blank right) ≡ true → chain_records name tlid points left right ≡ records_of_chain name chain
of_border name chain tlid points left right a b c d blank =
    let is : has_blank chain ≡ true = rw (c, d) at blank in
    rw (a, b, c, d, is) refl

not_of_border : (name : List ℕ) (chain : MapChain) (left right : Side) → left ≡ chain.left → right ≡ chain.right → (is_blank left || is_blank right) ≡ false → [] ≡ records_of_chain name chain
not_of_border name chain left right c d named =
    let is : has_blank chain ≡ false = rw (c, d) at named in
    rw is refl

-- those of a chain that was looked up, if it is of the border
pub records_there : (name : List ℕ) (m : TheMap) (c tlid : ℕ) (points : List Point) (left right : Side) → IsChain (slice_get m.chains c) tlid points left right
    → (is_blank left || is_blank right) ≡ true → records_text (chain_records name tlid points left right) ≡ records_text (records_at name m c)
records_there name m c tlid points left right is blank =
    rw is.is (ap records_text (of_border name is.chain tlid points left right is.tlid_is is.points_are is.left_is is.right_is blank))

pub no_records_there : (name : List ℕ) (m : TheMap) (c tlid : ℕ) (points : List Point) (left right : Side) → IsChain (slice_get m.chains c) tlid points left right
    → (is_blank left || is_blank right) ≡ false → [] ≡ records_text (records_at name m c)
no_records_there name m c tlid points left right is named =
    rw is.is (ap records_text (not_of_border name is.chain left right is.left_is is.right_is named))

-- one chain more
one_more : (name : List ℕ) (m : TheMap) (chains : List MapChain) (n : ℕ) (x : MapChain) → m.chains ≡ chains → n < length chains
    → records_text (flat_map (records_of_chain name) (take n m.chains)) ++ records_text (records_at name m n) ≡ records_text (flat_map (records_of_chain name) (take (n + 1) m.chains))
one_more name m chains n x same lt =
    let there : slice_get chains n ≡ Some (get_or chains n x) = slice_get-get_or chains n x lt in
    rw (same, there)
    (sym (flat_map-append (λ r. line_of (record_line r)) (flat_map (records_of_chain name) (take n chains)) (records_of_chain name (get_or chains n x)))
    ∙ ap records_text (flat_map_more (records_of_chain name) [] (take n chains) (get_or chains n x) ∙ ap (flat_map (records_of_chain name)) (sym (take_more chains n x lt))))

pub one_chain_more : (name : List ℕ) (m : TheMap) (chains : List MapChain) (n : ℕ) → m.chains ≡ chains → n < length chains
    → records_text (flat_map (records_of_chain name) (take n m.chains)) ++ records_text (records_at name m n) ≡ records_text (flat_map (records_of_chain name) (take (n + 1) m.chains))
one_chain_more name m [] n same lt = absurd (omega arith)
one_chain_more name m (x ∷ chains) n same lt = one_more name m (x ∷ chains) n x same lt

-- all of them
pub all_chains : (name : List ℕ) (chains : List MapChain) (n : ℕ) → length chains ≤ n
    → records_text (flat_map (records_of_chain name) (take n chains)) ≡ records_text (flat_map (records_of_chain name) chains)
all_chains name chains n past = ap (λ cs. records_text (flat_map (records_of_chain name) cs)) (take_all n chains past)

-- the polygon's record
pub polygon_text : (name : List ℕ) (polygons : List Polygon) (polygon : Polygon) → slice_get polygons 0 ≡ Some polygon
    → line_of (point_line (border_key name) polygon.point) ≡ records_text (polygon_records name polygons)
polygon_text name [] polygon is = absurd (cc is)
polygon_text name (first ∷ rest) polygon is =
    let same : first ≡ polygon = cc is in
    ap (λ (p : Polygon). line_of (point_line (border_key name) p.point)) (sym same) ∙ sym (append-nil (line_of (point_line (border_key name) first.point)))

pub no_polygon_text : (name : List ℕ) (polygons : List Polygon) → length polygons ≤ 0 → [] ≡ records_text (polygon_records name polygons)
no_polygon_text name [] none = refl
no_polygon_text name (first ∷ rest) none = absurd (omega arith)

-- all records
pub border_parts : (name : List ℕ) (m : TheMap)
    → records_text (flat_map (records_of_chain name) m.chains) ++ records_text (polygon_records name m.polygons) ≡ records_text (border_records name m)
unfolding border_records
border_parts name m = sym (flat_map-append (λ r. line_of (record_line r)) (flat_map (records_of_chain name) m.chains) (polygon_records name m.polygons))

-- a point between the ends
pub inner_is : (points : List Point) (place : ℕ) (p : Point) → place + 2 < length points → p ≡ get_or points (place + 1) p → Some p ≡ slice_get (inner points) place
inner_is points place p lt is =
    let long : place < length (inner points) = omega (arith, length-take (length points - 2) (drop 1 points), length-drop 1 points) in
    let here : get_or (inner points) place p ≡ get_or (drop 1 points) place p = get_or-take (length points - 2) (drop 1 points) place p (omega arith) in
    let there : get_or (drop 1 points) place p ≡ get_or points (place + 1) p = get_or-drop 1 points place p ∙ ap (λ n. get_or points n p) (omega arith) in
    sym (slice_get-get_or (inner points) place p long ∙ ap (λ (q : Point). Some q) (here ∙ there ∙ sym is))

pub inner_past : (points : List Point) (place : ℕ) → length points ≤ place + 2 → None ≡ slice_get (inner points) place
inner_past points place past =
    sym (slice_get_past (inner points) place (omega (arith, length-take (length points - 2) (drop 1 points), length-drop 1 points)))
