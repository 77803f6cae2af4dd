-- Points, keys and pairs of a line are read as they are spelt.
use Rattle.std.proofs.Common.{◌≡◌, ◌*◌, ℕ, ◌+◌, ◌-◌, ◌^◌, ◌<◌, ◌≤◌, true, List, [], ◌∷◌, ◌++◌, length, Option, Some, None, Ok, refl, sym, ap, ◌∙◌, arith, length-append, append_assoc}
use Rattle.std.specs.List.{flat_map}
use Rattle.std.specs.Prelude.{unsigned_abs, nat_le, nat_lt, ⊤}
use Rattle.std.proofs.lemmas.Bool.Decides.{nat_tests}
use Rattle.std.proofs.lemmas.Fmt.{decimal_digit}
use Rattle.tl_geom.specs.declared.point.Point.{Point}
use Rattle.tl_record_key.specs.declared.key.PolyKey.{PolyKey}
use Rattle.tl_record.specs.declared.layout.PointColumns.{PointColumns}
use Rattle.tl_record.specs.declared.layout.KeyColumns.{KeyColumns}
use Rattle.tl_record.specs.declared.number.Spelt.TheVariants.{Blank, Value}
use Rattle.tl_record.specs.declared.stop.Field.{Field}
use Rattle.tl_record.specs.declared.stop.Field.TheVariants as field_name
use Rattle.tl_record.specs.Limits.{greatest_longitude, greatest_latitude}
use Rattle.tl_record.specs.Fields.{field, width_of, number_spelt, coordinate_spelt}
use Rattle.tl_record.specs.Judgement.{point_at, optional_point_at, unless_zero, shape_pairs, key_at, side_at}
use Rattle.tigertopo_border.specs.Spelling.{blanks, number_field, coordinate_field, point_fields, pair_fields, key_fields, side_fields}
use Rattle.tigertopo_border.specs.Spellable.{IsPlaced, IsPair, ArePairs, IsKey, IsSideKey}
use Rattle.tigertopo_border.specs.Border.{origin}
use Rattle.tigertopo_border.proofs.FieldLemmas.{number_read, coordinate_read, length_filled, length_blanks, length_coordinate, field_at}

pub is_le : (a b : ℕ) → a ≤ b → nat_le a b ≡ true
is_le a b le = grind (arith, nat_tests)

pub is_lt : (a b : ℕ) → a < b → nat_lt a b ≡ true
is_lt a b lt = grind (arith, nat_tests)

-- one text behind another
pub longer : (front text : List ℕ) (n m : ℕ) → length front ≡ n → length text ≡ m → length (front ++ text) ≡ n + m
longer front text n m a b = omega (arith, length-append front text, a, b)

pub length_number : (width n : ℕ) → 0 < width → n < 10 ^ width → n < 2 ^ 64 → length (number_field width n) ≡ width
length_number width n some fits small = length_filled 32 width n some fits small

length_x : (p : Point) → IsPlaced p → length (coordinate_field 9 p.x) ≡ 10
length_x p placed = let far = placed.x in length_coordinate 9 p.x (omega arith) (omega (arith, far)) (omega (arith, far))

length_y : (p : Point) → IsPlaced p → length (coordinate_field 8 p.y) ≡ 9
length_y p placed = let far = placed.y in length_coordinate 8 p.y (omega arith) (omega (arith, far)) (omega (arith, far))

pub length_point : (p : Point) → IsPlaced p → length (point_fields p) ≡ 19
length_point p placed = longer (coordinate_field 9 p.x) (coordinate_field 8 p.y) 10 9 (length_x p placed) (length_y p placed)

-- the columns of a point from a place on
pub record ArePointsAt (place : ℕ) (columns : PointColumns) : Type 0 where
  pub long : columns.long.first - 1 ≡ place
  pub long_wide : width_of columns.long ≡ 10
  pub lat : columns.lat.first - 1 ≡ place + 10
  pub lat_wide : width_of columns.lat ≡ 9

module _ (line front back : List ℕ) (columns : PointColumns) (p : Point) (place : ℕ) (at : ArePointsAt place columns) (before : length front ≡ place) (placed : IsPlaced p)
    (is : line ≡ front ++ (point_fields p ++ back)) where
  long_there : coordinate_spelt (field line columns.long) ≡ Value p.x
  long_there =
      ap coordinate_spelt (field_at line front (coordinate_field 9 p.x) (coordinate_field 8 p.y ++ back) columns.long
      (is ∙ ap (λ rest. front ++ rest) (append_assoc (coordinate_field 9 p.x) (coordinate_field 8 p.y) back)) (before ∙ sym at.long) (length_x p placed ∙ sym at.long_wide))
      ∙ coordinate_read 9 p.x (let far = placed.x in omega (arith, far))

  lat_there : coordinate_spelt (field line columns.lat) ≡ Value p.y
  lat_there =
      ap coordinate_spelt (field_at line (front ++ coordinate_field 9 p.x) (coordinate_field 8 p.y) back columns.lat
      (is ∙ ap (λ rest. front ++ rest) (append_assoc (coordinate_field 9 p.x) (coordinate_field 8 p.y) back) ∙ sym (append_assoc front (coordinate_field 9 p.x) (coordinate_field 8 p.y ++ back)))
      (longer front (coordinate_field 9 p.x) place 10 before (length_x p placed) ∙ sym at.lat) (length_y p placed ∙ sym at.lat_wide))
      ∙ coordinate_read 8 p.y (let far = placed.y in omega (arith, far))

  pub point_read : (long_name lat_name : Field) → point_at long_name lat_name columns line ≡ Ok p
  point_read long_name lat_name =
      rw (long_there, lat_there, is_le (unsigned_abs p.x) greatest_longitude placed.x, is_le (unsigned_abs p.y) greatest_latitude placed.y) refl

  pub optional_read : (long_name lat_name : Field) → optional_point_at long_name lat_name columns line ≡ Ok (Some p)
  optional_read long_name lat_name =
      rw (long_there, lat_there, is_le (unsigned_abs p.x) greatest_longitude placed.x, is_le (unsigned_abs p.y) greatest_latitude placed.y) refl

origin_placed : IsPlaced origin
origin_placed = record { x = omega arith; y = omega arith }

unused_is : pair_fields None ≡ point_fields origin
unfolding coordinate_field
unused_is = rw (decimal_digit 0 (omega arith)) refl

-- a shape pair
pair_there : (number : ℕ) (line front back : List ℕ) (columns : PointColumns) (pair : Option Point) (place : ℕ) → ArePointsAt place columns → length front ≡ place → IsPair pair
    → line ≡ front ++ (pair_fields pair ++ back) → (q : Option Point) × (optional_point_at (field_name.Long number) (field_name.Lat number) columns line ≡ Ok q) × (unless_zero q ≡ pair)
pair_there number line front back columns None place at before fine is =
    (Some origin, optional_read line front back columns origin place at before origin_placed (is ∙ ap (λ pair. front ++ (pair ++ back)) unused_is) (field_name.Long number) (field_name.Lat number), refl)
pair_there number line front back columns (Some p) place at before fine is =
    (Some p, optional_read line front back columns p place at before fine.0 is (field_name.Long number) (field_name.Lat number), fine.1)

length_pair : (pair : Option Point) → IsPair pair → length (pair_fields pair) ≡ 19
length_pair None fine = refl
length_pair (Some p) fine = length_point p fine.0

-- pairs that stand one behind the other
abbrev pub ArePairsAt : ℕ → List PointColumns → Type 0
ArePairsAt place [] = ⊤
ArePairsAt place (columns ∷ others) = ArePointsAt place columns × ArePairsAt (place + 19) others

pub pairs_read : (number : ℕ) (columns : List PointColumns) (pairs : List (Option Point)) (line front : List ℕ) (place : ℕ) → ArePairsAt place columns → length front ≡ place → length columns ≡ length pairs
    → ArePairs pairs → line ≡ front ++ flat_map pair_fields pairs → shape_pairs number columns line ≡ Ok pairs
unfolding shape_pairs
pairs_read number [] [] line front place at before many fine is = refl
pairs_read number [] (pair ∷ pairs) line front place at before many fine is = absurd (omega (arith, many))
pairs_read number (c ∷ columns) [] line front place at before many fine is = absurd (omega (arith, many))
pairs_read number (c ∷ columns) (pair ∷ pairs) line front place at before many fine is =
    let here = pair_there number line front (flat_map pair_fields pairs) c pair place at.0 before fine.0 is in
    let rest = pairs_read (number + 1) columns pairs line (front ++ pair_fields pair) (place + 19) at.1 (longer front (pair_fields pair) place 19 before (length_pair pair fine.0)) (omega (arith, many)) fine.1
    (is ∙ sym (append_assoc front (pair_fields pair) (flat_map pair_fields pairs))) in
    rw (here.1, rest) (ap (λ (p : Option Point). Ok (p ∷ pairs)) here.2)

pub length_pairs : (pairs : List (Option Point)) → ArePairs pairs → length (flat_map pair_fields pairs) ≡ length pairs * 19
length_pairs [] fine = refl
length_pairs (pair ∷ pairs) fine =
    omega (arith, length-append (pair_fields pair) (flat_map pair_fields pairs), length_pair pair fine.0, length_pairs pairs fine.1)

-- ---- keys

pub record IsKeyAt (place : ℕ) (columns : KeyColumns) : Type 0 where
  pub cenid : columns.cenid.first - 1 ≡ place
  pub cenid_wide : width_of columns.cenid ≡ 5
  pub polyid : columns.polyid.first - 1 ≡ place + 5
  pub polyid_wide : width_of columns.polyid ≡ 10

pub length_key : (key : PolyKey) → IsKey key → length (key_fields key) ≡ 15
length_key key fine = let n = fine.number in longer key.cenid (number_field 10 key.polyid) 5 10 fine.name.five (length_number 10 key.polyid (omega arith) n (omega (arith, n)))

module _ (line front back : List ℕ) (columns : KeyColumns) (place : ℕ) (at : IsKeyAt place columns) (before : length front ≡ place) where
  module _ (key : PolyKey) (fine : IsKey key) (is : line ≡ front ++ (key_fields key ++ back)) where
    cenid_there : field line columns.cenid ≡ key.cenid
    cenid_there =
        field_at line front key.cenid (number_field 10 key.polyid ++ back) columns.cenid (is ∙ ap (λ rest. front ++ rest) (append_assoc key.cenid (number_field 10 key.polyid) back)) (before ∙ sym at.cenid)
        (fine.name.five ∙ sym at.cenid_wide)

    polyid_there : number_spelt (field line columns.polyid) ≡ Value key.polyid
    polyid_there =
        let n = fine.number in
        ap number_spelt (field_at line (front ++ key.cenid) (number_field 10 key.polyid) back columns.polyid
        (is ∙ ap (λ rest. front ++ rest) (append_assoc key.cenid (number_field 10 key.polyid) back) ∙ sym (append_assoc front key.cenid (number_field 10 key.polyid ++ back)))
        (longer front key.cenid place 5 before fine.name.five ∙ sym at.polyid) (length_number 10 key.polyid (omega arith) n (omega (arith, n)) ∙ sym at.polyid_wide))
        ∙ number_read 10 key.polyid (omega (arith, n))

    pub key_read : (cenid_name polyid_name : Field) → key_at cenid_name polyid_name columns line ≡ Ok key
    key_read cenid_name polyid_name = rw (cenid_there, fine.name.printed, polyid_there) refl

    some_read : (cenid_name polyid_name : Field) → side_at cenid_name polyid_name columns line ≡ Ok (Some key)
    some_read cenid_name polyid_name = rw (cenid_there, fine.name.printed, polyid_there) refl

  ten_blanks : number_spelt (blanks 10) ≡ Blank
  unfolding blanks
  ten_blanks = refl

  fifteen : blanks 15 ≡ blanks 5 ++ blanks 10
  unfolding blanks
  fifteen = refl

  none_read : (cenid_name polyid_name : Field) → line ≡ front ++ (blanks 15 ++ back) → side_at cenid_name polyid_name columns line ≡ Ok None
  none_read cenid_name polyid_name is =
      let there : number_spelt (field line columns.polyid) ≡ Blank =
      ap number_spelt (field_at line (front ++ blanks 5) (blanks 10) back columns.polyid
      (is ∙ ap (λ text. front ++ (text ++ back)) fifteen ∙ ap (λ rest. front ++ rest) (append_assoc (blanks 5) (blanks 10) back) ∙ sym (append_assoc front (blanks 5) (blanks 10 ++ back)))
      (longer front (blanks 5) place 5 before (length_blanks 5) ∙ sym at.polyid) (length_blanks 10 ∙ sym at.polyid_wide))
      ∙ ten_blanks in
      rw there refl

  pub side_read : (cenid_name polyid_name : Field) (side : Option PolyKey) → IsSideKey side → line ≡ front ++ (side_fields side ++ back) → side_at cenid_name polyid_name columns line ≡ Ok side
  side_read cenid_name polyid_name None fine is = none_read cenid_name polyid_name is
  side_read cenid_name polyid_name (Some key) fine is = some_read key fine is cenid_name polyid_name

pub length_side : (side : Option PolyKey) → IsSideKey side → length (side_fields side) ≡ 15
length_side None fine = length_blanks 15
length_side (Some key) fine = length_key key fine
