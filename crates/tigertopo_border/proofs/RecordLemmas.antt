-- The line of a record is read as that record.
use Rattle.std.proofs.Common.{◌≡◌, ℕ, ◌+◌, ◌-◌, ◌*◌, ◌^◌, ◌<◌, ◌≤◌, List, [], ◌++◌, length, Option, None, Ok, refl, sym, ap, ◌∙◌, arith, codes, append_assoc, append-nil}
use Rattle.std.specs.List.{flat_map}
use Rattle.tl_geom.specs.declared.point.Point.{Point}
use Rattle.tl_record_key.specs.declared.key.PolyKey.{PolyKey}
use Rattle.tl_record.specs.declared.record.Record.{Record}
use Rattle.tl_record.specs.declared.record.Record.TheVariants.{Chain, Shape, Sides, PolyPoint, Landmark, AreaLink}
use Rattle.tl_record.specs.declared.number.Spelt.TheVariants.{Value}
use Rattle.tl_record.specs.declared.judge.Judgement.TheVariants.{Read}
use Rattle.tl_record.specs.declared.stop.Field.{Field}
use Rattle.tl_record.specs.declared.stop.Field.TheVariants as field_name
use Rattle.tl_record.specs.Layout.{tiger_2006, tiger_2006_chain, tiger_2006_shape, tiger_2006_poly_point}
use Rattle.tl_record.specs.Range.{Range, columns}
use Rattle.tl_record.specs.Fields.{field, width_of, number_spelt}
use Rattle.tl_record.specs.Judgement.{number_at, chain_record, shape_record, sides_record, poly_point_record, content_judgement}
use Rattle.tigertopo_border.specs.Spelling.{blanks, number_field, point_fields, pair_fields, key_fields, side_fields, chain_line, shape_line, sides_line, point_line, record_line}
use Rattle.tigertopo_border.specs.Spellable.{IsPlaced, ArePairs, IsKey, IsSideKey, IsSpellable}
use Rattle.tigertopo_border.proofs.FieldLemmas.{number_read, length_blanks, field_at}
use Rattle.tigertopo_border.proofs.ReadLemmas.{ArePointsAt, ArePairsAt, longer, is_lt, length_number, length_point, length_key, length_side, point_read, pairs_read, length_pairs, key_read, side_read}

-- a number of a line
number_there : (name : Field) (line front back : List ℕ) (range : Range) (width n : ℕ) → 0 < width → n < 10 ^ width → n < 2 ^ 64 → line ≡ front ++ (number_field width n ++ back)
    → length front ≡ range.first - 1 → width_of range ≡ width → number_at name range line ≡ Ok n
number_there name line front back range width n some fits small is before wide =
    let there : number_spelt (field line range) ≡ Value n =
    ap number_spelt (field_at line front (number_field width n) back range is before (length_number width n some fits small ∙ sym wide)) ∙ number_read width n small in
    rw there refl

-- ---- type 1

module _ (tlid : ℕ) (from to : Point) (fits : tlid < 10 ^ 10) (starts : IsPlaced from) (ends : IsPlaced to) where
  long_head : length (codes "1EDGE" ++ number_field 10 tlid) ≡ 15
  long_head = longer (codes "1EDGE") (number_field 10 tlid) 5 10 refl (length_number 10 tlid (omega arith) fits (omega (arith, fits)))

  long_blank : length (codes "1EDGE" ++ number_field 10 tlid ++ blanks 175) ≡ 190
  long_blank = longer (codes "1EDGE" ++ number_field 10 tlid) (blanks 175) 15 175 long_head (length_blanks 175)

  long_from : length (codes "1EDGE" ++ number_field 10 tlid ++ blanks 175 ++ point_fields from) ≡ 209
  long_from = longer (codes "1EDGE" ++ number_field 10 tlid ++ blanks 175) (point_fields from) 190 19 long_blank (length_point from starts)

  pub long_chain : length (chain_line tlid from to) ≡ 228
  unfolding chain_line
  long_chain = longer (codes "1EDGE" ++ number_field 10 tlid ++ blanks 175 ++ point_fields from) (point_fields to) 209 19 long_from (length_point to ends)

  chain_tlid : number_at field_name.Tlid (columns 6 15) (chain_line tlid from to) ≡ Ok tlid
  unfolding chain_line
  chain_tlid =
      number_there field_name.Tlid _ (codes "1EDGE") (blanks 175 ++ (point_fields from ++ point_fields to)) (columns 6 15) 10 tlid (omega arith) fits (omega (arith, fits))
      (append_assoc (codes "1EDGE" ++ number_field 10 tlid ++ blanks 175) (point_fields from) (point_fields to)
      ∙ append_assoc (codes "1EDGE" ++ number_field 10 tlid) (blanks 175) (point_fields from ++ point_fields to)
      ∙ append_assoc (codes "1EDGE") (number_field 10 tlid) (blanks 175 ++ (point_fields from ++ point_fields to))) refl refl

  pub chain_there : chain_record tiger_2006_chain (chain_line tlid from to) ≡ Ok (Chain tlid from to)
  unfolding chain_record chain_line
  chain_there =
      let start = point_read (chain_line tlid from to) (codes "1EDGE" ++ number_field 10 tlid ++ blanks 175) (point_fields to) (tiger_2006_chain.from) from 190
      (record { long = refl; long_wide = refl; lat = refl; lat_wide = refl }) long_blank starts
      (append_assoc (codes "1EDGE" ++ number_field 10 tlid ++ blanks 175) (point_fields from) (point_fields to)) field_name.FrLong field_name.FrLat in
      let end = point_read (chain_line tlid from to) (codes "1EDGE" ++ number_field 10 tlid ++ blanks 175 ++ point_fields from) [] (tiger_2006_chain.to) to 209
      (record { long = refl; long_wide = refl; lat = refl; lat_wide = refl }) long_from ends
      (ap (λ last. codes "1EDGE" ++ number_field 10 tlid ++ blanks 175 ++ point_fields from ++ last) (sym (append-nil (point_fields to)))) field_name.ToLong field_name.ToLat in
      rw (chain_tlid, start, end) refl

-- ---- type 2

at_place : (place first : ℕ) → first - 1 ≡ place → first + 9 + 1 - first ≡ 10 → first + 10 - 1 ≡ place + 10 → first + 18 + 1 - (first + 10) ≡ 9
    → ArePointsAt place (record { long = columns first (first + 9); lat = columns (first + 10) (first + 18) })
at_place place first a b c d = record { long = a; long_wide = b; lat = c; lat_wide = d }

pair_places : ArePairsAt 18 (tiger_2006_shape.pairs)
pair_places =
    (at_place 18 19 refl refl refl refl, (at_place 37 38 refl refl refl refl, (at_place 56 57 refl refl refl refl, (at_place 75 76 refl refl refl refl, (at_place 94 95 refl refl refl refl, (at_place 113 114 refl refl refl refl, (at_place 132 133 refl refl refl refl, (at_place 151 152 refl refl refl refl, (at_place 170 171 refl refl refl refl, (at_place 189 190 refl refl refl refl, tt))))))))))

module _ (tlid rtsq : ℕ) (pairs : List (Option Point)) (fits : tlid < 10 ^ 10) (small : rtsq < 1000) (ten : length pairs ≡ 10) (fine : ArePairs pairs) where
  long_second : length (codes "2EDGE" ++ number_field 10 tlid) ≡ 15
  long_second = longer (codes "2EDGE") (number_field 10 tlid) 5 10 refl (length_number 10 tlid (omega arith) fits (omega (arith, fits)))

  long_rtsq : length (codes "2EDGE" ++ number_field 10 tlid ++ number_field 3 rtsq) ≡ 18
  long_rtsq = longer (codes "2EDGE" ++ number_field 10 tlid) (number_field 3 rtsq) 15 3 long_second (length_number 3 rtsq (omega arith) (omega (arith, small)) (omega (arith, small)))

  pub long_shape : length (shape_line tlid rtsq pairs) ≡ 208
  unfolding shape_line
  long_shape =
      longer (codes "2EDGE" ++ number_field 10 tlid ++ number_field 3 rtsq) (flat_map pair_fields pairs) 18 190 long_rtsq
      (length_pairs pairs fine ∙ ap (λ n. n * 19) ten)

  shape_tlid : number_at field_name.Tlid (columns 6 15) (shape_line tlid rtsq pairs) ≡ Ok tlid
  unfolding shape_line
  shape_tlid =
      number_there field_name.Tlid _ (codes "2EDGE") (number_field 3 rtsq ++ flat_map pair_fields pairs) (columns 6 15) 10 tlid (omega arith) fits (omega (arith, fits))
      (append_assoc (codes "2EDGE" ++ number_field 10 tlid) (number_field 3 rtsq) (flat_map pair_fields pairs)
      ∙ append_assoc (codes "2EDGE") (number_field 10 tlid) (number_field 3 rtsq ++ flat_map pair_fields pairs)) refl refl

  shape_rtsq : number_at field_name.Rtsq (columns 16 18) (shape_line tlid rtsq pairs) ≡ Ok rtsq
  unfolding shape_line
  shape_rtsq =
      number_there field_name.Rtsq _ (codes "2EDGE" ++ number_field 10 tlid) (flat_map pair_fields pairs) (columns 16 18) 3 rtsq (omega arith) (omega (arith, small)) (omega (arith, small))
      (append_assoc (codes "2EDGE" ++ number_field 10 tlid) (number_field 3 rtsq) (flat_map pair_fields pairs)) long_second refl

  pub shape_there : shape_record tiger_2006_shape (shape_line tlid rtsq pairs) ≡ Ok (Shape tlid rtsq pairs)
  unfolding shape_record shape_line
  shape_there =
      let read = pairs_read 1 (tiger_2006_shape.pairs) pairs (shape_line tlid rtsq pairs) (codes "2EDGE" ++ number_field 10 tlid ++ number_field 3 rtsq) 18 pair_places long_rtsq (sym ten) fine refl in
      rw (shape_tlid, shape_rtsq, is_lt rtsq (2 ^ 16) (omega (arith, small)), read) refl

-- ---- type I

module _ (tlid : ℕ) (left right : Option PolyKey) (fits : tlid < 10 ^ 10) (left_fine : IsSideKey left) (right_fine : IsSideKey right) where
  long_third : length (codes "IEDGE" ++ number_field 10 tlid) ≡ 15
  long_third = longer (codes "IEDGE") (number_field 10 tlid) 5 10 refl (length_number 10 tlid (omega arith) fits (omega (arith, fits)))

  long_gap : length (codes "IEDGE" ++ number_field 10 tlid ++ blanks 25) ≡ 40
  long_gap = longer (codes "IEDGE" ++ number_field 10 tlid) (blanks 25) 15 25 long_third (length_blanks 25)

  long_left : length (codes "IEDGE" ++ number_field 10 tlid ++ blanks 25 ++ side_fields left) ≡ 55
  long_left = longer (codes "IEDGE" ++ number_field 10 tlid ++ blanks 25) (side_fields left) 40 15 long_gap (length_side left left_fine)

  pub long_sides : length (sides_line tlid left right) ≡ 70
  unfolding sides_line
  long_sides = longer (codes "IEDGE" ++ number_field 10 tlid ++ blanks 25 ++ side_fields left) (side_fields right) 55 15 long_left (length_side right right_fine)

  sides_tlid_there : number_at field_name.Tlid (columns 6 15) (sides_line tlid left right) ≡ Ok tlid
  unfolding sides_line
  sides_tlid_there =
      number_there field_name.Tlid _ (codes "IEDGE") (blanks 25 ++ (side_fields left ++ side_fields right)) (columns 6 15) 10 tlid (omega arith) fits (omega (arith, fits))
      (append_assoc (codes "IEDGE" ++ number_field 10 tlid ++ blanks 25) (side_fields left) (side_fields right)
      ∙ append_assoc (codes "IEDGE" ++ number_field 10 tlid) (blanks 25) (side_fields left ++ side_fields right)
      ∙ append_assoc (codes "IEDGE") (number_field 10 tlid) (blanks 25 ++ (side_fields left ++ side_fields right))) refl refl

  pub sides_there : sides_record (tiger_2006.sides) (sides_line tlid left right) ≡ Ok (Sides tlid None None left right)
  unfolding sides_record sides_line
  sides_there =
      let l = side_read (sides_line tlid left right) (codes "IEDGE" ++ number_field 10 tlid ++ blanks 25) (side_fields right) (tiger_2006.sides.left) 40
      (record { cenid = refl; cenid_wide = refl; polyid = refl; polyid_wide = refl }) long_gap field_name.CenidL field_name.PolyidL left left_fine
      (append_assoc (codes "IEDGE" ++ number_field 10 tlid ++ blanks 25) (side_fields left) (side_fields right)) in
      let r = side_read (sides_line tlid left right) (codes "IEDGE" ++ number_field 10 tlid ++ blanks 25 ++ side_fields left) [] (tiger_2006.sides.right) 55
      (record { cenid = refl; cenid_wide = refl; polyid = refl; polyid_wide = refl }) long_left field_name.CenidR field_name.PolyidR right right_fine
      (ap (λ last. codes "IEDGE" ++ number_field 10 tlid ++ blanks 25 ++ side_fields left ++ last) (sym (append-nil (side_fields right)))) in
      rw (sides_tlid_there, l, r) refl

-- ---- type P

module _ (key : PolyKey) (point : Point) (fine : IsKey key) (placed : IsPlaced point) where
  long_five : length (codes "PEDGE" ++ blanks 5) ≡ 10
  long_five = longer (codes "PEDGE") (blanks 5) 5 5 refl (length_blanks 5)

  long_key : length (codes "PEDGE" ++ blanks 5 ++ key_fields key) ≡ 25
  long_key = longer (codes "PEDGE" ++ blanks 5) (key_fields key) 10 15 long_five (length_key key fine)

  pub long_point : length (point_line key point) ≡ 44
  unfolding point_line
  long_point = longer (codes "PEDGE" ++ blanks 5 ++ key_fields key) (point_fields point) 25 19 long_key (length_point point placed)

  pub point_there : poly_point_record tiger_2006_poly_point (point_line key point) ≡ Ok (PolyPoint key point)
  unfolding poly_point_record point_line
  point_there =
      let k = key_read (point_line key point) (codes "PEDGE" ++ blanks 5) (point_fields point) (tiger_2006_poly_point.key) 10
      (record { cenid = refl; cenid_wide = refl; polyid = refl; polyid_wide = refl }) long_five key fine
      (append_assoc (codes "PEDGE" ++ blanks 5) (key_fields key) (point_fields point)) field_name.Cenid field_name.Polyid in
      let p = point_read (point_line key point) (codes "PEDGE" ++ blanks 5 ++ key_fields key) [] (tiger_2006_poly_point.point) point 25
      (record { long = refl; long_wide = refl; lat = refl; lat_wide = refl }) long_key placed
      (ap (λ last. codes "PEDGE" ++ blanks 5 ++ key_fields key ++ last) (sym (append-nil (point_fields point)))) field_name.PolyLong field_name.PolyLat in
      rw (k, p) refl

-- ---- all

-- the content of the line means the record
pub content_read : (r : Record) → IsSpellable r → content_judgement tiger_2006 (record_line r) ≡ Read r
unfolding chain_line shape_line sides_line point_line
content_read (Chain tlid from to) fine = rw (chain_there tlid from to fine.0 fine.1 fine.2) refl
content_read (Shape tlid rtsq pairs) fine = rw (shape_there tlid rtsq pairs fine.0 fine.1 fine.2 fine.3) refl
content_read (Sides tlid start end left right) fine = rw (fine.1, fine.2, sides_there tlid left right fine.0 fine.3 fine.4) refl
content_read (PolyPoint key point) fine = rw (point_there key point fine.0 fine.1) refl
content_read (Landmark land point) fine = absurd fine
content_read (AreaLink key land) fine = absurd fine

pub few_bytes : (r : Record) → IsSpellable r → length (record_line r) ≤ 1024
few_bytes (Chain tlid from to) fine = let long = long_chain tlid from to fine.0 fine.1 fine.2 in omega (arith, long)
few_bytes (Shape tlid rtsq pairs) fine = let long = long_shape tlid rtsq pairs fine.0 fine.1 fine.2 fine.3 in omega (arith, long)
few_bytes (Sides tlid start end left right) fine = let long = long_sides tlid left right fine.0 fine.3 fine.4 in omega (arith, long)
few_bytes (PolyPoint key point) fine = let long = long_point key point fine.0 fine.1 in omega (arith, long)
few_bytes (Landmark land point) fine = absurd fine
few_bytes (AreaLink key land) fine = absurd fine
