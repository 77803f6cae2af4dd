-- What is read of a line fits its columns.
use Rattle.std.proofs.Common.{◌≡◌, ℕ, ℤ, ◌+◌, ◌-◌, ◌^◌, ◌<◌, ◌≤◌, ◌==◌, ◌&&◌, cond, inl, inr, List, [], ◌∷◌, ◌++◌, length, map, drop, replicate, Option, Some, None, Result, Ok, Err, refl, sym, ap, subst, arith, length-append}
use Rattle.std.specs.List.{list_all, filter_map, enumerate_from, AllByRecursion}
use Rattle.std.specs.Char.{is_ascii_digit}
use Rattle.std.specs.Prelude.{unsigned_abs, nat_le, nat_lt, not, ⊤}
use Rattle.std.proofs.lemmas.Bool.{cases_Bool}
use Rattle.std.proofs.lemmas.Bool.Decides.{nat_tests}
use Rattle.std.proofs.lemmas.List.{length-take, length-replicate}
use Rattle.std.proofs.lemmas.List.Sums.{take_while-cons}
use Rattle.std.proofs.lemmas.Str.Parse.{digits_value_short}
use Rattle.tl_geom.specs.declared.point.Point.{Point}
use Rattle.tl_record.specs.declared.layout.PointColumns.{PointColumns}
use Rattle.tl_record.specs.declared.layout.LandmarksColumns.{LandmarksColumns}
use Rattle.tl_record.specs.declared.layout.LandmarkColumns.{LandmarkColumns}
use Rattle.tl_record.specs.declared.layout.AreaLinkColumns.{AreaLinkColumns}
use Rattle.tl_record.specs.declared.layout.SidesColumns.{SidesColumns}
use Rattle.tl_record.specs.declared.options.Options.{Options}
use Rattle.tl_record.specs.declared.record.Record.{Record}
use Rattle.tl_record.specs.declared.record.Record.TheVariants.{Chain, Shape, Sides, PolyPoint, Landmark, AreaLink}
use Rattle.tl_record.specs.declared.number.Spelt.{Spelt}
use Rattle.tl_record.specs.declared.number.Spelt.TheVariants.{Blank, Value, Unreadable}
use Rattle.tl_record.specs.declared.judge.Judgement.{Judgement}
use Rattle.tl_record.specs.declared.judge.Judgement.TheVariants.{PassedOver, Read, Refused}
use Rattle.tl_record.specs.declared.stop.Cause.{Cause}
use Rattle.tl_record.specs.declared.stop.Field.{Field}
use Rattle.tl_record.specs.declared.stop.Field.TheVariants as field_name
use Rattle.tl_record.specs.Layout.{layout_with, tiger_2006_chain, tiger_2006_shape, tiger_2006_poly_point}
use Rattle.tl_record.specs.Limits.{most_lines, most_line_bytes, greatest_longitude, greatest_latitude}
use Rattle.tl_record.specs.Range.{Range, columns}
use Rattle.tl_record.specs.Lines.{raw_lines, content}
use Rattle.tl_record.specs.Fields.{blank, is_blank, width_of, field, without_leading_blanks, without_trailing_blanks, trimmed, unsigned_spells, number_spelt, coordinate_spelt, decimal as value_of}
use Rattle.tl_record.specs.Outcome.{◌>>=◌}
use Rattle.tl_record.specs.Judgement.{required, coordinate, point, point_at, optional_point, optional_point_at, is_blank_field, unless_zero, shape_pairs, cells_at, side_at, key_at, number_at, sequence_number, chain_record, shape_record, sides_record, poly_point_record, landmark_record, area_link_record, judged, landmarks_judgement, content_judgement, judgement}
use Rattle.tl_record.specs.Records.{lines_read, judgements, accepted, is_refused, entry_of}
use Rattle.tigertopo_border.specs.Spellable.{IsPlaced, IsPair, ArePairs}
use Rattle.tigertopo_border.proofs.FieldLemmas.{own}

-- ---- numbers

shorter_front : (bytes : List ℕ) → length (without_leading_blanks bytes) ≤ length bytes
shorter_front [] = omega arith
shorter_front (byte ∷ bytes) = elim (cases_Bool (is_blank byte)) [
  | inl is ↦ rw is (let rest = shorter_front bytes in omega (arith, rest))
  | inr is ↦ rw is (omega arith)
]

shorter_back : (bytes : List ℕ) → length (without_trailing_blanks bytes) ≤ length bytes
shorter_back [] = omega arith
shorter_back (byte ∷ bytes) = elim (cases_Bool (list_all is_blank (byte ∷ bytes))) [
  | inl is ↦ rw is (omega arith)
  | inr is ↦ rw is (let rest = shorter_back bytes in omega (arith, rest))
]

length_field : (line : List ℕ) (range : Range) → length (field line range) ≡ width_of range
length_field line range =
    omega (arith, length-take (width_of range) (drop (range.first - 1) line ++ replicate (width_of range) blank), length-append (drop (range.first - 1) line) (replicate (width_of range) blank), length-replicate (width_of range) blank)

small_digits : (bytes : List ℕ) (k n : ℕ) → length bytes ≤ k → unsigned_spells bytes ≡ Value n → n < 10 ^ k
small_digits [] k n short is = absurd (cc is)
small_digits (byte ∷ bytes) k n short is = elim (cases_Bool (list_all is_ascii_digit (byte ∷ bytes))) [
  | inl all ↦
      let worth : Value (value_of (byte ∷ bytes)) ≡ Value n = rw all at is in
      let same : value_of (byte ∷ bytes) ≡ n = cc worth in
      subst (λ m. m < 10 ^ k) same (digits_value_short own (byte ∷ bytes) k all short)
  | inr some ↦ absurd (let wrong : Unreadable ≡ Value n = rw some at is in cc wrong)
]

-- a field that has to be given
value_there : {T : Type 0} (name : Field) (spelt : Spelt T) (v : T) → required name spelt ≡ Ok v → spelt ≡ Value v
value_there name Blank v is = absurd (cc is)
value_there name (Value w) v is = ap Value (cc is)
value_there name Unreadable v is = absurd (cc is)

pub number_small : (name : Field) (range : Range) (line : List ℕ) (n : ℕ) → number_at name range line ≡ Ok n → n < 10 ^ width_of range
number_small name range line n is =
    let bytes = field line range in
    small_digits (trimmed bytes) (width_of range) n
    (omega (arith, shorter_back (without_leading_blanks bytes), shorter_front bytes, length_field line range)) (value_there name (number_spelt bytes) n is)

-- ---- one step behind another

step : {A B : Type 0} (r : Result A Cause) (f : A → Result B Cause) (b : B) → (r >>= f) ≡ Ok b → (a : A) × (r ≡ Ok a) × (f a ≡ Ok b)
step (Ok a) f b is = (a, refl, is)
step (Err cause) f b is = absurd (cc is)

-- ---- points

near_there : (name : Field) (limit : ℕ) (spelt : Spelt ℤ) (z : ℤ) → coordinate name limit spelt ≡ Ok z → unsigned_abs z ≤ limit
near_there name limit Blank z is = absurd (cc is)
near_there name limit Unreadable z is = absurd (cc is)
near_there name limit (Value w) z is = elim (cases_Bool (nat_le (unsigned_abs w) limit)) [
  | inl near ↦
      let same : w ≡ z = (let e = rw near at is in cc e) in
      subst (λ v. unsigned_abs v ≤ limit) same (grind (arith, nat_tests))
  | inr far ↦ absurd (let e = rw far at is in cc e)
]

placed_there : (long_name lat_name : Field) (long lat : Spelt ℤ) (p : Point) → point long_name lat_name long lat ≡ Ok p → IsPlaced p
placed_there long_name lat_name long lat p is =
    let x = step (coordinate long_name greatest_longitude long) (λ x. coordinate lat_name greatest_latitude lat >>= λ y. Ok (record { x = x; y = y })) p is in
    let y = step (coordinate lat_name greatest_latitude lat) (λ y. Ok (record { x = x.0; y = y })) p x.2 in
    let same : (let q : Point = record { x = x.0; y = y.0 } in q ≡ p) = cc y.2 in
    subst IsPlaced same (record { x = near_there long_name greatest_longitude long x.0 x.1; y = near_there lat_name greatest_latitude lat y.0 y.1 })

abbrev IsPlacedPair : Option Point → Type 0
IsPlacedPair None = ⊤
IsPlacedPair (Some p) = IsPlaced p

optional_there : (long_name lat_name : Field) (long lat : Spelt ℤ) (p : Option Point) → optional_point long_name lat_name long lat ≡ Ok p → IsPlacedPair p
optional_there long_name lat_name long lat p is = elim (cases_Bool (is_blank_field long && is_blank_field lat)) [
  | inl none ↦ (let e = rw none at is in let same : None ≡ p = cc e in subst IsPlacedPair same tt)
  | inr some ↦
      let e = rw some at is in
      let q = step (point long_name lat_name long lat) (λ p. Ok (Some p)) p e in
      let same : Some q.0 ≡ p = cc q.2 in
      subst IsPlacedPair same (placed_there long_name lat_name long lat q.0 q.1)
]

is_pair : (p : Option Point) → IsPlacedPair p → IsPair (unless_zero p)
is_pair None placed = tt
is_pair (Some p) placed = elim (cases_Bool ((unsigned_abs p.x == 0) && (unsigned_abs p.y == 0))) [
  | inl zeros ↦ rw zeros tt
  | inr not_zero ↦ rw not_zero (placed, rw not_zero refl)
]

placed_at : (long_name lat_name : Field) (columns : PointColumns) (line : List ℕ) (p : Point) → point_at long_name lat_name columns line ≡ Ok p → IsPlaced p
placed_at long_name lat_name columns line p is = placed_there long_name lat_name (coordinate_spelt (field line columns.long)) (coordinate_spelt (field line columns.lat)) p is

optional_at : (long_name lat_name : Field) (columns : PointColumns) (line : List ℕ) (p : Option Point) → optional_point_at long_name lat_name columns line ≡ Ok p → IsPlacedPair p
optional_at long_name lat_name columns line p is = optional_there long_name lat_name (coordinate_spelt (field line columns.long)) (coordinate_spelt (field line columns.lat)) p is

pairs_there : (number : ℕ) (columns : List PointColumns) (line : List ℕ) (pairs : List (Option Point)) → shape_pairs number columns line ≡ Ok pairs → (length pairs ≡ length columns) × ArePairs pairs
unfolding shape_pairs
pairs_there number [] line pairs is = let same : [] ≡ pairs = cc is in subst (λ ps. (length ps ≡ 0) × ArePairs ps) same (refl, tt)
pairs_there number (c ∷ columns) line pairs is =
    let first = step (optional_point_at (field_name.Long number) (field_name.Lat number) c line) (λ pair. shape_pairs (number + 1) columns line >>= λ rest. Ok (unless_zero pair ∷ rest)) pairs is in
    let rest = step (shape_pairs (number + 1) columns line) (λ rest. Ok (unless_zero first.0 ∷ rest)) pairs first.2 in
    let same : unless_zero first.0 ∷ rest.0 ≡ pairs = cc rest.2 in
    let others = pairs_there (number + 1) columns line rest.0 rest.1 in
    subst (λ ps. (length ps ≡ length (c ∷ columns)) × ArePairs ps) same
    ((let long = others.0 in omega (arith, long)), (is_pair first.0 (optional_at (field_name.Long number) (field_name.Lat number) c line first.0 first.1), others.1))

-- ---- records

-- what its columns leave a record
abbrev pub Fits : Record → Type 0
Fits (Chain tlid from to) = (tlid < 10 ^ 10) × IsPlaced from × IsPlaced to
Fits (Shape tlid rtsq pairs) = (rtsq < 1000) × (length pairs ≡ 10) × ArePairs pairs
Fits (Sides tlid start end left right) = ⊤
Fits (PolyPoint key point) = IsPlaced point
Fits (Landmark land point) = ⊤
Fits (AreaLink key land) = ⊤

chain_fits : (line : List ℕ) (r : Record) → chain_record tiger_2006_chain line ≡ Ok r → Fits r
unfolding chain_record
chain_fits line r is =
    let tlid = step (number_at field_name.Tlid (columns 6 15) line) _ r is in
    let from = step (point_at field_name.FrLong field_name.FrLat (tiger_2006_chain.from) line) _ r tlid.2 in
    let to = step (point_at field_name.ToLong field_name.ToLat (tiger_2006_chain.to) line) _ r from.2 in
    let same : Chain tlid.0 from.0 to.0 ≡ r = cc to.2 in
    subst Fits same (number_small field_name.Tlid (columns 6 15) line tlid.0 tlid.1, placed_at field_name.FrLong field_name.FrLat (tiger_2006_chain.from) line from.0 from.1, placed_at field_name.ToLong field_name.ToLat (tiger_2006_chain.to) line to.0 to.1)

shape_fits : (line : List ℕ) (r : Record) → shape_record tiger_2006_shape line ≡ Ok r → Fits r
unfolding shape_record
shape_fits line r is =
    let tlid = step (number_at field_name.Tlid (columns 6 15) line) _ r is in
    let number = step (number_at field_name.Rtsq (columns 16 18) line) _ r tlid.2 in
    let rtsq = step (sequence_number number.0) _ r number.2 in
    let pairs = step (shape_pairs 1 (tiger_2006_shape.pairs) line) _ r rtsq.2 in
    let same : Shape tlid.0 rtsq.0 pairs.0 ≡ r = cc pairs.2 in
    let fine = pairs_there 1 (tiger_2006_shape.pairs) line pairs.0 pairs.1 in
    let small = number_small field_name.Rtsq (columns 16 18) line number.0 number.1 in
    let kept : number.0 ≡ rtsq.0 = in_sequence number.0 rtsq.0 rtsq.1 in
    subst Fits same (omega (arith, small, kept), fine.0, fine.1)
  where
    in_sequence : (n m : ℕ) → sequence_number n ≡ Ok m → n ≡ m
    in_sequence n m is = elim (cases_Bool (nat_lt n (2 ^ 16))) [
      | inl lt ↦ (let e = rw lt at is in cc e)
      | inr ge ↦ absurd (let e = rw ge at is in cc e)
    ]

point_fits : (line : List ℕ) (r : Record) → poly_point_record tiger_2006_poly_point line ≡ Ok r → Fits r
unfolding poly_point_record
point_fits line r is =
    let key = step _ (λ key. point_at field_name.PolyLong field_name.PolyLat (tiger_2006_poly_point.point) line >>= λ internal. Ok (PolyPoint key internal)) r is in
    let internal = step (point_at field_name.PolyLong field_name.PolyLat (tiger_2006_poly_point.point) line) (λ internal. Ok (PolyPoint key.0 internal)) r key.2 in
    let same : PolyPoint key.0 internal.0 ≡ r = cc internal.2 in
    subst Fits same (placed_at field_name.PolyLong field_name.PolyLat (tiger_2006_poly_point.point) line internal.0 internal.1)

sides_fit : (columns : SidesColumns) (line : List ℕ) (r : Record) → sides_record columns line ≡ Ok r → Fits r
unfolding sides_record
sides_fit columns line r is =
    let tlid = step (number_at field_name.Tlid columns.tlid line) _ r is in
    let cells = step (cells_at columns.cells line) _ r tlid.2 in
    let left = step (side_at field_name.CenidL field_name.PolyidL columns.left line) _ r cells.2 in
    let right = step (side_at field_name.CenidR field_name.PolyidR columns.right line) _ r left.2 in
    let same : Sides tlid.0 cells.0.0 cells.0.1 left.0 right.0 ≡ r = cc right.2 in
    subst Fits same tt

landmark_fits : (columns : LandmarkColumns) (line : List ℕ) (r : Record) → landmark_record columns line ≡ Ok r → Fits r
unfolding landmark_record
landmark_fits columns line r is =
    let land = step (number_at field_name.Land columns.land line) _ r is in
    let place = step (optional_point_at field_name.LaLong field_name.LaLat columns.point line) _ r land.2 in
    let same : Landmark land.0 place.0 ≡ r = cc place.2 in
    subst Fits same tt

link_fits : (columns : AreaLinkColumns) (line : List ℕ) (r : Record) → area_link_record columns line ≡ Ok r → Fits r
unfolding area_link_record
link_fits columns line r is =
    let key = step (key_at field_name.Cenid field_name.Polyid columns.key line) _ r is in
    let land = step (number_at field_name.Land columns.land line) _ r key.2 in
    let same : AreaLink key.0 land.0 ≡ r = cc land.2 in
    subst Fits same tt

-- ---- judgements

-- a record that was read fits
abbrev IsFit : Judgement → Type 0
IsFit PassedOver = ⊤
IsFit (Read r) = Fits r
IsFit (Refused cause) = ⊤

of_result : (result : Result Record Cause) → ((r : Record) → result ≡ Ok r → Fits r) → IsFit (judged result)
of_result (Ok r) fits = fits r refl
of_result (Err cause) fits = tt

landmarks_fit : (read : Option LandmarksColumns) (kind : ℕ) (line : List ℕ) → IsFit (landmarks_judgement read kind line)
landmarks_fit None kind line = tt
landmarks_fit (Some columns) kind line = elim (cases_Bool (kind == 55)) [
  | inl is ↦ rw is (of_result (landmark_record columns.landmark line) (landmark_fits columns.landmark line))
  | inr not_seven ↦ rw not_seven (elim (cases_Bool (kind == 56)) [
    | inl is ↦ rw is (of_result (area_link_record columns.area_link line) (link_fits columns.area_link line))
    | inr other ↦ rw other tt
  ])
]

content_fits : (options : Options) (line : List ℕ) → IsFit (content_judgement (layout_with options) line)
content_fits options [] = tt
content_fits options (kind ∷ rest) = elim (cases_Bool (kind == 49)) [
  | inl is ↦ rw is (of_result (chain_record tiger_2006_chain (kind ∷ rest)) (chain_fits (kind ∷ rest)))
  | inr not_one ↦ rw not_one (elim (cases_Bool (kind == 50)) [
    | inl is ↦ rw is (of_result (shape_record tiger_2006_shape (kind ∷ rest)) (shape_fits (kind ∷ rest)))
    | inr not_two ↦ rw not_two (elim (cases_Bool (kind == 73)) [
      | inl is ↦ rw is (of_result (sides_record (layout_with options).sides (kind ∷ rest)) (sides_fit (layout_with options).sides (kind ∷ rest)))
      | inr not_i ↦ rw not_i (elim (cases_Bool (kind == 80)) [
        | inl is ↦ rw is (of_result (poly_point_record tiger_2006_poly_point (kind ∷ rest)) (point_fits (kind ∷ rest)))
        | inr not_p ↦ rw not_p (landmarks_fit (layout_with options).landmarks kind (kind ∷ rest))
      ])
    ])
  ])
]

line_fits : (options : Options) (number : ℕ) (line : List ℕ) → IsFit (judgement (layout_with options) number line)
line_fits options number line = elim (cases_Bool (nat_lt most_lines number)) [
  | inl many ↦ rw many tt
  | inr few ↦ rw few (elim (cases_Bool (nat_lt most_line_bytes (length line))) [
    | inl long ↦ rw long tt
    | inr short ↦ rw short (content_fits options (content line))
  ])
]

-- ---- all records of a text

abbrev IsFitLine : ℕ × Judgement → Type 0
IsFitLine j = IsFit j.1

judgements_fit : (options : Options) (n : ℕ) (lines : List (List ℕ)) → AllByRecursion IsFitLine (map (λ line. (line.0, judgement (layout_with options) line.0 line.1)) (enumerate_from n lines))
judgements_fit options n [] = tt
judgements_fit options n (line ∷ lines) = (line_fits options n line, judgements_fit options (n + 1) lines)

accepted_first : (j : ℕ × Judgement) (js : List (ℕ × Judgement)) → accepted (j ∷ js) ≡ cond (not (is_refused j)) (j ∷ accepted js) []
accepted_first j js = take_while-cons (λ x. not (is_refused x)) j js

entries_fit : (js : List (ℕ × Judgement)) → AllByRecursion IsFitLine js → AllByRecursion Fits (map (λ entry. entry.1) (filter_map entry_of (accepted js)))
entries_fit [] all = tt
entries_fit ((n, PassedOver) ∷ js) all = rw (accepted_first (n, PassedOver) js) (entries_fit js all.1)
entries_fit ((n, Read r) ∷ js) all = rw (accepted_first (n, Read r) js) (all.0, entries_fit js all.1)
entries_fit ((n, Refused cause) ∷ js) all =
    subst (λ (front : List (ℕ × Judgement)). AllByRecursion Fits (map (λ entry. entry.1) (filter_map entry_of front))) (sym (accepted_first (n, Refused cause) js)) tt

pub lines_fit : (options : Options) (text : List ℕ) → AllByRecursion Fits (map (λ entry. entry.1) (lines_read (layout_with options) text).entries)
lines_fit options text = entries_fit (judgements (layout_with options) 0 (raw_lines text)) (judgements_fit options 1 (raw_lines text))
