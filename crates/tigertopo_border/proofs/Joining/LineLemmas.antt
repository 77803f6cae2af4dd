-- The records of several texts that are read as one where counties are joined, and those of each text by itself.
use Rattle.std.proofs.Common.{◌≡◌, ℕ, suc, ◌+◌, eqb, Bool, true, false, List, [], ◌∷◌, ◌++◌, length, map, Some, None, Result, Ok, Err, refl, sym, ap, ◌∙◌, inl, inr}
use Rattle.std.specs.Prelude.{slice_get, nat_lt, if◌then◌else◌}
use Rattle.std.proofs.lemmas.Bool.{cases_Bool}
use Rattle.tl_record.specs.declared.options.Options.{Options}
use Rattle.tl_record.specs.declared.layout.ChainColumns.{ChainColumns}
use Rattle.tl_record.specs.declared.layout.ShapeColumns.{ShapeColumns}
use Rattle.tl_record.specs.declared.layout.SidesColumns.{SidesColumns}
use Rattle.tl_record.specs.declared.layout.PolyPointColumns.{PolyPointColumns}
use Rattle.tl_record.specs.declared.layout.LandmarkColumns.{LandmarkColumns}
use Rattle.tl_record.specs.declared.layout.AreaLinkColumns.{AreaLinkColumns}
use Rattle.tl_record.specs.declared.stop.Cause.{Cause}
use Rattle.tl_record.specs.declared.stop.Cause.TheVariants.{LineTooLong, TooManyLines}
use Rattle.tl_record.specs.declared.stop.Field.TheVariants as field_name
use Rattle.tl_record.specs.declared.record.Record.{Record}
use Rattle.tl_record.specs.declared.record.Record.TheVariants.{Chain, Shape, Sides, PolyPoint, Landmark, AreaLink}
use Rattle.tl_record.specs.declared.judge.Judgement.{Judgement}
use Rattle.tl_record.specs.declared.judge.Judgement.TheVariants.{PassedOver, Read, Refused}
use Rattle.tl_record.specs.Layout.{layout_with, sides_with, tiger_2006_chain, tiger_2006_shape, tiger_2006_poly_point, tiger_2006_landmark, tiger_2006_area_link}
use Rattle.tl_record.specs.Limits.{most_lines, most_line_bytes}
use Rattle.tl_record.specs.Lines.{raw_lines, content}
use Rattle.tl_record.specs.Outcome.{◌>>=◌}
use Rattle.tl_record.specs.Judgement.{number_at, point_at, sequence_number, shape_pairs, cells_at, side_at, key_at, optional_point_at, chain_record, shape_record, sides_record, poly_point_record, landmark_record, area_link_record, judged, landmarks_judgement, content_judgement, judgement}
use Rattle.tl_record.specs.Records.{Records, records_judged, judgements, records_of_lines, lines_read}
use Rattle.tl_record.proofs.RecordLemmas.{records_passed, records_read, records_refused}
use Rattle.tl_map_rules.specs.Reading.{records_in}
use Rattle.tigertopo_faults.specs.Places.LinePlaces.{lines_of_all}
use Rattle.tigertopo_border.specs.Parts.{is_of_no_landmark, without_landmarks, all_records}
use Rattle.tigertopo_border.specs.InParts.{joining, line_records}

-- ---- which records a line's content can hold

is_kept : (b : Bool) (r s : Record) → is_of_no_landmark r ≡ b → (let made : Result Record Cause = Ok r in made ≡ Ok s) → is_of_no_landmark s ≡ b
is_kept b r s here e = let same : r ≡ s = cc in rw (← same) here

-- what a test says of each record that can be made behind a step
behind_step : {A : Type 0} (b : Bool) (found : Result A Cause) (f : A → Result Record Cause) → ((a : A) (s : Record) → f a ≡ Ok s → is_of_no_landmark s ≡ b) → (r : Record) → (found >>= f) ≡ Ok r → is_of_no_landmark r ≡ b
behind_step b (Ok a) f each r is = each a r is
behind_step b (Err cause) f each r is = absurd (cc is)

chain_kept : (columns : ChainColumns) (line : List ℕ) (r : Record) → chain_record columns line ≡ Ok r → is_of_no_landmark r ≡ true
unfolding chain_record
chain_kept columns line =
    behind_step true (number_at field_name.Tlid columns.tlid line) _ (λ tlid.
    behind_step true (point_at field_name.FrLong field_name.FrLat columns.from line) _ (λ from.
    behind_step true (point_at field_name.ToLong field_name.ToLat columns.to line) _ (λ to r is. is_kept true (Chain tlid from to) r refl is)))

shape_kept : (columns : ShapeColumns) (line : List ℕ) (r : Record) → shape_record columns line ≡ Ok r → is_of_no_landmark r ≡ true
unfolding shape_record
shape_kept columns line =
    behind_step true (number_at field_name.Tlid columns.tlid line) _ (λ tlid.
    behind_step true (number_at field_name.Rtsq columns.rtsq line) _ (λ number.
    behind_step true (sequence_number number) _ (λ rtsq.
    behind_step true (shape_pairs 1 columns.pairs line) _ (λ pairs r is. is_kept true (Shape tlid rtsq pairs) r refl is))))

sides_kept : (columns : SidesColumns) (line : List ℕ) (r : Record) → sides_record columns line ≡ Ok r → is_of_no_landmark r ≡ true
unfolding sides_record
sides_kept columns line =
    behind_step true (number_at field_name.Tlid columns.tlid line) _ (λ tlid.
    behind_step true (cells_at columns.cells line) _ (λ cells.
    behind_step true (side_at field_name.CenidL field_name.PolyidL columns.left line) _ (λ left.
    behind_step true (side_at field_name.CenidR field_name.PolyidR columns.right line) _ (λ right r is. is_kept true (Sides tlid cells.0 cells.1 left right) r refl is))))

point_kept : (columns : PolyPointColumns) (line : List ℕ) (r : Record) → poly_point_record columns line ≡ Ok r → is_of_no_landmark r ≡ true
unfolding poly_point_record
point_kept columns line =
    behind_step true (key_at field_name.Cenid field_name.Polyid columns.key line) _ (λ key.
    behind_step true (point_at field_name.PolyLong field_name.PolyLat columns.point line) _ (λ internal r is. is_kept true (PolyPoint key internal) r refl is))

landmark_left : (columns : LandmarkColumns) (line : List ℕ) (r : Record) → landmark_record columns line ≡ Ok r → is_of_no_landmark r ≡ false
unfolding landmark_record
landmark_left columns line =
    behind_step false (number_at field_name.Land columns.land line) _ (λ land.
    behind_step false (optional_point_at field_name.LaLong field_name.LaLat columns.point line) _ (λ place r is. is_kept false (Landmark land place) r refl is))

link_left : (columns : AreaLinkColumns) (line : List ℕ) (r : Record) → area_link_record columns line ≡ Ok r → is_of_no_landmark r ≡ false
unfolding area_link_record
link_left columns line =
    behind_step false (key_at field_name.Cenid field_name.Polyid columns.key line) _ (λ key.
    behind_step false (number_at field_name.Land columns.land line) _ (λ land r is. is_kept false (AreaLink key land) r refl is))

-- ---- a line by itself, and where counties are joined

pub data AreAlike (apart joined : Judgement) : Type 0 where
  passed : apart ≡ PassedOver → joined ≡ PassedOver → AreAlike apart joined
  kept : (r : Record) → is_of_no_landmark r ≡ true → apart ≡ Read r → joined ≡ Read r → AreAlike apart joined
  left_out : (r : Record) → is_of_no_landmark r ≡ false → apart ≡ Read r → joined ≡ PassedOver → AreAlike apart joined
  refused : (cause : Cause) → apart ≡ Refused cause → AreAlike apart joined
  refused_joined : (cause : Cause) → joined ≡ Refused cause → AreAlike apart joined

both_judged : (found : Result Record Cause) → ((r : Record) → found ≡ Ok r → is_of_no_landmark r ≡ true) → AreAlike (judged found) (judged found)
both_judged (Ok r) is = kept r (is r refl) refl refl
both_judged (Err cause) is = refused cause refl

apart_judged : (found : Result Record Cause) → ((r : Record) → found ≡ Ok r → is_of_no_landmark r ≡ false) → AreAlike (judged found) PassedOver
apart_judged (Ok r) is = left_out r (is r refl) refl refl
apart_judged (Err cause) is = refused cause refl

-- a line that is one of a landmark, or none that is read
landmarks_alike : (join : Bool) (kind : ℕ) (line : List ℕ)
    → AreAlike (landmarks_judgement (if join then None else Some (record { landmark = tiger_2006_landmark; area_link = tiger_2006_area_link })) kind line) PassedOver
landmarks_alike true kind line = passed refl refl
landmarks_alike false kind line = elim (cases_Bool (eqb kind 55)) [
  | inl is ↦ rw is (apart_judged (landmark_record tiger_2006_landmark line) (landmark_left tiger_2006_landmark line))
  | inr not_landmark ↦ rw not_landmark (elim (cases_Bool (eqb kind 56)) [
    | inl is ↦ rw is (apart_judged (area_link_record tiger_2006_area_link line) (link_left tiger_2006_area_link line))
    | inr not_link ↦ rw not_link (passed refl refl)
  ])
]

-- ---- the records behind a first line

passed_first : (n : ℕ) (js : List (ℕ × Judgement)) → records_in (records_judged ((n, PassedOver) ∷ js)) ≡ records_in (records_judged js)
passed_first n js = ap records_in (records_passed n 0 js)

passed_refusal : (n : ℕ) (js : List (ℕ × Judgement)) → (records_judged js).refusal ≡ (records_judged ((n, PassedOver) ∷ js)).refusal
passed_refusal n js = sym (ap (λ (all : Records). all.refusal) (records_passed n 0 js))

read_first : (n : ℕ) (r : Record) (js : List (ℕ × Judgement)) → records_in (records_judged ((n, Read r) ∷ js)) ≡ r ∷ records_in (records_judged js)
read_first n r js = ap records_in (records_read n 0 r js)

read_refusal : (n : ℕ) (r : Record) (js : List (ℕ × Judgement)) → (records_judged js).refusal ≡ (records_judged ((n, Read r) ∷ js)).refusal
read_refusal n r js = sym (ap (λ (all : Records). all.refusal) (records_read n 0 r js))

refused_first : (n : ℕ) (cause : Cause) (js : List (ℕ × Judgement)) → (records_judged ((n, Refused cause) ∷ js)).refusal ≡ None → ⊥
refused_first n cause js none = absurd (let wrong : Some (n, cause) ≡ None = sym (ap (λ (all : Records). all.refusal) (records_refused n 0 cause js)) ∙ none in cc)

kept_here : (r : Record) (rs : List Record) → is_of_no_landmark r ≡ true → without_landmarks (r ∷ rs) ≡ r ∷ without_landmarks rs
kept_here r rs here = rw here refl

left_here : (r : Record) (rs : List Record) → is_of_no_landmark r ≡ false → without_landmarks (r ∷ rs) ≡ without_landmarks rs
left_here r rs here = rw here refl

module _ (options : Options) where
  content_alike : (line : List ℕ) → AreAlike (content_judgement (layout_with options) line) (content_judgement (layout_with (joining options)) line)
  content_alike [] = passed refl refl
  content_alike (kind ∷ rest) = elim (cases_Bool (eqb kind 49)) [
    | inl is ↦ rw is (both_judged (chain_record tiger_2006_chain (kind ∷ rest)) (chain_kept tiger_2006_chain (kind ∷ rest)))
    | inr not_chain ↦ rw not_chain (elim (cases_Bool (eqb kind 50)) [
      | inl is ↦ rw is (both_judged (shape_record tiger_2006_shape (kind ∷ rest)) (shape_kept tiger_2006_shape (kind ∷ rest)))
      | inr not_shape ↦ rw not_shape (elim (cases_Bool (eqb kind 73)) [
        | inl is ↦ rw is (both_judged (sides_record (sides_with options) (kind ∷ rest)) (sides_kept (sides_with options) (kind ∷ rest)))
        | inr not_sides ↦ rw not_sides (elim (cases_Bool (eqb kind 80)) [
          | inl is ↦ rw is (both_judged (poly_point_record tiger_2006_poly_point (kind ∷ rest)) (point_kept tiger_2006_poly_point (kind ∷ rest)))
          | inr not_point ↦ rw not_point (landmarks_alike options.join kind (kind ∷ rest))
        ])
      ])
    ])
  ]

  line_alike : (n m : ℕ) (line : List ℕ) → AreAlike (judgement (layout_with options) n line) (judgement (layout_with (joining options)) m line)
  line_alike n m line = elim (cases_Bool (nat_lt most_lines n)) [
    | inl many ↦ refused TooManyLines (rw many refl)
    | inr few ↦ elim (cases_Bool (nat_lt most_lines m)) [
      | inl many ↦ refused_joined TooManyLines (rw many refl)
      | inr fewer ↦ rw (few, fewer) (elim (cases_Bool (nat_lt most_line_bytes (length line))) [
        | inl long ↦ rw long (refused LineTooLong refl)
        | inr short ↦ rw short (content_alike (content line))
      ])
    ]
  ]

  -- ---- the records of lines

  -- what is read of a text's lines and of those behind them, where counties are joined, is what is read of each
  pub record IsDivided (joined apart_text : Records) (rest : List (List ℕ)) : Type 0 where
    pub later : ℕ
    pub no_refusal : (records_of_lines (layout_with (joining options)) later rest).refusal ≡ None
    pub records : records_in joined ≡ without_landmarks (records_in apart_text) ++ records_in (records_of_lines (layout_with (joining options)) later rest)

  first_line : (rest : List (List ℕ)) (n m : ℕ) (others_joined others_apart : List (ℕ × Judgement)) (a j : Judgement) → AreAlike a j
      → (records_judged ((n, j) ∷ others_joined)).refusal ≡ None → (records_judged ((m, a) ∷ others_apart)).refusal ≡ None
      → ((records_judged others_joined).refusal ≡ None → (records_judged others_apart).refusal ≡ None → IsDivided (records_judged others_joined) (records_judged others_apart) rest)
      → IsDivided (records_judged ((n, j) ∷ others_joined)) (records_judged ((m, a) ∷ others_apart)) rest
  first_line rest n m others_joined others_apart a j (passed x y) joined_fine apart_fine more =
      let joined_now : (records_judged ((n, PassedOver) ∷ others_joined)).refusal ≡ None = rw y at joined_fine in
      let apart_now : (records_judged ((m, PassedOver) ∷ others_apart)).refusal ≡ None = rw x at apart_fine in
      let behind = more (passed_refusal n others_joined ∙ joined_now) (passed_refusal m others_apart ∙ apart_now) in
      rw (x, y) (record {
        later = behind.later;
        no_refusal = behind.no_refusal;
        records = passed_first n others_joined ∙ behind.records
            ∙ ap (λ rs. without_landmarks rs ++ records_in (records_of_lines (layout_with (joining options)) behind.later rest)) (sym (passed_first m others_apart));
      })
  first_line rest n m others_joined others_apart a j (kept r own x y) joined_fine apart_fine more =
      let joined_now : (records_judged ((n, Read r) ∷ others_joined)).refusal ≡ None = rw y at joined_fine in
      let apart_now : (records_judged ((m, Read r) ∷ others_apart)).refusal ≡ None = rw x at apart_fine in
      let behind = more (read_refusal n r others_joined ∙ joined_now) (read_refusal m r others_apart ∙ apart_now) in
      rw (x, y) (record {
        later = behind.later;
        no_refusal = behind.no_refusal;
        records = read_first n r others_joined ∙ ap (λ rs. r ∷ rs) behind.records
            ∙ ap (λ rs. rs ++ records_in (records_of_lines (layout_with (joining options)) behind.later rest))
            (sym (kept_here r (records_in (records_judged others_apart)) own) ∙ ap without_landmarks (sym (read_first m r others_apart)));
      })
  first_line rest n m others_joined others_apart a j (left_out r own x y) joined_fine apart_fine more =
      let joined_now : (records_judged ((n, PassedOver) ∷ others_joined)).refusal ≡ None = rw y at joined_fine in
      let apart_now : (records_judged ((m, Read r) ∷ others_apart)).refusal ≡ None = rw x at apart_fine in
      let behind = more (passed_refusal n others_joined ∙ joined_now) (read_refusal m r others_apart ∙ apart_now) in
      rw (x, y) (record {
        later = behind.later;
        no_refusal = behind.no_refusal;
        records = passed_first n others_joined ∙ behind.records
            ∙ ap (λ rs. rs ++ records_in (records_of_lines (layout_with (joining options)) behind.later rest))
            (sym (left_here r (records_in (records_judged others_apart)) own) ∙ ap without_landmarks (sym (read_first m r others_apart)));
      })
  first_line rest n m others_joined others_apart a j (refused cause x) joined_fine apart_fine more = absurd (refused_first m cause others_apart (rw x at apart_fine))
  first_line rest n m others_joined others_apart a j (refused_joined cause y) joined_fine apart_fine more = absurd (refused_first n cause others_joined (rw y at joined_fine))

  divided : (lines rest : List (List ℕ)) (before number : ℕ) → (records_of_lines (layout_with (joining options)) before (lines ++ rest)).refusal ≡ None
      → (records_of_lines (layout_with options) number lines).refusal ≡ None
      → IsDivided (records_of_lines (layout_with (joining options)) before (lines ++ rest)) (records_of_lines (layout_with options) number lines) rest
  divided [] rest before number joined_fine apart_fine = record { later = before; no_refusal = joined_fine; records = refl }
  divided (line ∷ lines) rest before number joined_fine apart_fine =
      first_line rest (before + 1) (number + 1) (judgements (layout_with (joining options)) (before + 1) (lines ++ rest)) (judgements (layout_with options) (number + 1) lines)
      (judgement (layout_with options) (number + 1) line) (judgement (layout_with (joining options)) (before + 1) line) (line_alike (number + 1) (before + 1) line) joined_fine apart_fine
      (divided lines rest (before + 1) (number + 1))

  -- what is read of all texts is the records of each, one text after the other, without those of landmarks
  pub texts_divided : (texts : List (List ℕ)) (before : ℕ) → (records_of_lines (layout_with (joining options)) before (lines_of_all texts)).refusal ≡ None
      → ((k : ℕ) (text : List ℕ) → slice_get texts k ≡ Some text → (lines_read (layout_with options) text).refusal ≡ None)
      → records_in (records_of_lines (layout_with (joining options)) before (lines_of_all texts)) ≡ all_records (map (line_records options) texts)
  texts_divided [] before joined_fine apart_fine = refl
  texts_divided (text ∷ texts) before joined_fine apart_fine =
      let here = divided (raw_lines text) (lines_of_all texts) before 0 joined_fine (apart_fine 0 text refl) in
      here.records ∙ ap (λ rs. without_landmarks (line_records options text) ++ rs) (texts_divided texts here.later here.no_refusal (λ k one is. apart_fine (suc k) one is))
