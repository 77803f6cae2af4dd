-- What is answered of what was found.
use Rattle.std.proofs.Common.{◌≡◌, inl, inr, ℕ, ◌+◌, take, Bool, true, List, [], ◌∷◌, ◌++◌, map, Some, None, Option, Result, Ok, Err, refl, sym, ap, subst, ◌∙◌, arith, append-nil}
use Rattle.std.specs.Prelude.{slice_get, Vec, codes, is_some, length, false}
use Rattle.std.specs.Global.{Global}
use Rattle.std.specs.Option.{IfSome, option_map}
use Rattle.std.specs.Result.{IsErrAnd}
use Rattle.std.proofs.lemmas.Option.{IfSome_then}
use Rattle.std.proofs.lemmas.List.{take_all}
use Rattle.tl_record.specs.declared.layout.Layout.{Layout}
use Rattle.tl_record.specs.declared.options.Options.{Options}
use Rattle.tl_record.specs.declared.refusal.Refusal.{Refusal}
use Rattle.tl_record.specs.Layout.{layout_with}
use Rattle.tl_record.specs.Left.{left_of}
use Rattle.tl_record.specs.Records.{records_of, judgements, lines_read}
use Rattle.tl_record.specs.Lines.{raw_lines}
use Rattle.tl_record.specs.Refusals.{refusals_of}
use Rattle.tl_record.specs.Searching.{pair_of}
use Rattle.tl_record.proofs.RefusalLemmas.{first_refusal as first_of_judged}
use Rattle.tl_map_county.specs.TheMap.{TheMap, MapChain}
use Rattle.tigertopo_files.specs.Files.{Under}
use Rattle.tigertopo_files.specs.Files.{bytes_under}
use Rattle.tigertopo_files.specs.Joining.{joined}
use Rattle.tigertopo_files.specs.Log.{Log}
use Rattle.tigertopo_files.specs.Reading.{HaveLines, text_under}
use Rattle.tigertopo_files.specs.World.{World, Does, Made}
use Rattle.tigertopo_files.proofs.JoiningLemmas.{joined_bytes-known}
use Rattle.tigertopo_files.proofs.WorldLemmas.{all_kept, none_made}
use Rattle.tigertopo_words.specs.declared.budget.Told.{Told}
use Rattle.tigertopo_words.specs.declared.budget.Told.TheVariants.{One, All}
use Rattle.tigertopo_words.specs.declared.form.Form.{Form}
use Rattle.tigertopo_words.specs.declared.form.Form.TheVariants.{Lines as FormLines, Records as FormRecords, Objects as FormObjects}
use Rattle.tl_cert_output.specs.declared.stop.Stop.{Stop}
use Rattle.tl_cert_output.specs.declared.stop.Stop.TheVariants.{Record, Memory}
use Rattle.tl_record.specs.declared.stop.Cause.{Cause}
use Rattle.tl_list_text.specs.Texts.{lines, printed, told_refusal, count_line}
use Rattle.tigertopo_faults.specs.Hint.Placed.{IsPlaced, placed_text, refused_text, TellsPlaces}
use Rattle.tigertopo_faults.specs.declared.hint.form.RefusedForm.{RefusedForm}
use Rattle.tl_record.specs.Fronts.{front_in}
use Rattle.tigertopo_faults.specs.Hint.Fronts.{fronted_text}
use Rattle.tigertopo_faults.proofs.PlacedLemmas.{fronted_placed}
use Rattle.tigertopo_faults.specs.declared.hint.form.RefusedForm.TheVariants.{Features as RefusedFeatures}
use Rattle.tigertopo_faults.specs.declared.hint.form.RefusedForm.TheVariants.{Lines as RefusedLines}
use Rattle.tigertopo_faults.specs.Hint.Telling.{HaveTexts}
use Rattle.tl_check_verdict.specs.declared.fault.MapFault.{MapFault}
use Rattle.tl_check_verdict.specs.declared.verdict.Report.{Report}
use Rattle.tl_check_verdict.proofs.OneMap.{weaker}
use Rattle.tl_list_text.specs.declared.listing.Listing.TheVariants.{Sound, Refused, Faults}
use Rattle.tl_list.specs.Listings.{IsListingOf}
use Rattle.tl_list.specs.Findings.{AreFindingsOf, IsLeft}
use Rattle.tl_list.specs.Noting.{IfRefused, NotesLines, WhereTold}
use Rattle.tl_list.specs.Keeping.Noting.{bytes_of}
use Rattle.tl_list.specs.declared.left.Found.{Found}
use Rattle.tl_list.specs.declared.left.LeftFaults.{LeftFaults}
use Rattle.tigertopo_program.specs.declared.lists.skipping.LeftTexts.{LeftTexts}
use Rattle.tl_list.proofs.Listed.{sound_alone}
use Rattle.tigertopo_faults.specs.Records.Keeping.{held}
use Rattle.tigertopo_faults.specs.declared.lines.speaking.Spoken.{Spoken}
use Rattle.tigertopo_faults.specs.Lines.Speaking.{AreSpoken}
use Rattle.tigertopo_faults.specs.Geojson.Texts.{faults_text}
use Rattle.tigertopo_program.specs.declared.answer.Answer.{Answer}
use Rattle.tigertopo_program.specs.declared.answer.Answer.TheVariants.{Listing, Lines}
use Rattle.tigertopo_program.specs.Answers.{IsSaid}
use Rattle.tigertopo_program.specs.Texts.{answer_status, answer_text}
use Rattle.tigertopo_faults.specs.Told.{told_text}
use Rattle.tigertopo_program.specs.Lists.Listed.{Asked, ListAnswers, IsSoundList, IsFaultList, StopsList, asks_lines, has_places, most_of, featured, refused_form, refusals_last, is_skipping, stops_refused}
use Rattle.tigertopo_program.specs.Lists.Listed.{AreRefused}
use Rattle.tigertopo_program.specs.Lists.Listed.{refused_text as refused_collection}
use Rattle.tigertopo_program.specs.Lists.Keeping.{AnswersFronted, AreFeatures, AreFronts, AreLinesOf, AreNoted, ArePrepared, IsLeftPrepared, IsPrepared, IsRefusedList, faults_answer, stop_of_refusal}
use Rattle.tigertopo_program.proofs.DrawLemmas.SubjectLemmas.{first_is}

-- ---- what is done with files

-- nothing is done with files
module _ {T : Type 0} (w : World) (same : w.after ≡ w.before) (logs : w.knows ≡ true → w.logged ≡ w.log) (made : Option (List ℕ)) (P : T → Type 0) (S : Stop → Type 0) where
  none_opened : w.log ≡ record w.log { opened = w.log.opened ++ [] }
  none_opened = ap (λ xs. record w.log { opened = xs }) (sym (append-nil w.log.opened))

  -- a line is refused
  pub refused_alone : (line : ℕ) (cause : Cause) → S (Record line cause) → Does {T = T} w [] made P S (Err (Record line cause))
  refused_alone line cause why =
      record { answered = tt; stopped = why; device = λ e. absurd (cc); keeps = all_kept w made same; unmade = none_made w made same; logged = λ known. (0, logs known ∙ none_opened) }

  -- or memory was refused, as `?` passes it on
  no_memory : Does {T = T} w [] made P S (Err Memory)
  no_memory = record { answered = tt; stopped = tt; device = λ e. absurd (cc); keeps = all_kept w made same; unmade = none_made w made same; logged = λ known. (0, logs known ∙ none_opened) }

  pub does_not : (stop : Stop) → stop ≡ Memory → (r : Result T Stop) → IsErrAnd r (λ told. told ≡ stop) → Does w [] made P S r
  does_not stop why (Ok t) is = absurd is
  does_not stop why (Err other) is = subst (λ s. Does {T = T} w [] made P S (Err s)) (sym (is ∙ why)) no_memory

-- what is made stands there, whatever was done before
made_from : (u v after : Under) (l m q : Log) (k : Bool) (made : Option (List ℕ)) (text : List ℕ) → Made (record { before = v; after = after; log = m; logged = q; knows = k }) made text
    → Made (record { before = u; after = after; log = l; logged = q; knows = k }) made text
made_from u v after l m q k None text made = tt
made_from u v after l m q k (Some name) text made = made

-- ---- what is answered of what was found

pub asks_where_placed : (form : Form) (made : Option (List ℕ)) → has_places form ≡ true → asks_lines form made ≡ true
asks_where_placed form None asks = asks
asks_where_placed form (Some name) asks = refl

pub asks_where_made : (form : Form) (made : Option (List ℕ)) → is_some made ≡ true → asks_lines form made ≡ true
asks_where_made form None asks = absurd (cc asks)
asks_where_made form (Some name) asks = refl

-- with no places they are printed as they are listed
pub plain_lines_are : (refusals : List Refusal) → placed_text RefusedLines refusals [] ≡ lines told_refusal refusals
plain_lines_are [] = refl
plain_lines_are (refusal ∷ rest) =
    ap (λ t. t ++ placed_text RefusedLines rest []) (append-nil (refused_text RefusedLines refusal)) ∙ ap (λ t. refused_text RefusedLines refusal ++ t) (plain_lines_are rest)

-- the file that is made of refused lines has the features of them, each with where it stands
made_of : (w : World) (made : Option (List ℕ)) (layout : Layout) (under : Under) (names : List (List ℕ)) (list : List Refusal) (text : List ℕ) (collection : List ℕ → List ℕ)
    → AreFeatures made layout under names list text → (told : List (List ℕ)) × ((is_some made ≡ true → TellsPlaces RefusedFeatures layout under names list told)
    × (Made w made (collection text) → Made w made (collection (placed_text RefusedFeatures list told))))
made_of w None layout under names list text collection are = ([], (λ asks. absurd (cc asks), λ made. tt))
made_of w (Some name) layout under names list text collection are =
    let placed = are refl in
    (placed.0, (λ asks. placed.2, λ made. subst (λ (t : List ℕ). Made w (Some name) (collection t)) placed.1 made))

-- refused lines as they are listed, and with where they stand
pub plain_refused : (layout : Layout) (under : Under) (names : List (List ℕ)) (form : Form) (most : Option ℕ) (list : Vec Refusal Global) → has_places form ≡ false
    → IsRefusedList layout under names form most list (Listing (Refused list) most)
plain_refused layout under names FormLines most list none = record {
  told = [];
  stand = λ asks. absurd (cc asks);
  plain = λ same. refl;
  is = refl;
  lines = ap (λ t. t ++ count_line (codes "refused=") most (length list.items)) (sym (plain_lines_are (printed most list.items)));
}
plain_refused layout under names FormRecords most list none = absurd (cc none)
plain_refused layout under names FormObjects most list none = absurd (cc none)

-- those that are printed, and those that stand in the file, are the first of all
printed_first : (told : Told) (list : List Refusal) → (count : ℕ) × (printed (most_of told) list ≡ take count list)
printed_first One list = (1, refl)
printed_first (All None skips) list = (length list, sym (take_all (length list) list (omega arith)))
printed_first (All (Some most) skips) list = (most, refl)

featured_first : (told : Told) (list : List Refusal) → (count : ℕ) × (featured told list ≡ take count list)
featured_first One list = (1, refl)
featured_first (All most skips) list = (length list, sym (take_all (length list) list (omega arith)))

-- so it is told where they stand
module _ (layout : Layout) (under : Under) (names : List (List ℕ)) (told : Told) (counts : List ℕ) (list : List Refusal) (fronts : List (List ℕ)) (are : AreFronts under names counts list fronts) where
  first_placed : (form : RefusedForm) (refusals : List Refusal) → (count : ℕ) × (refusals ≡ take count list) → IsPlaced form layout under names refusals (fronted_text form layout names counts refusals fronts)
  first_placed form refusals first =
      subst (λ (rs : List Refusal). IsPlaced form layout under names rs (fronted_text form layout names counts rs fronts)) (sym first.1)
      (fronted_placed form layout names under fronts counts first.0 list are)

  pub features_placed : (text : List ℕ) → text ≡ fronted_text RefusedFeatures layout names counts (featured told list) fronts → IsPlaced RefusedFeatures layout under names (featured told list) text
  features_placed text is = subst (IsPlaced RefusedFeatures layout under names (featured told list)) (sym is) (first_placed RefusedFeatures (featured told list) (featured_first told list))

  pub printed_placed : (form : RefusedForm) → IsPlaced form layout under names (printed (most_of told) list) (fronted_text form layout names counts (printed (most_of told) list) fronts)
  printed_placed form = first_placed form (printed (most_of told) list) (printed_first told list)

pub placed_refused : (layout : Layout) (asked : Asked) (list : Vec Refusal Global) (counts : List ℕ) (fronts : List (List ℕ)) (text : Vec ℕ Global) → has_places asked.form ≡ true
    → text.items ≡ fronted_text (refused_form asked.form) layout asked.names counts (printed (most_of asked.told) list.items) fronts
    ++ refusals_last asked.form (most_of asked.told) (length list.items) (length (printed (most_of asked.told) list.items))
    → AnswersFronted layout asked list counts fronts (Lines 3 text)
placed_refused layout asked list counts fronts text asks is = λ under are.
    let placed = printed_placed layout under asked.names asked.told counts list.items fronts (are asks) (refused_form asked.form) in
    record {
      told = placed.0;
      stand = λ same. placed.2;
      plain = λ none. absurd (let wrong = sym none ∙ asks in cc);
      is = refl;
      lines = is ∙ ap (λ t. t ++ refusals_last asked.form (most_of asked.told) (length list.items) (length (printed (most_of asked.told) list.items))) placed.1;
    }

module _ (options : Options) (known : Option (List ℕ)) (asked : Asked) where
  -- a map is sound
  pub sound_answers : (w : World) (report : Report) → IfSome known (λ text. IsListingOf options text (Sound report)) → (answer : Answer) → IsSoundList w asked report answer
      → IsSaid (ListAnswers w options known asked) answer
  sound_answers w report are answer so = inl (record {
    report = report;
    sound = IfSome_then known are (λ text have. weaker (records_of (layout_with options) text) _ _ (λ m is. record { sound = is.0; reported = is.1 }) have);
    kept = so.kept;
    is = so.is;
    line = so.line;
  })

  -- it has faults
  pub fault_answers : (w : World) (map : Option TheMap) (faults : Vec MapFault Global) (touched : ℕ)
      → IfSome known (λ text. AreFindingsOf options text (record { listing = Faults faults touched; map = map })) → (answer : Answer)
      → IsFaultList w (layout_with options) asked map (record { faults = faults; touched = touched }) answer → IsSaid (ListAnswers w options known asked) answer
  fault_answers w map faults touched are answer so = inr (inl (record {
    map = map;
    faults = faults;
    touched = touched;
    are = are;
    unsound = IfSome_then known are (λ text is sound. (sound_alone options text (Faults faults touched) is.told).1 sound);
    spoken = so.spoken;
    speak = so.speak;
    kept = so.kept;
    is = so.is;
    lines = so.lines;
  }))

  -- lines are refused
  module _ (w : World) (list : Vec Refusal Global) (are : IfSome known (λ text. IsListingOf options text (Refused list))) where
    -- one alone as a line is a stop
    pub first_refused : (same : w.after ≡ w.before) (logs : w.knows ≡ true → w.logged ≡ w.log) → stops_refused asked.told asked.form ≡ true
        → (stop : Stop) → option_map stop_of_refusal (slice_get list.items 0) ≡ Some stop
        → Does {T = Answer} w [] asked.made (IsSaid (ListAnswers w options known asked)) (StopsList options known asked) (Err stop)
    first_refused same logs one stop first = stops list.items refl first
      where
        stops : (refusals : List Refusal) → list.items ≡ refusals → option_map stop_of_refusal (slice_get refusals 0) ≡ Some stop
            → Does {T = Answer} w [] asked.made (IsSaid (ListAnswers w options known asked)) (StopsList options known asked) (Err stop)
        stops [] is first = absurd (let wrong = first in cc)
        stops (refusal ∷ rest) is first =
            let some : Some (stop_of_refusal refusal) ≡ Some stop = first in
            let same_stop : stop_of_refusal refusal ≡ stop = cc in
            let told = IfSome_then known are (λ text lists. sym (first_is (layout_with options) text) ∙ sym (ap (λ rs. slice_get rs 0) (ap (map pair_of) (sym is) ∙ lists.1))) in
            subst (λ s. Does {T = Answer} w [] asked.made (IsSaid (ListAnswers w options known asked)) (StopsList options known asked) (Err s)) same_stop
            (refused_alone w same logs asked.made _ (StopsList options known asked) refusal.line refusal.cause (one, told))

    -- they are told with where they stand
    told_where : (features told : List (List ℕ)) → (is_some asked.made ≡ true → TellsPlaces RefusedFeatures (layout_with options) w.before asked.names (featured asked.told list.items) features)
        → (has_places asked.form ≡ true → TellsPlaces (refused_form asked.form) (layout_with options) w.before asked.names (printed (most_of asked.told) list.items) told)
        → (has_places asked.form ≡ false → told ≡ []) → AreRefused w options known asked list.items features told
    told_where features told stand places plain = record {
      stand = IfSome_then known are (λ text lists. stand);
      places = IfSome_then known are (λ text lists. places);
      plain = plain;
    }

    -- or all are answered
    pub refused_answers : stops_refused asked.told asked.form ≡ false → IsLeft options (is_skipping asked.told) known (Refused list) None → (prepared : Answer × Vec ℕ Global) → ArePrepared (layout_with options) w.before asked list prepared
        → Made w asked.made (refused_collection asked.names prepared.1.items) → IsSaid (ListAnswers w options known asked) prepared.0
    refused_answers all nothing prepared so made =
        let drawn = made_of w asked.made (layout_with options) w.before asked.names (featured asked.told list.items) prepared.1.items (refused_collection asked.names) so.features in
        inr (inr (inl (record {
          told_all = all;
          list = list;
          are_all = are;
          alone = nothing;
          features = drawn.0;
          told = so.answer.told;
          refused = told_where drawn.0 so.answer.told drawn.1.0 so.answer.stand so.answer.plain;
          kept = drawn.1.1 made;
          is = so.answer.is;
          lines = so.answer.lines;
        })))

    -- or they are skipped
    pub left_answers : (left : LeftFaults) → IsLeft options (is_skipping asked.told) known (Refused list) (Some left) → (texts : LeftTexts)
        → IsLeftPrepared (layout_with options) w.before asked list.items left texts
        → Made w asked.made (faults_text asked.names texts.spoken.counts.items left.map (held texts.spoken.lines) texts.spoken.places.items (featured asked.told left.faults.items) left.touched texts.features.items)
        → ListAnswers w options known asked 3 texts.text.items
    left_answers left found texts so made =
        let drawn = made_of w asked.made (layout_with options) w.before asked.names (featured asked.told list.items) texts.features.items
        (faults_text asked.names texts.spoken.counts.items left.map (held texts.spoken.lines) texts.spoken.places.items (featured asked.told left.faults.items) left.touched) so.features in
        inr (inr (inr (record {
          skipped = found.0;
          list = list;
          are_all = are;
          map = left.map;
          left = record { faults = left.faults; touched = left.touched };
          are = found.1;
          spoken = texts.spoken;
          speak = so.speak;
          features = drawn.0;
          told = so.told;
          refused = told_where drawn.0 so.told drawn.1.0 so.stand so.plain;
          kept = drawn.1.1 made;
          is = refl;
          lines = so.lines;
        })))

-- ---- the same behind reading

refused_from : (u v after : Under) (l m q : Log) (k : Bool) (options : Options) (known : Option (List ℕ)) (asked : Asked) (list : List Refusal) (features told : List (List ℕ)) → v ≡ u
    → AreRefused (record { before = v; after = after; log = m; logged = q; knows = k }) options known asked list features told
    → AreRefused (record { before = u; after = after; log = l; logged = q; knows = k }) options known asked list features told
refused_from u v after l m q k options known asked list features told same refused = record {
  stand = IfSome_then known refused.stand (λ text stand asks texts have. stand asks texts (subst (λ x. HaveTexts x asked.names texts) (sym same) have));
  places = IfSome_then known refused.places (λ text stand asks texts have. stand asks texts (subst (λ x. HaveTexts x asked.names texts) (sym same) have));
  plain = refused.plain;
}

pub answers_from : (u v after : Under) (l m q : Log) (k : Bool) (options : Options) (known : Option (List ℕ)) (asked : Asked) (status : ℕ) (text : List ℕ) → v ≡ u
    → ListAnswers (record { before = v; after = after; log = m; logged = q; knows = k }) options known asked status text
    → ListAnswers (record { before = u; after = after; log = l; logged = q; knows = k }) options known asked status text
answers_from u v after l m q k options known asked status text same (inl sound) =
    inl (record { report = sound.report; sound = sound.sound; kept = made_from u v after l m q k asked.made _ sound.kept; is = sound.is; line = sound.line })
answers_from u v after l m q k options known asked status text same (inr (inl faults)) = inr (inl (record {
  map = faults.map;
  faults = faults.faults;
  touched = faults.touched;
  are = faults.are;
  unsound = faults.unsound;
  spoken = faults.spoken;
  speak = λ asks. subst (λ x. AreSpoken (layout_with options) x asked.names faults.map (featured asked.told faults.faults.items) faults.spoken) same (faults.speak asks);
  kept = made_from u v after l m q k asked.made _ faults.kept;
  is = faults.is;
  lines = faults.lines;
}))
answers_from u v after l m q k options known asked status text same (inr (inr (inl refused))) = inr (inr (inl (record {
  told_all = refused.told_all;
  list = refused.list;
  are_all = refused.are_all;
  alone = refused.alone;
  features = refused.features;
  told = refused.told;
  refused = refused_from u v after l m q k options known asked refused.list.items refused.features refused.told same refused.refused;
  kept = made_from u v after l m q k asked.made _ refused.kept;
  is = refused.is;
  lines = refused.lines;
})))
answers_from u v after l m q k options known asked status text same (inr (inr (inr left))) = inr (inr (inr (record {
  skipped = left.skipped;
  list = left.list;
  are_all = left.are_all;
  map = left.map;
  left = left.left;
  are = left.are;
  spoken = left.spoken;
  speak = λ asks. subst (λ x. AreSpoken (layout_with options) x asked.names left.map (featured asked.told left.left.faults.items) left.spoken) same (left.speak asks);
  features = left.features;
  told = left.told;
  refused = refused_from u v after l m q k options known asked left.list.items left.features left.told same left.refused;
  kept = made_from u v after l m q k asked.made _ left.kept;
  is = left.is;
  lines = left.lines;
})))

-- ---- behind what changes nothing

-- ---- what was noted while files were read

pub are_noted : (layout : Layout) (u v : Under) (names : List (List ℕ)) (counts : List ℕ) (found : Found) → v ≡ u → HaveLines u names counts → IfSome (text_under u names) (λ text. NotesLines layout text found)
    → AreNoted layout v names counts found
are_noted layout u v names counts found same counted notes = λ texts have.
    let before = subst (λ under. HaveTexts under names texts) same have in
    let known = joined_bytes-known (bytes_under u) names texts before in
    (counted texts before, subst (λ (known : Option (List ℕ)). IfSome known (λ text. NotesLines layout text found)) known notes)

module _ (layout : Layout) (under : Under) (names : List (List ℕ)) (counts : List ℕ) (found : Found) (noted : AreNoted layout under names counts found) where
  pub lines_of_faults : (faults : Vec MapFault Global) (touched : ℕ) → found.whole.listing ≡ Faults faults touched → AreLinesOf layout under names counts found.noted.records
  lines_of_faults faults touched is = λ texts have.
      let its = noted texts have in
      (its.0, subst (λ listing. WhereTold listing found.left (found.noted.records ≡ (lines_read layout (left_of layout (joined texts))).entries)) is its.1.records)

  pub lines_of_refused : (list : Vec Refusal Global) → found.whole.listing ≡ Refused list
      → AreFronts under names counts list.items (bytes_of found.noted.fronts.items) × IfSome found.left (λ it. AreLinesOf layout under names counts found.noted.records)
  lines_of_refused list is = (
    λ texts have. let its = noted texts have in (its.0, subst (λ listing. IfRefused listing (λ list. bytes_of found.noted.fronts.items ≡ map (front_in (joined texts)) list.items)) is its.1.fronts),
    where_left found.left refl,
  )
    where
      where_left : (left : Option LeftFaults) → found.left ≡ left → IfSome left (λ it. AreLinesOf layout under names counts found.noted.records)
      where_left None none = tt
      where_left (Some it) some = λ texts have.
          let its = noted texts have in
          let entries = found.noted.records ≡ (lines_read layout (left_of layout (joined texts))).entries in
          (its.0, subst (λ left. WhereTold (Refused list) left entries) some (subst (λ listing. WhereTold listing found.left entries) is its.1.records))

-- ---- what is printed of faults, and what stands in the file

pub faults_answered : (names : List (List ℕ)) (chains : List MapChain) (spoken : Spoken) (form : Form) (told : Told) (faults : Vec MapFault Global) (touched : ℕ) (text : Option (Vec ℕ Global))
    → IsPrepared names chains spoken form told faults.items touched text → answer_text (faults_answer text faults touched told) ≡ told_text names chains spoken form told faults.items touched
faults_answered names chains spoken form told faults touched (Some text) is = is
faults_answered names chains spoken form told faults touched None is = rw (is.0, is.1.2) refl

pub faults_status : (told : Told) (faults : Vec MapFault Global) (touched : ℕ) (text : Option (Vec ℕ Global)) → answer_status (faults_answer text faults touched told) ≡ 1
faults_status told faults touched (Some text) = refl
faults_status told faults touched None = refl

-- the collection of no fault
pub no_faults : (names : List (List ℕ)) (spoken : Spoken) (refused : List ℕ)
    → faults_text names spoken.counts.items None (held spoken.lines) spoken.places.items [] 0 refused ≡ refused_collection names refused
unfolding faults_text
no_faults names spoken refused = refl
