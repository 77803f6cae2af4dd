-- What is told of refused lines one after the other, each with where it stands.
use Rattle.std.specs.Prelude.{◌≡◌, ℕ, List, [], ◌∷◌, ◌++◌, map, slice_index_or}
use Rattle.std.specs.Option.{option_map_or}
use Rattle.tl_record.specs.declared.layout.Layout.{Layout}
use Rattle.tl_record.specs.declared.refusal.Refusal.{Refusal}
use Rattle.tl_record.specs.Messages.{refusal_text}
use Rattle.tl_record.specs.declared.stop.Cause.{Cause}
use Rattle.tl_cert_output.specs.Writing.{line_of}
use Rattle.tigertopo_files.specs.Files.{Under}
use Rattle.tigertopo_files.specs.Joining.{joined}
use Rattle.tigertopo_faults.specs.Places.LinePlaces.{line_count, place_of}
use Rattle.tigertopo_faults.specs.declared.hint.form.RefusedForm.{RefusedForm}
use Rattle.tigertopo_faults.specs.declared.hint.form.RefusedForm.TheVariants.{Lines, Objects, Features}
use Rattle.tl_record.specs.Fronts.{front_in}
use Rattle.tigertopo_faults.specs.Hint.Hints.{place_text}
use Rattle.tigertopo_faults.specs.Hint.Objects.{place_object, refused_object, refused_end, refused_feature, feature_end}
use Rattle.tigertopo_faults.specs.Hint.Telling.{HaveTexts}

-- the line of a refused line, or the beginning of its object or of its feature
abbrev pub refused_text : RefusedForm → Refusal → List ℕ
refused_text Lines refusal = line_of (refusal_text refusal.line refusal.cause)
refused_text Objects refusal = refused_object refusal.line refusal.cause
refused_text Features refusal = refused_feature refusal.line refusal.cause

-- what stands behind it where no place is told
abbrev pub no_place : RefusedForm → List ℕ
no_place Lines = []
no_place Objects = refused_end
no_place Features = feature_end

-- the place of a refused line: a file of this name, and the line with this number and these bytes
abbrev pub told_place : RefusedForm → Layout → List ℕ → ℕ → List ℕ → Cause → List ℕ
told_place Lines layout name number line cause = line_of (place_text layout name number line cause)
told_place Objects layout name number line cause = place_object layout name number line cause ++ refused_end
told_place Features layout name number line cause = place_object layout name number line cause ++ feature_end

-- refused lines one after the other, each with what is told of its place, as far as that is told
abbrev pub placed_text : RefusedForm → List Refusal → List (List ℕ) → List ℕ
placed_text form [] told = []
placed_text form (refusal ∷ rest) [] = refused_text form refusal ++ no_place form ++ placed_text form rest []
placed_text form (refusal ∷ rest) (place ∷ told) = refused_text form refusal ++ place ++ placed_text form rest told

-- where a refused line stands among the texts of these names
abbrev pub place_among : RefusedForm → Layout → List (List ℕ) → List (List ℕ) → Refusal → List ℕ
place_among form layout names texts refusal =
    option_map_or (λ place. told_place form layout (slice_index_or names place.0 []) place.1 (front_in (joined texts) refusal) refusal.cause)
    (place_of (map line_count texts) refusal.line) (no_place form)

-- where each of these stands
abbrev pub places_of : RefusedForm → Layout → List (List ℕ) → List (List ℕ) → List Refusal → List (List ℕ)
places_of form layout names texts refusals = map (place_among form layout names texts) refusals

-- where the text of each file is known, it is told of each where it stands
abbrev pub TellsPlaces : RefusedForm → Layout → Under → List (List ℕ) → List Refusal → List (List ℕ) → Type 0
TellsPlaces form layout under names refusals told =
    (texts : List (List ℕ)) → HaveTexts under names texts → told ≡ places_of form layout names texts refusals

-- a text of refused lines, each with where it stands
abbrev pub IsPlaced : RefusedForm → Layout → Under → List (List ℕ) → List Refusal → List ℕ → Type 0
IsPlaced form layout under names refusals text =
    (told : List (List ℕ)) × (text ≡ placed_text form refusals told) × TellsPlaces form layout under names refusals told
