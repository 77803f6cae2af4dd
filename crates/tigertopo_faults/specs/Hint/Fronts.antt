-- Refused lines whose first bytes are held, in whatever form they are told.
use Rattle.std.specs.Prelude.{ℕ, List, [], ◌∷◌, slice_index_or}
use Rattle.std.specs.Option.{option_map_or}
use Rattle.tl_record.specs.declared.layout.Layout.{Layout}
use Rattle.tl_record.specs.declared.refusal.Refusal.{Refusal}
use Rattle.tigertopo_faults.specs.Places.LinePlaces.{place_of}
use Rattle.tigertopo_faults.specs.declared.hint.form.RefusedForm.{RefusedForm}
use Rattle.tigertopo_faults.specs.Hint.Placed.{no_place, placed_text, told_place}

-- where a refused line stands that begins with these bytes, of files with these names and so many lines each
abbrev pub fronted_place : RefusedForm → Layout → List (List ℕ) → List ℕ → Refusal → List ℕ → List ℕ
fronted_place form layout names counts refusal front =
    option_map_or (λ place. told_place form layout (slice_index_or names place.0 []) place.1 front refusal.cause)
    (place_of counts refusal.line) (no_place form)

-- where each of these stands, as far as their first bytes are held
abbrev pub fronted_places : RefusedForm → Layout → List (List ℕ) → List ℕ → List Refusal → List (List ℕ) → List (List ℕ)
fronted_places form layout names counts refusals [] = []
fronted_places form layout names counts [] (front ∷ fronts) = []
fronted_places form layout names counts (refusal ∷ rest) (front ∷ fronts) =
    fronted_place form layout names counts refusal front ∷ fronted_places form layout names counts rest fronts

-- what is told of refused lines with where they stand; of those whose first bytes aren't held no places are told
abbrev pub fronted_text : RefusedForm → Layout → List (List ℕ) → List ℕ → List Refusal → List (List ℕ) → List ℕ
fronted_text form layout names counts refusals fronts = placed_text form refusals (fronted_places form layout names counts refusals fronts)
