-- Refused lines with their first bytes, as they are told with where they stand.
use Rattle.std.proofs.Common.{◌≡◌, ℕ, zero, suc, ◌+◌, ◌<◌, List, [], ◌∷◌, ◌++◌, Option, map, length, take, get_or, sym, ap, ap₂, ◌∙◌, arith, append_assoc, append-nil, refl}
use Rattle.std.specs.Prelude.{slice_get}
use Rattle.std.specs.Option.{option_map_or}
use Rattle.tl_record.specs.declared.layout.Layout.{Layout}
use Rattle.tl_record.specs.declared.refusal.Refusal.{Refusal}
use Rattle.tigertopo_files.specs.Files.{Under}
use Rattle.tigertopo_files.specs.Joining.{joined}
use Rattle.tigertopo_faults.specs.declared.hint.form.RefusedForm.{RefusedForm}
use Rattle.tigertopo_faults.specs.Places.LinePlaces.{line_count}
use Rattle.tl_record.specs.Fronts.{front_in}
use Rattle.tigertopo_faults.specs.Hint.Fronts.{fronted_place, fronted_places, fronted_text}
use Rattle.tigertopo_faults.specs.Hint.Placed.{refused_text, no_place, place_among, places_of, IsPlaced}
use Rattle.tigertopo_faults.specs.Hint.Telling.{HaveTexts}

module _ (form : RefusedForm) (layout : Layout) (names : List (List ℕ)) where
  -- ---- one more is told

  module _ {A : Type 0} (h : A → List ℕ) (counts : List ℕ) where
    -- so many of these refused lines, with these first bytes
    abbrev told_so_far : List Refusal → List A → List ℕ
    told_so_far refusals fronts = fronted_text form layout names counts refusals (map h fronts)

    -- the place of one with these first bytes, if it has some
    abbrev told_at : Refusal → Option A → List ℕ
    told_at refusal front = option_map_or (λ (its : A). fronted_place form layout names counts refusal (h its)) front (no_place form)

    told_step : (refusals : List Refusal) (fronts : List A) (i : ℕ) (refusal : Refusal) → i < length refusals → refusal ≡ get_or refusals i refusal
        → told_so_far (take (i + 1) refusals) fronts ≡ told_so_far (take i refusals) fronts ++ (refused_text form refusal ++ told_at refusal (slice_get fronts i))
    told_step [] fronts i refusal within is = absurd (omega arith)
    told_step (first ∷ rest) [] zero refusal within is =
        append-nil (refused_text form first ++ no_place form) ∙ ap (λ r. refused_text form r ++ no_place form) (sym is)
    told_step (first ∷ rest) (front ∷ fronts) zero refusal within is =
        append-nil (refused_text form first ++ fronted_place form layout names counts first (h front))
        ∙ ap (λ r. refused_text form r ++ fronted_place form layout names counts r (h front)) (sym is)
    told_step (first ∷ rest) [] (suc i) refusal within is =
        let next : suc i + 1 ≡ suc (i + 1) = omega arith in
        ap (λ n. told_so_far (take n (first ∷ rest)) []) next
        ∙ ap (λ t. refused_text form first ++ no_place form ++ t) (told_step rest [] i refusal (omega (arith, within)) is)
        ∙ sym (append_assoc (refused_text form first ++ no_place form) (told_so_far (take i rest) []) (refused_text form refusal ++ no_place form))
    told_step (first ∷ rest) (front ∷ fronts) (suc i) refusal within is =
        let next : suc i + 1 ≡ suc (i + 1) = omega arith in
        let place = fronted_place form layout names counts first (h front) in
        ap (λ n. told_so_far (take n (first ∷ rest)) (front ∷ fronts)) next
        ∙ ap (λ t. refused_text form first ++ place ++ t) (told_step rest fronts i refusal (omega (arith, within)) is)
        ∙ sym (append_assoc (refused_text form first ++ place) (told_so_far (take i rest) fronts) (refused_text form refusal ++ told_at refusal (slice_get fronts i)))

    pub told_next : (refusals : List Refusal) (fronts : List A) (i : ℕ) (refusal : Refusal) (front : Option A) → i < length refusals → refusal ≡ get_or refusals i refusal → slice_get fronts i ≡ front
        → told_so_far (take i refusals) fronts ++ refused_text form refusal ++ told_at refusal front ≡ told_so_far (take (i + 1) refusals) fronts
    told_next refusals fronts i refusal front within is here =
        append_assoc (told_so_far (take i refusals) fronts) (refused_text form refusal) (told_at refusal front)
        ∙ ap (λ (f : Option A). told_so_far (take i refusals) fronts ++ (refused_text form refusal ++ told_at refusal f)) (sym here) ∙ sym (told_step refusals fronts i refusal within is)

  -- ---- where the first bytes are those of a text, it is told where the lines stand in it

  fronts_stand : (texts : List (List ℕ)) (count : ℕ) (refusals : List Refusal)
      → fronted_places form layout names (map line_count texts) (take count refusals) (map (front_in (joined texts)) refusals) ≡ places_of form layout names texts (take count refusals)
  fronts_stand texts zero [] = refl
  fronts_stand texts zero (refusal ∷ rest) = refl
  fronts_stand texts (suc count) [] = refl
  fronts_stand texts (suc count) (refusal ∷ rest) = ap (λ (l : List (List ℕ)). place_among form layout names texts refusal ∷ l) (fronts_stand texts count rest)

  -- of the first so many of refused lines
  pub fronts_placed : (texts fronts : List (List ℕ)) (counts : List ℕ) (count : ℕ) (refusals : List Refusal) → counts ≡ map line_count texts → fronts ≡ map (front_in (joined texts)) refusals
      → fronted_places form layout names counts (take count refusals) fronts ≡ places_of form layout names texts (take count refusals)
  fronts_placed texts fronts counts count refusals counted are =
      ap₂ (λ (c : List ℕ) (f : List (List ℕ)). fronted_places form layout names c (take count refusals) f) counted are ∙ fronts_stand texts count refusals

  -- so is the text of them
  pub fronted_placed : (under : Under) (fronts : List (List ℕ)) (counts : List ℕ) (count : ℕ) (refusals : List Refusal)
      → ((texts : List (List ℕ)) → HaveTexts under names texts → (counts ≡ map line_count texts) × (fronts ≡ map (front_in (joined texts)) refusals))
      → IsPlaced form layout under names (take count refusals) (fronted_text form layout names counts (take count refusals) fronts)
  fronted_placed under fronts counts count refusals are = (
    fronted_places form layout names counts (take count refusals) fronts,
    refl,
    λ texts have. let both = are texts have in fronts_placed texts fronts counts count refusals both.0 both.1,
  )
