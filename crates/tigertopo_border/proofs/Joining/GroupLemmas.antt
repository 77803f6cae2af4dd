-- Texts that are joined in groups draw what they draw together.
use Rattle.std.proofs.Common.{◌≡◌, ◌↔◌, ℕ, List, [], ◌∷◌, ◌++◌, map, None, refl, sym, ap, subst, ◌∙◌, inl, inr, append_assoc}
use Rattle.std.specs.List.{flat_map, AllByRecursion}
use Rattle.std.proofs.lemmas.Bool.{cases_Bool}
use Rattle.std.proofs.lemmas.List.{map-append}
use Rattle.std.proofs.lemmas.List.Elements.{filter-append}
use Rattle.tl_record.specs.declared.options.Options.{Options}
use Rattle.tl_record.specs.declared.options.TheConstants.{PLAIN}
use Rattle.tl_record.specs.declared.record.Record.{Record}
use Rattle.tl_record.specs.Layout.{layout_with}
use Rattle.tl_record.specs.Records.{lines_read}
use Rattle.tl_map.specs.Joined.Told.{joined_records}
use Rattle.tl_map_county.specs.TheMap.{TheMap}
use Rattle.tl_map_rules.specs.MapOf.{IsMapOf}
use Rattle.tigertopo_border.specs.Whole.Sound.{IsSoundWithFaces, AreSoundWithFaces}
use Rattle.tigertopo_files.specs.Joining.{joined}
use Rattle.tigertopo_border.specs.Parts.{is_of_no_landmark, without_landmarks, all_records, HaveNoFaultButMany}
use Rattle.tigertopo_border.specs.InParts.{joining, line_records, records_together, border_texts, IsDrawnTogether, AreReadApart, AreNames, EmptyComeLast, IsDrawnInParts}
use Rattle.tigertopo_border.proofs.Joining.SeveralLemmas.{all_at}
use Rattle.tigertopo_border.proofs.Joining.DrawnLemmas.{by_places}
use Rattle.tigertopo_border.proofs.Joining.TextsLemmas.{none_refused, lines_together}
use Rattle.tigertopo_border.proofs.Joining.EnoughLemmas.{HaveBorders, have, decided}

-- ---- records of groups

without_twice : (rs : List Record) → without_landmarks (without_landmarks rs) ≡ without_landmarks rs
without_twice [] = refl
without_twice (r ∷ rs) = elim (cases_Bool (is_of_no_landmark r)) [
  | inl kept ↦ rw kept (rw kept (ap (λ xs. r ∷ xs) (without_twice rs)))
  | inr left ↦ rw left (without_twice rs)
]

without_all : (lists : List (List Record)) → without_landmarks (all_records lists) ≡ all_records lists
without_all [] = refl
without_all (rs ∷ lists) =
    let first = without_twice rs in
    let rest = without_all lists in
    filter-append is_of_no_landmark (without_landmarks rs) (all_records lists) ∙ (λ i. first i ++ rest i)

all_both : (xs ys : List (List Record)) → all_records (xs ++ ys) ≡ all_records xs ++ all_records ys
all_both [] ys = refl
all_both (rs ∷ xs) ys = ap (λ rest. without_landmarks rs ++ rest) (all_both xs ys) ∙ sym (append_assoc (without_landmarks rs) (all_records xs) (all_records ys))

all_first : {X : Type 0} (P : X → Type 0) (xs ys : List X) → AllByRecursion P (xs ++ ys) → AllByRecursion P xs
all_first P [] ys all = tt
all_first P (x ∷ xs) ys all = (all.0, all_first P xs ys all.1)

all_second : {X : Type 0} (P : X → Type 0) (xs ys : List X) → AllByRecursion P (xs ++ ys) → AllByRecursion P ys
all_second P [] ys all = all
all_second P (x ∷ xs) ys all = all_second P xs ys all.1

abbrev IsNotRefused : Options → List ℕ → Type 0
IsNotRefused options text = (lines_read (layout_with options) text).refusal ≡ None

abbrev in_a_row : List (List (List ℕ)) → List (List ℕ)
in_a_row groups = flat_map (λ (group : List (List ℕ)). group) groups

group_records : (options : Options) (groups : List (List (List ℕ))) → AllByRecursion (IsNotRefused (joining options)) (map joined groups) → AllByRecursion (IsNotRefused options) (in_a_row groups)
    → all_records (map (line_records (joining options)) (map joined groups)) ≡ all_records (map (line_records options) (in_a_row groups))
group_records options [] together apart = refl
group_records options (group ∷ groups) together apart =
    let own = all_first (IsNotRefused options) group (in_a_row groups) apart in
    let lines = lines_together options group together.0 (λ k text at. all_at (IsNotRefused options) group k text own at) in
    let first : without_landmarks (line_records (joining options) (joined group)) ≡ all_records (map (line_records options) group) = ap without_landmarks lines ∙ without_all (map (line_records options) group) in
    let rest = group_records options groups together.1 (all_second (IsNotRefused options) group (in_a_row groups) apart) in
    (λ i. first i ++ rest i) ∙ sym (all_both (map (line_records options) group) (map (line_records options) (in_a_row groups)))
    ∙ ap all_records (sym (map-append (line_records options) group (in_a_row groups)))

-- ---- in steps

module _ (options : Options) (texts names : List (List ℕ)) (parts : List TheMap) (m border : TheMap) (read : IsDrawnInParts options texts names parts m border)
    (groups : List (List (List ℕ))) (grouped : flat_map (λ (group : List (List ℕ)). group) groups ≡ border_texts names parts) (states : List TheMap)
    (apart : AreReadApart (joining PLAIN) (map joined groups) states) where
  borders_fine : AllByRecursion (IsNotRefused PLAIN) (in_a_row groups)
  borders_fine =
      let borders : HaveBorders names parts = have options texts names parts m border read in
      subst (AllByRecursion (IsNotRefused PLAIN)) (sym grouped) (by_places (IsNotRefused PLAIN) (border_texts names parts) (none_refused PLAIN (border_texts names parts) borders.borders m borders.apart))

  groups_fine : AllByRecursion (IsNotRefused (joining PLAIN)) (map joined groups)
  groups_fine = by_places (IsNotRefused (joining PLAIN)) (map joined groups) (none_refused (joining PLAIN) (map joined groups) states m apart)

  same_records : records_together (joining PLAIN) (map joined groups) ≡ records_together PLAIN (border_texts names parts)
  same_records = ap joined_records (group_records PLAIN groups groups_fine borders_fine) ∙ ap (records_together PLAIN) grouped

  states_together : IsDrawnTogether (joining PLAIN) (map joined groups) border
  states_together = record {
    no_fault = subst HaveNoFaultButMany (sym same_records) read.borders.no_fault;
    map = subst (λ rs. IsMapOf rs border) (sym same_records) read.borders.map;
  }

  pub decided_in_steps : (state_names : List (List ℕ)) (nation : TheMap) → EmptyComeLast states → AreNames state_names states → IsDrawnTogether PLAIN (border_texts state_names states) nation
      → IsSoundWithFaces m ↔ (AreSoundWithFaces parts × AreSoundWithFaces states × IsSoundWithFaces nation)
  decided_in_steps state_names nation last named nation_is =
      let counties = decided options texts names parts m border read in
      let in_states = decided (joining PLAIN) (map joined groups) state_names states border nation
      (record { apart = apart; together = states_together; empty_last = last; named = named; borders = nation_is }) in (
        λ sound. let both = counties.0 sound in let states_sound = in_states.0 both.1 in (both.0, states_sound.0, states_sound.1),
        λ sound. counties.1 (sound.0, in_states.1 (sound.1, sound.2)),
      )
