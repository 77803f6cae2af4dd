-- Records of which chains that are told twice are joined fit their columns as all records do.
use Rattle.std.proofs.Common.{ℕ, Bool, true, false, inl, inr, List, [], ◌∷◌, map, filter, Option, Some, None}
use Rattle.std.specs.List.{list_any, AllByRecursion}
use Rattle.std.specs.Prelude.{⊤}
use Rattle.std.proofs.lemmas.Bool.{cases_Bool}
use Rattle.tl_record_key.specs.declared.key.PolyKey.{PolyKey}
use Rattle.tl_record.specs.declared.options.Options.{Options}
use Rattle.tl_record.specs.declared.record.Record.{Record}
use Rattle.tl_record.specs.declared.record.Record.TheVariants.{Chain, Shape, Sides, PolyPoint, Landmark, AreaLink}
use Rattle.tl_record.specs.Layout.{layout_with}
use Rattle.tl_record.specs.Joining.{tells_same, is_of_twice_told, with_sides_of, one_of_two, one_of, joined_one, before_record, joined_entries, joined}
use Rattle.tl_record.specs.Records.{Records, lines_read, joined_where, records_of}
use Rattle.tigertopo_border.proofs.ColumnLemmas.{Fits, lines_fit}

-- those of records that pass a test
passing_fit : (p : Record → Bool) (rs : List Record) → AllByRecursion Fits rs → AllByRecursion Fits (filter p rs)
passing_fit p [] all = tt
passing_fit p (r ∷ rs) all = elim (cases_Bool (p r)) [
  | inl passes ↦ rw passes (all.0, passing_fit p rs all.1)
  | inr fails ↦ rw fails (passing_fit p rs all.1)
]

-- one of two
both_sides : (t : ℕ) (s e : Option ℕ) (l r : Option PolyKey) (second : Record) → Fits second → Fits (with_sides_of t s e l r second)
both_sides t s e l r (Chain u from to) fit = fit
both_sides t s e l r (Shape u n pairs) fit = fit
both_sides t s e l r (Sides u start end left right) fit = tt
both_sides t s e l r (PolyPoint key point) fit = fit
both_sides t s e l r (Landmark land point) fit = fit
both_sides t s e l r (AreaLink key land) fit = fit

second_fits : (first second : Record) → Fits second → Fits (one_of_two first second)
second_fits (Chain u from to) second fit = fit
second_fits (Shape u n pairs) second fit = fit
second_fits (Sides t s e l r) second fit = both_sides t s e l r second fit
second_fits (PolyPoint key point) second fit = fit
second_fits (Landmark land point) second fit = fit
second_fits (AreaLink key land) second fit = fit

one_fits : (r : Record) (told : List Record) → Fits r → AllByRecursion Fits told → Fits (one_of r told)
one_fits r [] fit all = fit
one_fits r (first ∷ []) fit all = fit
one_fits r (first ∷ second ∷ []) fit all = second_fits first second all.1.0
one_fits r (first ∷ second ∷ third ∷ rest) fit all = fit

-- what stands in the place of a record
abbrev FitsIfAny : Option Record → Type 0
FitsIfAny None = ⊤
FitsIfAny (Some r) = Fits r

left_fits : (rs : List Record) (r : Record) (behind : List Record) → AllByRecursion Fits rs → Fits r → FitsIfAny (joined_one rs r behind)
unfolding joined_one
left_fits rs r behind all fit = elim (cases_Bool (is_of_twice_told rs r)) [
  | inl twice ↦ rw twice (elim (cases_Bool (list_any (tells_same r) behind)) [
    | inl again ↦ rw again tt
    | inr last ↦ rw last (one_fits r (filter (tells_same r) rs) fit (passing_fit (tells_same r) rs all))
  ])
  | inr once ↦ rw once fit
]

before_fits : (number : ℕ) (one : Option Record) (entries : List (ℕ × Record)) → FitsIfAny one → AllByRecursion Fits (map (λ (e : ℕ × Record). e.1) entries)
    → AllByRecursion Fits (map (λ (e : ℕ × Record). e.1) (before_record number one entries))
before_fits number None entries fit all = all
before_fits number (Some r) entries fit all = (fit, all)

entries_joined_fit : (rs : List Record) (entries : List (ℕ × Record)) → AllByRecursion Fits rs → AllByRecursion Fits (map (λ (e : ℕ × Record). e.1) entries)
    → AllByRecursion Fits (map (λ (e : ℕ × Record). e.1) (joined_entries rs entries))
entries_joined_fit rs [] all fit = tt
entries_joined_fit rs (entry ∷ entries) all fit =
    before_fits entry.0 (joined_one rs entry.1 (map (λ (e : ℕ × Record). e.1) entries)) (joined_entries rs entries)
    (left_fits rs entry.1 (map (λ (e : ℕ × Record). e.1) entries) all fit.0) (entries_joined_fit rs entries all fit.1)

joined_fit : (entries : List (ℕ × Record)) → AllByRecursion Fits (map (λ (e : ℕ × Record). e.1) entries) → AllByRecursion Fits (map (λ (e : ℕ × Record). e.1) (joined entries))
unfolding joined
joined_fit entries all = entries_joined_fit (map (λ (e : ℕ × Record). e.1) entries) entries all all

where_joined : (joins : Bool) (all : Records) → AllByRecursion Fits (map (λ (e : ℕ × Record). e.1) all.entries)
    → AllByRecursion Fits (map (λ (e : ℕ × Record). e.1) (joined_where joins all).entries)
where_joined true all fit = joined_fit all.entries fit
where_joined false all fit = fit

pub records_fit : (options : Options) (text : List ℕ) → AllByRecursion Fits (map (λ (e : ℕ × Record). e.1) (records_of (layout_with options) text).entries)
records_fit options text = where_joined (layout_with options).joins (lines_read (layout_with options) text) (lines_fit options text)
