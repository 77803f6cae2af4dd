-- What one more answer of a reader adds to a list of refused lines.
use Rattle.std.proofs.Common.{◌≡◌, ℕ, List, [], ◌∷◌, ◌++◌, map, Option, None, Some, IfSome, Result, Ok, Err, IfOk, Vec, Global, refl, sym, ap, ◌∙◌, append_assoc, append-nil}
use Rattle.std.specs.Option.{option_map}
use Rattle.std.proofs.lemmas.List.{map-append}
use Rattle.tl_record.specs.declared.stop.Cause.{Cause}
use Rattle.tl_record.specs.declared.refusal.Refusal.{Refusal}
use Rattle.tl_record.specs.declared.reader.Standing.{Standing}
use Rattle.tl_record.specs.declared.reader.Standing.TheVariants.{Reading, Ended, Stopped}
use Rattle.tl_record.specs.declared.reader.RecordReader.{RecordReader}
use Rattle.tl_record.specs.declared.stop.ReadStop.TheVariants.{Refused}
use Rattle.tl_record.specs.declared.stop.ReadStop.TheVariants as stop
use Rattle.tl_record.specs.Searching.{pair_of, GivesRefusal, RepeatsSearch, SettlesSearch, failed_once, goes_on}
use Rattle.tl_map_rules.specs.Listing.Refusals.Listing.{ListsAll, ListsSoFar}

-- these refusals, and behind them those that come, where they are known
abbrev pub all_behind : List Refusal → Option (List (ℕ × Cause)) → Option (List (ℕ × Cause))
all_behind list came = option_map (λ refusals. map pair_of list ++ refusals) came

pub lists_behind : (list : List Refusal) (came : Option (List (ℕ × Cause))) → ListsSoFar (all_behind list came) came list
lists_behind list None = tt
lists_behind list (Some refusals) = (refusals, refl, refl)

pub lists_more : (known old new : Option (List (ℕ × Cause))) (list : List Refusal) (refusal : Refusal) → ListsSoFar known old list → GivesRefusal old new (Ok (Some refusal))
    → ListsSoFar known new (list ++ refusal ∷ [])
lists_more None old new list refusal so_far gives = tt
lists_more (Some all) None new list refusal so_far gives = absurd (let wrong = so_far.1 in cc)
lists_more (Some all) (Some left) new list refusal so_far gives =
    let same : left ≡ so_far.0 = let is = so_far.1 in cc in (
      gives.0,
      gives.1,
      ap (λ (l : List (ℕ × Cause)). l ++ gives.0) (map-append pair_of list (refusal ∷ [])) ∙ append_assoc (map pair_of list) (pair_of refusal ∷ []) gives.0
          ∙ ap (λ (l : List (ℕ × Cause)). map pair_of list ++ l) (sym gives.2 ∙ same) ∙ so_far.2,
    )

pub lists_all : (known old new : Option (List (ℕ × Cause))) (list : List Refusal) → ListsSoFar known old list → GivesRefusal old new (Ok None) → IfSome known (λ refusals. ListsAll refusals list)
lists_all None old new list so_far gives = tt
lists_all (Some all) None new list so_far gives = absurd (let wrong = so_far.1 in cc)
lists_all (Some all) (Some left) new list so_far gives =
    let same : left ≡ so_far.0 = let is = so_far.1 in cc in
    sym (append-nil (map pair_of list)) ∙ ap (λ (l : List (ℕ × Cause)). map pair_of list ++ l) (sym gives ∙ same) ∙ so_far.2

pub lists_whole : (first : List Refusal) (came old new : Option (List (ℕ × Cause))) (list : List Refusal) → ListsSoFar (all_behind first came) old list → GivesRefusal old new (Ok None)
    → IfSome came (λ refusals. ListsAll (map pair_of first ++ refusals) list)
lists_whole first None old new list so_far gives = tt
lists_whole first (Some refusals) old new list so_far gives = lists_all (Some (map pair_of first ++ refusals)) old new list so_far gives

-- a search that gives a refusal goes on, before and after
pub still_goes_on : {R : Type 0} (standing after : Standing) (old new : RecordReader R) (refusal : Refusal) → RepeatsSearch standing old new (Ok (Some refusal))
    → SettlesSearch after (Ok (Some refusal)) → goes_on after ≡ goes_on standing
still_goes_on Reading after old new refusal repeats settles = ap goes_on settles
still_goes_on Ended after old new refusal repeats settles = absurd (let wrong = repeats.0 in cc)
still_goes_on (Stopped (Refused line cause)) after old new refusal repeats settles = ap goes_on settles
still_goes_on (Stopped stop.Device) after old new refusal repeats settles = absurd (let wrong = repeats.0 in cc)

-- a failed read is told as what it is
pub failure_told : (standing now : Standing) (first old new : ℕ) → old ≡ first → goes_on now ≡ goes_on standing → new ≡ failed_once now old → new ≡ failed_once standing first
failure_told standing now first old new same goes told = rw (← same, ← goes) told

-- of a whole text
pub lists_text : (f : List ℕ → List (ℕ × Cause)) (known : Option (List ℕ)) (all : Option (List (ℕ × Cause))) (E : Type 0) (result : Result (Vec Refusal Global) E) → all ≡ option_map f known
    → IfOk result (λ list. IfSome all (λ refusals. ListsAll refusals list.items)) → IfOk result (λ list. IfSome known (λ text. ListsAll (f text) list.items))
lists_text f None all E (Ok list) is listed = tt
lists_text f (Some text) all E (Ok list) is listed = rw is at listed
lists_text f known all E (Err stop) is listed = tt
