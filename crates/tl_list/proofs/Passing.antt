-- Refused lines that are passed over, or at which a reader stays.
use Rattle.std.proofs.Common.{◌≡◌, ℕ, ◌+◌, ◌<◌, ◌≤◌, Bool, true, false, List, [], ◌∷◌, ◌++◌, map, Option, Some, None, Ok, Err, IfSome, refl, sym, ap, ◌∙◌, arith, inl, inr, subst, append_assoc, append-nil, Vec, Global, Result, ◌⊎◌, ◌==◌, ◌&&◌}
use Rattle.std.specs.Prelude.{nat_lt, IfOk}
use Rattle.std.specs.List.{Contains}
use Rattle.std.proofs.lemmas.Bool.{eq-eqb, ltb-false}
use Rattle.std.proofs.lemmas.List.{map-append}
use Rattle.std.proofs.lemmas.List.Elements.{Contains-append_left, Contains-append_right}
use Rattle.tl_record.specs.declared.stop.Cause.{Cause}
use Rattle.tl_record.specs.declared.stop.ReadStop.TheVariants.{Refused}
use Rattle.tl_record.specs.declared.refusal.Refusal.{Refusal}
use Rattle.tl_record.specs.declared.reader.Standing.{Standing}
use Rattle.tl_record.specs.declared.reader.Standing.TheVariants.{Reading, Ended, Stopped}
use Rattle.tl_record.specs.declared.reader.RecordReader.{RecordReader}
use Rattle.tl_record.specs.Limits.{most_lines}
use Rattle.tl_record.specs.Reader.{lines_of, KeepsRefusals, Repeats, TellsFailure, WhereReading}
use Rattle.tl_record.specs.Searching.{pair_of, GivesRefusal, goes_on}
use Rattle.tl_record.specs.Leaving.{IsFirst, is_passable}
use Rattle.tl_cert_output.specs.declared.stop.Stop.{Stop}
use Rattle.tl_cert_output.specs.declared.stop.Stop.TheVariants.{Record, Memory, Budget}
use Rattle.tl_cert_output.specs.declared.stop.Stop.TheVariants.{Device as DeviceStop}
use Rattle.tl_cert_output.specs.Stops.{TellsDevice}
use Rattle.tl_map_rules.specs.Listing.Refusals.Listing.{BeginsWith, ListsAll, ListsSoFar}
use Rattle.tl_map_rules.specs.Listing.Refusals.Listing.{TellsDevice as TellsDeviceAt}
use Rattle.tl_list.specs.Keeping.Reading.{IsStopped, ListsFrom}
use Rattle.tl_decide.proofs.Emptiness.{none_held}

first_held : (first : Refusal) → Contains (first ∷ []) first
first_held first = (0, omega arith, refl)

-- ---- the list of refused lines

-- none yet
pub none_yet : (known : Option (List (ℕ × Cause))) → ListsSoFar known known []
none_yet None = tt
none_yet (Some all) = (all, refl, refl)

-- all of them
pub all_listed : (known old new : Option (List (ℕ × Cause))) (list : List Refusal) → ListsSoFar known old list → KeepsRefusals old new → new ≡ Some [] → IfSome known (λ rs. ListsAll rs list)
all_listed None old new list so_far keeps none = tt
all_listed (Some all) old new list so_far keeps none =
    let kept : new ≡ Some so_far.0 = rw so_far.1 at keeps in
    let end : so_far.0 ≡ [] = let same : Some so_far.0 ≡ Some [] = sym kept ∙ none in cc in
    sym (append-nil (map pair_of list)) ∙ ap (λ (rs : List (ℕ × Cause)). map pair_of list ++ rs) (sym end) ∙ so_far.2

-- refusals that stay to come
pub lists_kept : (known old new : Option (List (ℕ × Cause))) (list : List Refusal) → ListsSoFar known old list → KeepsRefusals old new → ListsSoFar known new list
lists_kept None old new list so_far keeps = tt
lists_kept (Some all) old new list so_far keeps = let kept : new ≡ Some so_far.0 = rw so_far.1 at keeps in (so_far.0, kept, so_far.2)

-- the first is given, and those behind it are to come
pub first_given : (old behind new : Option (List (ℕ × Cause))) (line : ℕ) (cause : Cause) → IsFirst old behind (line, cause) → KeepsRefusals behind new
    → GivesRefusal old new (Ok (Some (record { line = line; cause = cause })))
first_given None behind new line cause first keeps = tt
first_given (Some all) behind new line cause first keeps = let kept : new ≡ Some first.0 = rw first.1 at keeps in (first.0, kept, first.2)

-- the reader gives it again, and lists those behind it
pub lists_given : (front list : List Refusal) (first : Refusal) (old mid : Option (List (ℕ × Cause))) (given : Refusal) → GivesRefusal old mid (Ok (Some given))
    → IfSome mid (λ rs. ListsAll (map pair_of (front ++ first ∷ []) ++ rs) list)
    → IfSome old (λ rs. (behind : List (ℕ × Cause)) → rs ≡ pair_of first ∷ behind → ListsAll (map pair_of front ++ rs) list)
lists_given front list first None mid given gives lists = tt
lists_given front list first (Some rs) mid given gives lists = λ behind is.
    let all : map pair_of list ≡ map pair_of (front ++ first ∷ []) ++ gives.0 = rw gives.1 at lists in
    let rest : gives.0 ≡ behind = let same : pair_of given ∷ gives.0 ≡ pair_of first ∷ behind = sym gives.2 ∙ is in cc in
    all ∙ ap (λ (l : List (ℕ × Cause)). l ++ gives.0) (map-append pair_of front (first ∷ [])) ∙ append_assoc (map pair_of front) (pair_of first ∷ []) gives.0
    ∙ ap (λ (l : List (ℕ × Cause)). map pair_of front ++ pair_of first ∷ l) rest ∙ ap (λ (l : List (ℕ × Cause)). map pair_of front ++ l) (sym is)

pub none_given : (front list : List Refusal) (first : Refusal) (old mid : Option (List (ℕ × Cause))) → GivesRefusal old mid (Ok None)
    → IfSome old (λ rs. (behind : List (ℕ × Cause)) → rs ≡ pair_of first ∷ behind → ListsAll (map pair_of front ++ rs) list)
none_given front list first None mid gives = tt
none_given front list first (Some rs) mid gives = λ behind is. absurd (let wrong = sym gives ∙ is in cc)

pub lists_from : {E : Type 0} (front mid : List Refusal) (first given : Refusal) (old now : Option (List (ℕ × Cause))) (result : Result (Vec Refusal Global) E) → mid ≡ front ++ first ∷ []
    → GivesRefusal old now (Ok (Some given)) → IfOk result (λ all. IfSome now (λ rs. ListsAll (map pair_of mid ++ rs) all.items)) → IfOk result (λ all. BeginsWith mid all.items)
    → IfOk result (λ all. ListsFrom front first old all.items)
lists_from front mid first given old now (Ok all) is gives lists begins = record {
  all = lists_given front all.items first old now given gives (rw is at lists);
  begins = subst (λ (l : List Refusal). BeginsWith l all.items) is begins;
}
lists_from front mid first given old now (Err stop) is gives lists begins = tt

pub lists_one : (front list : List Refusal) (first : Refusal) (old now : Option (List (ℕ × Cause))) → list ≡ front ++ first ∷ [] → GivesRefusal old now (Ok None) → ListsFrom front first old list
lists_one front list first old now is gives =
    record { all = none_given front list first old now gives; begins = ([], is ∙ sym (append-nil (front ++ first ∷ []))) }

-- a search that goes on fails where a read does
pub device_told : {T : Type 0} (standing : Standing) (first old new : ℕ) (result : Result T Stop) → goes_on standing ≡ true → old ≡ first → TellsDeviceAt standing old new result
    → TellsDevice first new result
device_told standing first old new (Ok t) goes same told = told ∙ same
device_told standing first old new (Err (Record line cause)) goes same told = told ∙ same
device_told standing first old new (Err Memory) goes same told = told ∙ same
device_told standing first old new (Err DeviceStop) goes same told = rw (goes, same) at told
device_told standing first old new (Err Budget) goes same told = told ∙ same

-- where one isn't passed over, all are listed
pub stops_listed : (skips : Bool) (known old behind new : Option (List (ℕ × Cause))) (front list : List Refusal) (first : Refusal) → ListsSoFar known old front
    → IsFirst old behind (pair_of first) → KeepsRefusals old new → ListsFrom front first new list → (skips ≡ true → most_lines < first.line) → IsStopped skips known list
stops_listed skips known old behind new front list first so_far is keeps lists beyond = record {
  all = go known so_far;
  some = λ none. none_held first (subst (λ (l : List Refusal). Contains l first) none held);
  beyond = λ skipping. (first, held, beyond skipping);
}
  where
    held : Contains list first
    held = subst (λ (l : List Refusal). Contains l first) (sym lists.begins.1)
        (Contains-append_left (front ++ first ∷ []) lists.begins.0 first (Contains-append_right front (first ∷ []) first (first_held first)))

    go : (known : Option (List (ℕ × Cause))) → ListsSoFar known old front → IfSome known (λ rs. ListsAll rs list)
    go None so = tt
    go (Some rs) so =
        let kept : new ≡ Some so.0 = rw so.1 at keeps in
        let it = rw so.1 at is in
        let all = lists.all in
        let told : (behind : List (ℕ × Cause)) → so.0 ≡ pair_of first ∷ behind → ListsAll (map pair_of front ++ so.0) list = rw kept at all in
        told it.0 it.2 ∙ so.2

-- ---- a reader that answers a refusal

-- it read before
pub read_before : {R : Type 0} (standing : Standing) (old new : RecordReader R) (line : ℕ) (cause : Cause) (P : Type 0) → (standing ≡ Reading) ⊎ (standing ≡ Ended)
    → Repeats standing old new (Err (Refused line cause)) → WhereReading standing P → P
read_before Reading old new line cause P reads repeats holds = holds
read_before Ended old new line cause P reads repeats holds = absurd (let wrong = repeats.0 in cc)
read_before (Stopped stop) old new line cause P reads repeats holds =
    elim reads [
      | inl wrong ↦ absurd (cc)
      | inr wrong ↦ absurd (cc)
    ]

pub refused_counts : (standing : Standing) (old new line : ℕ) (cause : Cause) → TellsFailure standing old new (Err (Refused line cause)) → new ≡ old
refused_counts Reading old new line cause tells = tells
refused_counts Ended old new line cause tells = tells
refused_counts (Stopped stop) old new line cause tells = tells

-- a line that can't be passed over is beyond the greatest number
pub not_passable : (standing : Standing) (lines judged line : ℕ) (cause : Cause) → standing ≡ Stopped (Refused line cause) → judged ≡ lines → line ≡ lines + 1
    → is_passable standing lines judged ≡ false → most_lines < line
not_passable standing lines judged line cause stopped same number not =
    let tested : (judged == lines && nat_lt lines most_lines) ≡ false = rw stopped at not in
    let many : nat_lt lines most_lines ≡ false = rw (eq-eqb judged lines same) at tested in
    let least = ltb-false lines most_lines many in
    omega (arith, least, number)

-- one that was passed over isn't
pub few_passed : {R : Type 0} (old new : RecordReader R) (line : ℕ) → line ≡ lines_of old + 1 → lines_of new ≡ lines_of old + 1 → line ≤ most_lines
few_passed old new line number counted = let few = new.few_lines in omega (arith, number, counted, few)
