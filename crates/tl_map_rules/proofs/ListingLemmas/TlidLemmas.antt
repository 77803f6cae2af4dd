use Rattle.std.proofs.Common.{◌≡◌, ℕ, zero, suc, ◌≤◌, eqb, List, ◌∷◌, length, refl, sym, subst, arith}
use Rattle.std.specs.List.Sorted.{IsNonDecreasing}
use Rattle.std.proofs.lemmas.Bool.{eq-eqb}
use Rattle.tl_record.specs.declared.record.Record.{Record}
use Rattle.tl_map_rules.specs.declared.fault.RecordFault.{RecordFault}
use Rattle.tl_map_rules.specs.Faults.{IsTrueOf}
use Rattle.tl_map_rules.specs.ChainsOf.{shape_count}
use Rattle.tl_map_rules.proofs.CountLemmas.{two_counted}
use Rattle.tl_map_rules.specs.declared.listing.numbers.Numbered.{Numbered}
use Rattle.tl_map_rules.specs.declared.listing.numbers.Numbered.TheVariants.{DuplicateChain, ShapeWithoutChain, ChainWithoutSides, SidesWithoutChain, DuplicateSides}
use Rattle.tl_map_rules.specs.Listing.Keeping.Told.{Tells, AreTold}
use Rattle.tl_map_rules.specs.Listing.Keeping.Numbers.{fault_of, StandsNext, IsMissing, StandAsOften, chains_with, sides_with}
use Rattle.tl_map_rules.proofs.ListingLemmas.ToldLemmas.{told_more}
use Rattle.tl_map_rules.proofs.ListingLemmas.CountedLemmas.{number_stands, number_counted, next_from_twice, has_chain, counted_chain, has_sides, counted_sides}
use Rattle.tl_map_rules.proofs.ListingLemmas.OrderLemmas.{code_of, with_number}

pub absent : (n : ℕ) → ¬ (1 ≤ n) → n ≡ 0
absent zero h = refl
absent (suc n) h = absurd (h (omega arith))

-- a number that stands next to itself stands twice
pub next_counted : (what : Numbered) (count : ℕ → ℕ) (numbers : List ℕ) (f : RecordFault) → StandAsOften count numbers → (s : StandsNext (fault_of what) numbers (length numbers) f) → 2 ≤ count s.item
next_counted what count numbers f often s = omega (arith, often s.item, two_counted (λ x. eqb x s.item) numbers s.place 0 s.below (eq-eqb _ _ (s.first 0)) (eq-eqb _ _ (s.second 0)))

-- the faults of a code that are true where a number stands twice
pub told_repeats : (what : Numbered) (rs : List Record) (codes : List ℕ) (count : ℕ → ℕ) (numbers : List ℕ) (old new : List RecordFault) → IsNonDecreasing numbers → StandAsOften count numbers → ((n : ℕ) → 2 ≤ count n → IsTrueOf rs (fault_of what n)) → ((n : ℕ) → IsTrueOf rs (fault_of what n) → 2 ≤ count n) → Tells (StandsNext (fault_of what) numbers (length numbers)) old new → AreTold rs codes old → AreTold rs (code_of what ∷ codes) new
told_repeats what rs codes count numbers old new order often true twice tells before =
    told_more rs codes (code_of what) (StandsNext (fault_of what) numbers (length numbers)) old new
    (λ f s. subst (IsTrueOf rs) (sym s.is) (true s.item (next_counted what count numbers f often s)))
    (λ f holds code.
    let number = with_number what f code in
    let two = next_from_twice numbers number.0 order (omega (arith, often number.0, twice number.0 (subst (IsTrueOf rs) number.1 holds))) in
    record { item = number.0; is = number.1; place = two.0; below = two.1; within = two.1; first = two.2; second = two.3 })
    tells before

-- the faults of a code that are true where a number is not known
pub told_missing : (what : Numbered) (rs : List Record) (codes : List ℕ) (count among : ℕ → ℕ) (numbers known : List ℕ) (old new : List RecordFault) → StandAsOften count numbers → StandAsOften among known → ((n : ℕ) → 1 ≤ count n → among n ≡ 0 → IsTrueOf rs (fault_of what n)) → ((n : ℕ) → IsTrueOf rs (fault_of what n) → (1 ≤ count n) × (among n ≡ 0)) → Tells (IsMissing (fault_of what) (λ (n : ℕ). n) numbers known) old new → AreTold rs codes old → AreTold rs (code_of what ∷ codes) new
told_missing what rs codes count among numbers known old new often known_often true missing tells before =
    told_more rs codes (code_of what) (IsMissing (fault_of what) (λ (n : ℕ). n) numbers known) old new
    (λ f m. subst (IsTrueOf rs) (sym m.is) (true m.item (number_counted count numbers m.item often m.among) (absent (among m.item) (λ some. m.unknown (number_stands among known m.item known_often some)))))
    (λ f holds code.
    let number = with_number what f code in
    let said = missing number.0 (subst (IsTrueOf rs) number.1 holds) in
    record { item = number.0; is = number.1; among = number_stands count numbers number.0 often said.0; unknown = λ has. omega (arith, said.1, number_counted among known number.0 known_often has) })
    tells before

-- two type 1 records have a TLID
pub told_duplicate_chains : (rs : List Record) (codes chains : List ℕ) (old new : List RecordFault) → IsNonDecreasing chains → StandAsOften (chains_with rs) chains → Tells (StandsNext (fault_of DuplicateChain) chains (length chains)) old new → AreTold rs codes old → AreTold rs (1 ∷ codes) new
told_duplicate_chains rs codes chains old new order often tells before =
    told_repeats DuplicateChain rs codes (chains_with rs) chains old new order often (λ n h. h) (λ n h. h) tells before

-- two type I records have a TLID
pub told_duplicate_sides : (rs : List Record) (codes sides : List ℕ) (old new : List RecordFault) → IsNonDecreasing sides → StandAsOften (sides_with rs) sides → Tells (StandsNext (fault_of DuplicateSides) sides (length sides)) old new → AreTold rs codes old → AreTold rs (7 ∷ codes) new
told_duplicate_sides rs codes sides old new order often tells before =
    told_repeats DuplicateSides rs codes (sides_with rs) sides old new order often (λ n h. h) (λ n h. h) tells before

-- a type 2 record has a TLID, and no type 1 record has
pub told_stray_shapes : (rs : List Record) (codes shapes chains : List ℕ) (old new : List RecordFault) → StandAsOften (shape_count rs) shapes → StandAsOften (chains_with rs) chains → Tells (IsMissing (fault_of ShapeWithoutChain) (λ (n : ℕ). n) shapes chains) old new → AreTold rs codes old → AreTold rs (2 ∷ codes) new
told_stray_shapes rs codes shapes chains old new often known tells before =
    told_missing ShapeWithoutChain rs codes (shape_count rs) (chains_with rs) shapes chains old new often known (λ n some none. (some, none)) (λ n h. h) tells before

-- a type 1 record has a TLID, and no type I record has
pub told_chains_without_sides : (rs : List Record) (codes chains sides : List ℕ) (old new : List RecordFault) → StandAsOften (chains_with rs) chains → StandAsOften (sides_with rs) sides → Tells (IsMissing (fault_of ChainWithoutSides) (λ (n : ℕ). n) chains sides) old new → AreTold rs codes old → AreTold rs (5 ∷ codes) new
told_chains_without_sides rs codes chains sides old new often known tells before =
    told_missing ChainWithoutSides rs codes (chains_with rs) (sides_with rs) chains sides old new often known
    (λ n some none. (has_chain rs n some, λ has. omega (arith, none, counted_sides rs n has)))
    (λ n h. (counted_chain rs n h.0, absent (sides_with rs n) (λ some. h.1 (has_sides rs n some)))) tells before

-- a type I record has a TLID, and no type 1 record has
pub told_sides_without_chain : (rs : List Record) (codes sides chains : List ℕ) (old new : List RecordFault) → StandAsOften (sides_with rs) sides → StandAsOften (chains_with rs) chains → Tells (IsMissing (fault_of SidesWithoutChain) (λ (n : ℕ). n) sides chains) old new → AreTold rs codes old → AreTold rs (6 ∷ codes) new
told_sides_without_chain rs codes sides chains old new often known tells before =
    told_missing SidesWithoutChain rs codes (sides_with rs) (chains_with rs) sides chains old new often known
    (λ n some none. (has_sides rs n some, λ has. omega (arith, none, counted_chain rs n has)))
    (λ n h. (counted_sides rs n h.0, absent (chains_with rs n) (λ some. h.1 (has_chain rs n some)))) tells before
