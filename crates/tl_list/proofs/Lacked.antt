-- Faults of records as they are told where there are no records of some type.
use Rattle.std.proofs.Common.{◌≡◌, ◌≢◌, ◌⊎◌, inl, inr, ℕ, zero, suc, ◌<◌, Bool, true, false, ◌||◌, List, [], ◌∷◌, ◌++◌, map, filter, length, get_or, refl, sym, ap, subst, ◌∙◌, arith}
use Rattle.std.specs.List.{Any, Contains}
use Rattle.std.proofs.lemmas.List.Elements.{Contains-append_left, Contains-append_right}
use Rattle.tl_map_rules.specs.declared.fault.RecordFault.{RecordFault}
use Rattle.tl_map_rules.specs.declared.fault.RecordFault.TheVariants.{DuplicateChain, ShapeWithoutChain, ShapeSequence, ShapeGap, ChainWithoutSides, SidesWithoutChain, DuplicateSides, DuplicatePolygon, SideWithoutPolygon, LinkWithoutLandmark, LinkWithoutPolygon, DegenerateChain, TooMany}
use Rattle.tl_map_rules.specs.declared.lacking.Lacking.{Lacking}
use Rattle.tl_map_rules.specs.Lacking.{explains, lacks}
use Rattle.tl_check_verdict.specs.declared.fault.MapFault.TheVariants as fault
use Rattle.tl_list.specs.Listings.{stands_alone, lack_told, told_with}
use Rattle.tl_list.specs.Findings.{BeginWithRecords}
use Rattle.tl_list.specs.Telling.{IsCauseOf}
use Rattle.tl_list.proofs.Lists.{held_map, named_by}

first_false : (a b : Bool) → (a || b) ≡ false → a ≡ false
first_false false b none = refl
first_false true b none = absurd (cc)

rest_false : (a b : Bool) → (a || b) ≡ false → b ≡ false
rest_false false b none = none
rest_false true b none = absurd (cc)

first_true : (a b : Bool) → a ≡ true → (a || b) ≡ true
first_true true b some = refl
first_true false b some = absurd (cc)

rest_true : (a b : Bool) → b ≡ true → (a || b) ≡ true
rest_true true b some = refl
rest_true false b some = some

-- where there are records of each type, nothing hangs on it
explains_none : (l : Lacking) (f : RecordFault) → lacks l ≡ false → explains l f ≡ false
explains_none l (DuplicateChain t) none = refl
explains_none l (ShapeWithoutChain t) none = first_false l.chains _ none
explains_none l (ShapeSequence t) none = refl
explains_none l (ShapeGap t) none = refl
explains_none l (ChainWithoutSides t) none = first_false l.sides _ (rest_false l.chains _ none)
explains_none l (SidesWithoutChain t) none = first_false l.chains _ none
explains_none l (DuplicateSides t) none = refl
explains_none l (DuplicatePolygon k) none = refl
explains_none l (SideWithoutPolygon t k) none = rest_false l.sides _ (rest_false l.chains _ none)
explains_none l (LinkWithoutLandmark n) none = refl
explains_none l (LinkWithoutPolygon k n) none = rest_false l.sides _ (rest_false l.chains _ none)
explains_none l (DegenerateChain t) none = refl
explains_none l (TooMany what) none = refl

-- so where something hangs on it, there are none of some type
explains_some : (l : Lacking) (f : RecordFault) → explains l f ≡ true → lacks l ≡ true
explains_some l f some = go (lacks l) refl
  where
    go : (b : Bool) → lacks l ≡ b → lacks l ≡ true
    go true is = is
    go false is = let none = explains_none l f is in absurd (cc)

all_alone : (l : Lacking) (told : List RecordFault) → lacks l ≡ false → filter (stands_alone l) told ≡ told
all_alone l [] none = refl
all_alone l (f ∷ told) none = rw (explains_none l f none) (ap (λ rest. f ∷ rest) (all_alone l told none))

-- what is told of records of which there are some of each type isn't nothing where a fault is told
pub told_some : (l : Lacking) (told : List RecordFault) → lacks l ≡ false → told ≢ [] → told_with l told ≢ []
told_some l [] none some is = some refl
told_some l (f ∷ told) none some is =
    let wrong : map fault.Records (f ∷ told) ++ lack_told l ≡ [] = ap (λ fs. map fault.Records fs ++ lack_told l) (sym (all_alone l (f ∷ told) none)) ∙ is in
    absurd (cc)

not_empty : {X : Type 0} (xs : List X) (x : X) → xs ++ x ∷ [] ≢ []
not_empty [] x is = absurd (cc)
not_empty (y ∷ ys) x is = absurd (cc)

-- and else it isn't either
pub lack_some : (l : Lacking) (told : List RecordFault) → lacks l ≡ true → told_with l told ≢ []
lack_some l told some = rw some (not_empty (map fault.Records (filter (stands_alone l) told)) (fault.NoRecords l))

-- where nothing of a text is told, no fault is and there are some of each type
pub some_of : (l : Lacking) (told : List RecordFault) → told_with l told ≢ [] → lacks l ≡ false → told ≢ []
some_of l told some none is = some (rw (is, none) refl)

filter_held : {X : Type 0} (p : X → Bool) (xs : List X) (x : X) (k : ℕ) → k < length xs → get_or xs k x ≡ x → p x ≡ true → Contains (filter p xs) x
filter_held p [] x k lt is so = absurd (omega (arith, lt))
filter_held p (y ∷ xs) x zero lt is so =
    let same : y ≡ x = is in
    rw (same, so) (zero, omega arith, refl)
filter_held p (y ∷ xs) x (suc k) lt is so = go (p y) refl (filter_held p xs x k (omega (arith, lt)) is so)
  where
    go : (b : Bool) → p y ≡ b → Contains (filter p xs) x → Contains (filter p (y ∷ xs)) x
    go true at rest = rw at (suc rest.0, (let within = rest.1 in omega (arith, within)), rest.2)
    go false at rest = rw at rest

-- a fault that is told, or what it hangs on
pub told_or_caused : (l : Lacking) (told : List RecordFault) (f : RecordFault) → Contains told f
    → Contains (told_with l told) (fault.Records f) ⊎ Any (IsCauseOf f) (told_with l told)
told_or_caused l told f held = go (explains l f) refl
  where
    go : (b : Bool) → explains l f ≡ b → Contains (told_with l told) (fault.Records f) ⊎ Any (IsCauseOf f) (told_with l told)
    go false none =
        inl (Contains-append_left _ _ (fault.Records f)
        (held_map fault.Records (filter (stands_alone l) told) f (filter_held (stands_alone l) told f held.0 held.1 held.2 (rw none refl))))
    go true some =
        inr (named_by (IsCauseOf f) (told_with l told) (fault.NoRecords l)
        (Contains-append_right (map fault.Records (filter (stands_alone l) told)) (lack_told l) (fault.NoRecords l) (rw (explains_some l f some) (zero, omega arith, refl))) some)

-- that there are no records of some type is told
pub lack_is_told : (l : Lacking) (told : List RecordFault) → lacks l ≡ true → Contains (told_with l told) (fault.NoRecords l)
lack_is_told l told some = Contains-append_right (map fault.Records (filter (stands_alone l) told)) (lack_told l) (fault.NoRecords l) (rw some (zero, omega arith, refl))

-- what is told of records begins with a fault of theirs, or with that
pub begin_with_records : (l : Lacking) (told : List RecordFault) → told_with l told ≢ [] → BeginWithRecords (told_with l told)
begin_with_records l told some = go (filter (stands_alone l) told) refl
  where
    lack_first : (b : Bool) → lacks l ≡ b → lack_told l ≢ [] → BeginWithRecords (lack_told l)
    lack_first true is some = rw is (fault.NoRecords l, (refl, tt))
    lack_first false is some = absurd (some (rw is refl))

    go : (alone : List RecordFault) → filter (stands_alone l) told ≡ alone → BeginWithRecords (told_with l told)
    go [] is =
        let same : told_with l told ≡ lack_told l = ap (λ fs. map fault.Records fs ++ lack_told l) is in
        subst BeginWithRecords (sym same) (lack_first (lacks l) refl (λ empty. some (same ∙ empty)))
    go (f ∷ rest) is =
        let same : told_with l told ≡ map fault.Records (f ∷ rest) ++ lack_told l = ap (λ fs. map fault.Records fs ++ lack_told l) is in
        subst BeginWithRecords (sym same) (fault.Records f, (refl, tt))
