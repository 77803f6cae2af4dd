use Rattle.std.proofs.Common.{◌≡◌, ℕ, Bool, true, false, cond, eqb, ◌&&◌, List, [], ◌∷◌, Contains, refl, sym, ap, ◌∙◌, arith}
use Rattle.std.specs.Prelude.{nat_eq}
use Rattle.std.specs.List.{AllPairs, dedup}
use Rattle.std.specs.List.Sorted.{IsPermutation, IsSortedByKey, IsStrictlySortedBy}
use Rattle.std.specs.declared.cmp.Ordering.{Ordering}
use Rattle.std.specs.Ordering.{ordering_then, nat_cmp, eq_by_cmp}
use Rattle.std.specs.Cmp.{IsTotalOrder, both_tied, unsigned_ties}
use Rattle.std.specs.Cmp.Lexicographic.{slice_cmp, pointwise, lists_ties, same_text}
use Rattle.std.proofs.lemmas.Cmp.{on_total, then_total, nat_cmp_total, nat_list_cmp_total, eq_by_cmp_equiv}
use Rattle.std.proofs.lemmas.Bool.{eqb-true, and_parts as both_true}
use Rattle.std.proofs.lemmas.List.Elements.{All-weaker, All-from_recursion, All-contains_itself}
use Rattle.std.proofs.lemmas.List.Sorted.{Contains-permutation, IsPermutation-sym}
use Rattle.std.proofs.lemmas.List.Kept.{AllPairs-cons, Contains-dedup, Contains-from_dedup, IsStrictlySortedBy-dedup}
use Rattle.tl_map_rules.specs.declared.fault.Limited.{Limited}
use Rattle.tl_map_rules.specs.declared.fault.Limited.TheVariants.{Chains, Segments, Polygons, Landmarks}
use Rattle.tl_map_rules.specs.declared.fault.RecordFault.{RecordFault}
use Rattle.tl_map_rules.specs.declared.fault.RecordFault.TheVariants.{DuplicateChain, ShapeWithoutChain, ShapeSequence, ShapeGap, ChainWithoutSides, SidesWithoutChain, DuplicateSides, DuplicatePolygon, SideWithoutPolygon, LinkWithoutLandmark, LinkWithoutPolygon, DegenerateChain, TooMany}
use Rattle.tl_map_rules.specs.Listing.AllFaults.{SortKey, fault_place, place_cmp, IsListedBefore}
use Rattle.tl_map_rules.specs.declared.listing.numbers.Numbered.{Numbered}
use Rattle.tl_map_rules.specs.declared.listing.numbers.Numbered.TheVariants as numbered
use Rattle.tl_map_rules.specs.Listing.Keeping.Numbers.{fault_of}
use Rattle.tl_map_rules.specs.Listing.Keeping.Told.{AreOrdered}

-- are two places one
abbrev pub same_point : SortKey → SortKey → Bool
same_point p q = (((nat_eq p.0 q.0 && nat_eq p.1 q.1) && pointwise nat_eq p.2 q.2) && nat_eq p.3 q.3) && nat_eq p.4 q.4

pub place_total : IsTotalOrder place_cmp
place_total = then_total (then_total (then_total (then_total (on_total (λ (p : SortKey). p.0) nat_cmp_total) (on_total (λ (p : SortKey). p.1) nat_cmp_total)) (on_total (λ (p : SortKey). p.2) nat_list_cmp_total)) (on_total (λ (p : SortKey). p.3) nat_cmp_total)) (on_total (λ (p : SortKey). p.4) nat_cmp_total)

place_ties : (p q : SortKey) → same_point p q ≡ eq_by_cmp place_cmp p q
place_ties p q =
    let a = nat_cmp p.0 q.0 in
    let b = ordering_then a (nat_cmp p.1 q.1) in
    let d = ordering_then b (slice_cmp nat_cmp p.2 q.2) in
    let e = ordering_then d (nat_cmp p.3 q.3) in
    both_tied _ _ e (nat_cmp p.4 q.4) (both_tied _ _ d (nat_cmp p.3 q.3) (both_tied _ _ b (slice_cmp nat_cmp p.2 q.2) (both_tied _ _ a (nat_cmp p.1 q.1) (unsigned_ties p.0 q.0) (unsigned_ties p.1 q.1)) (lists_ties nat_cmp unsigned_ties p.2 q.2)) (unsigned_ties p.3 q.3)) (unsigned_ties p.4 q.4)

place_is : (p q : SortKey) → same_point p q ≡ true → p ≡ q
place_is p q h =
    let one = both_true _ (nat_eq p.4 q.4) h in
    let two = both_true _ (nat_eq p.3 q.3) one.0 in
    let three = both_true _ (pointwise nat_eq p.2 q.2) two.0 in
    let four = both_true (nat_eq p.0 q.0) (nat_eq p.1 q.1) three.0 in
    let a = eqb-true p.0 q.0 four.0 in
    let b = eqb-true p.1 q.1 four.1 in
    let d = same_text p.2 q.2 (sym three.1) in
    let e = eqb-true p.3 q.3 two.1 in
    let f = eqb-true p.4 q.4 one.1 in
    λ i. (a i, b i, d i, e i, f i)

-- what there can be too many of, by its number
pub limited_at : ℕ → Limited
limited_at n = cond (eqb n 0) Chains (cond (eqb n 1) Segments (cond (eqb n 2) Polygons Landmarks))

-- the fault at a place
pub fault_at : SortKey → RecordFault
fault_at p =
    cond (eqb p.0 1) (DuplicateChain p.1)
    (cond (eqb p.0 2) (ShapeWithoutChain p.1)
    (cond (eqb p.0 3) (ShapeSequence p.1)
    (cond (eqb p.0 4) (ShapeGap p.1)
    (cond (eqb p.0 5) (ChainWithoutSides p.1)
    (cond (eqb p.0 6) (SidesWithoutChain p.1)
    (cond (eqb p.0 7) (DuplicateSides p.1)
    (cond (eqb p.0 8) (DuplicatePolygon (record { cenid = p.2; polyid = p.3 }))
    (cond (eqb p.0 9) (SideWithoutPolygon p.1 (record { cenid = p.2; polyid = p.3 }))
    (cond (eqb p.0 10) (LinkWithoutLandmark p.4)
    (cond (eqb p.0 11) (LinkWithoutPolygon (record { cenid = p.2; polyid = p.3 }) p.4)
    (cond (eqb p.0 12) (DegenerateChain p.1) (TooMany (limited_at p.1)))))))))))))

at_place : (f : RecordFault) → fault_at (fault_place f) ≡ f
unfolding fault_at limited_at
at_place (DuplicateChain t) = refl
at_place (ShapeWithoutChain t) = refl
at_place (ShapeSequence t) = refl
at_place (ShapeGap t) = refl
at_place (ChainWithoutSides t) = refl
at_place (SidesWithoutChain t) = refl
at_place (DuplicateSides t) = refl
at_place (DuplicatePolygon k) = refl
at_place (SideWithoutPolygon t k) = refl
at_place (LinkWithoutLandmark n) = refl
at_place (LinkWithoutPolygon k n) = refl
at_place (DegenerateChain t) = refl
at_place (TooMany Chains) = refl
at_place (TooMany Segments) = refl
at_place (TooMany Polygons) = refl
at_place (TooMany Landmarks) = refl

-- a fault by its code
pub with_code : (f : RecordFault) (code : ℕ) → (fault_place f).0 ≡ code → f ≡ fault_at (code, (fault_place f).1, (fault_place f).2, (fault_place f).3, (fault_place f).4)
with_code f code e = sym (at_place f) ∙ ap (λ c. fault_at (c, (fault_place f).1, (fault_place f).2, (fault_place f).3, (fault_place f).4)) e

-- the code of a fault that has one number
abbrev pub code_of : Numbered → ℕ
code_of numbered.DuplicateChain = 1
code_of numbered.ShapeWithoutChain = 2
code_of numbered.ChainWithoutSides = 5
code_of numbered.SidesWithoutChain = 6
code_of numbered.DuplicateSides = 7
code_of numbered.LinkWithoutLandmark = 10

-- a fault of this code has such a number
pub with_number : (what : Numbered) (f : RecordFault) → (fault_place f).0 ≡ code_of what → (n : ℕ) × (f ≡ fault_of what n)
unfolding fault_at
with_number numbered.DuplicateChain f e = ((fault_place f).1, with_code f 1 e)
with_number numbered.ShapeWithoutChain f e = ((fault_place f).1, with_code f 2 e)
with_number numbered.ChainWithoutSides f e = ((fault_place f).1, with_code f 5 e)
with_number numbered.SidesWithoutChain f e = ((fault_place f).1, with_code f 6 e)
with_number numbered.DuplicateSides f e = ((fault_place f).1, with_code f 7 e)
with_number numbered.LinkWithoutLandmark f e = ((fault_place f).4, with_code f 10 e)

-- the faults of the other codes
pub sequence_there : (f : RecordFault) → (fault_place f).0 ≡ 3 → f ≡ ShapeSequence (fault_place f).1
unfolding fault_at
sequence_there f e = with_code f 3 e

pub gap_there : (f : RecordFault) → (fault_place f).0 ≡ 4 → f ≡ ShapeGap (fault_place f).1
unfolding fault_at
gap_there f e = with_code f 4 e

pub twice_there : (f : RecordFault) → (fault_place f).0 ≡ 8 → f ≡ DuplicatePolygon (record { cenid = (fault_place f).2; polyid = (fault_place f).3 })
unfolding fault_at
twice_there f e = with_code f 8 e

pub side_there : (f : RecordFault) → (fault_place f).0 ≡ 9 → f ≡ SideWithoutPolygon (fault_place f).1 (record { cenid = (fault_place f).2; polyid = (fault_place f).3 })
unfolding fault_at
side_there f e = with_code f 9 e

pub link_there : (f : RecordFault) → (fault_place f).0 ≡ 11 → f ≡ LinkWithoutPolygon (record { cenid = (fault_place f).2; polyid = (fault_place f).3 }) (fault_place f).4
unfolding fault_at
link_there f e = with_code f 11 e

pub degenerate_there : (f : RecordFault) → (fault_place f).0 ≡ 12 → f ≡ DegenerateChain (fault_place f).1
unfolding fault_at
degenerate_there f e = with_code f 12 e

pub many_there : (f : RecordFault) → (fault_place f).0 ≡ 13 → f ≡ TooMany (limited_at (fault_place f).1)
unfolding fault_at
many_there f e = with_code f 13 e

abbrev fault_cmp : RecordFault → RecordFault → Ordering
fault_cmp f g = place_cmp (fault_place f) (fault_place g)

fault_is : (f g : RecordFault) → eq_by_cmp fault_cmp f g ≡ true → f ≡ g
fault_is f g h = sym (at_place f) ∙ ap fault_at (place_is (fault_place f) (fault_place g) (place_ties (fault_place f) (fault_place g) ∙ h)) ∙ at_place g

-- a list that is strictly sorted rises from each place to all later ones
all_pairs : (fs : List RecordFault) → IsStrictlySortedBy fault_cmp fs → AllPairs IsListedBefore fs
unfolding IsStrictlySortedBy
all_pairs [] h = λ i j d lt below. absurd (omega arith)
all_pairs (f ∷ fs) h = AllPairs-cons IsListedBefore f fs (All-from_recursion (IsListedBefore f) fs h.0) (all_pairs fs h.1)

-- sorted by their places and without repeats
pub ordered : (old sorted new : List RecordFault) → IsPermutation old sorted → IsSortedByKey fault_place place_cmp sorted → new ≡ dedup (λ f g. same_point (fault_place f) (fault_place g)) sorted → AreOrdered old new
ordered old sorted new moved up is =
    let total : IsTotalOrder fault_cmp = on_total fault_place place_total in
    let ties = λ (f g : RecordFault). place_ties (fault_place f) (fault_place g) in
    let equiv = eq_by_cmp_equiv total in
    let same : (λ (f g : RecordFault). same_point (fault_place f) (fault_place g)) ≡ eq_by_cmp fault_cmp = λ i f g. ties f g i in
    let kept : new ≡ dedup (eq_by_cmp fault_cmp) sorted = is ∙ ap (λ e. dedup e sorted) same in
    record {
      each = All-weaker (Contains new) (Contains old) (λ f c. Contains-permutation sorted old f (IsPermutation-sym old sorted moved) (Contains-from_dedup (eq_by_cmp fault_cmp) sorted f (rw kept at c))) new (All-contains_itself new);
      every = All-weaker (Contains old) (Contains new) (λ f c. rw kept (Contains-dedup equiv fault_is sorted f (Contains-permutation old sorted f moved c))) old (All-contains_itself old);
      in_order = rw kept (all_pairs _ (IsStrictlySortedBy-dedup total (λ f g. refl) sorted up));
    }
