-- The pairs that are told of the darts that have ids, dart by dart.
use Rattle.std.proofs.Common.{◌≡◌, ◌≢◌, inl, inr, ℕ, suc, ◌+◌, ◌-◌, ◌<◌, ◌≤◌, ◌==◌, Bool, true, false, if◌then◌else◌, Option, Some, None, List, [], ◌∷◌, ◌++◌, append_assoc, length, get_or, refl, sym, subst, ◌∙◌, length-append, arith}
use Rattle.std.specs.List.{All, AllPairs, Any}
use Rattle.std.specs.List.Sorted.{IsPermutation}
use Rattle.std.proofs.lemmas.Bool.{cases_lt, eqb-true, eqb-false}
use Rattle.std.proofs.lemmas.List.{get_or_append_left, get_or-append_right}
use Rattle.std.proofs.lemmas.List.Elements.{All-nil, All-cons, All-append, All-weaker}
use Rattle.std.proofs.lemmas.List.Sorted.{All-permutation, Contains-permutation}
use Rattle.tl_map_county.specs.TheMap.{MapChain}
use Rattle.tl_check_sides.specs.declared.cells.at_odds.CellsAtOdds.{CellsAtOdds}
use Rattle.tl_check_sides.specs.Cells.Cells.{HasCell, HaveOneStart}
use Rattle.tl_check_sides.proofs.CellsLemmas.Cells.{one_id}
use Rattle.tl_check_sides.proofs.CellsLemmas.Places.{AnyTwo, from_pairs, moved}
use Rattle.tl_check_planar.specs.Listing.Orders.{IsPairBefore}
use Rattle.tl_check_sides.specs.declared.listing.starts.CellStart.{CellStart}
use Rattle.tl_check_sides.specs.Listing.CellOdds.{IsFirstWithId, IsFirstAtStart, IsFirstOfBoth, IsIdAtOdds, IsStartAtOdds, AreToldAtOdds, AreAllCellsAtOdds}
use Rattle.tl_check_sides.specs.Listing.Keeping.Starts.{no_start, start_at, IsCellStart, AreSorted, first_of}
use Rattle.tl_check_sides.specs.Listing.Keeping.Odds.{pair_of, id_odds, start_odds, IsFirstOf, AreFirsts, ArePairsApart, IsFrom, HaveTold, ArePairsSorted}
use Rattle.tl_check_sides.proofs.ListingLemmas.Pairs.{rising_of}
use Rattle.tl_check_sides.proofs.ListingLemmas.StartLemmas.{one_point}

pub told_none : (chains : List MapChain) (starts : List CellStart) → HaveTold chains starts 0 []
told_none chains starts = record {
  good = All-nil _;
  all = λ k a id_a id_b lt told. absurd (omega (arith, lt));
  once = λ i j d lt within. absurd (omega (arith, within));
  from = All-nil _;
}

from_on : (starts : List CellStart) (n : ℕ) (o : CellsAtOdds) → IsFrom starts n o → IsFrom starts (n + 1) o
from_on starts n o f = let lt = f.1 in (f.0, omega (arith, lt), f.2)

pub told_skipped : (chains : List MapChain) (starts : List CellStart) (p : ℕ) (found : List CellsAtOdds) → ((a id_a id_b : ℕ) → ¬ AreToldAtOdds chains a (start_at starts p).dart id_a id_b) → HaveTold chains starts p found → HaveTold chains starts (p + 1) found
told_skipped chains starts p found none t = record {
  good = t.good;
  all = λ k a id_a id_b lt told. elim (cases_lt k p) [
    | inl before ↦ t.all k a id_a id_b before told
    | inr last ↦ let here : k ≡ p = omega (arith, lt, last) in absurd (none a id_a id_b (rw here at told))
  ];
  once = t.once;
  from = All-weaker (IsFrom starts p) (IsFrom starts (p + 1)) (from_on starts p) found t.from;
}

all_pairs_append : {X : Type 0} (R : X → X → Type 0) (xs ys : List X) → AllPairs R xs → AllPairs R ys → ((i j : ℕ) (d : X) → i < length xs → j < length ys → R (get_or xs i d) (get_or ys j d)) → AllPairs R (xs ++ ys)
all_pairs_append {X} R xs ys one other cross i j d lt within = elim (cases_lt j (length xs)) [
  | inl low ↦ rw (get_or_append_left xs ys d i (omega (arith, lt, low)), get_or_append_left xs ys d j low) (one i j d lt low)
  | inr high ↦
      let long = length-append xs ys in
      let at_j : get_or (xs ++ ys) j d ≡ get_or ys (j - length xs) d = right j high in
      elim (cases_lt i (length xs)) [
        | inl low ↦ rw (get_or_append_left xs ys d i low, at_j) (cross i (j - length xs) d low (omega (arith, within, long, high)))
        | inr past ↦ rw (right i past, at_j) (other (i - length xs) (j - length xs) d (omega (arith, lt, past)) (omega (arith, within, long, high)))
      ]
]
  where
    right : (k : ℕ) → length xs ≤ k → get_or (xs ++ ys) k d ≡ get_or ys (k - length xs) d
    right k le = get_or-append_right xs ys (length xs) k d refl le

any_left : {X : Type 0} (P : X → Type 0) (xs ys : List X) → Any P xs → Any P (xs ++ ys)
any_left P xs ys a = let lt = a.2 in (a.0, a.1, omega (arith, length-append xs ys, lt), get_or_append_left xs ys a.1 a.0 a.2 ∙ a.3, a.4)

any_right : {X : Type 0} (P : X → Type 0) (xs ys : List X) → Any P ys → Any P (xs ++ ys)
any_right P [] ys a = a
any_right P (x ∷ xs) ys a = let b = any_right P xs ys a in let lt = b.2 in (suc b.0, b.1, omega (arith, lt), b.3, b.4)

-- the first darts with an id, or at a start, are one
one_head : (chains : List MapChain) (i a b : ℕ) → IsFirstWithId chains i a → IsFirstWithId chains i b → a ≡ b
one_head chains i a b one other = elim (cases_lt a b) [
  | inl less ↦ absurd (other.first a less one.has)
  | inr ge ↦ elim (cases_lt b a) [
    | inl more ↦ absurd (one.first b more other.has)
    | inr le ↦ omega (arith, ge, le)
  ]
]

one_first : (chains : List MapChain) (i j a b : ℕ) → HaveOneStart chains a b → IsFirstAtStart chains i a → IsFirstAtStart chains j b → a ≡ b
one_first chains i j a b same one other = elim (cases_lt a b) [
  | inl less ↦ absurd (other.first a i less same one.has)
  | inr ge ↦ elim (cases_lt b a) [
    | inl more ↦ absurd (one.first b j more (sym same) other.has)
    | inr le ↦ omega (arith, ge, le)
  ]
]

-- some pairs with one second dart
record AreTold (chains : List MapChain) (b : ℕ) (Other : ℕ → Type 0) (xs : List CellsAtOdds) : Type 0 where
  good : All (λ o. AreToldAtOdds chains o.first o.second o.first_id o.second_id) xs
  second : All (λ o. o.second ≡ b) xs
  first : All (λ o. Other o.first) xs
  once : AllPairs ArePairsApart xs

no_pair : (chains : List MapChain) (b : ℕ) (Other : ℕ → Type 0) → AreTold chains b Other []
no_pair chains b Other = record { good = All-nil _; second = All-nil _; first = All-nil _; once = λ i j d lt within. absurd (omega (arith, within)) }

one_pair : (chains : List MapChain) (b : ℕ) (Other : ℕ → Type 0) (a id_a id_b : ℕ) → Other a → AreToldAtOdds chains a b id_a id_b → AreTold chains b Other (pair_of a b id_a id_b ∷ [])
one_pair chains b Other a id_a id_b other told = record {
  good = All-cons (λ (o : CellsAtOdds). AreToldAtOdds chains o.first o.second o.first_id o.second_id) (pair_of a b id_a id_b) [] told (All-nil _);
  second = All-cons (λ (o : CellsAtOdds). o.second ≡ b) (pair_of a b id_a id_b) [] refl (All-nil _);
  first = All-cons (λ (o : CellsAtOdds). Other o.first) (pair_of a b id_a id_b) [] other (All-nil _);
  once = λ i j d lt within. absurd (omega (arith, lt, within));
}

here : (a b id_a id_b : ℕ) (c : ℕ) → a ≡ c → Any (λ o. (o.first ≡ c) × (o.second ≡ b)) (pair_of a b id_a id_b ∷ [])
here a b id_a id_b c is = (0, pair_of a b id_a id_b, omega arith, refl, (is, refl))

module _ (chains : List MapChain) (s : CellStart) (true_one : IsCellStart chains s) (both : IsFirstOfBoth chains s.id s.dart) where
  -- the pair with the first that has the id
  module _ (head : ℕ) (is_head : IsFirstWithId chains s.id head) where
    apart_from : head ≢ s.dart → ¬ HaveOneStart chains head s.dart
    apart_from other same = elim (cases_lt head s.dart) [
      | inl before ↦ both.first head before same is_head.has
      | inr past ↦ elim (cases_lt s.dart head) [
        | inl behind ↦ is_head.first s.dart behind true_one.has
        | inr level ↦ other (omega (arith, past, level))
      ]
    ]

    id_told : AreTold chains s.dart (λ a. ¬ HaveOneStart chains a s.dart) (id_odds s head)
    id_told = go (head == s.dart) refl
      where
        go : (t : Bool) → (head == s.dart) ≡ t → AreTold chains s.dart (λ a. ¬ HaveOneStart chains a s.dart) (if t then [] else (pair_of head s.dart s.id s.id ∷ []))
        go true e = no_pair chains s.dart (λ a. ¬ HaveOneStart chains a s.dart)
        go false e =
            let apart = apart_from (eqb-false head s.dart e) in
            one_pair chains s.dart (λ a. ¬ HaveOneStart chains a s.dart) head s.id s.id apart (inl (record { head = is_head; other = both; same = refl; apart = apart }))

    id_all : (a id_a id_b : ℕ) → IsIdAtOdds chains a s.dart id_a id_b → Any (λ o. (o.first ≡ a) × (o.second ≡ s.dart)) (id_odds s head)
    id_all a id_a id_b k = go (head == s.dart) refl
      where
        own : s.id ≡ id_b
        own = one_id chains s.dart s.id id_b true_one.has k.other.has

        is_a : head ≡ a
        is_a = one_head chains s.id head a is_head (subst (λ i. IsFirstWithId chains i a) (k.same ∙ sym own) k.head)

        go : (t : Bool) → (head == s.dart) ≡ t → Any (λ o. (o.first ≡ a) × (o.second ≡ s.dart)) (if t then [] else (pair_of head s.dart s.id s.id ∷ []))
        go true e = absurd (k.apart (let is = eqb-true head s.dart e in rw (sym is_a ∙ is) refl))
        go false e = here head s.dart s.id s.id a is_a

  -- the pair with the first at the start
  module _ (o : Option CellStart) (some : o ≢ None) (first : (f : CellStart) → o ≡ Some f → IsFirstOf chains s.node f) (point : (f : CellStart) → IsFirstOf chains s.node f → HaveOneStart chains f.dart s.dart) where
    start_told : AreTold chains s.dart (λ a. HaveOneStart chains a s.dart) (start_odds s o)
    start_told = pick o refl
      where
        go : (f : CellStart) → IsFirstOf chains s.node f → (t : Bool) → (f.id == s.id) ≡ t → AreTold chains s.dart (λ a. HaveOneStart chains a s.dart) (if t then [] else (pair_of f.dart s.dart f.id s.id ∷ []))
        go f is true e = no_pair chains s.dart (λ a. HaveOneStart chains a s.dart)
        go f is false e =
            one_pair chains s.dart (λ a. HaveOneStart chains a s.dart) f.dart f.id s.id (point f is)
            (inr (record { head = is.first; other = both; same = point f is; apart = eqb-false f.id s.id e }))

        pick : (p : Option CellStart) → o ≡ p → AreTold chains s.dart (λ a. HaveOneStart chains a s.dart) (start_odds s p)
        pick None e = no_pair chains s.dart (λ a. HaveOneStart chains a s.dart)
        pick (Some f) e = go f (first f e) (f.id == s.id) refl

    start_all : (a id_a id_b : ℕ) → IsStartAtOdds chains a s.dart id_a id_b → Any (λ p. (p.first ≡ a) × (p.second ≡ s.dart)) (start_odds s o)
    start_all a id_a id_b k = pick o refl
      where
        own : s.id ≡ id_b
        own = one_id chains s.dart s.id id_b true_one.has k.other.has

        go : (f : CellStart) → IsFirstOf chains s.node f → (t : Bool) → (f.id == s.id) ≡ t → Any (λ p. (p.first ≡ a) × (p.second ≡ s.dart)) (if t then [] else (pair_of f.dart s.dart f.id s.id ∷ []))
        go f is true e =
            let is_a : f.dart ≡ a = one_first chains f.id id_a f.dart a (point f is ∙ sym k.same) is.first k.head in
            let id_is : f.id ≡ id_a = one_id chains a f.id id_a (subst (λ d. HasCell chains d f.id) is_a is.true_one.has) k.head.has in
            absurd (k.apart (sym id_is ∙ eqb-true f.id s.id e ∙ own))
        go f is false e = here f.dart s.dart f.id s.id a (one_first chains f.id id_a f.dart a (point f is ∙ sym k.same) is.first k.head)

        pick : (p : Option CellStart) → o ≡ p → Any (λ q. (q.first ≡ a) × (q.second ≡ s.dart)) (start_odds s p)
        pick None e = absurd (some e)
        pick (Some f) e = go f (first f e) (f.id == s.id) refl

-- both pairs of a dart are added
module _ (chains : List MapChain) (starts : List CellStart) (sorted : AreSorted chains starts) (p : ℕ) (within : p < length starts) (head : ℕ) (is_head : IsFirstWithId chains (start_at starts p).id head)
    (both : IsFirstOfBoth chains (start_at starts p).id (start_at starts p).dart) (firsts : List (Option CellStart)) (room : (start_at starts p).node < length firsts) (are : AreFirsts chains firsts) where
  abbrev s : CellStart
  s = start_at starts p

  true_one : IsCellStart chains s
  true_one = sorted.each p no_start within

  abbrev o : Option CellStart
  o = first_of firsts s.node

  point : (f : CellStart) → IsFirstOf chains s.node f → HaveOneStart chains f.dart s.dart
  point f is = one_point chains sorted.nodes f s sorted.are is.true_one true_one is.node

  ids : AreTold chains s.dart (λ a. ¬ HaveOneStart chains a s.dart) (id_odds s head)
  ids = id_told chains s true_one both head is_head

  at_start : AreTold chains s.dart (λ a. HaveOneStart chains a s.dart) (start_odds s o)
  at_start = start_told chains s true_one both o (are.all s true_one) (λ f e. are.each s.node f room e) point

  abbrev more : List CellsAtOdds
  more = id_odds s head ++ start_odds s o

  more_apart : AllPairs ArePairsApart more
  more_apart = all_pairs_append ArePairsApart (id_odds s head) (start_odds s o) ids.once at_start.once
      (λ i j d hi hj same. ids.first i d hi (subst (λ a. HaveOneStart chains a s.dart) (sym same.0) (at_start.first j d hj)))

  more_second : All (λ (q : CellsAtOdds). q.second ≡ s.dart) more
  more_second = All-append (λ (q : CellsAtOdds). q.second ≡ s.dart) (id_odds s head) (start_odds s o) ids.second at_start.second

  more_all : (a id_a id_b : ℕ) → AreToldAtOdds chains a s.dart id_a id_b → Any (λ q. (q.first ≡ a) × (q.second ≡ s.dart)) more
  more_all a id_a id_b (inl k) = any_left (λ (q : CellsAtOdds). (q.first ≡ a) × (q.second ≡ s.dart)) (id_odds s head) (start_odds s o) (id_all chains s true_one both head is_head a id_a id_b k)
  more_all a id_a id_b (inr k) = any_right (λ (q : CellsAtOdds). (q.first ≡ a) × (q.second ≡ s.dart)) (id_odds s head) (start_odds s o)
      (start_all chains s true_one both o (are.all s true_one) (λ f e. are.each s.node f room e) point a id_a id_b k)

  -- no two places have one dart
  other_dart : (k : ℕ) → k < p → (start_at starts k).dart ≢ s.dart
  other_dart k lt same = clash (sorted.rising k p no_start lt within)
    where
      one : (start_at starts k).id ≡ s.id
      one = one_id chains s.dart (start_at starts k).id s.id (subst (λ d. HasCell chains d (start_at starts k).id) same (sorted.each k no_start (omega (arith, lt, within))).has) true_one.has

      clash : ¬ IsPairBefore (start_at starts k).id (start_at starts k).dart s.id s.dart
      clash (inl less) = omega (arith, less, one)
      clash (inr before) = let up = before.1 in omega (arith, up, same)

  pub told_more : (old new : List CellsAtOdds) → new ≡ (old ++ id_odds s head) ++ start_odds s o → HaveTold chains starts p old → HaveTold chains starts (p + 1) new
  told_more old new grown t = subst (HaveTold chains starts (p + 1)) (sym (grown ∙ append_assoc old (id_odds s head) (start_odds s o))) (record {
    good = All-append (λ (q : CellsAtOdds). AreToldAtOdds chains q.first q.second q.first_id q.second_id) old more t.good
        (All-append (λ (q : CellsAtOdds). AreToldAtOdds chains q.first q.second q.first_id q.second_id) (id_odds s head) (start_odds s o) ids.good at_start.good);
    all = λ k a id_a id_b lt told. elim (cases_lt k p) [
      | inl before ↦ any_left (λ (q : CellsAtOdds). (q.first ≡ a) × (q.second ≡ (start_at starts k).dart)) old more (t.all k a id_a id_b before told)
      | inr last ↦
          let now : k ≡ p = omega (arith, lt, last) in
          any_right (λ (q : CellsAtOdds). (q.first ≡ a) × (q.second ≡ (start_at starts k).dart)) old more (rw now (more_all a id_a id_b (rw now at told)))
    ];
    once = all_pairs_append ArePairsApart old more t.once more_apart
        (λ i j d hi hj same. let f = t.from i d hi in other_dart f.0 f.1 (sym f.2 ∙ same.1 ∙ more_second j d hj));
    from = All-append (IsFrom starts (p + 1)) old more (All-weaker (IsFrom starts p) (IsFrom starts (p + 1)) (from_on starts p) old t.from)
        (All-weaker (λ (q : CellsAtOdds). q.second ≡ s.dart) (IsFrom starts (p + 1)) (λ q is. (p, omega arith, is)) more more_second);
  })

-- sorted, they are all pairs
pub all_told : (chains : List MapChain) (starts : List CellStart) (old new : List CellsAtOdds) → AreSorted chains starts → HaveTold chains starts (length starts) old → IsPermutation old new → ArePairsSorted new → AreAllCellsAtOdds chains new
all_told chains starts old new sorted t moves up = record {
  true_ones = All-permutation (λ (q : CellsAtOdds). AreToldAtOdds chains q.first q.second q.first_id q.second_id) old new moves t.good;
  complete = λ a b id_a id_b told. found a b id_a id_b told (has_b a b id_a id_b told);
  rising = rising_of (λ (q : CellsAtOdds). q.first) (λ q. q.second) new up (λ i j d lt within. apart i j d (λ e. absurd (omega (arith, e, lt))) (omega (arith, lt, within)) within);
}
  where
    apart : AnyTwo ArePairsApart new
    apart = moved ArePairsApart old new moves (from_pairs ArePairsApart (λ q r no same. no (sym same.0, sym same.1)) old t.once)

    has_b : (a b id_a id_b : ℕ) → AreToldAtOdds chains a b id_a id_b → HasCell chains b id_b
    has_b a b id_a id_b (inl k) = k.other.has
    has_b a b id_a id_b (inr k) = k.other.has

    found : (a b id_a id_b : ℕ) → AreToldAtOdds chains a b id_a id_b → HasCell chains b id_b → Any (λ q. (q.first ≡ a) × (q.second ≡ b)) new
    found a b id_a id_b told has =
        let p = sorted.all b id_b has in
        let s = t.all p.place a id_a id_b p.within (subst (λ d. AreToldAtOdds chains a d id_a id_b) (sym p.is) told) in
        let c = Contains-permutation old new s.1 moves (s.0, s.2, s.3) in
        (c.0, s.1, c.1, c.2, (s.4.0, s.4.1 ∙ p.is))
