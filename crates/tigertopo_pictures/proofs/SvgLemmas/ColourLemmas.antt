-- The colours of polygons.
use Rattle.std.proofs.Common.{◌≡◌, ◌≢◌, ◌⊎◌, inl, inr, ℕ, zero, suc, ◌+◌, ◌*◌, ◌/◌, ◌%◌, ◌<◌, ◌≤◌, Bool, true, false, List, [], ◌∷◌, ◌++◌, length, get_or, Some, None, Option, refl, sym, ap, subst, ◌∙◌, below_more, arith, length-append}
use Rattle.std.specs.Prelude.{slice_index, if◌then◌else◌}
use Rattle.std.specs.List.{AllByRecursion}
use Rattle.std.proofs.Math.Seq.{get_or-append_seam}
use Rattle.std.proofs.lemmas.List.{get_or_append_left, get_or-append-add}
use Rattle.std.proofs.lemmas.Bool.{cases_lt}
use Rattle.std.proofs.lemmas.Bool.Decides.{eqb_tells}
use Rattle.tl_map_county.specs.TheMap.{MapChain}
use Rattle.tl_map_county.specs.Darts.{reverse_dart, is_along}
use Rattle.tl_check_sides.proofs.Boundaries.{back_again}
use Rattle.std.proofs.lemmas.Option.{slice_get_past}
use Rattle.std.specs.Option.{option_map}
use Rattle.tigertopo_pictures.specs.Walks.{polygon_on}
use Rattle.tigertopo_pictures.specs.Groups.{is_group, places_from, places, GoesThrough}
use Rattle.tigertopo_pictures.specs.Svg.Colours.{left_polygon, AreNeighbours, IsTaken, AreColours, Reaches, AreLefts, IsAdded}

-- one item more
pub each_more : {X : Type 0} (xs : List X) (n : ℕ) (x d : X) (made : ℕ → X) → length xs ≡ n → ((k : ℕ) → k < n → get_or xs k d ≡ made k) → x ≡ made n → (k : ℕ) → k < n + 1 → get_or (xs ++ x ∷ []) k d ≡ made k
each_more xs n x d made long each here =
    below_more (λ k. get_or (xs ++ x ∷ []) k d ≡ made k) n
    (λ k less. get_or_append_left xs (x ∷ []) d k (omega (arith, long, less)) ∙ each k less)
    (subst (λ m. get_or (xs ++ x ∷ []) m d ≡ made n) long (get_or-append_seam xs x [] d ∙ here))

-- ---- neighbours

-- the second is a neighbour of the first too
turned : (chains : List MapChain) (p q : ℕ) → AreNeighbours chains p q → AreNeighbours chains q p
turned chains p q beside = record {
  dart = reverse_dart beside.dart;
  left = beside.right;
  right = ap (left_polygon chains) (back_again beside.dart) ∙ beside.left;
}

-- of two neighbours the one with the higher number has another colour than the other
differs : (chains : List MapChain) (count : ℕ) (colours : List ℕ) → AreColours chains count colours → (p q : ℕ) → p < count → q < p → AreNeighbours chains p q
    → slice_index colours q ≡ slice_index colours p → ⊥
differs chains count colours are p q within lower beside same = are.free p within (record { other = q; lower = lower; beside = beside; has = same })

pub neighbours_differ : (chains : List MapChain) (count : ℕ) (colours : List ℕ) → AreColours chains count colours → (p q : ℕ) → p < count → q < count → p ≢ q
    → AreNeighbours chains p q → slice_index colours p ≢ slice_index colours q
neighbours_differ chains count colours are p q first second other beside same = elim (cases_lt q p) [
  | inl lower ↦ differs chains count colours are p q first lower beside (sym same)
  | inr higher ↦ differs chains count colours are q p second (let apart : p ≢ q = other in omega (arith, higher, apart)) (turned chains p q beside) same
]

-- ---- who goes through a group

-- of each of these that was passed something holds, and the others are still to come
abbrev pub Passed : (ℕ → Type 0) → List ℕ → ℕ → List ℕ → Type 0
Passed M next at [] = length next ≤ at
Passed M next at (n ∷ rest) = GoesThrough next at (n ∷ rest) ⊎ (M n × Passed M next at rest)

module _ (M : ℕ → Type 0) (next : List ℕ) where
  pub passed_none : (at : ℕ) (ns : List ℕ) → GoesThrough next at ns → Passed M next at ns
  passed_none at [] goes = goes
  passed_none at (n ∷ rest) goes = inl goes

  pub passed_one : (at : ℕ) (ns : List ℕ) → at < length next → M at → Passed M next at ns → Passed M next (slice_index next at) ns
  passed_one at [] within here passed = absurd (omega (arith, within, passed))
  passed_one at (n ∷ rest) within here (inl goes) = inr (subst M goes.0 here, passed_none (slice_index next at) rest (rw goes.0 goes.2))
  passed_one at (n ∷ rest) within here (inr passed) = inr (passed.0, passed_one at rest within here passed.1)

  pub passed_all : (at : ℕ) (ns : List ℕ) → length next ≤ at → Passed M next at ns → AllByRecursion M ns
  passed_all at [] beyond passed = tt
  passed_all at (n ∷ rest) beyond (inl goes) = absurd (omega (arith, beyond, goes.0, goes.1))
  passed_all at (n ∷ rest) beyond (inr passed) = (passed.0, passed_all at rest beyond passed.1)

  -- who is reached is one of them
  pub passed_here : (P : ℕ → Type 0) (at : ℕ) (ns : List ℕ) → at < length next → Passed M next at ns → AllByRecursion P ns → P at
  passed_here P at [] within passed all = absurd (omega (arith, within, passed))
  passed_here P at (n ∷ rest) within (inl goes) all = subst P (sym goes.0) all.0
  passed_here P at (n ∷ rest) within (inr passed) all = passed_here P at rest within passed.1 all.1

pub passed_still : (M N : ℕ → Type 0) (next : List ℕ) → ((n : ℕ) → M n → N n) → (at : ℕ) (ns : List ℕ) → Passed M next at ns → Passed N next at ns
passed_still M N next still at [] passed = passed
passed_still M N next still at (n ∷ rest) (inl goes) = inl goes
passed_still M N next still at (n ∷ rest) (inr passed) = inr (still n passed.0, passed_still M N next still at rest passed.1)

-- ---- the items of a group

-- a group is this one where the test says so
is_own : (g : ℕ) (group : Option ℕ) → is_group g group ≡ true → group ≡ Some g
is_own g None same = absurd (let wrong = same in cc)
is_own g (Some h) same = elim (eqb_tells h g) [
  | inl tells ↦ ap Some tells.1
  | inr tells ↦ absurd (let wrong = sym same ∙ tells.0 in cc)
]

own_is : (g : ℕ) (group : Option ℕ) → group ≡ Some g → is_group g group ≡ true
own_is g group is = elim (eqb_tells g g) [
  | inl tells ↦ rw is tells.0
  | inr tells ↦ absurd (tells.1 refl)
]

module _ (M : ℕ → Type 0) (n : ℕ) (ns : List ℕ) where
  with_first : (b : Bool) → (b ≡ true → M n) → AllByRecursion M ns → AllByRecursion M (if b then n ∷ ns else ns)
  with_first true here behind = (here refl, behind)
  with_first false here behind = behind

  without_first : (b : Bool) → AllByRecursion M (if b then n ∷ ns else ns) → AllByRecursion M ns
  without_first true all = all.1
  without_first false all = all

  first_one : (b : Bool) → b ≡ true → AllByRecursion M (if b then n ∷ ns else ns) → M n
  first_one true is all = all.0
  first_one false is all = absurd (let wrong = is in cc)

-- what holds of each item of a group
pub all_places : (M : ℕ → Type 0) (g n : ℕ) (groups : List (Option ℕ)) → ((k : ℕ) → k < length groups → get_or groups k None ≡ Some g → M (n + k))
    → AllByRecursion M (places_from g n groups)
all_places M g n [] holds = tt
all_places M g n (group ∷ rest) holds =
    let behind : AllByRecursion M (places_from g (suc n) rest) =
    all_places M g (suc n) rest (λ k within is. subst M (let e : n + suc k ≡ suc n + k = omega arith in e) (holds (suc k) (let h : k < length rest = within in omega arith) is)) in
    with_first M n (places_from g (suc n) rest) (is_group g group)
    (λ own. subst M (let e : n + 0 ≡ n = omega arith in e) (holds 0 (omega arith) (is_own g group own))) behind

-- what holds of all items of a group holds of each item that is one of it
pub each_place : (M : ℕ → Type 0) (g n : ℕ) (groups : List (Option ℕ)) → AllByRecursion M (places_from g n groups)
    → (k : ℕ) → k < length groups → get_or groups k None ≡ Some g → M (n + k)
each_place M g n [] all k within is = absurd (omega (arith, within))
each_place M g n (group ∷ rest) all zero within is =
    subst M (let e : n ≡ n + 0 = omega arith in e) (first_one M n (places_from g (suc n) rest) (is_group g group) (own_is g group is) all)
each_place M g n (group ∷ rest) all (suc k) within is =
    subst M (let e : suc n + k ≡ n + suc k = omega arith in e)
    (each_place M g (suc n) rest (without_first M n (places_from g (suc n) rest) (is_group g group) all) k (omega (arith, within)) is)

-- ---- marks

-- what a dart reaches is marked with the polygon
abbrev pub Marks : List MapChain → List ℕ → ℕ → List ℕ → ℕ → Type 0
Marks chains colours p marks d = (c : ℕ) → Reaches chains colours d c → slice_index marks c ≡ p

-- a dart is marked still
pub marked_still : (chains : List MapChain) (colours : List ℕ) (p : ℕ) (old new : List ℕ) (dart : ℕ)
    → ((c : ℕ) → (slice_index new c ≡ slice_index old c) ⊎ (Reaches chains colours dart c × (slice_index new c ≡ p)))
    → (d : ℕ) → Marks chains colours p old d → Marks chains colours p new d
marked_still chains colours p old new dart others d marked c reaches = elim (others c) [
  | inl same ↦ same ∙ marked c reaches
  | inr here ↦ here.1
]

-- a colour that a dart of the polygon reaches is taken
pub taken_by : (chains : List MapChain) (colours : List ℕ) (p dart c : ℕ) → length colours ≡ p → left_polygon chains dart ≡ Some p → Reaches chains colours dart c
    → IsTaken chains colours p c
taken_by chains colours p dart c coloured left reaches = record {
  other = reaches.other;
  lower = omega (arith, reaches.known, coloured);
  beside = record { dart = dart; left = left; right = reaches.beside };
  has = reaches.has;
}

-- the darts of a group have the polygon on their left
pub darts_left : (chains : List MapChain) (lefts : List (Option ℕ)) (p : ℕ) → AreLefts chains lefts → AllByRecursion (λ d. left_polygon chains d ≡ Some p) (places p lefts)
darts_left chains lefts p are =
    all_places (λ d. left_polygon chains d ≡ Some p) p 0 lefts (λ k within is. subst (λ d. left_polygon chains d ≡ Some p) (let e : k ≡ 0 + k = omega arith in e) (sym (are.each k (omega (arith, within, are.all))) ∙ is))

-- a dart that has a side is one of the chains
dart_within : (chains : List MapChain) (d p : ℕ) → left_polygon chains d ≡ Some p → d < 2 * length chains
dart_within chains d p is = elim (cases_lt (d / 2) (length chains)) [
  | inl within ↦ omega (arith, within)
  | inr beyond ↦ absurd (let none : left_polygon chains d ≡ None = ap (λ o. polygon_on (option_map (λ (c : MapChain). if is_along d then c.left else c.right) o)) (slice_get_past chains (d / 2) beyond) in
      let wrong = sym none ∙ is in cc)
]

-- where all darts of a polygon are marked, so are all colours that are taken
pub all_taken : (chains : List MapChain) (lefts : List (Option ℕ)) (colours : List ℕ) (p : ℕ) (marks : List ℕ) → AreLefts chains lefts → length colours ≡ p
    → AllByRecursion (Marks chains colours p marks) (places p lefts) → (c : ℕ) → IsTaken chains colours p c → slice_index marks c ≡ p
all_taken chains lefts colours p marks are coloured all c taken =
    let d = taken.beside.dart in
    let within : d < 2 * length chains = dart_within chains d p taken.beside.left in
    let marked : Marks chains colours p marks d =
    subst (Marks chains colours p marks) (let e : 0 + d ≡ d = omega arith in e)
    (each_place (Marks chains colours p marks) p 0 lefts all d (omega (arith, within, are.all)) (are.each d within ∙ taken.beside.left)) in
    marked c (record { other = taken.other; beside = taken.beside.right; known = omega (arith, taken.lower, coloured); has = taken.has })

-- ---- one polygon more

-- a colour that is taken stays taken, and none is added
taken_still : (chains : List MapChain) (colours : List ℕ) (x p c : ℕ) → p ≤ length colours → IsTaken chains colours p c → IsTaken chains (colours ++ x ∷ []) p c
taken_still chains colours x p c within taken = record {
  other = taken.other;
  lower = taken.lower;
  beside = taken.beside;
  has = get_or_append_left colours (x ∷ []) 0 taken.other (omega (arith, taken.lower, within)) ∙ taken.has;
}

taken_before : (chains : List MapChain) (colours : List ℕ) (x p c : ℕ) → p ≤ length colours → IsTaken chains (colours ++ x ∷ []) p c → IsTaken chains colours p c
taken_before chains colours x p c within taken = record {
  other = taken.other;
  lower = taken.lower;
  beside = taken.beside;
  has = sym (get_or_append_left colours (x ∷ []) 0 taken.other (omega (arith, taken.lower, within))) ∙ taken.has;
}

-- the last of them
last_is : (colours : List ℕ) (x p : ℕ) → length colours ≡ p → slice_index (colours ++ x ∷ []) p ≡ x
last_is colours x p long = ap (slice_index (colours ++ x ∷ [])) (let e : p ≡ length colours + 0 = omega (arith, long) in e) ∙ get_or-append-add colours (x ∷ []) 0 0

pub one_coloured : (chains : List MapChain) (p x : ℕ) (colours : List ℕ) → AreColours chains p colours → ¬ IsTaken chains colours p x
    → ((c : ℕ) → c < x → IsTaken chains colours p c) → AreColours chains (p + 1) (colours ++ x ∷ [])
one_coloured chains p x colours are free least =
    let long = are.all in
    let last = last_is colours x p are.all in
    record {
      all = length-append colours (x ∷ []) ∙ (let e : length colours + 1 ≡ p + 1 = omega (arith, long) in e);
      free = λ q within taken. elim (cases_lt q p) [
        | inl before ↦ are.free q before (subst (IsTaken chains colours q) (get_or_append_left colours (x ∷ []) 0 q (omega (arith, before, long)))
            (taken_before chains colours x q _ (omega (arith, before, long)) taken))
        | inr here ↦
            let same : q ≡ p = omega (arith, within, here) in
            free (subst (λ r. IsTaken chains colours r x) same
            (taken_before chains colours x q x (omega (arith, same, long)) (subst (IsTaken chains (colours ++ x ∷ []) q) (ap (slice_index (colours ++ x ∷ [])) same ∙ last) taken)))
      ];
      least = λ q c within less. elim (cases_lt q p) [
        | inl before ↦
            taken_still chains colours x q c (omega (arith, before, long))
            (are.least q c before (let e = get_or_append_left colours (x ∷ []) 0 q (omega (arith, before, long)) in omega (arith, less, e)))
        | inr here ↦
            let same : q ≡ p = omega (arith, within, here) in
            let first = ap (slice_index (colours ++ x ∷ [])) same ∙ last in
            subst (λ r. IsTaken chains (colours ++ x ∷ []) r c) (sym same) (taken_still chains colours x p c (omega (arith, long)) (least c (omega (arith, less, first))))
      ];
    }

-- ---- colours and marks together

-- the polygons below p have their colours, each of which has a mark, and all marks are of these polygons
pub record AreMarked (chains : List MapChain) (p : ℕ) (colours marks : List ℕ) : Type 0 where
  pub are : AreColours chains p colours
  pub known : (q : ℕ) → q < length colours → slice_index colours q < length marks
  pub earlier : (c : ℕ) → c < length marks → slice_index marks c < p
  pub few : length marks ≤ p

pub marked_none : (chains : List MapChain) → AreMarked chains 0 [] []
marked_none chains = record {
  are = record {
    all = refl;
    free = λ q within. absurd (omega (arith, within));
    least = λ q c within. absurd (omega (arith, within));
  };
  known = λ q within. absurd (omega (arith, within));
  earlier = λ c within. absurd (omega (arith, within));
  few = omega arith;
}

-- the marks after a polygon was given its colour
module _ (p colour : ℕ) (marks kept : List ℕ) (bound : (c : ℕ) → c < length marks → slice_index marks c ≤ p) where
  kept_long : ((kept ≡ marks) × (colour < length marks)) ⊎ ((kept ≡ marks ++ p ∷ []) × (colour ≡ length marks)) → (length marks ≤ length kept) × (length kept ≤ length marks + 1) × (colour < length kept)
  kept_long (inl same) = let e = ap length same.0 in let h = same.1 in (omega (arith, e), omega (arith, e), omega (arith, e, h))
  kept_long (inr more) =
      let e : length kept ≡ length marks + 1 = ap length more.0 ∙ length-append marks (p ∷ []) in
      let h = more.1 in
      (omega (arith, e), omega (arith, e), omega (arith, e, h))

  kept_earlier : ((kept ≡ marks) × (colour < length marks)) ⊎ ((kept ≡ marks ++ p ∷ []) × (colour ≡ length marks)) → (c : ℕ) → c < length kept → slice_index kept c < p + 1
  kept_earlier (inl same) c within =
      let e : slice_index kept c ≡ slice_index marks c = ap (λ (l : List ℕ). slice_index l c) same.0 in
      omega (arith, e, bound c (let n = ap length same.0 in omega (arith, n, within)))
  kept_earlier (inr more) c within = elim (cases_lt c (length marks)) [
    | inl before ↦
        let e : slice_index kept c ≡ slice_index marks c = ap (λ (l : List ℕ). slice_index l c) more.0 ∙ get_or_append_left marks (p ∷ []) 0 c before in
        omega (arith, e, bound c before)
    | inr behind ↦
        let n : length kept ≡ length marks + 1 = ap length more.0 ∙ length-append marks (p ∷ []) in
        let e : slice_index kept c ≡ p = ap (λ (l : List ℕ). slice_index l c) more.0 ∙ last_is marks p c (omega (arith, n, within, behind)) in
        omega (arith, e)
  ]

pub one_marked : (chains : List MapChain) (p : ℕ) (colours before marks more kept : List ℕ) → AreMarked chains p colours before → length marks ≡ length before
    → ((c : ℕ) → IsTaken chains colours p c → slice_index marks c ≡ p) → ((c : ℕ) → c < length marks → slice_index marks c ≡ p → IsTaken chains colours p c)
    → ((c : ℕ) → c < length marks → slice_index marks c ≤ p) → IsAdded p colours marks more kept → AreMarked chains (p + 1) more kept
one_marked chains p colours before marks more kept so long marked taken bound added =
    let colour = added.colour in
    let all = so.are.all in
    let sizes = kept_long p colour marks kept bound added.kept_are in
    let free : ¬ IsTaken chains colours p colour = λ was.
    let other : was.other < length colours = omega (arith, was.lower, all) in
    let known = so.known was.other other in
    let has = was.has in
    added.free (omega (arith, known, has, long)) (marked colour was) in
    let least : (c : ℕ) → c < colour → IsTaken chains colours p c = λ c less. taken c (omega (arith, less, sizes.2, sizes.1)) (added.first c less) in
    record {
      are = subst (AreColours chains (p + 1)) (sym added.more_is) (one_coloured chains p colour colours so.are free least);
      known = λ q within.
          let n : length more ≡ p + 1 = ap length added.more_is ∙ length-append colours (colour ∷ []) ∙ (let e : length colours + 1 ≡ p + 1 = omega (arith, all) in e) in
          elim (cases_lt q p) [
            | inl earlier ↦
                let e : slice_index more q ≡ slice_index colours q = ap (λ (l : List ℕ). slice_index l q) added.more_is ∙ get_or_append_left colours (colour ∷ []) 0 q (omega (arith, earlier, all)) in
                omega (arith, e, so.known q (omega (arith, earlier, all)), long, sizes.0)
            | inr here ↦
                let e : slice_index more q ≡ colour = ap (λ (l : List ℕ). slice_index l q) added.more_is ∙ last_is colours colour q (omega (arith, here, within, n, all)) in
                omega (arith, e, sizes.2)
          ];
      earlier = kept_earlier p colour marks kept bound added.kept_are;
      few = let f = so.few in omega (arith, f, long, sizes.1);
    }

-- ---- hues

pub hues_differ : (a b : ℕ) → a < 360 → b < 360 → 137 * a % 360 ≡ 137 * b % 360 → a ≡ b
hues_differ a b first second same = omega (arith, first, second, same)
