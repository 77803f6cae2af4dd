-- Rounds that are cut off darts in their order.
use Rattle.std.proofs.Common.{◌≡◌, ◌==◌, true, append-nil, inl, inr, ℕ, zero, suc, ◌+◌, ◌-◌, ◌<◌, ◌≤◌, ◌≢◌, arith, List, [], ◌∷◌, ◌++◌, length, take, get_or, slice_index_or, add-one, refl, ap, sym, subst, ◌∙◌, length-append, Vec, Global}
use Rattle.std.specs.List.{All, Contains}
use Rattle.std.proofs.lemmas.Bool.{cases_lt, eqb-true}
use Rattle.std.proofs.lemmas.List.{get_or_append_left, get_or-append-add, get_or_default, map-append}
use Rattle.std.proofs.lemmas.List.Elements.{All-nil, All-push, All-get_or, All-from_get_or, All-weaker, All-contains_itself}
use Rattle.std.proofs.lemmas.List.Quantifiers.{all_pairs_push}
use Rattle.tl_check_sides.specs.declared.headed.HeadedDart.{HeadedDart}
use Rattle.tl_build_propose.specs.Keeping.Lists.{darts_in, lists_in}
use Rattle.tl_build_propose.specs.Keeping.Sorting.{ComesBefore, AreSorted, node_of, IsGroup, AreCut}

-- what doesn't come before another has no lesser node
no_lesser : (s t : HeadedDart) → ¬ ComesBefore t s → s.node ≤ t.node
no_lesser s t not = elim (cases_lt t.node s.node) [ inl less ↦ absurd (not (inl less)) | inr least ↦ least ]

-- ---- the darts from the first on that start at its node

module _ (starts : List HeadedDart) (first : HeadedDart) (node n : ℕ) (some : 0 < length starts) (at : first ≡ get_or starts 0 first) (is : node ≡ first.node)
    (same : (k : ℕ) (d : HeadedDart) → 1 ≤ k → k < n → (get_or starts k d).node ≡ node) where
  starts_there : (k : ℕ) (d : HeadedDart) → k < n → (get_or starts k d).node ≡ node
  starts_there zero d lt = ap (λ (s : HeadedDart). s.node) (get_or_default starts 0 d first some ∙ sym at) ∙ sym is
  starts_there (suc k) d lt = same (suc k) d (omega arith) lt

  pub one_run : (k : ℕ) (d : HeadedDart) → zero < k → k < n → (get_or starts k d).node ≡ (get_or starts (k - 1) d).node
  one_run k d behind lt = starts_there k d lt ∙ sym (starts_there (k - 1) d (omega (arith, lt)))

  pub run_apart : 1 ≤ n → ((d : HeadedDart) → n < length starts → (get_or starts n d).node ≢ node) → (d : HeadedDart) → n < length starts
      → (get_or starts n d).node ≢ (get_or starts (n - 1) d).node
  run_apart behind stops d lt alike = stops d lt (alike ∙ starts_there (n - 1) d (omega (arith, behind)))

-- ---- the front and the back of darts in their order

module _ (front back : List HeadedDart) where
  sorted_front : AreSorted (front ++ back) → AreSorted front
  sorted_front sorted k d h before =
      let one = get_or_append_left front back d (k + 1) h in
      let two = get_or_append_left front back d k (omega (arith, h)) in
      sorted k d (omega (arith, length-append front back, h)) (rw (one, two) before)

  sorted_back : AreSorted (front ++ back) → AreSorted back
  sorted_back sorted k d h before =
      let moved : length front + k + 1 ≡ length front + (k + 1) = omega arith in
      let one : slice_index_or (front ++ back) (length front + k + 1) d ≡ slice_index_or back (k + 1) d =
      ap (λ i. slice_index_or (front ++ back) i d) moved ∙ get_or-append-add front back (k + 1) d in
      let two = get_or-append-add front back k d in
      sorted (length front + k) d (omega (arith, length-append front back, h)) (rw (one, two) before)

  -- all darts of the front start at one node
  same_node : (d : HeadedDart) → ((k : ℕ) → 0 < k → k < length front → (slice_index_or (front ++ back) k d).node ≡ (slice_index_or (front ++ back) (k - 1) d).node)
      → (k : ℕ) → k < length front → (slice_index_or front k d).node ≡ (slice_index_or front 0 d).node
  same_node d together zero h = refl
  same_node d together (suc k) h =
      let here = ap (λ (s : HeadedDart). s.node) (get_or_append_left front back d (suc k) h) in
      let there = ap (λ (s : HeadedDart). s.node) (get_or_append_left front back d k (omega (arith, h))) in
      let down : suc k - 1 ≡ k = omega arith in
      let step = ap (λ i. (slice_index_or (front ++ back) i d).node) down in
      sym here ∙ (together (suc k) (omega arith) h ∙ (step ∙ (there ∙ same_node d together k (omega (arith, h)))))

  -- and what is behind it starts at nodes of greater numbers
  greater : (d : HeadedDart) (node : ℕ) → AreSorted (front ++ back) → 0 < length front → (slice_index_or front (length front - 1) d).node ≡ node
      → (0 < length back → (slice_index_or (front ++ back) (length front) d).node ≢ (slice_index_or (front ++ back) (length front - 1) d).node)
      → (k : ℕ) → k < length back → node < (slice_index_or back k d).node
  greater d node sorted some last apart zero h =
      let none : length front ≡ length front + 0 = omega arith in
      let here = ap (λ (s : HeadedDart). s.node) (ap (λ i. slice_index_or (front ++ back) i d) none ∙ get_or-append-add front back 0 d) in
      let there = ap (λ (s : HeadedDart). s.node) (get_or_append_left front back d (length front - 1) (omega (arith, some))) in
      let behind : length front - 1 + 1 ≡ length front = omega (arith, some) in
      let ordered = no_lesser (slice_index_or (front ++ back) (length front - 1) d) (slice_index_or (front ++ back) (length front) d)
      (subst (λ i. ¬ ComesBefore (slice_index_or (front ++ back) i d) (slice_index_or (front ++ back) (length front - 1) d)) behind
      (sorted (length front - 1) d (omega (arith, length-append front back, some, h)))) in
      elim (cases_lt node (slice_index_or back 0 d).node) [
        | inl less ↦ less
        | inr not ↦ absurd (apart h (omega (arith, here, there, last, ordered, not)))
      ]
  greater d node sorted some last apart (suc k) h =
      let before = greater d node sorted some last apart k (omega (arith, h)) in
      let ordered = no_lesser (slice_index_or back k d) (slice_index_or back (k + 1) d) (sorted_back sorted k d (omega (arith, h))) in
      let up : suc k ≡ k + 1 = omega arith in
      let e : slice_index_or back (suc k) d ≡ slice_index_or back (k + 1) d = ap (λ i. slice_index_or back i d) up in
      omega (arith, before, ordered, ap (λ (s : HeadedDart). s.node) e)

-- the first of a front that has some
first_is : (front : List HeadedDart) (d : HeadedDart) → 0 < length front → (slice_index_or front 0 d).node ≡ node_of front
first_is [] d some = absurd (omega (arith, some))
first_is (s ∷ front) d some = refl

-- ---- rounds that are cut off

-- none is cut off yet
pub none_cut : (starts : List HeadedDart) → AreSorted starts → AreCut starts starts []
none_cut starts sorted = record {
  groups = [];
  are = refl;
  each = All-nil IsGroup;
  held = All-nil _;
  rising = λ i j d less h. absurd (omega (arith, h));
  behind = All-nil _;
  rest_held = All-contains_itself starts;
  sorted = sorted;
}

module _ (starts rest front back : List HeadedDart) (rounds : List (List ℕ)) (d : HeadedDart) (n : ℕ) (same : rest ≡ front ++ back) (long : length front ≡ n) (some : 0 < length front)
    (together : (k : ℕ) → 0 < k → k < n → (slice_index_or rest k d).node ≡ (slice_index_or rest (k - 1) d).node)
    (apart : n < length rest → (slice_index_or rest n d).node ≢ (slice_index_or rest (n - 1) d).node)
    (cut : AreCut starts rest rounds) where
  together_here : (k : ℕ) → 0 < k → k < length front → (slice_index_or (front ++ back) k d).node ≡ (slice_index_or (front ++ back) (k - 1) d).node
  together_here k positive within = subst (λ xs. (slice_index_or xs k d).node ≡ (slice_index_or xs (k - 1) d).node) same (together k positive (omega (arith, within, long)))

  apart_here : 0 < length back → (slice_index_or (front ++ back) (length front) d).node ≢ (slice_index_or (front ++ back) (length front - 1) d).node
  apart_here more =
      let far : n < length rest = omega (arith, ap length same, length-append front back, long, more) in
      subst (λ xs. (slice_index_or xs (length front) d).node ≢ (slice_index_or xs (length front - 1) d).node) same
      (subst (λ i. (slice_index_or rest i d).node ≢ (slice_index_or rest (i - 1) d).node) (sym long) (apart far))

  sorted : AreSorted (front ++ back)
  sorted = subst AreSorted same cut.sorted

  nodes_are : (k : ℕ) → k < length front → (slice_index_or front k d).node ≡ node_of front
  nodes_are k h = same_node front back d together_here k h ∙ first_is front d some

  group : IsGroup front
  group = record {
    some = some;
    one_node = All-from_get_or (λ (s : HeadedDart). s.node ≡ node_of front) front d nodes_are;
    sorted = sorted_front front back sorted;
  }

  behind_front : All (λ s. node_of front < s.node) back
  behind_front = All-from_get_or (λ (s : HeadedDart). node_of front < s.node) back d
      (greater front back d (node_of front) sorted some (nodes_are (length front - 1) (omega (arith, some))) apart_here)

  of_front : (P : HeadedDart → Type 0) → All P rest → All P front
  of_front P all = All-from_get_or P front d (λ k h.
      subst P (get_or_append_left front back d k h) (All-get_or P (front ++ back) k d (omega (arith, length-append front back, h)) (subst (All P) same all)))

  of_back : (P : HeadedDart → Type 0) → All P rest → All P back
  of_back P all = All-from_get_or P back d (λ k h.
      subst P (get_or-append-add front back k d) (All-get_or P (front ++ back) (length front + k) d (omega (arith, length-append front back, h)) (subst (All P) same all)))

  -- of the groups so far, the nodes have lesser numbers
  below_front : (k : ℕ) (e : List HeadedDart) → k < length cut.groups → node_of (slice_index_or cut.groups k e) < node_of front
  below_front k e h =
      let g = slice_index_or cut.groups k e in
      let all = of_front (λ (s : HeadedDart). node_of g < s.node) (All-get_or (λ g. All (λ (s : HeadedDart). node_of g < s.node) rest) cut.groups k e h cut.behind) in
      subst (λ n. node_of g < n) (first_is front d some) (All-get_or (λ (s : HeadedDart). node_of g < s.node) front 0 d some all)

  pub one_cut : AreCut starts back (rounds ++ darts_in front ∷ [])
  one_cut = record {
    groups = cut.groups ++ front ∷ [];
    are = ap (λ rs. rs ++ darts_in front ∷ []) cut.are ∙ sym (map-append darts_in cut.groups (front ∷ []));
    each = All-push IsGroup cut.groups front cut.each group;
    held = All-push (All (Contains starts)) cut.groups front cut.held (of_front (Contains starts) cut.rest_held);
    rising = all_pairs_push (λ g h. node_of g < node_of h) cut.groups front cut.rising (λ k e h. below_front k e h);
    behind = All-push (λ g. All (λ (s : HeadedDart). node_of g < s.node) back) cut.groups front
        (All-weaker (λ g. All (λ (s : HeadedDart). node_of g < s.node) rest) (λ g. All (λ (s : HeadedDart). node_of g < s.node) back) (λ g all. of_back (λ (s : HeadedDart). node_of g < s.node) all) cut.groups cut.behind) behind_front;
    rest_held = of_back (Contains starts) cut.rest_held;
    sorted = sorted_back front back sorted;
  }

-- a dart of a list that has some
pub some_of : (front : List HeadedDart) → 0 < length front → HeadedDart
some_of [] some = absurd (omega (arith, some))
some_of (s ∷ front) some = s

-- one round more
pub more_rounds : (lists more : List (Vec ℕ Global)) (v : Vec ℕ Global) (front : List HeadedDart) → more ≡ lists ++ v ∷ [] → v.items ≡ darts_in front
    → lists_in lists ++ darts_in front ∷ [] ≡ lists_in more
more_rounds lists more v front pushed at =
    ap (λ r. lists_in lists ++ r ∷ []) (sym at) ∙ (sym (map-append (λ (r : Vec ℕ Global). r.items) lists (v ∷ [])) ∙ ap lists_in (sym pushed))

-- ---- the darts of one start more

darts_suc : (starts : List HeadedDart) (k : ℕ) (d : HeadedDart) → k < length starts → darts_in (take (suc k) starts) ≡ darts_in (take k starts) ++ (get_or starts k d).dart ∷ []
darts_suc [] k d lt = absurd (omega (arith, lt))
darts_suc (s ∷ starts) zero d lt = refl
darts_suc (s ∷ starts) (suc k) d lt = ap (λ darts. s.dart ∷ darts) (darts_suc starts k d (omega (arith, lt)))

pub darts_more : (starts : List HeadedDart) (k : ℕ) (s : HeadedDart) → k < length starts → s ≡ get_or starts k s → darts_in (take (k + 1) starts) ≡ darts_in (take k starts) ++ s.dart ∷ []
darts_more starts k s lt e = rw add-one (darts_suc starts k s lt ∙ ap (λ (x : HeadedDart). darts_in (take k starts) ++ x.dart ∷ []) (sym e))

-- where no dart is left
pub no_rest : (rest : List HeadedDart) → true ≡ (length rest == 0) → rest ≡ []
no_rest [] none = refl
no_rest (start ∷ rest) none = let long = eqb-true (length (start ∷ rest)) 0 (sym none) in absurd (omega (arith, long))

pub all_cut : (rest : List HeadedDart) (cut whole : List ℕ) → true ≡ (length rest == 0) → cut ++ darts_in rest ≡ whole → cut ≡ whole
all_cut rest cut whole none e = sym (append-nil cut) ∙ ap (λ more. cut ++ darts_in more) (sym (no_rest rest none)) ∙ e
