-- Numbers below n, each with one before it that no other has before it, stand in cycles.
use Rattle.std.proofs.Common.{◌≡◌, ◌⊎◌, inl, inr, ℕ, zero, suc, ◌+◌, ◌-◌, ◌<◌, ◌≤◌, Bool, true, false, List, [], ◌∷◌, length, refl, sym, ap, subst, ◌∙◌, arith}
use Rattle.std.specs.Prelude.{⊤, ◌==◌, if◌then◌else◌, slice_index}
use Rattle.std.specs.List.{concat}
use Rattle.std.proofs.lemmas.Bool.{eqb-true, eq-eqb}
use Rattle.tl_tree_index.specs.Hits.{times}
use Rattle.tl_tree_index.proofs.Times.{same_or, times-same, times-other, times-append}
use Rattle.tl_check_sides.specs.Lists.{before, times_in, HoldOnce, EachList}

pub false_by : (b : Bool) → ¬ (b ≡ true) → b ≡ false
false_by true h = absurd (h refl)
false_by false h = refl

other_test : (x z : ℕ) → ¬ (x ≡ z) → (x == z) ≡ false
other_test x z ne = false_by (x == z) (λ e. ne (eqb-true x z e))

-- ---- runs

module _ (T : ℕ → ℕ) where
  -- before the first stands p, and before each other the one that is before it in the list
  abbrev pub Runs : ℕ → List ℕ → Type 0
  Runs p [] = ⊤
  Runs p (x ∷ xs) = (T x ≡ p) × Runs x xs

  -- the last of the list, or p
  abbrev pub final : ℕ → List ℕ → ℕ
  final p [] = p
  final p (x ∷ xs) = final x xs

  -- before the first stands the last
  abbrev pub IsCycle : List ℕ → Type 0
  IsCycle [] = ⊥
  IsCycle (x ∷ xs) = Runs (final x xs) (x ∷ xs)

abbrev pub AreUnder : ℕ → List ℕ → Type 0
AreUnder n [] = ⊤
AreUnder n (x ∷ xs) = (x < n) × AreUnder n xs

abbrev pub EachOf : (List ℕ → Type 0) → List (List ℕ) → Type 0
EachOf P [] = ⊤
EachOf P (xs ∷ lists) = P xs × EachOf P lists

pub record AreCycles (n : ℕ) (T : ℕ → ℕ) : Type 0 where
  pub lists : List (List ℕ)
  pub once : (i : ℕ) → i < n → times_in i lists ≡ 1
  pub no_other : (i : ℕ) → n ≤ i → times_in i lists ≡ 0
  pub under : EachOf (AreUnder n) lists
  pub cycles : EachOf (IsCycle T) lists

more_under : (n : ℕ) (xs : List ℕ) → AreUnder n xs → AreUnder (suc n) xs
more_under n [] u = u
more_under n (x ∷ xs) u = let lt = u.0 in (omega (arith, lt), more_under n xs u.1)

all_more_under : (n : ℕ) (lists : List (List ℕ)) → EachOf (AreUnder n) lists → EachOf (AreUnder (suc n)) lists
all_more_under n [] u = u
all_more_under n (xs ∷ lists) u = (more_under n xs u.0, all_more_under n lists u.1)

-- the same by another function that is alike below n
module _ (n : ℕ) (T U : ℕ → ℕ) (alike : (x : ℕ) → x < n → T x ≡ U x) where
  runs_alike : (p : ℕ) (xs : List ℕ) → AreUnder n xs → Runs T p xs → Runs U p xs
  runs_alike p [] u r = r
  runs_alike p (x ∷ xs) u r = (sym (alike x u.0) ∙ r.0, runs_alike x xs u.1 r.1)

  cycle_alike : (xs : List ℕ) → AreUnder n xs → IsCycle T xs → IsCycle U xs
  cycle_alike [] u c = c
  cycle_alike (x ∷ xs) u c = subst (λ p. Runs U p (x ∷ xs)) (finals x xs) (runs_alike (final T x xs) (x ∷ xs) u c)
    where
      finals : (p : ℕ) (xs : List ℕ) → final T p xs ≡ final U p xs
      finals p [] = refl
      finals p (x ∷ xs) = finals x xs

  cycles_alike : (lists : List (List ℕ)) → EachOf (AreUnder n) lists → EachOf (IsCycle T) lists → EachOf (IsCycle U) lists
  cycles_alike [] u c = c
  cycles_alike (xs ∷ lists) u c = (cycle_alike xs u.0 c.0, cycles_alike lists u.1 c.1)

-- ---- n is put behind z

module _ (z n : ℕ) where
  abbrev put : List ℕ → List ℕ
  put [] = []
  put (x ∷ xs) = if x == z then x ∷ (n ∷ put xs) else x ∷ put xs

  put_here : (x : ℕ) (xs : List ℕ) → x ≡ z → put (x ∷ xs) ≡ x ∷ (n ∷ put xs)
  put_here x xs e = let t = eq-eqb x z e in rw t refl

  put_past : (x : ℕ) (xs : List ℕ) → ¬ (x ≡ z) → put (x ∷ xs) ≡ x ∷ put xs
  put_past x xs ne = let t = other_test x z ne in rw t refl

  -- n is in the stead of z
  abbrev instead : ℕ → ℕ
  instead p = if p == z then n else p

  instead_here : (p : ℕ) → p ≡ z → instead p ≡ n
  instead_here p e = let t = eq-eqb p z e in rw t refl

  instead_other : (p : ℕ) → ¬ (p ≡ z) → instead p ≡ p
  instead_other p ne = let t = other_test p z ne in rw t refl

  put_times : (i : ℕ) → ¬ (i ≡ n) → (xs : List ℕ) → times i (put xs) ≡ times i xs
  put_times i ne [] = refl
  put_times i ne (x ∷ xs) = same_or x z
      (λ e.
      ap (times i) (put_here x xs e) ∙ ap (λ k. (if i == x then 1 else 0) + k) (times-other i n (put xs) ne ∙ put_times i ne xs))
      (λ other. ap (times i) (put_past x xs other) ∙ ap (λ k. (if i == x then 1 else 0) + k) (put_times i ne xs))

  put_own : ¬ (n ≡ z) → (xs : List ℕ) → times n (put xs) ≡ times n xs + times z xs
  put_own ne [] = refl
  put_own ne (x ∷ xs) = same_or x z
      (λ e.
      let rest = put_own ne xs in
      let here = times-same n n (put xs) refl in
      let first : times n (x ∷ (n ∷ put xs)) ≡ times n (n ∷ put xs) = times-other n x (n ∷ put xs) (λ f. ne (f ∙ e)) in
      let mine : times n (x ∷ xs) ≡ times n xs = times-other n x xs (λ f. ne (f ∙ e)) in
      let its : times z (x ∷ xs) ≡ 1 + times z xs = times-same z x xs (sym e) in
      let all = ap (times n) (put_here x xs e) in
      omega (arith, rest, here, first, mine, its, all))
      (λ other.
      let rest = put_own ne xs in
      let its : times z (x ∷ xs) ≡ times z xs = times-other z x xs (λ f. other (sym f)) in
      let all = ap (times n) (put_past x xs other) in
      by_same (same_or n x
      (λ e. inl (times-same n x (put xs) e, times-same n x xs e))
      (λ f. inr (times-other n x (put xs) f, times-other n x xs f))) rest its all)
    where
      by_same : ((times n (x ∷ put xs) ≡ 1 + times n (put xs)) × (times n (x ∷ xs) ≡ 1 + times n xs)) ⊎ ((times n (x ∷ put xs) ≡ times n (put xs)) × (times n (x ∷ xs) ≡ times n xs)) →
          times n (put xs) ≡ times n xs + times z xs → times z (x ∷ xs) ≡ times z xs → times n (put (x ∷ xs)) ≡ times n (x ∷ put xs) → times n (put (x ∷ xs)) ≡ times n (x ∷ xs) + times z (x ∷ xs)
      by_same (inl h) rest its all = let a = h.0 in let b = h.1 in omega (arith, a, b, rest, its, all)
      by_same (inr h) rest its all = let a = h.0 in let b = h.1 in omega (arith, a, b, rest, its, all)

  abbrev put_all : List (List ℕ) → List (List ℕ)
  put_all [] = []
  put_all (xs ∷ lists) = put xs ∷ put_all lists

  all_times : (i : ℕ) → ¬ (i ≡ n) → (lists : List (List ℕ)) → times_in i (put_all lists) ≡ times_in i lists
  all_times i ne [] = refl
  all_times i ne (xs ∷ lists) =
      times-append i (put xs) (concat (put_all lists))
      ∙ (let here = put_times i ne xs in let rest = all_times i ne lists in omega (arith, here, rest))
      ∙ sym (times-append i xs (concat lists))

  all_own : ¬ (n ≡ z) → (lists : List (List ℕ)) → times_in n (put_all lists) ≡ times_in n lists + times_in z lists
  all_own ne [] = refl
  all_own ne (xs ∷ lists) =
      let here = put_own ne xs in let rest = all_own ne lists in
      let a = times-append n (put xs) (concat (put_all lists)) in
      let b = times-append n xs (concat lists) in
      let c = times-append z xs (concat lists) in
      omega (arith, here, rest, a, b, c)

  put_under : (xs : List ℕ) → AreUnder n xs → AreUnder (suc n) (put xs)
  put_under [] u = u
  put_under (x ∷ xs) u = same_or x z
      (λ e. subst (AreUnder (suc n)) (sym (put_here x xs e)) (let lt = u.0 in (omega (arith, lt), (omega arith, put_under xs u.1))))
      (λ other. subst (AreUnder (suc n)) (sym (put_past x xs other)) (let lt = u.0 in (omega (arith, lt), put_under xs u.1)))

  all_put_under : (lists : List (List ℕ)) → EachOf (AreUnder n) lists → EachOf (AreUnder (suc n)) (put_all lists)
  all_put_under [] u = u
  all_put_under (xs ∷ lists) u = (put_under xs u.0, all_put_under lists u.1)

  -- ---- and the runs are those of a function that has n between

  module _ (T U : ℕ → ℕ) (last : U n ≡ z) (moved : (x : ℕ) → x < n → U x ≡ instead (T x)) where
    put_runs : (p : ℕ) (xs : List ℕ) → AreUnder n xs → Runs T p xs → Runs U (instead p) (put xs)
    put_runs p [] u r = r
    put_runs p (x ∷ xs) u r = same_or x z
        (λ e.
        subst (Runs U (instead p)) (sym (put_here x xs e))
        (moved x u.0 ∙ ap instead r.0, (last ∙ sym e, subst (λ q. Runs U q (put xs)) (instead_here x e) (put_runs x xs u.1 r.1))))
        (λ other.
        subst (Runs U (instead p)) (sym (put_past x xs other))
        (moved x u.0 ∙ ap instead r.0, subst (λ q. Runs U q (put xs)) (instead_other x other) (put_runs x xs u.1 r.1)))

    put_final : (p : ℕ) (xs : List ℕ) → final U (instead p) (put xs) ≡ instead (final T p xs)
    put_final p [] = refl
    put_final p (x ∷ xs) = same_or x z
        (λ e. ap (final U (instead p)) (put_here x xs e) ∙ ap (λ q. final U q (put xs)) (sym (instead_here x e)) ∙ put_final x xs)
        (λ other. ap (final U (instead p)) (put_past x xs other) ∙ ap (λ q. final U q (put xs)) (sym (instead_other x other)) ∙ put_final x xs)

    put_cycle : (xs : List ℕ) → AreUnder n xs → IsCycle T xs → IsCycle U (put xs)
    put_cycle [] u c = c
    put_cycle (x ∷ xs) u c = same_or x z
        (λ e.
        subst (IsCycle U) (sym (put_here x xs e))
        (subst (λ q. Runs U q (x ∷ (n ∷ put xs))) (sym (ap (λ q. final U q (put xs)) (sym (instead_here x e)) ∙ put_final x xs))
        (subst (Runs U (instead (final T x xs))) (put_here x xs e) (put_runs (final T x xs) (x ∷ xs) u c))))
        (λ other.
        subst (IsCycle U) (sym (put_past x xs other))
        (subst (λ q. Runs U q (x ∷ put xs)) (sym (ap (λ q. final U q (put xs)) (sym (instead_other x other)) ∙ put_final x xs))
        (subst (Runs U (instead (final T x xs))) (put_past x xs other) (put_runs (final T x xs) (x ∷ xs) u c))))

    all_put_cycles : (lists : List (List ℕ)) → EachOf (AreUnder n) lists → EachOf (IsCycle T) lists → EachOf (IsCycle U) (put_all lists)
    all_put_cycles [] u c = c
    all_put_cycles (xs ∷ lists) u c = (put_cycle xs u.0 c.0, all_put_cycles lists u.1 c.1)

-- ---- one more

pub record IsInjective (n : ℕ) (T : ℕ → ℕ) : Type 0 where
  pub below : (x : ℕ) → x < n → T x < n
  pub apart : (x y : ℕ) → x < n → y < n → T x ≡ T y → x ≡ y

module _ (n : ℕ) (U : ℕ → ℕ) (own : IsInjective (suc n) U) where
  -- what is before n is before what n is before
  abbrev without : ℕ → ℕ
  without x = if U x == n then U n else U x

  at_n : (x : ℕ) → U x ≡ n → without x ≡ U n
  at_n x e = let t = eq-eqb (U x) n e in rw t refl

  else_where : (x : ℕ) → ¬ (U x ≡ n) → without x ≡ U x
  else_where x ne = let t = other_test (U x) n ne in rw t refl

  lower : (x : ℕ) → x < n → ¬ (U x ≡ n) → U x < n
  lower x lt ne = let k = own.below x (omega (arith, lt)) in omega (arith, k, ne)

  last_lower : ¬ (U n ≡ n) → U n < n
  last_lower ne = let k = own.below n (omega arith) in omega (arith, k, ne)

  own_not : (x : ℕ) → x < n → U x ≡ n → ¬ (U n ≡ n)
  own_not x lt e f = let g = own.apart x n (omega (arith, lt)) (omega arith) (e ∙ sym f) in omega (arith, lt, g)

  less : IsInjective n without
  less = record { below = below; apart = apart }
    where
      below : (x : ℕ) → x < n → without x < n
      below x lt = same_or (U x) n
          (λ e. let f = at_n x e in let k = last_lower (own_not x lt e) in omega (arith, f, k))
          (λ ne. let f = else_where x ne in let k = lower x lt ne in omega (arith, f, k))

      apart : (x y : ℕ) → x < n → y < n → without x ≡ without y → x ≡ y
      apart x y lt lt' e = same_or (U x) n
          (λ f. same_or (U y) n
          (λ g. own.apart x y (omega (arith, lt)) (omega (arith, lt')) (f ∙ sym g))
          (λ ne. absurd (let same = own.apart n y (omega arith) (omega (arith, lt')) (sym (at_n x f) ∙ e ∙ else_where y ne) in omega (arith, same, lt'))))
          (λ ne. same_or (U y) n
          (λ g. absurd (let same = own.apart x n (omega (arith, lt)) (omega arith) (sym (else_where x ne) ∙ e ∙ at_n y g) in omega (arith, same, lt)))
          (λ ne'. own.apart x y (omega (arith, lt)) (omega (arith, lt')) (sym (else_where x ne) ∙ e ∙ else_where y ne')))

  alone : AreCycles n without → U n ≡ n → AreCycles (suc n) U
  alone c e = record {
    lists = (n ∷ []) ∷ c.lists;
    once = λ i lt. same_or i n
        (λ f. let k = c.no_other i (omega (arith, f)) in let h = times-same i n (concat c.lists) f in omega (arith, k, h))
        (λ ne. let k = c.once i (omega (arith, lt, ne)) in let h = times-other i n (concat c.lists) ne in omega (arith, k, h));
    no_other = λ i le.
        let k = c.no_other i (omega (arith, le)) in let h = times-other i n (concat c.lists) (λ f. omega (arith, f, le)) in omega (arith, k, h);
    under = ((omega arith, tt), all_more_under n c.lists c.under);
    cycles = ((e, tt), cycles_alike n without U (λ x lt. else_where x (λ f. own_not x lt f e)) c.lists c.under c.cycles);
  }

  between : AreCycles n without → ¬ (U n ≡ n) → AreCycles (suc n) U
  between c ne = record {
    lists = put_all (U n) n c.lists;
    once = λ i lt. same_or i n
        (λ f.
        let k = c.no_other n (omega arith) in let h = c.once (U n) (last_lower ne) in let all = all_own (U n) n (λ g. ne (sym g)) c.lists in
        ap (λ j. times_in j (put_all (U n) n c.lists)) f ∙ omega (arith, k, h, all))
        (λ other. all_times (U n) n i other c.lists ∙ c.once i (omega (arith, lt, other)));
    no_other = λ i le. all_times (U n) n i (λ f. omega (arith, f, le)) c.lists ∙ c.no_other i (omega (arith, le));
    under = all_put_under (U n) n c.lists c.under;
    cycles = all_put_cycles (U n) n without U refl moved c.lists c.under c.cycles;
  }
    where
      moved : (x : ℕ) → x < n → U x ≡ instead (U n) n (without x)
      moved x lt = same_or (U x) n
          (λ e. e ∙ sym (instead_here (U n) n (without x) (at_n x e)))
          (λ ne'.
          sym (instead_other (U n) n (without x)
          (λ f. let same = own.apart x n (omega (arith, lt)) (omega arith) (sym (else_where x ne') ∙ f) in omega (arith, same, lt))
          ∙ else_where x ne'))

pub cycles_of : (n : ℕ) (T : ℕ → ℕ) → IsInjective n T → AreCycles n T
cycles_of zero T own = record { lists = []; once = λ i lt. absurd (omega (arith, lt)); no_other = λ i le. refl; under = tt; cycles = tt }
cycles_of (suc n) T own =
    let c : AreCycles n (without n T own) = cycles_of n (without n T own) (less n T own) in
    same_or (T n) n (λ e. alone n T own c e) (λ ne. between n T own c ne)

-- ---- by places

module _ (T : ℕ → ℕ) where
  final_is : (x : ℕ) (xs : List ℕ) → final T x xs ≡ slice_index (x ∷ xs) (length xs)
  final_is x [] = refl
  final_is x (y ∷ xs) = final_is y xs

  runs_at : (p : ℕ) (xs : List ℕ) → Runs T p xs → (k : ℕ) → suc k < length xs → T (slice_index xs (suc k)) ≡ slice_index xs k
  runs_at p [] r k lt = absurd (omega (arith, lt))
  runs_at p (x ∷ []) r k lt = absurd (omega (arith, lt))
  runs_at p (x ∷ (y ∷ xs)) r zero lt = r.1.0
  runs_at p (x ∷ (y ∷ xs)) r (suc k) lt = runs_at x (y ∷ xs) r.1 k (omega (arith, lt))

  -- before each place stands what is before it
  pub record IsRound (xs : List ℕ) : Type 0 where
    pub some : zero < length xs
    pub at : (k : ℕ) → k < length xs → before xs k ≡ T (slice_index xs k)

  round_of : (xs : List ℕ) → IsCycle T xs → IsRound xs
  round_of [] c = absurd c
  round_of (x ∷ xs) c = record { some = omega arith; at = at }
    where
      long : length (x ∷ xs) - 1 ≡ length xs
      long = omega arith

      at : (k : ℕ) → k < length (x ∷ xs) → before (x ∷ xs) k ≡ T (slice_index (x ∷ xs) k)
      at zero lt = ap (slice_index (x ∷ xs)) long ∙ sym (final_is x xs) ∙ sym c.0
      at (suc k) lt = sym (runs_at (final T x xs) (x ∷ xs) c k lt)

  each_round : (lists : List (List ℕ)) → EachOf (IsCycle T) lists → EachList IsRound lists
  each_round [] c k lt = absurd (omega (arith, lt))
  each_round (xs ∷ lists) c zero lt = round_of xs c.0
  each_round (xs ∷ lists) c (suc k) lt = each_round lists c.1 k (omega (arith, lt))

  pub rounds_of : (n : ℕ) → IsInjective n T → (lists : List (List ℕ)) × HoldOnce n lists × EachList IsRound lists
  rounds_of n own =
      let c : AreCycles n T = cycles_of n T own in
      (c.lists, record { once = c.once; no_other = c.no_other }, each_round c.lists c.cycles)
