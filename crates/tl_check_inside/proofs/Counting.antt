-- A side has one count at a point.
use Rattle.std.proofs.Common.{◌≡◌, ◌≢◌, ℕ, ◌+◌, ◌<◌, ◌≤◌, ℤ, pos, ◌-ℤ◌, Bool, cond, eqb, inl, inr, List, [], ◌∷◌, length, map, sum_by, count_by, sym, ap, subst, ◌∙◌, refl, arith}
use Rattle.std.specs.Prelude.{slice_index}
use Rattle.std.proofs.lemmas.Bool.{cases_lt}
use Rattle.std.proofs.lemmas.Bool.Decides.{nat_tests}
use Rattle.std.proofs.lemmas.Int.{ints}
use Rattle.std.proofs.lemmas.List.Sums.{sum_by-cons}
use Rattle.tl_geom.specs.declared.point.Point.{Point}
use Rattle.tl_map_county.specs.declared.sides.Side.{Side}
use Rattle.tl_map_county.specs.TheMap.{MapChain}
use Rattle.tl_tree_index.specs.Hits.{times, AreHits}
use Rattle.tl_tree_index.proofs.Times.{same_or, times-same, times-other}
use Rattle.tl_check_inside.specs.declared.flanks.Flanks.{Flanks}
use Rattle.tl_check_inside.specs.Inside.{flanks_at, balance, is_polygon, AreCrossed, IsCount, IsPolygonCount, IsInside, IsClear}
use Rattle.tl_check_inside.specs.Keeping.Tallies.{AreTallies, TellCounts}

-- the list without the first x
removed : ℕ → List ℕ → List ℕ
removed x [] = []
removed x (y ∷ ys) = cond (eqb x y) ys (y ∷ removed x ys)

removed-same : (x y : ℕ) (ys : List ℕ) → x ≡ y → removed x (y ∷ ys) ≡ ys
unfolding removed
removed-same x y ys e = grind (arith, nat_tests)

removed-other : (x y : ℕ) (ys : List ℕ) → (x ≡ y → ⊥) → removed x (y ∷ ys) ≡ y ∷ removed x ys
unfolding removed
removed-other x y ys ne = grind (arith, nat_tests)

pub times-cons : (i x : ℕ) (xs : List ℕ) → times i (x ∷ xs) ≡ cond (eqb i x) 1 0 + times i xs
times-cons i x xs = refl

times-removed : (i x : ℕ) (ys : List ℕ) → 1 ≤ times x ys → times i ys ≡ cond (eqb i x) 1 0 + times i (removed x ys)
times-removed i x [] h = absurd (let no : 1 ≤ 0 = h in omega (arith, no))
times-removed i x (y ∷ ys) h =
    same_or x y
    (λ e. rw (removed-same x y ys e) (times-cons i y ys ∙ ap (λ z. cond (eqb i z) 1 0 + times i ys) (sym e)))
    (λ ne.
    let rest = times-removed i x ys (let t = times-other x y ys ne in omega (arith, h, t)) in
    rw (removed-other x y ys ne) (let long = times-cons i y ys in let short = times-cons i y (removed x ys) in omega (arith, rest, long, short)))

sum-removed : (f : ℕ → ℕ) (x : ℕ) (ys : List ℕ) → 1 ≤ times x ys → sum_by f ys ≡ f x + sum_by f (removed x ys)
sum-removed f x [] h = absurd (let no : 1 ≤ 0 = h in omega (arith, no))
sum-removed f x (y ∷ ys) h =
    same_or x y
    (λ e. rw (removed-same x y ys e) (sum_by-cons f y ys ∙ ap (λ z. f z + sum_by f ys) (sym e)))
    (λ ne.
    let rest = sum-removed f x ys (let t = times-other x y ys ne in omega (arith, h, t)) in
    rw (removed-other x y ys ne) (let long = sum_by-cons f y ys in let short = sum_by-cons f y (removed x ys) in omega (arith, rest, long, short)))

-- two lists in which each number stands equally often have one sum
pub same_sum : (f : ℕ → ℕ) (xs ys : List ℕ) → ((i : ℕ) → times i xs ≡ times i ys) → sum_by f xs ≡ sum_by f ys
same_sum f [] [] h = refl
same_sum f [] (y ∷ ys) h = absurd (let none : 0 ≡ times y (y ∷ ys) = h y in let one = times-same y y ys refl in omega (arith, none, one))
same_sum f (x ∷ xs) ys h =
    let some : 1 ≤ times x ys = let is = h x in let one = times-same x x xs refl in omega (arith, is, one) in
    let rest = same_sum f xs (removed x ys) (λ i. let is = h i in let long = times-cons i x xs in let short = times-removed i x ys some in omega (arith, is, long, short)) in
    let more = sum_by-cons f x xs in
    let less = sum-removed f x ys some in
    omega (arith, rest, more, less)

pub sum-map : {X Y : Type 0} (f : Y → ℕ) (g : X → Y) (xs : List X) → sum_by f (map g xs) ≡ sum_by (λ x. f (g x)) xs
sum-map f g [] = refl
sum-map f g (x ∷ xs) =
    let rest = sum-map f g xs in
    let mapped = sum_by-cons f (g x) (map g xs) in
    let plain = sum_by-cons (λ x. f (g x)) x xs in
    omega (arith, rest, mapped, plain)

pub same_times : (n : ℕ) (hit : ℕ → Type 0) (xs ys : List ℕ) → AreHits n hit xs → AreHits n hit ys → (i : ℕ) → times i xs ≡ times i ys
same_times n hit xs ys a b i = elim (cases_lt i n) [
  | inl lt ↦
      same_or (times i xs) (times i ys) (λ e. e)
      (λ ne. let no : hit i → ⊥ = λ h. ne (a.once i lt h ∙ sym (b.once i lt h)) in absurd (ne (a.others i no ∙ sym (b.others i no))))
  | inr le ↦ a.known i le ∙ sym (b.known i le)
]

same_count : (chains : List MapChain) (q : Point) (xs ys : List ℕ) (P : Flanks → Bool) → AreCrossed chains q xs → AreCrossed chains q ys → count_by P (map (flanks_at chains) xs) ≡ count_by P (map (flanks_at chains) ys)
same_count chains q xs ys P a b =
    sum-map (λ f. cond (P f) 1 0) (flanks_at chains) xs
    ∙ same_sum (λ s. cond (P (flanks_at chains s)) 1 0) xs ys (same_times _ _ xs ys a b)
    ∙ sym (sum-map (λ f. cond (P f) 1 0) (flanks_at chains) ys)

pub one_count : (chains : List MapChain) (q : Point) (S : Side → Bool) (m n : ℤ) → IsCount chains q S m → IsCount chains q S n → m ≡ n
one_count chains q S m n a b =
    a.counted
    ∙ ap (λ k. pos k -ℤ pos (count_by (λ f. S f.far) (map (flanks_at chains) a.crossed))) (same_count chains q a.crossed b.crossed (λ f. S f.near) a.are b.are)
    ∙ ap (λ k. pos (count_by (λ f. S f.near) (map (flanks_at chains) b.crossed)) -ℤ pos k) (same_count chains q a.crossed b.crossed (λ f. S f.far) a.are b.are)
    ∙ sym b.counted

-- the flanks of crossed segments tell the counts
pub crossed_tell : (chains : List MapChain) (q : Point) (crossed : List ℕ) (flanks : List Flanks) → flanks ≡ map (flanks_at chains) crossed → AreCrossed chains q crossed → TellCounts chains q flanks
crossed_tell chains q crossed flanks is are S not_outside = record { crossed = crossed; are = are; counted = ap (balance S) is }

-- the counts of the polygons, by how often they are near and far
module _ (chains : List MapChain) (q : Point) (crossed : List Flanks) (near far : List ℕ) (tell : TellCounts chains q crossed) (t : AreTallies crossed near far) (p : ℕ) (in_near : p < length near) (in_far : p < length far) where
  pub counted : IsPolygonCount chains q p (pos (slice_index near p) -ℤ pos (slice_index far p))
  counted = subst (IsPolygonCount chains q p) (sym is) (tell (is_polygon p) refl)
    where
      is : pos (slice_index near p) -ℤ pos (slice_index far p) ≡ balance (is_polygon p) crossed
      is =
          ap (λ k. pos k -ℤ pos (slice_index far p)) (t.nears p in_near)
          ∙ ap (λ k. pos (count_by (λ f. is_polygon p f.near) crossed) -ℤ pos k) (t.fars p in_far)

  pub inside : slice_index near p ≡ slice_index far p + 1 → IsInside chains q p
  inside e = subst (IsPolygonCount chains q p) (let is : pos (slice_index near p) -ℤ pos (slice_index far p) ≡ pos 1 = omega (arith, ints, e) in is) counted

  pub not_inside : slice_index near p ≢ slice_index far p + 1 → ¬ IsInside chains q p
  not_inside ne h =
      let same = one_count chains q (is_polygon p) (pos (slice_index near p) -ℤ pos (slice_index far p)) (pos 1) counted h in
      ne (omega (arith, ints, same))

  pub clear : slice_index near p ≡ slice_index far p → IsClear chains q p
  clear e = subst (IsPolygonCount chains q p) (let is : pos (slice_index near p) -ℤ pos (slice_index far p) ≡ pos 0 = omega (arith, ints, e) in is) counted

  pub not_clear : slice_index near p ≢ slice_index far p → ¬ IsClear chains q p
  not_clear ne h =
      let same = one_count chains q (is_polygon p) (pos (slice_index near p) -ℤ pos (slice_index far p)) (pos 0) counted h in
      ne (omega (arith, ints, same))
