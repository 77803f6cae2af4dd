-- What lies at a place is the outside, or a side of a chain.
use Rattle.std.proofs.Common.{◌≡◌, inl, inr, ℕ, zero, suc, ◌+◌, ◌<◌, ◌≤◌, ℤ, pos, ◌-ℤ◌, Bool, true, false, if◌then◌else◌, Some, List, [], ◌∷◌, ◌++◌, length, map, get_or, count_by, refl, ◌∙◌, arith}
use Rattle.std.specs.Prelude.{int_lt, slice_get}
use Rattle.std.proofs.lemmas.Bool.{cases_lt}
use Rattle.std.proofs.lemmas.Bool.Decides.{nat_tests}
use Rattle.std.proofs.lemmas.Int.{ints}
use Rattle.std.proofs.lemmas.List.Sums.{sum_by-cons}
use Rattle.tl_geom.specs.declared.point.Point.{Point}
use Rattle.tl_geom.specs.declared.rational.Rational.{Rational}
use Rattle.tl_map_county.specs.declared.sides.Side.{Side}
use Rattle.tl_map_county.specs.declared.sides.Side.TheVariants.{Outside, Polygon}
use Rattle.tl_map_county.specs.TheMap.{TheMap, MapChain}
use Rattle.tl_check_inside.specs.declared.flanks.Flanks.{Flanks}
use Rattle.tl_check_inside.specs.Inside.{flanks_at, flanks_between, flanks_from, flanks_along, flanks_of, is_polygon, IsCountAt}
use Rattle.tl_check_faces.specs.Truth.{LiesAt}
use Rattle.tl_map_county.specs.Sides.{IsSideAmong}
use Rattle.tl_check_faces.specs.Located.{HasKnownSides}

module _ (S : Side → Bool) where
  -- neither flank is such a side
  record HasNone (f : Flanks) : Type 0 where
    near : S f.near ≡ false
    far : S f.far ≡ false

  no_flanks : Flanks
  no_flanks = record { near = Outside; far = Outside }

  of_two : (a b : Point) (left right : Side) → S left ≡ false → S right ≡ false → HasNone (flanks_between a b left right)
  of_two a b left right e f = go (int_lt a.y b.y)
    where
      go : (t : Bool) → HasNone (if t then record { near = left; far = right } else record { near = right; far = left })
      go true = record { near = e; far = f }
      go false = record { near = f; far = e }

  module _ (none : S Outside ≡ false) where
    of_no_segment : HasNone no_flanks
    unfolding no_flanks
    of_no_segment = record { near = none; far = none }

    of_from : (a : Point) (points : List Point) (left right : Side) → S left ≡ false → S right ≡ false → (k : ℕ) →
        HasNone (get_or (flanks_from a points left right) k no_flanks)
    of_from a [] left right e f k = of_no_segment
    of_from a (b ∷ points) left right e f zero = of_two a b left right e f
    of_from a (b ∷ points) left right e f (suc k) = of_from b points left right e f k

    of_along : (points : List Point) (left right : Side) → S left ≡ false → S right ≡ false → (k : ℕ) →
        HasNone (get_or (flanks_along points left right) k no_flanks)
    of_along [] left right e f k = of_no_segment
    of_along (a ∷ points) left right e f k = of_from a points left right e f k

    of_both : (xs ys : List Flanks) → ((k : ℕ) → HasNone (get_or xs k no_flanks)) → ((k : ℕ) → HasNone (get_or ys k no_flanks)) →
        (k : ℕ) → HasNone (get_or (xs ++ ys) k no_flanks)
    of_both [] ys first last k = last k
    of_both (x ∷ xs) ys first last zero = first 0
    of_both (x ∷ xs) ys first last (suc k) = of_both xs ys (λ j. first (suc j)) last k

    of_all : (chains : List MapChain) → ((c : ℕ) (chain : MapChain) → slice_get chains c ≡ Some chain → (S chain.left ≡ false) × (S chain.right ≡ false)) →
        (s : ℕ) → HasNone (get_or (flanks_of chains) s no_flanks)
    of_all [] never s = of_no_segment
    of_all (c ∷ chains) never s =
        of_both (flanks_along c.points c.left c.right) (flanks_of chains)
        (of_along c.points c.left c.right (never 0 c refl).0 (never 0 c refl).1)
        (of_all chains (λ k chain is. never (suc k) chain is)) s

  no_count : (P : Flanks → Bool) (g : ℕ → Flanks) (xs : List ℕ) → ((s : ℕ) → P (g s) ≡ false) → count_by P (map g xs) ≡ 0
  no_count P g [] never = refl
  no_count P g (x ∷ xs) never =
      let more = sum_by-cons (λ (f : Flanks). if P f then 1 else 0) (g x) (map g xs) in
      let rest = no_count P g xs never in
      more ∙ (λ i. (if never x i then 1 else 0) + rest i)

  -- where no chain has such a side, the count is 0
  counts_nothing : (chains : List MapChain) (q : Rational) (n : ℤ) → S Outside ≡ false →
      ((c : ℕ) (chain : MapChain) → slice_get chains c ≡ Some chain → (S chain.left ≡ false) × (S chain.right ≡ false)) →
      IsCountAt chains q S n → n ≡ pos 0
  unfolding no_flanks
  counts_nothing chains q n none never k =
      let near : count_by (λ f. S f.near) (map (flanks_at chains) k.crossed) ≡ 0 =
      no_count (λ f. S f.near) (flanks_at chains) k.crossed
      (λ s. let h : HasNone (get_or (flanks_of chains) s no_flanks) = of_all none chains never s in h.near) in
      let far : count_by (λ f. S f.far) (map (flanks_at chains) k.crossed) ≡ 0 =
      no_count (λ f. S f.far) (flanks_at chains) k.crossed
      (λ s. let h : HasNone (get_or (flanks_of chains) s no_flanks) = of_all none chains never s in h.far) in
      k.counted ∙ (λ i. pos (near i) -ℤ pos (far i))

-- so a polygon that lies at a place is one of the map, where sides are known
pub is_known : (m : TheMap) (q : Rational) (p : ℕ) → HasKnownSides m → LiesAt m.chains q (Polygon p) → p < length m.polygons
is_known m q p known lies = elim (cases_lt p (length m.polygons)) [
  | inl lt ↦ lt
  | inr le ↦
      let zero : pos 1 ≡ pos 0 =
      counts_nothing (is_polygon p) m.chains q (pos 1) refl
      (λ c chain is. (other le chain.left (known c chain is).0, other le chain.right (known c chain is).1)) lies.0 in
      absurd (omega (arith, ints, zero))
]
  where
    other : length m.polygons ≤ p → (side : Side) → IsSideAmong (length m.polygons) side → is_polygon p side ≡ false
    other le Outside known = refl
    other le (Polygon r) known = grind (arith, nat_tests)
