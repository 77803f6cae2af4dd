-- The polygons that are near and far not equally often, and what that says of a point.
use Rattle.std.proofs.Common.{◌≡◌, ◌≢◌, ◌↔◌, inl, inr, Bool, true, false, not, eqb, IsTrue}
use Rattle.std.proofs.Common.{ℕ, ◌+◌, ◌<◌, ◌≤◌, List, [], length, get_or, take, Contains, refl, arith}
use Rattle.std.specs.Prelude.{slice_index}
use Rattle.std.proofs.lemmas.Bool.{cases_lt, eqb-true, eq-eqb, false≢true}
use Rattle.std.proofs.lemmas.List.{take_all}
use Rattle.std.proofs.lemmas.List.Elements.{All-nil}
use Rattle.tl_geom.specs.declared.point.Point.{Point}
use Rattle.tl_map_county.specs.TheMap.{TheMap}
use Rattle.tl_check_inside.specs.declared.flanks.Flanks.{Flanks}
use Rattle.tl_check_inside.specs.Inside.{is_polygon, IsInside}
use Rattle.tl_check_inside.specs.Keeping.Tallies.{near_count, far_count, AreTallies, TellCounts, IsOdd}
use Rattle.tl_check_inside.proofs.Counting.{inside, not_inside, clear, not_clear}
use Rattle.tl_check_inside.proofs.Tallying.{more, known_or}
use Rattle.tl_check_sides.specs.Listing.Keeping.Listed.{AreListed}
use Rattle.tl_check_points.specs.Listing.Keeping.Odd.{IsKeptIfOdd, AreOddOf}
use Rattle.tl_check_points.specs.Listing.Keeping.Parts.{IsIn}
use Rattle.tl_check_sides.proofs.ListingLemmas.Listing.{listed_as}

pub none_odd : (near far : List ℕ) (own : ℕ) → AreOddOf near far own [] []
none_odd near far own = record {
  each = All-nil (IsOdd near far own);
  nears = λ q some. absurd (let none : near_count [] (is_polygon q) ≡ 0 = refl in omega (arith, some, none));
  fars = λ q some. absurd (let none : far_count [] (is_polygon q) ≡ 0 = refl in omega (arith, some, none));
}

-- those of one crossed segment more
pub odd_more : (near far : List ℕ) (own : ℕ) (crossed : List Flanks) (k : ℕ) (d : Flanks) (old mid new : List ℕ) → k < length crossed →
    AreOddOf near far own (take k crossed) old → IsKeptIfOdd near far own (get_or crossed k d).near old mid →
    IsKeptIfOdd near far own (get_or crossed k d).far mid new → AreOddOf near far own (take (k + 1) crossed) new
odd_more near far own crossed k d old mid new lt before one two = record {
  each = two.each (one.each before.each);
  nears = λ q some odd.
      known_or {A = Contains new q} (is_polygon q (get_or crossed k d).near) (near_count (take (k + 1) crossed) (is_polygon q))
      (near_count (take k crossed) (is_polygon q))
      (more (λ f. is_polygon q f.near) crossed k d lt) some (λ s. two.kept q (one.kept q (before.nears q s odd))) (λ is. two.kept q (one.all q is odd));
  fars = λ q some odd.
      known_or {A = Contains new q} (is_polygon q (get_or crossed k d).far) (far_count (take (k + 1) crossed) (is_polygon q))
      (far_count (take k crossed) (is_polygon q))
      (more (λ f. is_polygon q f.far) crossed k d lt) some (λ s. two.kept q (one.kept q (before.fars q s odd))) (λ is. two.all q is odd);
}

-- behind the last these are all that are odd
pub all_odd : (near far : List ℕ) (own : ℕ) (crossed : List Flanks) (k : ℕ) (odd : List ℕ) → length crossed ≤ k → length far ≡ length near →
    AreTallies crossed near far → AreOddOf near far own (take k crossed) odd → (q : ℕ) → IsOdd near far own q → Contains odd q
all_odd near far own crossed k odd past alike t of q is =
    let whole : take k crossed ≡ crossed = take_all k crossed past in
    let within = is.within in
    let near_is = t.nears q within in
    let far_is = t.fars q (omega (arith, within, alike)) in
    elim (cases_lt 0 (near_count crossed (is_polygon q))) [
      | inl some ↦ of.nears q (rw whole (omega (arith, some))) is
      | inr none ↦ elim (cases_lt 0 (far_count crossed (is_polygon q))) [
        | inl some ↦ of.fars q (rw whole (omega (arith, some))) is
        | inr neither ↦ absurd (is.differ (omega (arith, none, neither, near_is, far_is)))
      ]
    ]

differ : (m n : ℕ) → not (eqb m n) ≡ true → m ≢ n
differ m n e same = go (eqb m n) (eq-eqb m n same) e
  where
    go : (b : Bool) → b ≡ true → not b ≡ true → ⊥
    go true t f = false≢true f
    go false t f = false≢true t

not_alike : (m n : ℕ) → m ≢ n → not (eqb m n) ≡ true
not_alike m n ne = go (eqb m n) refl
  where
    go : (b : Bool) → eqb m n ≡ b → not b ≡ true
    go true t = absurd (ne (eqb-true m n t))
    go false t = refl

module _ (m : TheMap) (p : ℕ) (crossed : List Flanks) (near far : List ℕ) (known : p < length m.polygons) (nears : length near ≡ length m.polygons)
    (fars : length far ≡ length m.polygons) (t : AreTallies crossed near far) where
  -- the odd ones are those that the point isn't clear of
  pub others_listed : (odd : List ℕ) → AreListed (IsOdd near far p) odd → (q : Point) → TellCounts m.chains q crossed → AreListed (IsIn m q p) odd
  others_listed odd listed q tell =
      listed_as (IsOdd near far p) (IsIn m q p) odd
      (λ n is.
      let within = is.within in
      record {
        known = omega (arith, within, nears);
        two = is.other;
        within = not_clear m.chains q crossed near far tell t n is.within
            (omega (arith, within, nears, fars)) is.differ;
      })
      (λ n is.
      let lt = is.known in
      record {
        within = omega (arith, lt, nears);
        other = is.two;
        differ = λ e. is.within
            (clear m.chains q crossed near far tell t n (omega (arith, lt, nears)) (omega (arith, lt, fars)) e);
      })
      listed

  -- the point is outside where the polygon isn't near once more than it is far
  pub outside_told : (q : Point) → TellCounts m.chains q crossed →
      IsTrue (not (eqb (slice_index near p) (slice_index far p + 1))) ↔ (¬ IsInside m.chains q p)
  outside_told q tell = (
    (λ is. not_inside m.chains q crossed near far tell t p (omega (arith, known, nears)) (omega (arith, known, fars))
        (differ (slice_index near p) (slice_index far p + 1) is)),
    (λ out. not_alike (slice_index near p) (slice_index far p + 1) (λ e. out
        (inside m.chains q crossed near far tell t p (omega (arith, known, nears)) (omega (arith, known, fars)) e))),
  )
