-- Where holes lie.
use Rattle.std.proofs.Common.{◌≡◌, Bool, true, false, ℕ, zero, suc, ◌+◌, ◌-◌, ◌<◌, ◌≤◌, List, [], ◌∷◌, ◌++◌, length, take, get_or, slice_get, Some, None, refl, sym, ap, ◌∙◌, arith, add-one, ◌+ℤ◌}
use Rattle.std.specs.Prelude.{slice_index, if◌then◌else◌}
use Rattle.std.proofs.lemmas.List.{take_more}
use Rattle.std.proofs.lemmas.Option.{slice_get-get_or}
use Rattle.tl_geom.specs.declared.point.Point.{Point}
use Rattle.tl_map_county.specs.TheMap.{MapChain}
use Rattle.std.proofs.lemmas.List.{length-reverse}
use Rattle.tl_map_county.specs.Darts.{directed, dart_start}
use Rattle.tigertopo_pictures.specs.Groups.{GoesThrough}
use Rattle.tigertopo_pictures.specs.Geojson.Areas.{sum_below}
use Rattle.tigertopo_pictures.specs.Walks.{dart_points}
use Rattle.tigertopo_pictures.specs.Geojson.Holes.{norther, northernmost, north_of, ring_north, crossing, crossing_at, is_closer, innermost, ring_around}

-- one step more
pub crossing_more : (q : Point) (points : List Point) (i : ℕ) (a b : Point) → 1 ≤ i → slice_get points (i - 1) ≡ Some a → slice_get points i ≡ Some b
    → sum_below (crossing_at q points) (i - 1) +ℤ crossing q a b ≡ sum_below (crossing_at q points) (i + 1 - 1)
crossing_more q points zero a b some from to = absurd (omega arith)
crossing_more q points (suc k) a b some from to =
    let here : suc k - 1 ≡ k = omega arith in
    let next : suc k + 1 - 1 ≡ suc k = omega arith in
    let first : slice_get points k ≡ Some a = rw here at from in
    let second : slice_get points (k + 1) ≡ Some b = rw add-one to in
    rw (here, next, first, second) refl

-- one point more
northernmost_both : (p : Point) (xs ys : List Point) → northernmost p (xs ++ ys) ≡ northernmost (northernmost p xs) ys
northernmost_both p [] ys = refl
northernmost_both p (x ∷ xs) ys = northernmost_both (norther p x) xs ys

pub northernmost_more : (p : Point) (points : List Point) (i : ℕ) (q : Point) → i < length points → slice_get points i ≡ Some q
    → norther (northernmost p (take i points)) q ≡ northernmost p (take (i + 1) points)
northernmost_more p points i q within here =
    let same : get_or points i q ≡ q = cc (slice_get-get_or points i q within, here) in
    sym (ap (northernmost p) (take_more points i q within) ∙ northernmost_both p (take i points) (get_or points i q ∷ []) ∙ ap (norther (northernmost p (take i points))) same)

pub many_directed : (along : Bool) (points : List Point) → length (directed along points) ≡ length points
many_directed true points = refl
many_directed false points = length-reverse points

-- one dart more
north_both : (chains : List MapChain) (p : Point) (xs ys : List ℕ) → north_of chains p (xs ++ ys) ≡ north_of chains (north_of chains p xs) ys
north_both chains p [] ys = refl
north_both chains p (d ∷ xs) ys = north_both chains (northernmost p (dart_points chains d)) xs ys

pub north_more : (chains : List MapChain) (p : Point) (walk : List ℕ) (i : ℕ) → i < length walk
    → northernmost (north_of chains p (take i walk)) (dart_points chains (slice_index walk i)) ≡ north_of chains p (take (i + 1) walk)
north_more chains p walk i within = sym (ap (north_of chains p) (take_more walk i 0 within) ∙ north_both chains p (take i walk) (slice_index walk i ∷ []))

-- the northernmost of all, from where it starts
pub north_is : (chains : List MapChain) (walk : List ℕ) (d : ℕ) (p : Point) → 0 < length walk → dart_start chains (get_or walk 0 d) ≡ Some p → ring_north chains walk ≡ Some (north_of chains p walk)
north_is chains [] d p some at = absurd (omega arith)
north_is chains (x ∷ rest) d p some at = rw at refl

-- who goes through the outer rings of a polygon looks at each; these are still to be looked at
pub record IsOnTheWayIn (chains : List MapChain) (walks : List (List ℕ)) (q : Point) (first : ℕ) (next : List ℕ) (at : ℕ) (ns : List ℕ) (found : ℕ) : Type 0 where
  pub rest : List ℕ
  pub goes : GoesThrough next at rest
  pub whole : innermost chains walks q found rest ≡ innermost chains walks q first ns

module _ (chains : List MapChain) (walks : List (List ℕ)) (q : Point) (first : ℕ) (next : List ℕ) where
  looked : (at : ℕ) (ns rest : List ℕ) (found : ℕ) → at < length next → GoesThrough next at rest → innermost chains walks q found rest ≡ innermost chains walks q first ns
      → IsOnTheWayIn chains walks q first next (slice_index next at) ns (if is_closer chains walks q found at then at else found)
  looked at ns [] found within goes whole = absurd (omega (arith, within, goes))
  looked at ns (n ∷ rest) found within goes whole = record {
    rest = rest;
    goes = rw goes.0 goes.2;
    whole = rw goes.0 whole;
  }

  pub look_on : (at : ℕ) (ns : List ℕ) (found : ℕ) → at < length next → IsOnTheWayIn chains walks q first next at ns found
      → IsOnTheWayIn chains walks q first next (slice_index next at) ns (if is_closer chains walks q found at then at else found)
  look_on at ns found within way = looked at ns way.rest found within way.goes way.whole

  all_looked : (at : ℕ) (ns rest : List ℕ) (found : ℕ) → length next ≤ at → GoesThrough next at rest → innermost chains walks q found rest ≡ innermost chains walks q first ns
      → found ≡ innermost chains walks q first ns
  all_looked at ns [] found beyond goes whole = whole
  all_looked at ns (n ∷ rest) found beyond goes whole = absurd (omega (arith, beyond, goes.0, goes.1))

  pub look_end : (at : ℕ) (ns : List ℕ) (found : ℕ) → length next ≤ at → IsOnTheWayIn chains walks q first next at ns found → found ≡ innermost chains walks q first ns
  look_end at ns found beyond way = all_looked at ns way.rest found beyond way.goes way.whole

-- the outer ring around a walk, where the polygon has none, one or more
pub around_none : (chains : List MapChain) (walks : List (List ℕ)) (walk next : List ℕ) (at : ℕ) (ns : List ℕ) → length next ≤ at → GoesThrough next at ns
    → None ≡ ring_around chains walks walk ns
around_none chains walks walk next at [] beyond goes = refl
around_none chains walks walk next at (n ∷ rest) beyond goes = absurd (omega (arith, beyond, goes.0, goes.1))

pub around_one : (chains : List MapChain) (walks : List (List ℕ)) (walk next : List ℕ) (at : ℕ) (ns : List ℕ) → at < length next → length next ≤ slice_index next at → GoesThrough next at ns
    → Some at ≡ ring_around chains walks walk ns
around_one chains walks walk next at [] within ends goes = absurd (omega (arith, within, goes))
around_one chains walks walk next at (n ∷ []) within ends goes = ap (λ k. Some k) goes.0
around_one chains walks walk next at (n ∷ other ∷ rest) within ends goes = absurd (omega (arith, ends, ap (slice_index next) goes.0, goes.2.0, goes.2.1))

pub around_more : (chains : List MapChain) (walks : List (List ℕ)) (walk next : List ℕ) (at : ℕ) (ns : List ℕ) (q : Point) (found : ℕ) → at < length next → slice_index next at < length next
    → GoesThrough next at ns → ring_north chains walk ≡ Some q
    → ((others : List ℕ) → GoesThrough next (slice_index next at) others → found ≡ innermost chains walks q at others) → Some found ≡ ring_around chains walks walk ns
around_more chains walks walk next at [] q found within goes_on goes north is = absurd (omega (arith, within, goes))
around_more chains walks walk next at (n ∷ []) q found within goes_on goes north is = absurd (omega (arith, goes_on, ap (slice_index next) goes.0, goes.2))
around_more chains walks walk next at (n ∷ other ∷ rest) q found within goes_on goes north is =
    rw north (ap (λ k. Some k) (rw goes.0 at (is (other ∷ rest) (rw goes.0 goes.2))))
