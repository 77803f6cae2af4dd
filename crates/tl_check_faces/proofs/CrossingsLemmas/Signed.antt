-- The balance of sides over segments that go up or down across a line is what the chains add, weighed by their sides: by any test of
-- going up.
use Rattle.std.proofs.Common.{◌≡◌, ℕ, ◌*◌, ◌<◌, ◌≤◌, ℤ, pos, neg_ℤ, ◌+ℤ◌, ◌-ℤ◌, ◌<ℤ◌, Bool, true, false, ◌||◌, cond, List, [], ◌∷◌, length, map, get_or, sum_by, count_by, refl, sym, ap, ◌∙◌, arith}
use Rattle.std.specs.Prelude.{int_lt}
use Rattle.std.proofs.lemmas.Int.{ints}
use Rattle.std.proofs.lemmas.List.Sums.{sum_by-cons, sum_by-append}
use Rattle.tl_geom.specs.declared.point.Point.{Point}
use Rattle.tl_map_county.specs.declared.sides.Side.{Side}
use Rattle.tl_map_county.specs.TheMap.{MapChain}
use Rattle.tl_map_county.specs.Segments.{segments_before}
use Rattle.tl_tree_index.specs.Hits.{times}
use Rattle.tl_check_inside.specs.declared.flanks.Flanks.{Flanks}
use Rattle.tl_check_inside.specs.Inside.{flanks_at, flanks_between, balance}
use Rattle.tl_check_faces.specs.Crossings.Headings.{AreProper}
use Rattle.tl_check_faces.proofs.CrossingsLemmas.Sums.{sum_below, sum_same}
use Rattle.tl_check_faces.proofs.CrossingsLemmas.Telescoping.{bit}
use Rattle.tl_check_faces.proofs.CrossingsLemmas.Located.{IsLocated, located, each_from, each_along, each_of, each_at, length-each}
use Rattle.tl_check_faces.proofs.CrossingsLemmas.Listing.{places_sum, listed_count}
use Rattle.tl_check_faces.proofs.CrossingsLemmas.Crossing.{flanks_are}
use Rattle.tl_check_inside.proofs.Sides.{is_lt as int_lt-true, no_lt as int_lt-false}

-- ---- one segment

-- what a number counts of a side on the left and of one on the right
abbrev pub weigh : (left right : Bool) → ℤ → ℤ
weigh left right n = cond left n (pos 0) -ℤ cond right n (pos 0)

pub weigh_none : (left right : Bool) → weigh left right (pos 0) ≡ pos 0
weigh_none true true = refl
weigh_none true false = refl
weigh_none false true = refl
weigh_none false false = refl

pub weigh_sum : (left right : Bool) (n m : ℤ) → weigh left right (n +ℤ m) ≡ weigh left right n +ℤ weigh left right m
weigh_sum true true n m = omega (arith, ints)
weigh_sum true false n m = omega (arith, ints)
weigh_sum false true n m = omega (arith, ints)
weigh_sum false false n m = refl

weigh_one : (left right : Bool) → pos (bit left) -ℤ pos (bit right) ≡ weigh left right (pos 1)
weigh_one true true = refl
weigh_one true false = refl
weigh_one false true = refl
weigh_one false false = refl

weigh_less : (left right : Bool) → pos (bit right) -ℤ pos (bit left) ≡ weigh left right (neg_ℤ (pos 1))
weigh_less true true = refl
weigh_less true false = refl
weigh_less false true = refl
weigh_less false false = refl

module _ (up : Point → Point → Bool) where
  -- the segment goes up, or down
  abbrev pub is_either : (a b : Point) → Bool
  is_either a b = up a b || up b a

  -- what it adds: 1 where it goes up, -1 where it goes down, else 0
  abbrev pub adds : (a b : Point) → ℤ
  adds a b = cond (up a b) (pos 1) (cond (up b a) (neg_ℤ (pos 1)) (pos 0))

  -- what the segments from a point by the others add, and those of a chain with these points
  abbrev pub adds_from : Point → List Point → ℤ
  adds_from a [] = pos 0
  adds_from a (b ∷ points) = adds a b +ℤ adds_from b points

  abbrev pub adds_along : List Point → ℤ
  adds_along [] = pos 0
  adds_along (a ∷ points) = adds_from a points

  -- what a flank of a segment counts, if it goes up or down
  abbrev pub flank_step : (Flanks → Bool) → (a b : Point) → (left right : Side) → ℕ
  flank_step P a b left right = cond (is_either a b) (bit (P (flanks_between a b left right))) 0

  -- what all chains add, weighed by such sides
  abbrev pub all_add : (Side → Bool) → List MapChain → ℤ
  all_add S [] = pos 0
  all_add S (c ∷ chains) = weigh (S c.left) (S c.right) (adds_along c.points) +ℤ all_add S chains

-- ---- all segments, where what goes up ends further north

module _ (up : Point → Point → Bool) (rises : (a b : Point) → up a b ≡ true → a.y <ℤ b.y) where
  module _ (S : Side → Bool) where
    abbrev near_step : (a b : Point) → (left right : Side) → ℕ
    near_step a b left right = flank_step up (λ f. S f.near) a b left right

    abbrev far_step : (a b : Point) → (left right : Side) → ℕ
    far_step a b left right = flank_step up (λ f. S f.far) a b left right

    both_steps : (a b : Point) (left right : Side) → pos (near_step a b left right) -ℤ pos (far_step a b left right) ≡ weigh (S left) (S right) (adds up a b)
    both_steps a b left right = go (up a b) (up b a) refl refl
      where
        go : (s t : Bool) → up a b ≡ s → up b a ≡ t → pos (near_step a b left right) -ℤ pos (far_step a b left right) ≡ weigh (S left) (S right) (adds up a b)
        go true t e f = let north : int_lt a.y b.y ≡ true = int_lt-true a.y b.y (rises a b e) in rw (e, north) (weigh_one (S left) (S right))
        go false true e f =
            let south : int_lt a.y b.y ≡ false = int_lt-false a.y b.y (let h = rises b a f in omega (arith, ints, h)) in
            rw (e, f, south) (weigh_less (S left) (S right))
        go false false e f = rw (e, f) (sym (weigh_none (S left) (S right)))

    from_sum : (a : Point) (points : List Point) (left right : Side) →
        pos (sum_by (λ x. x) (each_from near_step a points left right)) -ℤ pos (sum_by (λ x. x) (each_from far_step a points left right)) ≡
        weigh (S left) (S right) (adds_from up a points)
    from_sum a [] left right = sym (weigh_none (S left) (S right))
    from_sum a (b ∷ points) left right =
        let here = both_steps a b left right in
        let rest = from_sum b points left right in
        let near = sum_by-cons (λ x. x) (near_step a b left right) (each_from near_step b points left right) in
        let far = sum_by-cons (λ x. x) (far_step a b left right) (each_from far_step b points left right) in
        let both = weigh_sum (S left) (S right) (adds up a b) (adds_from up b points) in
        omega (arith, ints, here, rest, near, far, both)

    along_sum : (points : List Point) (left right : Side) →
        pos (sum_by (λ x. x) (each_along near_step points left right)) -ℤ pos (sum_by (λ x. x) (each_along far_step points left right)) ≡
        weigh (S left) (S right) (adds_along up points)
    along_sum [] left right = sym (weigh_none (S left) (S right))
    along_sum (a ∷ points) left right = from_sum a points left right

    chains_sum : (chains : List MapChain) →
        pos (sum_by (λ x. x) (each_of near_step chains)) -ℤ pos (sum_by (λ x. x) (each_of far_step chains)) ≡ all_add up S chains
    chains_sum [] = refl
    chains_sum (c ∷ chains) =
        let here = along_sum c.points c.left c.right in
        let rest = chains_sum chains in
        let near = sum_by-append (λ x. x) (each_along near_step c.points c.left c.right) (each_of near_step chains) in
        let far = sum_by-append (λ x. x) (each_along far_step c.points c.left c.right) (each_of far_step chains) in
        omega (arith, ints, here, rest, near, far)

  -- ---- the list of those that go up or down, each once

  module _ (chains : List MapChain) (proper : AreProper chains) (crossed : List ℕ)
      (once : (s : ℕ) → s < segments_before chains (length chains) → (at : IsLocated chains s) → times s crossed ≡ bit (is_either up at.segment.a at.segment.b))
      (known : (s : ℕ) → segments_before chains (length chains) ≤ s → times s crossed ≡ 0) where
    each_crossed : (P : Flanks → Bool) (s : ℕ) → s < segments_before chains (length chains) →
        times s crossed * bit (P (flanks_at chains s)) ≡ get_or (each_of (flank_step up P) chains) s 0
    each_crossed P s lt = by (located chains proper s lt)
      where
        product : (b : Bool) (n t : ℕ) → t ≡ bit b → t * n ≡ cond b n 0
        product true n t e = rw e (omega arith)
        product false n t e = rw e (omega arith)

        by : IsLocated chains s → times s crossed * bit (P (flanks_at chains s)) ≡ get_or (each_of (flank_step up P) chains) s 0
        by at =
            product (is_either up at.segment.a at.segment.b) (bit (P (flanks_at chains s))) (times s crossed) (once s lt at)
            ∙ ap (λ f. cond (is_either up at.segment.a at.segment.b) (bit (P f)) 0) (flanks_are chains at.segment.a s at)
            ∙ sym (each_at (flank_step up P) chains s at)

    count_is : (P : Flanks → Bool) → count_by P (map (flanks_at chains) crossed) ≡ sum_by (λ x. x) (each_of (flank_step up P) chains)
    count_is P =
        let n : ℕ = segments_before chains (length chains) in
        listed_count n P (flanks_at chains) crossed known
        ∙ sum_same (λ s. times s crossed * bit (P (flanks_at chains s))) (λ s. get_or (each_of (flank_step up P) chains) s 0) n (each_crossed P)
        ∙ sym (places_sum (each_of (flank_step up P) chains)
        ∙ ap (sum_below (λ s. get_or (each_of (flank_step up P) chains) s 0)) (length-each (flank_step up P) chains))

    pub balance_by : (S : Side → Bool) → balance S (map (flanks_at chains) crossed) ≡ all_add up S chains
    balance_by S =
        let near = count_is (λ f. S f.near) in
        let far = count_is (λ f. S f.far) in
        (λ i. pos (near i) -ℤ pos (far i)) ∙ chains_sum S chains
