-- A line strictly within a slab: it meets the segments that are active there, and no end of one.
use Rattle.std.proofs.Common.{◌≡◌, ℕ, ◌+◌, ℤ, pos, ◌+ℤ◌, ◌*ℤ◌, ◌<ℤ◌, ◌≤ℤ◌, List, [], ◌∷◌, arith}
use Rattle.std.specs.Prelude.{All}
use Rattle.std.proofs.lemmas.Int.{ints, by_lt_z}
use Rattle.std.proofs.lemmas.List.Elements.{All-nil, All-cons}
use Rattle.tl_geom.specs.declared.rational.Rational.{Rational}
use Rattle.tl_geom.specs.declared.segment.Segment.{Segment}
use Rattle.tl_geom.proofs.Signs.{mono}
use Rattle.tl_map_county.specs.TheMap.{MapChain}
use Rattle.tl_check_planar.specs.ByHeight.Heights.{height, height_of, AreNear, low_end, high_end}
use Rattle.tl_check_planar.specs.ByHeight.Neighbours.{IsNumbered}
use Rattle.tl_check_planar.specs.ByHeight.Slabs.{IsActive}
use Rattle.tl_check_faces.specs.Lists.{AreAllNear}
use Rattle.tl_check_faces.specs.Disagreements.{IsInSlab}
use Rattle.tl_check_faces.proofs.Steep.{IsSpanned}
use Rattle.tl_check_faces.proofs.Items.{Item, IsLine, numbered}
use Rattle.tl_check_faces.proofs.Sorting.{numbers}

module _ (K : ℤ) (above : pos 0 <ℤ K) (chains : List MapChain) (near : AreAllNear K chains) (n : ℤ) (r : Rational) (inside : IsInSlab K n r) where
  pub own_near : (s : ℕ) (u : Segment) → IsNumbered chains s u → AreNear K u.a u.b
  own_near s u is = near is.c is.k is.c (is.k + 1) u.a u.b
      (record { chain = is.joins.chain; is = is.joins.is; point = is.joins.from }) (record { chain = is.joins.chain; is = is.joins.is; point = is.joins.to })

  some_d : pos 0 ≤ℤ r.d
  some_d = let d : pos 0 <ℤ r.d = r.above_zero in omega (arith, ints, d)

  -- a whole height is below the line or above it
  under : (h : ℤ) → h ≤ℤ n → (r.d *ℤ h) <ℤ height_of K r
  under h le = let m : (r.d *ℤ h) ≤ℤ (r.d *ℤ n) = mono r.d h n some_d le in let a = inside.above in omega (arith, ints, m, a)

  over : (h : ℤ) → n <ℤ h → height_of K r <ℤ (r.d *ℤ h)
  over h lt =
      let m : (r.d *ℤ (n +ℤ pos 1)) ≤ℤ (r.d *ℤ h) = mono r.d (n +ℤ pos 1) h some_d (omega (arith, ints, lt)) in
      let b = inside.below in omega (arith, ints, m, b)

  no_height : (h : ℤ) → ¬ (r.d *ℤ h ≡ height_of K r)
  no_height h e = by_lt_z n h (λ lt. let o = over h lt in omega (arith, ints, o, e)) (λ le. let u = under h le in omega (arith, ints, u, e))

  pub line : IsLine K chains r
  line = record { above = above; ends = own_near; off = λ s u is. (no_height (height K u.a), no_height (height K u.b)) }

  pub spanned_of : (u : Segment) → height K (low_end K u) ≤ℤ n → n <ℤ height K (high_end K u) → IsSpanned K u r
  spanned_of u begun lasting = record { from = under (height K (low_end K u)) begun; to = over (height K (high_end K u)) lasting }

  pub begun_of : (u : Segment) → IsSpanned K u r → (height K (low_end K u) ≤ℤ n) × (n <ℤ height K (high_end K u))
  begun_of u s = (
    by_lt_z n (height K (low_end K u)) (λ lt. absurd (let o = over (height K (low_end K u)) lt in let f = s.from in omega (arith, ints, o, f))) (λ le. le),
    by_lt_z n (height K (high_end K u)) (λ lt. lt) (λ le. absurd (let o = under (height K (high_end K u)) le in let t = s.to in omega (arith, ints, o, t))),
  )

  pub active : (x : Item K chains r) → IsActive K n chains x.s
  active x = let b = begun_of x.segment x.spanned in record { segment = x.segment; is = numbered K chains r x; begun = b.0; lasting = b.1 }

  pub all_active : (xs : List (Item K chains r)) → All (IsActive K n chains) (numbers K chains r xs)
  all_active [] = All-nil (IsActive K n chains)
  all_active (x ∷ xs) = All-cons (IsActive K n chains) x.s (numbers K chains r xs) (active x) (all_active xs)
