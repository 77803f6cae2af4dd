-- The flanks of a segment, and its sides by height.
use Rattle.std.proofs.Common.{◌≡◌, ℕ, ◌+◌, ℤ, Bool, true, false, if◌then◌else◌, Some, List, refl, sym, ap, subst, ◌∙◌, arith}
use Rattle.std.specs.Prelude.{int_lt, slice_get}
use Rattle.std.proofs.lemmas.Int.{ints, by_lt_z}
use Rattle.tl_geom.specs.declared.segment.Segment.{Segment}
use Rattle.tl_geom.proofs.Places.{point_same}
use Rattle.tl_map_county.specs.declared.sides.Side.{Side}
use Rattle.tl_map_county.specs.TheMap.{MapChain}
use Rattle.tl_check_planar.specs.Keeping.Apart.{one_found}
use Rattle.tl_check_inside.specs.declared.flanks.Flanks.{Flanks}
use Rattle.tl_check_inside.specs.Inside.{flanks_at}
use Rattle.tl_check_inside.proofs.Sides.{by_points, no_lt, is_lt}
use Rattle.tl_check_planar.specs.ByHeight.Heights.{height, AreNear}
use Rattle.tl_check_planar.specs.ByHeight.Neighbours.{IsNumbered}
use Rattle.tl_check_planar.proofs.ByHeight.Rising.{higher, higher_west, near_back}
use Rattle.tl_check_faces.specs.Lists.{west_side, east_side, sides_by_height, RunsWest}

abbrev flanks_if : (left right : Side) → Bool → Flanks
flanks_if left right t = if t then record { near = left; far = right } else record { near = right; far = left }

abbrev sides_if : (left right : Side) → Bool → Flanks
sides_if left right t = record { near = if t then left else right; far = if t then right else left }

alike : (left right : Side) (t : Bool) → flanks_if left right t ≡ sides_if left right t
alike left right true = refl
alike left right false = refl

module _ (K : ℤ) (chains : List MapChain) (s : ℕ) (u : Segment) (n : IsNumbered chains s u) (near : AreNear K u.a u.b) where
  same : n.joins.chain ≡ n.number.chain
  same = one_found n.joins.chain n.number.chain (slice_get chains n.c) n.joins.is n.number.is

  by_test : flanks_at chains s ≡ flanks_if n.joins.chain.left n.joins.chain.right (int_lt u.a.y u.b.y)
  by_test =
      by_points chains s n.c n.k u.a u.b n.number
      (subst (λ (z : MapChain). slice_get z.points n.k ≡ Some u.a) same n.joins.from) (subst (λ (z : MapChain). slice_get z.points (n.k + 1) ≡ Some u.b) same n.joins.to)
      ∙ ap (λ (z : MapChain). flanks_if z.left z.right (int_lt u.a.y u.b.y)) (sym same)

  by_one : (t : Bool) → int_lt u.a.y u.b.y ≡ t → int_lt (height K u.a) (height K u.b) ≡ t → flanks_at chains s ≡ sides_by_height K n.joins.chain u
  by_one t e f =
      by_test ∙ ap (flanks_if n.joins.chain.left n.joins.chain.right) e ∙ alike n.joins.chain.left n.joins.chain.right t
      ∙ sym (ap (sides_if n.joins.chain.left n.joins.chain.right) f)

  pub are_sides : ¬ RunsWest u → flanks_at chains s ≡ sides_by_height K n.joins.chain u
  are_sides not_west =
      by_lt_z u.a.y u.b.y (λ up. by_one true (is_lt u.a.y u.b.y up) (is_lt (height K u.a) (height K u.b) (higher K u.a u.b near up)))
      (λ ge. by_one false (no_lt u.a.y u.b.y ge) (no_lt (height K u.a) (height K u.b)
      (by_lt_z u.b.y u.a.y (λ down. let h = higher K u.b u.a (near_back K u.a u.b near) down in omega (arith, ints, h))
      (λ le.
      let level : u.a.y ≡ u.b.y = omega (arith, ints, ge, le) in
      by_lt_z u.b.x u.a.x (λ west. absurd (not_west (record { level = level; west = west })))
      (λ east. by_lt_z u.a.x u.b.x (λ further. let h = higher_west K u.b u.a (near_back K u.a u.b near) (sym level) further in omega (arith, ints, h))
      (λ here. absurd (u.different (point_same u.a u.b (omega (arith, ints, east, here)) level))))))))

  pub are_turned : RunsWest u → ((flanks_at chains s).near ≡ east_side K n.joins.chain u) × ((flanks_at chains s).far ≡ west_side K n.joins.chain u)
  are_turned runs =
      let level = runs.level in
      let e : int_lt u.a.y u.b.y ≡ false = no_lt u.a.y u.b.y (omega (arith, ints, level)) in
      let f : int_lt (height K u.a) (height K u.b) ≡ true = is_lt (height K u.a) (height K u.b) (higher_west K u.a u.b near runs.level runs.west) in
      let left : Side = n.joins.chain.left in
      let right : Side = n.joins.chain.right in (
        ap (λ (z : Flanks). z.near) (by_test ∙ ap (flanks_if n.joins.chain.left n.joins.chain.right) e) ∙ sym (ap (λ (t : Bool). if t then right else left) f),
        ap (λ (z : Flanks). z.far) (by_test ∙ ap (flanks_if n.joins.chain.left n.joins.chain.right) e) ∙ sym (ap (λ (t : Bool). if t then left else right) f),
      )
