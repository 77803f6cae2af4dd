-- What loops need that add up what segments and rings add: one step on, and how large a sum may be.
use Rattle.std.proofs.Common.{◌≡◌, ℕ, zero, suc, ◌+◌, ◌-◌, ◌<◌, ◌≤◌, ℤ, pos, neg_ℤ, ◌+ℤ◌, ◌≤ℤ◌, Bool, true, false, List, [], ◌∷◌, length, take, get_or, refl, ap, ◌∙◌, arith}
use Rattle.std.specs.Prelude.{slice_index}
use Rattle.std.proofs.lemmas.Int.{ints}
use Rattle.std.proofs.lemmas.List.{take_more}
use Rattle.tl_geom.specs.declared.point.Point.{Point}
use Rattle.tl_check_inside.specs.Inside.{total}
use Rattle.tl_check_faces.specs.Crossings.Rings.{goes_up_across, crossing, crossings_from, crossings}
use Rattle.tl_check_faces.proofs.CrossingsLemmas.Across.{adds_one, takes_one, adds_nothing}
use Rattle.tl_check_faces.proofs.CrossingsLemmas.Adding.{total_append}

-- ---- one step on

-- the first points, one more of them
from_more : (q a : Point) (points : List Point) (k : ℕ) (d : Point) → k < length points →
    crossings_from q a (take (suc k) points) ≡ crossings_from q a (take k points) +ℤ crossing q (get_or (a ∷ points) k d) (get_or points k d)
from_more q a [] k d lt = absurd (omega (arith, lt))
from_more q a (b ∷ points) zero d lt = omega (arith, ints)
from_more q a (b ∷ points) (suc k) d lt = let rest = from_more q b points k d (omega (arith, lt)) in omega (arith, ints, rest)

pub crossings_more : (q : Point) (points : List Point) (k : ℕ) (d : Point) → k + 1 < length points →
    crossings q (take (k + 2) points) ≡ crossings q (take (k + 1) points) +ℤ crossing q (get_or points k d) (get_or points (k + 1) d)
crossings_more q [] k d lt = absurd (omega (arith, lt))
crossings_more q (a ∷ points) k d lt =
    let two : k + 2 ≡ suc (suc k) = omega arith in
    let one : k + 1 ≡ suc k = omega arith in
    rw (two, one) (from_more q a points k d (omega (arith, lt)))

-- fewer than two points have no segment
pub crossings_few : (q : Point) (points : List Point) → length points ≤ 1 → crossings q points ≡ pos 0
crossings_few q [] le = refl
crossings_few q (a ∷ []) le = refl
crossings_few q (a ∷ b ∷ points) le = absurd (omega (arith, le))

pub total_more : (f : ℕ → ℤ) (xs : List ℕ) (k : ℕ) → k < length xs → total f (take (k + 1) xs) ≡ total f (take k xs) +ℤ f (slice_index xs k)
total_more f xs k lt =
    let one = total_append f (take k xs) (slice_index xs k ∷ []) in
    ap (total f) (take_more xs k 0 lt) ∙ omega (arith, ints, one)

-- ---- bounds

one_at_most : (q a b : Point) → (crossing q a b ≤ℤ pos 1) × (neg_ℤ (pos 1) ≤ℤ crossing q a b)
one_at_most q a b = go (goes_up_across q a b) (goes_up_across q b a) refl refl
  where
    go : (s t : Bool) → goes_up_across q a b ≡ s → goes_up_across q b a ≡ t → (crossing q a b ≤ℤ pos 1) × (neg_ℤ (pos 1) ≤ℤ crossing q a b)
    go true t e f = let is = adds_one q a b e in (omega (arith, ints, is), omega (arith, ints, is))
    go false true e f = let is = takes_one q a b f in (omega (arith, ints, is), omega (arith, ints, is))
    go false false e f = let is = adds_nothing q a b e f in (omega (arith, ints, is), omega (arith, ints, is))

from_within : (q a : Point) (points : List Point) → (crossings_from q a points ≤ℤ pos (length points)) × (neg_ℤ (pos (length points)) ≤ℤ crossings_from q a points)
from_within q a [] = (omega (arith, ints), omega (arith, ints))
from_within q a (b ∷ points) =
    let here = one_at_most q a b in
    let above = here.0 in
    let below = here.1 in
    let rest = from_within q b points in
    let high = rest.0 in
    let low = rest.1 in
    (omega (arith, ints, above, high), omega (arith, ints, below, low))

-- points add no more than there are segments between them, and no less than as many taken away
pub crossings_within : (q : Point) (points : List Point) → (crossings q points ≤ℤ pos (length points - 1)) × (neg_ℤ (pos (length points - 1)) ≤ℤ crossings q points)
crossings_within q [] = (omega (arith, ints), omega (arith, ints))
crossings_within q (a ∷ points) =
    let all = from_within q a points in
    let high = all.0 in
    let low = all.1 in
    let one : length (a ∷ points) - 1 ≡ length points = omega arith in
    (rw one high, rw one low)
