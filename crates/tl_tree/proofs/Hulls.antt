-- Rectangles that hold others.
use Rattle.std.proofs.Common.{ℕ, pos, ◌<ℤ◌, ◌≤ℤ◌, ◌↔◌, List, [], ◌∷◌, ◌++◌, arith}
use Rattle.std.proofs.lemmas.Int.{ints, by_lt_z}
use Rattle.tl_geom.specs.declared.rect.Rect.{Rect}
use Rattle.tl_geom.specs.Rectangle.{Holds, Covers, IsEmpty}
use Rattle.tl_tree_index.proofs.Covering.{all-append}
use Rattle.tl_tree.specs.Keeping.Checking.{IsHull}

pub empty-x : (r : Rect) → r.xmax <ℤ r.xmin → IsEmpty r
empty-x r h p k = let w = k.west in let e = k.east in absurd (omega (arith, ints, h, w, e))

pub empty-y : (r : Rect) → r.ymax <ℤ r.ymin → IsEmpty r
empty-y r h p k = let w = k.south in let e = k.north in absurd (omega (arith, ints, h, w, e))

-- a rectangle that holds a point isn't reversed
full-x : (r : Rect) → (IsEmpty r → ⊥) → r.xmin ≤ℤ r.xmax
full-x r ne = by_lt_z r.xmax r.xmin (λ h. absurd (ne (empty-x r h))) (λ h. h)

full-y : (r : Rect) → (IsEmpty r → ⊥) → r.ymin ≤ℤ r.ymax
full-y r ne = by_lt_z r.ymax r.ymin (λ h. absurd (ne (empty-y r h))) (λ h. h)

-- an empty rectangle is reversed
pub reversed : (r : Rect) → IsEmpty r → (r.xmax <ℤ r.xmin → ⊥) → r.ymax <ℤ r.ymin
reversed r e nx = by_lt_z r.ymax r.ymin (λ h. h) (λ h. absurd (e (record { x = r.xmin; y = r.ymin }) (record { west = omega (arith, ints); east = by_lt_z r.xmax r.xmin (λ k. absurd (nx k)) (λ k. k); south = omega (arith, ints); north = h })))

pub covers-by : (r q : Rect) → r.xmin ≤ℤ q.xmin → q.xmax ≤ℤ r.xmax → r.ymin ≤ℤ q.ymin → q.ymax ≤ℤ r.ymax → Covers r q
covers-by r q a b c d p k =
    let w = k.west in let e = k.east in let s = k.south in let n = k.north in
    record { west = omega (arith, ints, a, w); east = omega (arith, ints, b, e); south = omega (arith, ints, c, s); north = omega (arith, ints, d, n) }

pub by-covers : (r q : Rect) → (IsEmpty q → ⊥) → Covers r q → ((r.xmin ≤ℤ q.xmin) × (q.xmax ≤ℤ r.xmax)) × ((r.ymin ≤ℤ q.ymin) × (q.ymax ≤ℤ r.ymax))
by-covers r q ne h =
    let x = full-x q ne in
    let y = full-y q ne in
    let low : Holds r (record { x = q.xmin; y = q.ymin }) = h (record { x = q.xmin; y = q.ymin }) (record { west = omega (arith, ints); east = x; south = omega (arith, ints); north = y }) in
    let high : Holds r (record { x = q.xmax; y = q.ymax }) = h (record { x = q.xmax; y = q.ymax }) (record { west = x; east = omega (arith, ints); south = y; north = omega (arith, ints) }) in
    ((low.west, high.east), (low.south, high.north))

pub covers-empty : (r q : Rect) → IsEmpty q → Covers r q
covers-empty r q e p k = absurd (e p k)

-- ---- items

-- the hull of two lists of items, from that of each
pub hull-both : (b : ℕ → Rect) (xs ys : List ℕ) (h k hull : Rect) → IsHull b xs h → IsHull b ys k → ((s : Rect) → Covers s hull ↔ (Covers s h × Covers s k)) → IsHull b (xs ++ ys) hull
hull-both b xs ys h k hull p q e r =
    (λ c. let d = (e r).0 c in (all-append b r xs ys).1 ((p r).0 d.0, (q r).0 d.1), λ c. let d = (all-append b r xs ys).0 c in (e r).1 ((p r).1 d.0, (q r).1 d.1))

pub hull-one : (b : ℕ → Rect) (x : ℕ) → IsHull b (x ∷ []) (b x)
hull-one b x r = (λ c. (c, tt), λ c. c.0)

pub hull-none : (b : ℕ → Rect) (hull : Rect) → IsEmpty hull → IsHull b [] hull
hull-none b hull e r = (λ c. tt, λ c. covers-empty r hull e)

pub nothing-empty : IsEmpty (record { xmin = pos 1; ymin = pos 1; xmax = pos 0; ymax = pos 0 })
nothing-empty p k = let w = k.west in let e = k.east in absurd (omega (arith, ints, w, e))
