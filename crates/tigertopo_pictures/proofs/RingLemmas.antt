-- Rings, as pens write them.
use Rattle.std.proofs.Common.{◌≡◌, ℕ, ◌+◌, ◌-◌, ◌<◌, ◌≤◌, Bool, true, false, List, [], ◌∷◌, ◌++◌, length, drop, get_or, Some, refl, sym, ap, ◌∙◌, arith}
use Rattle.std.specs.Prelude.{slice_get}
use Rattle.std.proofs.lemmas.List.{length-drop, length-reverse}
use Rattle.tl_geom.specs.declared.point.Point.{Point}
use Rattle.tl_map_county.specs.TheMap.{MapChain}
use Rattle.tl_map_county.specs.Darts.{directed, dart_start}
use Rattle.tigertopo_pictures.specs.Rings.{ThePen, line_text, ring_start}
use Rattle.tigertopo_pictures.proofs.PieceLemmas.{from_place}

directed_long : (along : Bool) (ps : List Point) → length (directed along ps) ≡ length ps
directed_long true ps = refl
directed_long false ps = length-reverse ps

module _ (pen : ThePen) where
  -- the way along points from a place on: a step before the way behind it
  line_next : (ps : List Point) (n : ℕ) (p q : Point) → slice_get ps n ≡ Some p → slice_get ps (n + 1) ≡ Some q
      → line_text pen (drop n ps) ≡ pen.step p q ++ line_text pen (drop (n + 1) ps)
  line_next ps n p q first second =
      ap (line_text pen) (from_place ps n p first ∙ ap (λ rest. p ∷ rest) (from_place ps (n + 1) q second))
      ∙ sym (ap (λ rest. pen.step p q ++ line_text pen rest) (from_place ps (n + 1) q second))

  -- the same, behind a place that a loop has come to
  pub line_step : (ps : List Point) (place : ℕ) (p q : Point) → 1 ≤ place → slice_get ps (place - 1) ≡ Some p → slice_get ps place ≡ Some q
      → line_text pen (drop (place - 1) ps) ≡ pen.step p q ++ line_text pen (drop (place + 1 - 1) ps)
  line_step ps place p q some first second =
      let next : place - 1 + 1 ≡ place = omega arith in
      let same : place + 1 - 1 ≡ place - 1 + 1 = omega arith in
      line_next ps (place - 1) p q first (rw next second) ∙ ap (λ n. pen.step p q ++ line_text pen (drop n ps)) (sym same)

  -- there is none from the last point on
  single : (ps : List Point) → length ps ≤ 1 → line_text pen ps ≡ []
  single [] few = refl
  single (p ∷ []) few = refl
  single (p ∷ q ∷ rest) few = absurd (omega (arith, few))

  pub line_end : (along : Bool) (ps : List Point) (place : ℕ) → length ps ≤ place → line_text pen (drop (place - 1) (directed along ps)) ≡ []
  line_end along ps place past = single (drop (place - 1) (directed along ps)) (omega (arith, length-drop (place - 1) (directed along ps), directed_long along ps))

  -- where a ring starts
  pub start_is : (chains : List MapChain) (walk : List ℕ) (d : ℕ) (p : Point) → 0 < length walk → dart_start chains (get_or walk 0 d) ≡ Some p
      → pen.start p ≡ ring_start pen chains walk
  start_is chains [] d p some at = absurd (omega arith)
  start_is chains (x ∷ rest) d p some at = rw at refl
