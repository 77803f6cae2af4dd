-- The gap before a list.
use Rattle.std.proofs.Common.{◌≡◌, ℕ, Some, None, List, [], ◌∷◌, refl, sym, ap, subst, ◌∙◌}
use Rattle.std.specs.Prelude.{slice_get, slice_index}
use Rattle.tl_map_county.specs.TheMap.{MapChain}
use Rattle.tl_check_planar.specs.Keeping.Apart.{one_found}
use Rattle.tl_check_inside.specs.Keeping.Tallies.{flanks_in}
use Rattle.tl_check_points.specs.declared.labels.Gap.{Gap}
use Rattle.tl_check_points.specs.Keeping.Ways.{TellGap}
use Rattle.tl_check_points.specs.Keeping.Labels.{AreLabelled}
use Rattle.tl_check_points.proofs.Treed.{told_none}

pub gap_some : (n : ℕ) (chains : List MapChain) (gaps : List Gap) (labels back : List ℕ) (s g : ℕ) → slice_get back 0 ≡ Some s → g ≡ slice_index labels s →
    AreLabelled n chains gaps labels back → TellGap n gaps g (flanks_in chains back)
gap_some n chains gaps labels [] s g e is all = absurd (cc)
gap_some n chains gaps labels (t ∷ back) s g e is all =
    subst (λ k. TellGap n gaps k (flanks_in chains (t ∷ back))) (ap (slice_index labels) (one_found t s (Some t) refl e) ∙ sym is) all.0

pub gap_none : (n : ℕ) (chains : List MapChain) (gaps : List Gap) (back : List ℕ) → slice_get back 0 ≡ None → TellGap n gaps 0 (flanks_in chains back)
gap_none n chains gaps [] e = told_none n gaps
gap_none n chains gaps (t ∷ back) e = absurd (cc)
