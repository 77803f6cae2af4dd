use Rattle.std.proofs.Common.{take, drop, sym, ap, ◌∙◌}
use Rattle.std.specs.Prelude.{slice_get}
use Rattle.tl_check_active.specs.Blocks.Lined.{last_of}
use Rattle.tl_check_sweep.proofs.exact.go_exactly.Goals as goal

pub returns-clause-stands : goal.returns-clause-stands
returns-clause-stands c =
    let place = c.place_of-place.result in
    record {
      east = λ t e. c.place_of-place.ensures.east t (ap (λ l. last_of (take place l)) c.deref.ensures.value ∙ ap last_of (sym c.parted.ensures.front) ∙ e);
      west = λ t e. c.place_of-place.ensures.west t
          (ap (λ l. slice_get (drop place l) 0) c.deref.ensures.value ∙ ap (λ l. slice_get l 0) (sym c.parted.ensures.back) ∙ e);
    }
