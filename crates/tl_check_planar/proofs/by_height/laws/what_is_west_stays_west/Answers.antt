use Rattle.tl_check_planar.proofs.ByHeight.Transport.{not_east, on_both}
use Rattle.tl_check_planar.proofs.by_height.laws.what_is_west_stays_west.Goals as goal

pub returns : goal.returns
returns c = λ K u w r near near' west spans spans' h. (
  not_east K u w near near' west r spans spans' h,
  on_both K u w near near' west r spans spans' h,
)
