use Rattle.tl_check_inside.proofs.Totals.{is_total}
use Rattle.tl_check_inside.proofs.laws.a_landmarks_count_is_the_sum_of_its_polygons.Goals as goal

pub returns : goal.returns
returns c = λ q l landmark n counts is count each. is_total c.args.map.now.chains q landmark.polygons n counts (c.landmarks-landmarks.ensures.polygons l landmark is).once count each
