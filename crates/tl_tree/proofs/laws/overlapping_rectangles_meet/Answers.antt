use Rattle.tl_tree.proofs.PairTests.{meeting-overlaps, overlaps-meeting}
use Rattle.tl_tree.proofs.laws.overlapping_rectangles_meet.Goals as goal

pub returns : goal.returns
returns c = (meeting-overlaps c.args.r c.args.q, overlaps-meeting c.args.r c.args.q)
