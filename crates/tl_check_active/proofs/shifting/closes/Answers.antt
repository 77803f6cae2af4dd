use Rattle.std.proofs.Common.{◌∙◌}
use Rattle.tl_check_planar.specs.ByHeight.Heights.{widest}
use Rattle.tl_check_planar.specs.ByHeight.Neighbours.{AreTested}
use Rattle.tl_check_active.proofs.Lining.{joined}
use Rattle.tl_check_active.proofs.shifting.closes.Goals as goal

pub returns : goal.returns
returns c = λ h two two'.
    joined (AreTested widest c.args.map.now.chains) c.args.line.now.front c.args.line.now.back two two'
    (λ s t e f. c.may_follow.ensures h s t (c.previous.ensures ∙ e) (c.next.ensures ∙ f))
