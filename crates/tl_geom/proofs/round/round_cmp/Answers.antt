use Rattle.std.proofs.Common.{Less, Greater, inl, inr}
use Rattle.tl_geom.proofs.Within.{Answers, answers, one_half_answers}
use Rattle.tl_geom.proofs.round.round_cmp.Goals as goal

pub returns-then-is_first_half-2 : goal.returns-then-is_first_half-2
returns-then-is_first_half-2 c =
    let k : Answers c.args.u c.args.v c.left_cmp.result =
    one_half_answers c.args.u c.args.v c.left_cmp.result
    (inl (c.is_first_half.ensures.first c.if-is_first_half.true, c.is_first_half-then-is_first_half.ensures.first c.if-is_first_half-2.true)) c.left_cmp.ensures in
    record { below = k.0; same = k.1.0; above = k.1.1 }

pub returns-else-is_first_half-2 : goal.returns-else-is_first_half-2
returns-else-is_first_half-2 c =
    let k : Answers c.args.u c.args.v Less =
    answers c.args.u c.args.v Less
    (inl (c.is_first_half.ensures.first c.if-is_first_half.true, c.is_first_half-then-is_first_half.ensures.second c.if-is_first_half-2.false)) in
    record { below = k.0; same = k.1.0; above = k.1.1 }

pub returns-then-is_first_half-3 : goal.returns-then-is_first_half-3
returns-then-is_first_half-3 c =
    let k : Answers c.args.u c.args.v Greater =
    answers c.args.u c.args.v Greater
    (inl (c.is_first_half-else-is_first_half.ensures.first c.if-is_first_half-3.true, c.is_first_half.ensures.second c.if-is_first_half.false)) in
    record { below = k.0; same = k.1.0; above = k.1.1 }

pub returns-else-is_first_half-3 : goal.returns-else-is_first_half-3
returns-else-is_first_half-3 c =
    let k : Answers c.args.u c.args.v c.left_cmp-else-is_first_half-3.result =
    one_half_answers c.args.u c.args.v c.left_cmp-else-is_first_half-3.result
    (inr (c.is_first_half.ensures.second c.if-is_first_half.false, c.is_first_half-else-is_first_half.ensures.second c.if-is_first_half-3.false)) c.left_cmp-else-is_first_half-3.ensures in
    record { below = k.0; same = k.1.0; above = k.1.1 }
