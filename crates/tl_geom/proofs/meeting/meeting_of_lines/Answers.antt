use Rattle.std.proofs.Common.{inl, inr}
use Rattle.std.proofs.lemmas.Int.{to_z-of_z}
use mir.Syntax.{w128}
use Rattle.tl_geom.specs.Keeping.Lines.{IsEndAt, IsInside}
use Rattle.tl_geom.proofs.Fitting.{is_negative, not_negative, is_lower, not_lower}
use Rattle.tl_geom.proofs.Crossings.{apart_first, apart_second, at_ends, touch_first, touch_second}
use Rattle.tl_geom.proofs.Meetings.{touch, some_end, no_end_found, proper_at}
use Rattle.tl_geom.proofs.meeting.meeting_of_lines.Goals as goal
use Rattle.tl_geom.proofs.meeting.meeting_of_lines.Goals.{then-along_s-lt0-via-then-along_s-lt0, then-along_s-lt0-via-else-along_s-lt0+then-parts-along_s, then-along_s-lt0-via-else-along_s-lt0+else-parts-along_s+then-along_t-lt0, then-along_s-lt0-via-else-along_s-lt0+else-parts-along_s+else-along_t-lt0+then-parts-along_t}

pub returns-then-along_s-lt0 : goal.returns-then-along_s-lt0
returns-then-along_s-lt0 c =
    elim c.then-along_s-lt0.branch [
      | then-along_s-lt0-via-then-along_s-lt0 w ↦ apart_first c.args.s c.args.t c.args.parts c.args.along_s c.args.along_t c.requires.shares (inl (is_negative c.args.along_s c.ranges.along_s w.if-along_s-lt0.true))
      | then-along_s-lt0-via-else-along_s-lt0+then-parts-along_s w ↦ apart_first c.args.s c.args.t c.args.parts c.args.along_s c.args.along_t c.requires.shares (inr (is_lower c.args.parts c.args.along_s c.ranges.parts c.ranges.along_s w.if-parts-along_s.true))
      | then-along_s-lt0-via-else-along_s-lt0+else-parts-along_s+then-along_t-lt0 w ↦ apart_second c.args.s c.args.t c.args.parts c.args.along_s c.args.along_t c.requires.shares (inl (is_negative c.args.along_t c.ranges.along_t w.if-along_t-lt0.true))
      | then-along_s-lt0-via-else-along_s-lt0+else-parts-along_s+else-along_t-lt0+then-parts-along_t w ↦ apart_second c.args.s c.args.t c.args.parts c.args.along_s c.args.along_t c.requires.shares (inr (is_lower c.args.parts c.args.along_t c.ranges.parts c.ranges.along_t w.if-parts-along_t.true))
    ]

pub returns-in-Some-Some : goal.returns-in-Some-Some
returns-in-Some-Some c =
    let first : IsEndAt c.args.s c.args.parts c.args.along_s c.in-Some-Some.p = some_end c.args.s c.args.parts c.args.along_s _ _ c.end_at.result c.in-Some-Some.p (to_z-of_z w128 c.args.parts c.ranges.parts) (to_z-of_z w128 c.args.along_s c.ranges.along_s) c.end_at.ensures.end c.in-Some-Some.is-0 in
    let second : IsEndAt c.args.t c.args.parts c.args.along_t c.in-Some-Some.field-0-1 = some_end c.args.t c.args.parts c.args.along_t _ _ c.end_at-2.result c.in-Some-Some.field-0-1 (to_z-of_z w128 c.args.parts c.ranges.parts) (to_z-of_z w128 c.args.along_t c.ranges.along_t) c.end_at-2.ensures.end c.in-Some-Some.is-1 in
    at_ends c.args.s c.args.t c.args.parts c.args.along_s c.args.along_t c.requires.shares (not_negative c.args.along_s c.ranges.along_s c.if-along_s-lt0.false) (not_lower c.args.parts c.args.along_s c.ranges.parts c.ranges.along_s c.if-parts-along_s.false) (not_negative c.args.along_t c.ranges.along_t c.if-along_t-lt0.false) (not_lower c.args.parts c.args.along_t c.ranges.parts c.ranges.along_t c.if-parts-along_t.false) c.in-Some-Some.p c.in-Some-Some.field-0-1 first second

pub returns-in-Some-None : goal.returns-in-Some-None
returns-in-Some-None c =
    let first : IsEndAt c.args.s c.args.parts c.args.along_s c.in-Some-None.p = some_end c.args.s c.args.parts c.args.along_s _ _ c.end_at.result c.in-Some-None.p (to_z-of_z w128 c.args.parts c.ranges.parts) (to_z-of_z w128 c.args.along_s c.ranges.along_s) c.end_at.ensures.end c.in-Some-None.is-0 in
    let second : IsInside c.args.parts c.args.along_t = no_end_found c.args.parts c.args.along_t _ _ c.end_at-2.result (to_z-of_z w128 c.args.parts c.ranges.parts) (to_z-of_z w128 c.args.along_t c.ranges.along_t) c.end_at-2.ensures.inside c.in-Some-None.is-1 in
    touch c.args.s c.args.t c.in-Some-None.p c.touch.result c.touch.ensures (touch_first c.args.s c.args.t c.args.parts c.args.along_s c.args.along_t c.requires.shares (not_negative c.args.along_s c.ranges.along_s c.if-along_s-lt0.false) (not_lower c.args.parts c.args.along_s c.ranges.parts c.ranges.along_s c.if-parts-along_s.false) (not_negative c.args.along_t c.ranges.along_t c.if-along_t-lt0.false) (not_lower c.args.parts c.args.along_t c.ranges.parts c.ranges.along_t c.if-parts-along_t.false) c.in-Some-None.p first second.0 second.1)

pub returns-in-None-Some : goal.returns-in-None-Some
returns-in-None-Some c =
    let first : IsInside c.args.parts c.args.along_s = no_end_found c.args.parts c.args.along_s _ _ c.end_at.result (to_z-of_z w128 c.args.parts c.ranges.parts) (to_z-of_z w128 c.args.along_s c.ranges.along_s) c.end_at.ensures.inside c.in-None-Some.is-0 in
    let second : IsEndAt c.args.t c.args.parts c.args.along_t c.in-None-Some.p = some_end c.args.t c.args.parts c.args.along_t _ _ c.end_at-2.result c.in-None-Some.p (to_z-of_z w128 c.args.parts c.ranges.parts) (to_z-of_z w128 c.args.along_t c.ranges.along_t) c.end_at-2.ensures.end c.in-None-Some.is-1 in
    touch c.args.s c.args.t c.in-None-Some.p c.touch-in-None-Some.result c.touch-in-None-Some.ensures (touch_second c.args.s c.args.t c.args.parts c.args.along_s c.args.along_t c.requires.shares (not_negative c.args.along_s c.ranges.along_s c.if-along_s-lt0.false) (not_lower c.args.parts c.args.along_s c.ranges.parts c.ranges.along_s c.if-parts-along_s.false) (not_negative c.args.along_t c.ranges.along_t c.if-along_t-lt0.false) (not_lower c.args.parts c.args.along_t c.ranges.parts c.ranges.along_t c.if-parts-along_t.false) c.in-None-Some.p first.0 first.1 second)

pub returns-in-None-None : goal.returns-in-None-None
returns-in-None-None c =
    let first : IsInside c.args.parts c.args.along_s = no_end_found c.args.parts c.args.along_s _ _ c.end_at.result (to_z-of_z w128 c.args.parts c.ranges.parts) (to_z-of_z w128 c.args.along_s c.ranges.along_s) c.end_at.ensures.inside c.in-None-None.is-0 in
    let second : IsInside c.args.parts c.args.along_t = no_end_found c.args.parts c.args.along_t _ _ c.end_at-2.result (to_z-of_z w128 c.args.parts c.ranges.parts) (to_z-of_z w128 c.args.along_t c.ranges.along_t) c.end_at-2.ensures.inside c.in-None-None.is-1 in
    proper_at c.args.s c.args.t c.args.parts c.args.along_s c.args.along_t c.requires.shares (not_negative c.args.along_s c.ranges.along_s c.if-along_s-lt0.false) (not_lower c.args.parts c.args.along_s c.ranges.parts c.ranges.along_s c.if-parts-along_s.false) (not_negative c.args.along_t c.ranges.along_t c.if-along_t-lt0.false) (not_lower c.args.parts c.args.along_t c.ranges.parts c.ranges.along_t c.if-parts-along_t.false) first second _ _ (to_z-of_z w128 c.args.parts c.ranges.parts) (to_z-of_z w128 c.args.along_s c.ranges.along_s) c.place.result c.place.ensures.x c.place.ensures.y c.place.ensures.d
