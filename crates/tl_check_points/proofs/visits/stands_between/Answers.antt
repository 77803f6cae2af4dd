use Rattle.std.proofs.Common.{◌≡◌, to_z, of_z, w64, sym, ◌∙◌, arith}
use Rattle.std.proofs.lemmas.Int.{ints}
use Rattle.tl_check_active.specs.Blocks.Lined.{list_of}
use Rattle.tl_check_active.specs.Events.{before, joined}
use Rattle.tl_check_active.specs.Ranges.{IsInRange}
use Rattle.tl_check_planar.specs.ByHeight.Heights.{widest}
use Rattle.tl_check_gaps.proofs.Spotting.{east_of_last, west_of_first}
use Rattle.tl_check_points.proofs.Seen.{no_vertex_at, between_at}
use Rattle.tl_check_points.proofs.visits.stands_between.Goals as goal

pub returns-then-is_east_of-clause-vertex : goal.returns-then-is_east_of-clause-vertex
returns-then-is_east_of-clause-vertex c = λ h.
    let range : IsInRange c.args.p = record { west = omega (arith, ints); east = omega (arith, ints) } in
    let fits = c.height.type_inv in
    let bits : to_z w64 (of_z w64 c.height.result) ≡ c.height.result = omega (arith, ints, fits) in
    no_vertex_at c.args.map.now.chains (joined c.args.events.now) (before c.args.from c.args.events.now) (list_of c.args.line.now) c.args.p
    (to_z w64 (of_z w64 c.height.result)) c.requires.events c.requires.rising c.requires.ranges range c.requires.swept (bits ∙ c.height.ensures)
    (λ d some within. c.is_between.ensures.below c.if-not-is_between.false d some) (λ d lt. c.is_between.ensures.above c.if-not-is_between.false d)

pub returns-then-is_east_of-clause-between : goal.returns-then-is_east_of-clause-between
returns-then-is_east_of-clause-between c = λ h.
    let fits = c.height.type_inv in
    let bits : to_z w64 (of_z w64 c.height.result) ≡ c.height.result = omega (arith, ints, fits) in
    between_at c.args.map.now.chains (joined c.args.events.now) (before c.args.from c.args.events.now) (list_of c.args.line.now)
    c.go_to.new.line.front c.go_to.new.line.back c.args.p
    (to_z w64 (of_z w64 c.height.result)) c.requires.events c.requires.rising c.requires.swept (bits ∙ c.height.ensures)
    (λ d some within. c.is_between.ensures.below c.if-not-is_between.false d some) (λ d lt. c.is_between.ensures.above c.if-not-is_between.false d)
    (sym c.in_ok-go_to.ensures)
    (east_of_last widest c.args.map.now.chains c.args.p c.go_to.new.line.front (λ t e. c.is_east_of.ensures c.if-is_east_of.true t (c.previous.ensures ∙ e)))
    (west_of_first widest c.args.map.now.chains c.args.p c.go_to.new.line.back (λ t e. c.is_west_of.ensures h t (c.next.ensures ∙ e)))
