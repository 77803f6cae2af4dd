use Rattle.std.proofs.Common.{◌≡◌, ◌<◌, inl, inr, Some, length, refl, sym, ◌∙◌, arith}
use Rattle.tigertopo_pictures.specs.Groups.{places}
use Rattle.tigertopo_pictures.specs.Svg.Colours.{left_polygon}
use Rattle.tigertopo_pictures.proofs.SvgLemmas.ColourLemmas.{Marks, passed_none, passed_one, passed_still, passed_all, passed_here, marked_still, taken_by, darts_left, all_taken}
use Rattle.tigertopo_pictures.proofs.svg.colours.mark_taken.Goals as goal

pub loop-at-init : goal.loop-at-init
loop-at-init c = record {
  len = refl;
  way = λ lefts are groups.
      passed_none (Marks c.args.map.now.chains c.args.colours.now c.args.polygon c.args.marks.now.items) c.args.darts.now.next c.first-at.result (places c.args.polygon lefts)
      (rw c.first-at.ensures (groups.each c.args.polygon c.requires.polygon));
  taken = λ k within same. absurd (omega (arith, c.requires.earlier k (omega (arith, within)), same));
  bound = λ k within. omega (arith, c.requires.earlier k (omega (arith, within)));
}

pub loop-at-preserved : goal.loop-at-preserved
loop-at-preserved c =
    let chains = c.args.map.now.chains in
    let colours = c.args.colours.now in
    let p = c.args.polygon in
    let next = c.args.darts.now.next in
    let at = c.loop-at.at in
    let old = c.loop-at.marks.items in
    let new = c.mark.new.marks.items in
    let lefts = c.requires.darts.0 in
    let within : at < length next = omega (arith, c.loop-at-test.true, c.items.ensures) in
    let left : left_polygon chains at ≡ Some p =
    passed_here (Marks chains colours p old) next (λ d. left_polygon chains d ≡ Some p) at (places p lefts) within (c.loop-at.invariant.way lefts c.requires.darts.1 c.requires.darts.2)
    (darts_left chains lefts p c.requires.darts.1) in
    record {
      len = omega arith;
      way = λ ls are groups. rw c.next-at.ensures.next
          (passed_one (Marks chains colours p new) next at (places p ls) within c.mark.ensures.marked
          (passed_still (Marks chains colours p old) (Marks chains colours p new) next (marked_still chains colours p old new at c.mark.ensures.others) at (places p ls)
          (c.loop-at.invariant.way ls are groups)));
      taken = λ k inside same. elim (c.mark.ensures.others k) [
        | inl as_before ↦ c.loop-at.invariant.taken k (omega (arith, inside)) (sym as_before ∙ same)
        | inr here ↦ taken_by chains colours p at k c.requires.coloured left here.0
      ];
      bound = λ k inside. elim (c.mark.ensures.others k) [
        | inl as_before ↦ omega (arith, as_before, c.loop-at.invariant.bound k (omega (arith, inside)))
        | inr here ↦ omega (arith, here.1)
      ];
    }

pub returns-clause-marked : goal.returns-clause-marked
returns-clause-marked c k taken =
    let chains = c.args.map.now.chains in
    let marks = c.loop-at.marks.items in
    let lefts = c.requires.darts.0 in
    all_taken chains lefts c.args.colours.now c.args.polygon marks c.requires.darts.1 c.requires.coloured
    (passed_all (Marks chains c.args.colours.now c.args.polygon marks) c.args.darts.now.next c.loop-at.at (places c.args.polygon lefts) (omega (arith, c.loop-at-test.false, c.items.ensures))
    (c.loop-at.invariant.way lefts c.requires.darts.1 c.requires.darts.2)) k taken
