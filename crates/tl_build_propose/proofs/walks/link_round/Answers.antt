use Rattle.std.proofs.Common.{◌≡◌, ◌/◌, ◌<◌, arith, length, sym, ap, subst, get_or, ◌∙◌}
use Rattle.std.proofs.lemmas.List.{length-map, get_or-map}
use Rattle.std.proofs.lemmas.List.Elements.{All-get_or, All-set}
use Rattle.tl_map_county.specs.Darts.{reverse_dart}
use Rattle.tl_check_sides.specs.Lists.{before}
use Rattle.tl_check_sides.proofs.ListLemmas.{before_at, place_before, place_before_within}
use Rattle.tl_check_sides.specs.declared.headed.HeadedDart.{HeadedDart}
use Rattle.tl_build_propose.specs.Keeping.Lists.{darts_in}
use Rattle.tl_build_propose.proofs.RingLemmas.{reverse_within}
use Rattle.tl_build_propose.proofs.LinkLemmas.{one_linked, before_behind}
use Rattle.tl_build_propose.proofs.walks.link_round.Goals as goal

pub loop-start-preserved : goal.loop-start-preserved
loop-start-preserved c =
    let round = darts_in c.args.round.now in
    let place = c.loop-start.start-index in
    let n = length c.args.following.now in
    let test = c.loop-start-test.true in
    let long = c.loop-start.invariant.linked.long in
    let many = length-map c.args.round.now (λ (s : HeadedDart). s.dart) in
    let inside : place < length round = omega (arith, many, test) in
    let is : c.start-item.result.dart ≡ get_or round place 0 =
    ap (λ (s : HeadedDart). s.dart) c.start-item.is ∙ sym (get_or-map (λ (s : HeadedDart). s.dart) c.args.round.now place c.start-item.result 0 test) in
    let dart : get_or round place 0 < n = All-get_or (λ d. d < n) round place 0 inside c.requires.known in
    let within : reverse_dart (get_or round place 0) < length c.loop-start.following =
    omega (arith, reverse_within (n / 2) (get_or round place 0) (omega (arith, c.requires.paired, dart)), c.requires.paired, long) in
    let earlier : before round place < n = subst (λ d. d < n) (sym (before_at round place))
    (All-get_or (λ d. d < n) round (place_before round place) 0 (place_before_within round place inside) c.requires.known) in
    record {
      before = is ∙ sym (before_behind round place);
      kept = rw (c.reverse_dart.ensures, is, c.loop-start.invariant.before) (All-set (λ d. d < n) c.loop-start.following (reverse_dart (get_or round place 0)) (before round place) earlier c.loop-start.invariant.kept);
      linked = rw (c.reverse_dart.ensures, is, c.loop-start.invariant.before)
          (one_linked c.args.following.now c.loop-start.following round place c.loop-start.invariant.linked inside c.requires.once within);
    }

pub bounds-following-reverse_dart : goal.bounds-following-reverse_dart
bounds-following-reverse_dart c =
    let n = length c.args.following.now in
    let place = c.loop-start.start-index in
    let round = darts_in c.args.round.now in
    let inside : place < length round = omega (arith, length-map c.args.round.now (λ (s : HeadedDart). s.dart), c.loop-start-test.true) in
    let is : c.start-item.result.dart ≡ get_or round place 0 =
    ap (λ (s : HeadedDart). s.dart) c.start-item.is ∙ sym (get_or-map (λ (s : HeadedDart). s.dart) c.args.round.now place c.start-item.result 0 c.loop-start-test.true) in
    let dart : get_or round place 0 < n = All-get_or (λ d. d < n) round place 0 inside c.requires.known in
    let long = c.loop-start.invariant.linked.long in
    let back = c.reverse_dart.ensures in
    subst (λ r. r < length c.loop-start.following) (sym (back ∙ ap reverse_dart is))
    (omega (arith, reverse_within (n / 2) (get_or round place 0) (omega (arith, c.requires.paired, dart)), c.requires.paired, long))
