use Rattle.std.proofs.Common.{refl, ◌≡◌, subst, arith}
use Rattle.std.proofs.lemmas.Result.{err_from_is_err_and}
use Rattle.tl_check_sides.specs.Sides.{dart_count}
use Rattle.tl_check_sides.specs.Headed.{AreHeaded}
use Rattle.tl_check_sides.proofs.Sorting.{none_headed, one_headed}
use Rattle.tl_check_sides.proofs.headed.headed_darts.Goals as goal

pub loop-dart-init : goal.loop-dart-init
loop-dart-init c = none_headed c.args.map.now.chains c.nodes-nodes.ensures.0 _ c.nodes-nodes.ensures.1 c.in_ok-darts.ensures.items

pub loop-dart-preserved : goal.loop-dart-preserved
loop-dart-preserved c =
    one_headed c.args.map.now.chains c.loop-dart.dart c.loop-dart.darts.items c.push.new.self.items _ (let more = c.loop-dart-test.true in let room = c.darts-dart-end.type_inv in omega (arith, more, room)) refl
    (λ nodes are. record { starts = c.dart_node.ensures.start nodes are; within = c.dart_node.ensures.within nodes are; heads = c.dart_heading.ensures }) c.in_ok-push.ensures.items c.loop-dart.invariant

pub dart_node-requires : goal.dart_node-requires
dart_node-requires c = let more = c.loop-dart-test.true in let count = c.darts-dart-end.ensures in omega (arith, more, count)

pub dart_heading-requires : goal.dart_heading-requires
dart_heading-requires c = let more = c.loop-dart-test.true in let count = c.darts-dart-end.ensures in omega (arith, more, count)

pub returns : goal.returns
returns c =
    let done = c.loop-dart-test.false in
    let le = c.loop-dart.auto.dart-end in
    let count = c.darts-dart-end.ensures in
    let end : c.loop-dart.dart ≡ dart_count c.args.map.now.chains = omega (arith, done, le, count) in
    subst (λ n. AreHeaded c.args.map.now.chains n c.loop-dart.darts.items) end c.loop-dart.invariant

pub returns-in_err-darts : goal.returns-in_err-darts
returns-in_err-darts c = let p = err_from_is_err_and c.from_residual.result c.from_residual.ensures.1 in rw p.1 tt

pub returns-in_err-push : goal.returns-in_err-push
returns-in_err-push c = let p = err_from_is_err_and c.from_residual-in_err-push.result c.from_residual-in_err-push.ensures.1 in rw p.1 tt
