use Rattle.std.proofs.Common.{refl, ◌≡◌, subst, arith}
use Rattle.std.proofs.lemmas.Result.{err_from_is_err_and}
use Rattle.tl_check_sides.specs.Sides.{dart_count}
use Rattle.tl_check_sides.specs.Listing.Keeping.Starts.{AreListed}
use Rattle.tl_check_sides.proofs.ListingLemmas.StartLemmas.{none_listed, start_listed}
use Rattle.tl_check_sides.proofs.listing.starts.list_starts.Goals as goal

pub loop-dart-init : goal.loop-dart-init
loop-dart-init c = none_listed c.args.map.now.chains c.nodes-nodes.ensures.0 _ c.nodes-nodes.ensures.1 c.new-starts.ensures.items

pub dart_cell-requires : goal.dart_cell-requires
dart_cell-requires c = let more = c.loop-dart-test.true in let count = c.darts-dart-end.ensures in omega (arith, more, count)

pub dart_node-requires : goal.dart_node-requires
dart_node-requires c = let more = c.loop-dart-test.true in let count = c.darts-dart-end.ensures in omega (arith, more, count)

pub loop-dart-preserved : goal.loop-dart-preserved
loop-dart-preserved c =
    start_listed c.args.map.now.chains c.loop-dart.dart c.loop-dart.starts.items c.push.new.self.items _ refl
    (record { has = c.in-Some.ensures; starts = c.dart_node.ensures.start; within = c.dart_node.ensures.within }) c.in_ok-push.ensures.items c.loop-dart.invariant

pub returns : goal.returns
returns c =
    let done = c.loop-dart-test.false in
    let le = c.loop-dart.auto.dart-end in
    let count = c.darts-dart-end.ensures in
    let end : c.loop-dart.dart ≡ dart_count c.args.map.now.chains = omega (arith, done, le, count) in
    subst (λ n. AreListed c.args.map.now.chains n c.loop-dart.starts.items) end c.loop-dart.invariant

pub returns-in_err-push : goal.returns-in_err-push
returns-in_err-push c = let p = err_from_is_err_and c.from_residual.result c.from_residual.ensures.1 in rw p.1 tt
