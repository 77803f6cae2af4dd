use Rattle.std.proofs.Common.{◌≡◌, Some, sym, ap, ◌∙◌, arith, inl, inr}
use Rattle.std.specs.Prelude.{slice_index}
use Rattle.std.proofs.lemmas.Bool.{cases_lt, false≢true}
use Rattle.std.proofs.lemmas.List.{get_or_default}
use Rattle.tl_map_county.specs.Darts.{dart_left, reverse_dart}
use Rattle.tl_check_sides.proofs.FollowFacts.{all_agree}
use Rattle.tl_check_sides.proofs.ListLemmas.{none_below}
use Rattle.tl_check_sides.proofs.next.Next.disagreement.Goals as goal

pub loop-dart-preserved : goal.loop-dart-preserved
loop-dart-preserved c = λ d h. elim (cases_lt d c.loop-dart.dart) [
  | inl earlier ↦ c.loop-dart.invariant d earlier
  | inr last ↦
      let next = c.args.self.now.next.items in
      let same : d ≡ c.loop-dart.dart = omega (arith, h, last) in
      let left : c.dart_left.result ≡ c.dart_left-in-loop-dart.result = c.is.ensures.same c.if-not-is.false in
      let long = c.requires.long in
      let end = c.darts-dart-end.ensures in
      let test = c.loop-dart-test.true in
      let at : slice_index next c.loop-dart.dart ≡ c.index-next.result.now = get_or_default next c.loop-dart.dart 0 c.index-next.result.now (omega (arith, long, end, test)) ∙ sym c.index-next.ensures in
      let reversed : c.reverse_dart.result ≡ reverse_dart (slice_index next d) = c.reverse_dart.ensures ∙ ap reverse_dart (sym at) ∙ ap (λ k. reverse_dart (slice_index next k)) (sym same) in
      ap (dart_left c.args.map.now.chains) same ∙ c.dart_left.ensures.left ∙ ap Some left ∙ sym c.dart_left-in-loop-dart.ensures.left ∙ ap (dart_left c.args.map.now.chains) reversed
]

pub returns-clause-none : goal.returns-clause-none
returns-clause-none c = λ e. all_agree c.args.map.now.chains c.args.self.now c.requires (λ d h. c.loop-dart.invariant d (let end = c.darts-dart-end.ensures in let done = c.loop-dart-test.false in omega (arith, h, end, done)))

pub returns-then-not-is-clause-none : goal.returns-then-not-is-clause-none
returns-then-not-is-clause-none c = λ is. absurd (false≢true (sym is))

pub returns-clause-some : goal.returns-clause-some
returns-clause-some c = tt

pub loop-dart-init : goal.loop-dart-init
loop-dart-init c = λ d h. none_below d h
