use Rattle.std.proofs.Common.{◌≡◌, ◌<◌, length, sym, ◌∙◌, arith}
use Rattle.std.specs.Prelude.{slice_index}
use Rattle.std.proofs.lemmas.Bool.{eqb-true, eq-eqb}
use Rattle.std.proofs.lemmas.List.{get_or_default}
use Rattle.tl_check_sides.proofs.FollowFacts.{follows_there, follows_back}
use Rattle.tl_check_sides.proofs.next.Next.follows.Goals as goal

pub returns : goal.returns
returns c =
    let next = c.args.self.now.next.items in
    let long = c.requires.next.long in
    let e = c.requires.e in
    let here : c.args.e < length next = omega (arith, long, e) in
    let at : slice_index next c.args.e ≡ c.index.result.now = get_or_default next c.args.e 0 c.index.result.now here ∙ sym c.index.ensures in (
      λ h. follows_there c.args.map.now.chains c.args.self.now c.requires.next c.args.d c.args.e e (at ∙ eqb-true c.index.result.now c.reverse_dart.result h ∙ c.reverse_dart.ensures),
      λ f. eq-eqb c.index.result.now c.reverse_dart.result (sym at ∙ follows_back c.args.map.now.chains c.args.self.now c.requires.next c.args.d c.args.e f ∙ sym c.reverse_dart.ensures),
    )
