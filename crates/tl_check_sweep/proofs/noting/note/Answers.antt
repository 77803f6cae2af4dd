use Rattle.std.proofs.Common.{◌≡◌, length, ◌+◌, ◌++◌, refl, sym, ap, ◌∙◌, arith}
use Rattle.tl_map_county.specs.declared.sides.Side.{Side}
use Rattle.tl_map_county.specs.declared.sides.Side.TheVariants.{Outside}
use Rattle.tl_check_active.proofs.Lining.{single}
use Rattle.tl_check_gaps.specs.Beside.{seen_side}
use Rattle.tl_check_gaps.specs.Keeping.Facing.{gaps_between, last_far, raised}
use Rattle.tl_check_gaps.proofs.Counts.{in_stead}
use Rattle.tl_check_gaps.proofs.Odd.{nothing_more}
use Rattle.tl_check_sweep.proofs.noting.note.Goals as goal

pub returns-then-are_alike : goal.returns-then-are_alike
returns-then-are_alike c = λ west east is_front is_back.
    let chains = raised c.args.map.now.chains in
    let outs = c.args.outs.now in
    let ins = c.args.ins.now in
    let one : length outs ≡ 1 = omega (arith, c.if-outs-eq1.true) in
    let one' : length ins ≡ 1 = omega (arith, c.if-ins-eq1.true) in
    let alike : (far near : Side) → gaps_between chains far outs near ≡ gaps_between chains far ins near =
    λ far near. ap (λ l. gaps_between chains far l near) (single outs one) ∙ c.are_alike.ensures c.if-are_alike.true far near
    ∙ ap (λ l. gaps_between chains far l near) (sym (single ins one')) in
    record {
      counted = λ counted n count.
          in_stead chains west outs ins east (west ++ (outs ++ east)) ((west ++ ins) ++ east) n n refl refl (counted n count)
          (ap (λ g. n + g) (alike (last_far chains Outside west) (seen_side chains east)));
      looked = λ counted.
          nothing_more c.args.map.now.chains c.args.p (west ++ (outs ++ east)) ((west ++ ins) ++ east) c.args.gaps.now c.args.watch.now counted
          (c.looks.ensures.none c.if-not-looks.true);
    }
