use Rattle.std.proofs.Common.{◌≡◌, ◌*◌, ◌∷◌, [], length, drop, arith, subst, sym}
use Rattle.std.proofs.lemmas.List.{drop_all}
use Rattle.tl_cert.specs.Keeping.Putting.{Puts}
use Rattle.tl_cert.proofs.WriteLemmas.{numbers_text}
use Rattle.tl_cert.proofs.PutLemmas.{puts_none, puts_next}
use Rattle.tl_cert.proofs.put.put_numbers.Goals as goal

pub loop-left-init : goal.loop-left-init
loop-left-init c =
    let numbers = c.args.numbers.now in
    record {
      few = omega arith;
      room = omega arith;
      put = subst (λ xs. Puts (13 * length numbers) c.args.end c.args.end c.args.text.now c.args.text.now (numbers_text (c.args.letter ∷ []) xs))
          (sym (drop_all (length numbers) numbers (omega arith))) (puts_none (13 * length numbers) c.args.end c.args.text.now);
    }

pub put_number-start-requires : goal.put_number-start-requires
put_number-start-requires c =
    let so_far = c.loop-left.invariant in
    record { room = omega (arith, so_far.room, c.requires.room, c.loop-left-test.true); within = omega (arith, so_far.put.before, so_far.put.size, c.requires.within) }

pub loop-left-preserved : goal.loop-left-preserved
loop-left-preserved c =
    let so_far = c.loop-left.invariant in
    let line = c.put_number-start.ensures in
    record {
      few = omega (arith, so_far.few);
      room = omega (arith, so_far.room, line.few, c.loop-left-test.true);
      put = puts_next c.args.letter c.args.numbers.now c.loop-left.left _ _ _ _ _ _ (omega (arith, c.loop-left-test.true)) so_far.few
          (omega (arith, so_far.room, line.few, c.loop-left-test.true)) so_far.put line;
    }

pub returns : goal.returns
returns c =
    let left : c.loop-left.left ≡ 0 = omega (arith, c.loop-left-test.false) in
    subst (λ n. Puts (13 * length c.args.numbers.now) c.args.end c.loop-left.start c.args.text.now c.loop-left.text (numbers_text (c.args.letter ∷ []) (drop n c.args.numbers.now)))
    left c.loop-left.invariant.put
