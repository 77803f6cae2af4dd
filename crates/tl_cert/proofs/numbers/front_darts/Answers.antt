use Rattle.std.proofs.Common.{◌≡◌, ◌+◌, ◌∷◌, [], ◌++◌, length, length-append, ap, arith}
use Rattle.std.proofs.lemmas.Result.{err_from_is_err_and}
use Rattle.tl_cert.proofs.FrontLemmas.{line_behind, line_within}
use Rattle.tl_cert.proofs.PartLemmas.{numbers_more}
use Rattle.tl_cert.proofs.numbers.front_darts.Goals as goal

pub loop-index-preserved : goal.loop-index-preserved
loop-index-preserved c =
    let darts = c.loop-index.darts.items in
    let so_far = c.loop-index.invariant in
    let first = c.in-Some.ensures.front in
    let is : c.push.new.self.items ≡ darts ++ c.in-Some.dart ∷ [] = c.in-Ok.ensures.items in
    record {
      size = omega (arith, so_far.size, ap length is, length-append darts (c.in-Some.dart ∷ []));
      numbers = numbers_more darts c.push.new.self.items c.in-Some.dart is so_far.numbers first.0;
      within = line_within c.args.bytes.now _ c.loop-index.at (c.in-Some.digits + 2) so_far.within first.1;
      spelt = line_behind 68 c.args.bytes.now darts c.push.new.self.items c.loop-index.at (c.in-Some.digits + 2) c.in-Some.dart so_far.within so_far.spelt first.1 is;
      few = c.in-Some.ensures.few;
    }

pub returns-in_err-darts-clause-few : goal.returns-in_err-darts-clause-few
returns-in_err-darts-clause-few c =
    let p = err_from_is_err_and c.from_residual.result c.from_residual.ensures.1 in
    rw p.1 tt

pub returns-in_err-darts-clause-numbers : goal.returns-in_err-darts-clause-numbers
returns-in_err-darts-clause-numbers c =
    let p = err_from_is_err_and c.from_residual.result c.from_residual.ensures.1 in
    rw p.1 tt

pub returns-in_err-darts-clause-within : goal.returns-in_err-darts-clause-within
returns-in_err-darts-clause-within c =
    let p = err_from_is_err_and c.from_residual.result c.from_residual.ensures.1 in
    rw p.1 tt

pub returns-in_err-darts-clause-spelt : goal.returns-in_err-darts-clause-spelt
returns-in_err-darts-clause-spelt c =
    let p = err_from_is_err_and c.from_residual.result c.from_residual.ensures.1 in
    rw p.1 tt

pub returns-in_err-darts-clause-digits : goal.returns-in_err-darts-clause-digits
returns-in_err-darts-clause-digits c =
    let p = err_from_is_err_and c.from_residual.result c.from_residual.ensures.1 in
    rw p.1 tt

pub returns-in-Err-clause-few : goal.returns-in-Err-clause-few
returns-in-Err-clause-few c = tt

pub returns-in-Err-clause-numbers : goal.returns-in-Err-clause-numbers
returns-in-Err-clause-numbers c = tt

pub returns-in-Err-clause-within : goal.returns-in-Err-clause-within
returns-in-Err-clause-within c = tt

pub returns-in-Err-clause-spelt : goal.returns-in-Err-clause-spelt
returns-in-Err-clause-spelt c = tt

pub returns-in-Err-clause-digits : goal.returns-in-Err-clause-digits
returns-in-Err-clause-digits c = tt

pub returns-in_default-clause-few : goal.returns-in_default-clause-few
returns-in_default-clause-few c = omega (arith, c.loop-index.invariant.size, c.loop-index-test.true)

pub returns-in_default-clause-numbers : goal.returns-in_default-clause-numbers
returns-in_default-clause-numbers c = c.loop-index.invariant.numbers

pub returns-in_default-clause-within : goal.returns-in_default-clause-within
returns-in_default-clause-within c = c.loop-index.invariant.within

pub returns-in_default-clause-spelt : goal.returns-in_default-clause-spelt
returns-in_default-clause-spelt c = c.loop-index.invariant.spelt

pub returns-in_default-clause-digits : goal.returns-in_default-clause-digits
returns-in_default-clause-digits c = c.loop-index.invariant.few

pub returns-clause-few : goal.returns-clause-few
returns-clause-few c = omega (arith, c.loop-index.invariant.size, c.loop-index.auto.index-end)

pub returns-clause-numbers : goal.returns-clause-numbers
returns-clause-numbers c = c.loop-index.invariant.numbers

pub returns-clause-within : goal.returns-clause-within
returns-clause-within c = c.loop-index.invariant.within

pub returns-clause-spelt : goal.returns-clause-spelt
returns-clause-spelt c = c.loop-index.invariant.spelt

pub returns-clause-digits : goal.returns-clause-digits
returns-clause-digits c = c.loop-index.invariant.few
