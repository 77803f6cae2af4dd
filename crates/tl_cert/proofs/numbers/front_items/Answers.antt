use Rattle.std.proofs.Common.{◌≡◌, ◌+◌, ◌∷◌, [], ◌++◌, length, length-append, ap, arith}
use Rattle.tl_cert.proofs.FrontLemmas.{line_behind, line_within}
use Rattle.tl_cert.proofs.PartLemmas.{numbers_more}
use Rattle.tl_cert.proofs.numbers.front_items.Goals as goal

pub loop-index-preserved : goal.loop-index-preserved
loop-index-preserved c =
    let items = c.loop-index.items.items in
    let so_far = c.loop-index.invariant in
    let first = c.in-Some.ensures.front in
    let is : c.push.new.self.items ≡ items ++ c.in-Some.item ∷ [] = c.push.ensures.items in
    record {
      size = omega (arith, so_far.size, ap length is, length-append items (c.in-Some.item ∷ []));
      numbers = numbers_more items c.push.new.self.items c.in-Some.item is so_far.numbers first.0;
      within = line_within c.args.bytes.now _ c.loop-index.at (c.in-Some.digits + 2) so_far.within first.1;
      spelt = line_behind 83 c.args.bytes.now items c.push.new.self.items c.loop-index.at (c.in-Some.digits + 2) c.in-Some.item so_far.within so_far.spelt first.1 is;
      few = c.in-Some.ensures.few;
    }

pub returns-in_default-clause-few : goal.returns-in_default-clause-few
returns-in_default-clause-few c = omega (arith, c.loop-index.invariant.size, c.loop-index-test.true)

pub returns-in_default-clause-numbers : goal.returns-in_default-clause-numbers
returns-in_default-clause-numbers c = c.loop-index.invariant.numbers

pub returns-in_default-clause-within : goal.returns-in_default-clause-within
returns-in_default-clause-within c = c.loop-index.invariant.within

pub returns-in_default-clause-spelt : goal.returns-in_default-clause-spelt
returns-in_default-clause-spelt c = c.loop-index.invariant.spelt

pub returns-in_default-clause-digits : goal.returns-in_default-clause-digits
returns-in_default-clause-digits c = c.loop-index.invariant.few

pub returns-clause-few : goal.returns-clause-few
returns-clause-few c = omega (arith, c.loop-index.invariant.size, c.loop-index.auto.index-end)

pub returns-clause-numbers : goal.returns-clause-numbers
returns-clause-numbers c = c.loop-index.invariant.numbers

pub returns-clause-within : goal.returns-clause-within
returns-clause-within c = c.loop-index.invariant.within

pub returns-clause-spelt : goal.returns-clause-spelt
returns-clause-spelt c = c.loop-index.invariant.spelt

pub returns-clause-digits : goal.returns-clause-digits
returns-clause-digits c = c.loop-index.invariant.few
