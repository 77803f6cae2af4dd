use Rattle.std.proofs.Common.{◌∙◌, refl, arith}
use Rattle.tigertopo_faults.proofs.FindingLemmas.{counts_none, counts_shown, finds_none, finds_shown, passes_more}
use Rattle.tigertopo_faults.proofs.places.lines.find_ahead.Goals as goal

pub returns-in-Ok-false-clause-found : goal.returns-in-Ok-false-clause-found
returns-in-Ok-false-clause-found g c = λ text before.
    let passes = c.in-Ok-false.ensures.passes in
    finds_none c.pass_line.new.buffer c.lines.passed c.args.number text _ _ (omega (arith, c.lines.invariant.at)) (c.lines.invariant.passes text before) (rw c.in-Ok-false.field-0-test at passes)

pub lines-preserved : goal.lines-preserved
lines-preserved g c =
    let passes = c.in-Ok-true.ensures.passes in
    record {
      at = refl;
      passes = λ text before. rw (← c.lines.invariant.at) (passes_more c.lines.passed text _ _ (c.lines.invariant.passes text before) (rw c.in-Ok-true.field-0-test at passes));
      failures = c.in-Ok-true.ensures.failures ∙ c.lines.invariant.failures;
    }

pub returns-clause-found : goal.returns-clause-found
returns-clause-found g c = λ text before.
    finds_shown c.show_line.new.buffer c.lines.passed c.args.number text _ c.show_line.result (omega (arith, c.lines.invariant.at)) (c.lines.invariant.passes text before) c.show_line.ensures.found

pub returns-in-Ok-false-clause-counted : goal.returns-in-Ok-false-clause-counted
returns-in-Ok-false-clause-counted g c = λ text before.
    let passes = c.in-Ok-false.ensures.passes in
    counts_none c.lines.passed text _ _ (c.lines.invariant.passes text before) (rw c.in-Ok-false.field-0-test at passes)

pub returns-clause-counted : goal.returns-clause-counted
returns-clause-counted g c = λ text before.
    counts_shown c.show_line.new.buffer c.lines.passed text _ c.show_line.result (c.lines.invariant.passes text before) c.show_line.ensures.found
