use Rattle.std.proofs.Common.{ne_eqb, ◌≡◌, ◌∙◌, sym, arith, ◌-◌, false, get_or}
use Rattle.tl_record.specs.Fields.{is_blank}
use Rattle.tl_record.proofs.Blanks.{one_blank_less, no_blank_less}
use Rattle.tl_record.proofs.number.without_trailing_blanks.Goals as goal
use Rattle.tl_record.proofs.number.without_trailing_blanks.Goals.{then-loop-length-test+else-bytes-length-eq32, else-loop-length-test}

pub loop-length-preserved : goal.loop-length-preserved
loop-length-preserved c = record {
  same = one_blank_less c.args.bytes.now c.loop-length.length c.loop-length-test.true c.loop-length.invariant.within c.if-bytes-length-eq32.true ∙ c.loop-length.invariant.same;
  within = omega arith;
}

pub returns-clause-value : goal.returns-clause-value
returns-clause-value c =
    elim c.loop-length-test.branch [
      | then-loop-length-test+else-bytes-length-eq32 w ↦
          let other : is_blank (get_or c.args.bytes.now (c.loop-length.length - 1) 0) ≡ false = ne_eqb _ _ w.if-bytes-length-eq32.false in
          sym (no_blank_less c.args.bytes.now c.loop-length.length w.loop-length-test.true c.loop-length.invariant.within other) ∙ c.loop-length.invariant.same
      | else-loop-length-test w ↦
          let none : c.loop-length.length ≡ 0 = omega arith in
          rw none (rw none at c.loop-length.invariant.same)
    ]
