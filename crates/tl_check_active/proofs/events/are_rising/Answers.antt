use Rattle.std.proofs.Common.{◌≡◌, inl, inr, ◌+◌, ◌-◌, get_or, ap, subst, ◌∙◌, pos, ◌≤ℤ◌, arith}
use Rattle.std.proofs.lemmas.Bool.{cases_lt}
use Rattle.std.proofs.lemmas.List.{get_or_default}
use Rattle.tl_check_planar.specs.ByHeight.Heights.{height, widest}
use Rattle.tl_check_active.specs.declared.events.End.{End}
use Rattle.tl_check_active.proofs.events.are_rising.Goals as goal

abbrev no_end : End
no_end = record { point = record { x = pos 0; y = pos 0 }; number = 0 }

pub loop-k-preserved : goal.loop-k-preserved
loop-k-preserved c = λ j d lt.
    let within = c.loop-k-test.true in
    elim (cases_lt (j + 1) c.loop-k.k) [
      | inl before ↦ c.loop-k.invariant j d before
      | inr late ↦
          let next : c.loop-k.k ≡ j + 1 = omega (arith, late, lt) in
          let here : c.loop-k.k - 1 ≡ j = omega (arith, next) in
          let below = c.is_no_higher.ensures c.if-not-is_no_higher.false in
          let one : get_or c.args.ends.now (c.loop-k.k - 1) no_end ≡ get_or c.args.ends.now j d = ap (λ n. get_or c.args.ends.now n no_end) here ∙ get_or_default c.args.ends.now j no_end d (omega (arith, within, next)) in
          let other : get_or c.args.ends.now c.loop-k.k no_end ≡ get_or c.args.ends.now (j + 1) d = ap (λ n. get_or c.args.ends.now n no_end) next ∙ get_or_default c.args.ends.now (j + 1) no_end d (omega (arith, within, next)) in
          subst (λ (z : End). height widest z.point ≤ℤ height widest (get_or c.args.ends.now (j + 1) d).point) one
          (subst (λ (z : End). height widest (get_or c.args.ends.now (c.loop-k.k - 1) no_end).point ≤ℤ height widest z.point) other below)
    ]
