use Rattle.std.proofs.Common.{◌+◌, get_or, sym, subst, arith}
use Rattle.std.proofs.lemmas.List.{get_or_default}
use Rattle.tl_check_gaps.specs.Keeping.Kept.{AreKeptOf}
use Rattle.tl_check_gaps.proofs.Keeping.{no_gap, none_kept, all_kept, passed_by, kept_too}
use Rattle.tl_check_gaps.proofs.kept.keep_one_each.Goals.{then-not-repeats+in_ok-push, else-not-repeats}
use Rattle.tl_check_gaps.proofs.kept.keep_one_each.Goals as goal

pub loop-k-init : goal.loop-k-init
loop-k-init c = none_kept c.args.gaps.now c.new-kept.result.items c.new-kept.ensures.items

pub loop-k-preserved : goal.loop-k-preserved
loop-k-preserved c = elim c.if-not-repeats.branch [
  | then-not-repeats+in_ok-push w ↦
      subst (λ v. AreKeptOf (c.loop-k.k + 1) c.args.gaps.now v.items) (sym w.kept-is)
      (subst (AreKeptOf (c.loop-k.k + 1) c.args.gaps.now) (sym w.in_ok-push.ensures.items)
      (kept_too c.args.gaps.now c.loop-k.k _ c.loop-k-test.true (λ d. get_or_default c.args.gaps.now c.loop-k.k d _ c.loop-k-test.true)
      c.loop-k.kept.items c.loop-k.invariant c.requires
      (λ again. absurd (let yes = c.repeats.ensures.1 again in let not_so = w.if-not-repeats.true in cc))))
  | else-not-repeats w ↦
      subst (λ v. AreKeptOf (c.loop-k.k + 1) c.args.gaps.now v.items) (sym w.kept-is)
      (passed_by c.args.gaps.now c.loop-k.k (get_or c.args.gaps.now c.loop-k.k no_gap) c.loop-k-test.true
      (λ d. get_or_default c.args.gaps.now c.loop-k.k d no_gap c.loop-k-test.true) c.loop-k.kept.items c.loop-k.invariant c.requires
      (c.repeats.ensures.0 w.if-not-repeats.false))
]

pub returns : goal.returns
returns c =
    let past = c.loop-k-test.false in
    let within = c.loop-k.auto.k-end in
    all_kept c.args.gaps.now c.loop-k.kept.items c.loop-k.k (omega (arith, past, within)) c.loop-k.invariant
