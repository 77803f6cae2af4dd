use Rattle.std.proofs.Common.{◌≡◌, length, subst, arith}
use Rattle.tl_check_gaps.specs.Telling.{ListAbout, AreToldAbout}
use Rattle.tl_check_gaps.proofs.Whole.{none_yet, one_more}
use Rattle.tl_check_gaps.proofs.telling.push_about.Goals as goal

pub loop-k-init : goal.loop-k-init
loop-k-init c = λ west east front back. none_yet c.args.map.now.chains c.args.p (record { west = west; ins = c.args.ins.now; east = east }) c.args.gaps.now.items

pub loop-k-preserved : goal.loop-k-preserved
loop-k-preserved c = λ west east front back.
    one_more c.args.map.now.chains c.args.p (record { west = west; ins = c.args.ins.now; east = east }) c.loop-k.k c.args.gaps.now.items _ _
    (c.loop-k.invariant west east front back)
    (c.in_ok-push_at.ensures west east front back)

pub returns : goal.returns
returns c = λ west east front back.
    let chains = c.args.map.now.chains in
    let ins = c.args.ins.now in
    let list : ListAbout = record { west = west; ins = ins; east = east } in
    let past = c.loop-k-test.false in
    let within = c.loop-k.auto.k-end in
    let all : c.loop-k.k ≡ length ins = omega (arith, past, within) in
    one_more chains c.args.p list (length ins) c.args.gaps.now.items _ _
    (subst (λ n. AreToldAbout chains c.args.p list n c.args.gaps.now.items c.loop-k.gaps.items) all (c.loop-k.invariant west east front back))
    (c.in_ok-push_at-2.ensures west east front back)
