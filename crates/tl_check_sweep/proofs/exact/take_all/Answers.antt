use Rattle.std.proofs.Common.{[], ◌∷◌, ◌++◌, append-nil, sym, ap, ◌∙◌}
use Rattle.tl_check_sweep.proofs.Putting.{one_over, none_left}
use Rattle.tl_check_sweep.proofs.exact.take_all.Goals as goal

pub loop-s-init : goal.loop-s-init
loop-s-init c = ap (λ n. n ++ c.args.line.now.back) c.in_ok-list_front.ensures

pub loop-s-preserved : goal.loop-s-preserved
loop-s-preserved c =
    ap (λ n. n ++ c.take.new.self.back) c.in_ok-push.ensures.items
    ∙ ap (λ b. (c.loop-s.numbers.items ++ c.in-Some.s ∷ []) ++ b) c.take.ensures.back
    ∙ one_over c.loop-s.numbers.items c.loop-s.line.back c.in-Some.s (sym c.next.ensures ∙ c.in-Some.is) ∙ c.loop-s.invariant

pub returns : goal.returns
returns c =
    sym (append-nil c.loop-s.numbers.items)
    ∙ ap (λ b. c.loop-s.numbers.items ++ b) (sym (none_left c.loop-s.line.back (sym c.next.ensures ∙ c.in_default.is))) ∙ c.loop-s.invariant
