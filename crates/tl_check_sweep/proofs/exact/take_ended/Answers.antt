use Rattle.std.proofs.Common.{[], ◌∷◌, ◌++◌, sym, ap, subst, ◌∙◌}
use Rattle.std.specs.Prelude.{All}
use Rattle.std.proofs.lemmas.List.Elements.{All-push}
use Rattle.tl_check_sweep.specs.Keeping.Exact.{EndsAt}
use Rattle.tl_check_sweep.proofs.Putting.{one_over}
use Rattle.tl_check_sweep.proofs.exact.take_ended.Goals as goal

pub loop-s-preserved : goal.loop-s-preserved
loop-s-preserved c =
    let outs = c.loop-s.outs.items in
    let ends = EndsAt c.args.map.now.chains c.args.p in
    record {
      front = c.take.ensures.front ∙ c.loop-s.invariant.front;
      back = c.loop-s.invariant.back ∙ sym (one_over outs c.loop-s.line.back c.in-Some.s (sym c.next.ensures ∙ c.in-Some.is))
          ∙ ap (λ b. (outs ++ c.in-Some.s ∷ []) ++ b) (sym c.take.ensures.back) ∙ ap (λ n. n ++ c.take.new.self.back) (sym c.in_ok-push.ensures.items);
      ended = subst (All ends) (sym c.in_ok-push.ensures.items)
          (All-push ends outs c.in-Some.s c.loop-s.invariant.ended (c.ends_at.ensures.here c.if-not-ends_at.false));
    }
