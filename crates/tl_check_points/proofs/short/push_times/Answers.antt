use Rattle.std.proofs.Common.{sym, subst, All}
use Rattle.std.proofs.lemmas.List.Elements.{All-push}
use Rattle.tl_check_points.specs.Keeping.Balances.{AreAmong}
use Rattle.tl_check_points.proofs.Shortening.{no_times, one_time}
use Rattle.tl_check_points.proofs.short.push_times.Goals as goal

pub loop-time-init : goal.loop-time-init
loop-time-init c = record {
  counted = λ P. no_times P c.args.flanks c.args.short.now.items;
  among = λ n one all. all;
}

pub loop-time-preserved : goal.loop-time-preserved
loop-time-preserved c = record {
  counted = λ P.
      one_time P c.args.flanks c.args.short.now.items c.loop-time.short.items c.push.new.self.items c.loop-time.time c.in_ok-push.ensures.items
      (c.loop-time.invariant.counted P);
  among = λ n one all.
      subst (All (AreAmong n)) (sym c.in_ok-push.ensures.items) (All-push (AreAmong n) c.loop-time.short.items c.args.flanks (c.loop-time.invariant.among n one all) one);
}
