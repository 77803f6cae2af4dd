use Rattle.std.proofs.Common.{◌≡◌, Bool, true, false, subst, sym, refl}
use Rattle.std.specs.Prelude.{IsTrue}
use Rattle.tl_check_verdict.proofs.NodeCounts.{one_counts}
use Rattle.tl_check_verdict.specs.Valid.{AreCounts}
use Rattle.tl_check.proofs.counts.are_counts.Goals as goal

pub returns : goal.returns
returns c = (λ yes. subst (AreCounts c.args.map.now) (sym (c.are_same.ensures.same yes)) c.counts_of.ensures.counts, λ are. go are c.are_same.result refl)
  where
    go : AreCounts c.args.map.now c.args.counts → (b : Bool) → c.are_same.result ≡ b → IsTrue c.are_same.result
    go are true e = e
    go are false e =
        let nodes = c.counts_of.ensures.nodes in
        absurd (c.are_same.ensures.other e (one_counts c.args.map.now c.args.counts c.counts_of.result nodes.0 nodes.1 are c.counts_of.ensures.counts))
