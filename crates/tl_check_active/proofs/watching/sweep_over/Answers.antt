use Rattle.std.proofs.Common.{◌≡◌, length, subst, arith}
use Rattle.tl_check_active.specs.Blocks.Lined.{list_of}
use Rattle.tl_check_active.proofs.watching.sweep_over.Goals as goal

pub returns-clause-passed : goal.returns-clause-passed
returns-clause-passed g c = λ h.
    let less = c.loop-from.invariant.within in
    let past = c.loop-from-test.false in
    let len = c.len.ensures in
    let all : c.loop-from.from ≡ length c.args.events.now = omega (arith, less, past, len) in (
      list_of c.loop-from.line,
      subst (λ n. g.W.Watcher.keeps c.args.watcher.now c.loop-from.notes c.args.map.now c.args.events.now n (list_of c.loop-from.line)) all
          c.loop-from.invariant.keeps,
    )
