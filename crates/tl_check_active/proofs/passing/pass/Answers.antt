use Rattle.tl_check_active.specs.Blocks.Lined.{list_of}
use Rattle.tl_check_active.proofs.Passed.{passed_by}
use Rattle.tl_check_active.proofs.passing.pass.Goals as goal

pub returns-then-is_passed : goal.returns-then-is_passed
returns-then-is_passed c =
    passed_by c.args.map.now.chains (list_of c.args.line.now) c.go_to_first.new.line c.exchange.new.line
    c.args.outs.now.items c.order.new.numbers.items c.args.ins.now.items c.order-2.new.numbers.items
    c.deref-2.result.now c.deref-3.result.now _ c.in_ok-go_to_first.ensures c.order.ensures c.order-2.ensures
    c.deref-2.ensures.value c.deref-3.ensures.value (c.in_ok-is_passed.ensures c.if-is_passed.true) c.previous-west.ensures c.next-east.ensures
