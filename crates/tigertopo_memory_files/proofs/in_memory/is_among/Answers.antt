use Rattle.std.proofs.Common.{string_bytes, sym, ◌∙◌}
use Rattle.tigertopo_memory_files.proofs.FoundLemmas.{among_here, none_more, none_among}
use Rattle.tigertopo_memory_files.proofs.in_memory.is_among.Goals as goal

pub returns-then-eq-clause-among : goal.returns-then-eq-clause-among
returns-then-eq-clause-among c =
    among_here string_bytes c.args.names.now c.loop-other.other-index c.other-item.result c.args.name.now c.loop-other-test.true c.other-item.is (rw c.as_str.ensures.value at (sym c.eq.ensures ∙ c.if-eq.true))

pub loop-other-preserved : goal.loop-other-preserved
loop-other-preserved c =
    none_more string_bytes c.args.names.now c.loop-other.other-index c.other-item.result c.args.name.now c.loop-other-test.true c.other-item.is (rw c.as_str.ensures.value at (sym c.eq.ensures ∙ c.if-eq.false))
    c.loop-other.invariant

pub returns-clause-none : goal.returns-clause-none
returns-clause-none c = none_among string_bytes c.args.names.now c.loop-other.other-index c.args.name.now c.loop-other-test.false c.loop-other.invariant
