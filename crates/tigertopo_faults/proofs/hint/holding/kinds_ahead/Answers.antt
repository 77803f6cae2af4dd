use Rattle.std.proofs.Common.{◌+◌, List, ℕ, Ok, take, refl, sym, ap, ◌∙◌}
use Rattle.tigertopo_faults.specs.Hint.Unread.{is_chain}
use Rattle.tigertopo_faults.proofs.FindingLemmas.{finds_shown, passes_more, passes_still}
use Rattle.tigertopo_faults.proofs.HintLemmas.KindLemmas.{looked_all, looked_chain, looked_more}
use Rattle.tigertopo_faults.proofs.hint.holding.kinds_ahead.Goals as goal

pub returns-then-is_chain-clause-kinds : goal.returns-then-is_chain-clause-kinds
returns-then-is_chain-clause-kinds g c = λ text before.
    let found = finds_shown c.show_line.new.buffer c.lines.count (c.lines.count + 1) text _ (Ok c.in-Ok-Line.field-0) refl (c.lines.invariant.passes text before) c.in-Ok-Line.ensures.found in
    looked_chain text c.lines.count c.show_line.new.buffer c.in-Ok-Line.len c.in-Ok-Line.field-0-1 (rw c.in-Ok-Line.field-0-is at found)
    (ap (λ (l : List ℕ). is_chain (take c.in-Ok-Line.len l)) (sym c.bytes.ensures.value) ∙ sym c.is_chain.ensures ∙ c.if-is_chain.true)

pub returns-in-Ok-Missing-clause-kinds : goal.returns-in-Ok-Missing-clause-kinds
returns-in-Ok-Missing-clause-kinds g c = λ text before.
    let found = finds_shown c.show_line.new.buffer c.lines.count (c.lines.count + 1) text _ (Ok c.in-Ok-Missing.field-0) refl (c.lines.invariant.passes text before) c.in-Ok-Missing.ensures.found in
    looked_all text c.lines.count c.show_line.new.buffer c.lines.is_any_read (rw c.in-Ok-Missing.field-0-is at found) (c.lines.invariant.looked text before)

pub lines-preserved : goal.lines-preserved
lines-preserved g c =
    let passes = c.in-Ok-true.ensures.passes in
    let not_chain = ap (λ (l : List ℕ). is_chain (take c.in-Ok-Line.len l)) (sym c.bytes.ensures.value) ∙ sym c.is_chain.ensures ∙ c.if-is_chain.false in
    record {
      passes = λ text before.
          passes_more c.lines.count text _ _ (passes_still c.lines.count text _ _ (c.lines.invariant.passes text before) c.in-Ok-Line.ensures.kept) (rw c.in-Ok-true.field-0-test at passes);
      looked = λ text before.
          let found = finds_shown c.show_line.new.buffer c.lines.count (c.lines.count + 1) text _ (Ok c.in-Ok-Line.field-0) refl (c.lines.invariant.passes text before) c.in-Ok-Line.ensures.found in
          let looked = looked_more text c.lines.count c.show_line.new.buffer c.in-Ok-Line.len c.in-Ok-Line.field-0-1 c.lines.is_any_read (rw c.in-Ok-Line.field-0-is at found) not_chain (c.lines.invariant.looked text before) in
          rw (c.is_any_read_with-is_any_read.ensures, c.bytes.ensures.value) looked;
      failures = c.in-Ok-true.ensures.failures ∙ c.in-Ok-Line.ensures.failures ∙ c.lines.invariant.failures;
    }
