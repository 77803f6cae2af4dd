use Rattle.std.proofs.Common.{◌≡◌, ◌-◌, take, drop}
use Rattle.tl_record.proofs.line_buffer.move_to_front.Given as goal

abbrev pub invariant-loop-index : goal.invariant-loop-index
invariant-loop-index l = record {
  front : take (l.index - l.at) l.bytes ≡ take (l.index - l.at) (drop l.at l.fn.bytes);
  rest : drop l.index l.bytes ≡ drop l.index l.fn.bytes;
}
