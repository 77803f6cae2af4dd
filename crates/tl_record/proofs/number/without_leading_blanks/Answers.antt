use Rattle.std.proofs.Common.{arith}
use Rattle.tl_record.proofs.number.without_leading_blanks.Goals as goal

pub slice_bounds-after-count : goal.slice_bounds-after-count
slice_bounds-after-count c = omega arith

pub slice_bounds-after-start : goal.slice_bounds-after-start
slice_bounds-after-start c = omega arith

pub slice_bounds-after-end : goal.slice_bounds-after-end
slice_bounds-after-end c = omega arith
