use Rattle.std.proofs.Common.{◌≡◌, ◌+◌, length, take, drop}
use Rattle.tl_record.specs.Judgement.{shape_pairs}
use Rattle.tl_record.proofs.Pairs.{with_front}
use Rattle.tl_record.proofs.judge.shape_pairs.Given as goal

abbrev pub invariant-loop-index : goal.invariant-loop-index
invariant-loop-index l = record {
  room : length l.pairs ≡ 10;
  read : with_front (take l.index l.pairs) (shape_pairs (l.index + 1) (drop l.index l.columns) l.line) ≡ shape_pairs 1 l.columns l.line;
}
