use Rattle.std.proofs.Common.{◌≡◌, drop}
use Rattle.tigertopo_words.specs.Keeping.{named_among}
use Rattle.tigertopo_words.proofs.table.named_among.Given as goal

abbrev pub invariant-loop-row : goal.invariant-loop-row
invariant-loop-row l = named_among l.name (drop l.row-index l.rows) ≡ named_among l.name l.rows
