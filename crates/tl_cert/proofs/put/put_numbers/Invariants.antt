use Rattle.std.proofs.Common.{◌≤◌, ◌+◌, ◌*◌, ◌∷◌, [], drop, length}
use Rattle.tl_cert.specs.Keeping.Putting.{Puts}
use Rattle.tl_cert.proofs.WriteLemmas.{numbers_text}
use Rattle.tl_cert.proofs.put.put_numbers.Given as goal

abbrev pub invariant-loop-left : goal.invariant-loop-left
invariant-loop-left l = record {
  few : l.left ≤ length l.numbers;
  room : l.end + 13 * l.left ≤ l.start + 13 * length l.numbers;
  put : Puts (13 * length l.numbers) l.end l.start l.initial.text l.text (numbers_text (l.letter ∷ []) (drop l.left l.numbers));
}

abbrev pub decreases-loop-left : goal.decreases-loop-left
decreases-loop-left l = l.left
