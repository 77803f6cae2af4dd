use Rattle.std.proofs.Common.{◌∷◌, [], ◌≤◌, ◌-◌, take, length}
use Rattle.tl_cert.proofs.WriteLemmas.{numbers_text}
use Rattle.tl_cert.proofs.write.write_numbers.Given as goal

abbrev pub invariant-loop-written : goal.invariant-loop-written
invariant-loop-written g l = record {
  within : l.written ≤ length l.numbers;
  prints :
      g.P.Page.adds l.initial.page l.page
      (numbers_text (l.letter ∷ []) (take l.written l.numbers));
}

abbrev pub decreases-loop-written : goal.decreases-loop-written
decreases-loop-written g l = length l.numbers - l.written
