use Rattle.std.proofs.Common.{◌≡◌, sym, ◌∙◌, rules}
use Rattle.std.proofs.lemmas.Nat.{le_bytes_8}
use Rattle.std.specs.Int.{from_le_bytes, w64}
use Rattle.std.proofs.lemmas.Bool.{eqb-true}
use Rattle.tl_record.proofs.word.are_eight_zeros.Goals as goal

pub returns-in-Ok : goal.returns-in-Ok
returns-in-Ok c = λ is.
    let word : c.from_le_bytes.result ≡ 3472328296227680304 = eqb-true _ _ is in
    let zeros : 3472328296227680304 ≡ from_le_bytes w64 c.in-Ok.eight = sym word ∙ c.from_le_bytes.ensures in
    sym (le_bytes_8 c.in-Ok.eight 3472328296227680304 (search rules) (search rules) zeros ∙ c.in-Ok.ensures.1.same)
