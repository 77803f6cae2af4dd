use Rattle.std.proofs.Common.{◌≡◌, ◌-◌, ℕ, true, List, ◌∷◌, length, take, drop, get_or, ap, arith, ◌∙◌, sym, take_all, false, []}
use Rattle.std.specs.Bool.{◌==◌}
use Rattle.tl_cert.proofs.SplitLemmas.{none_more, word_split}
use Rattle.tl_cert.proofs.number.split_word.Goals.{then-is_empty-via-then-is_empty, then-is_empty-via-else-is_empty+then-bytes-ne32, then-loop-end-test+else-others-end-ne32, else-loop-end-test}
use Rattle.tl_cert.proofs.number.split_word.Goals as goal

no_byte : (bytes others : List ℕ) → true ≡ (length bytes == 0) → bytes ≡ 32 ∷ others → ⊥
no_byte bytes others none is = let size = ap length is in grind (arith, none, size)

space_first : (bytes : List ℕ) → false ≡ (length bytes == 0) → get_or bytes 0 0 ≡ 32 → bytes ≡ 32 ∷ take (length bytes - 1) (drop 1 bytes)
space_first [] some is = absurd (cc)
space_first (byte ∷ rest) some is = ap (λ b. b ∷ rest) is ∙ ap (λ l. 32 ∷ l) (sym (take_all (length (byte ∷ rest) - 1) rest (omega arith)))

pub returns-then-is_empty : goal.returns-then-is_empty
returns-then-is_empty c = λ others is.
    elim c.then-is_empty.branch [
      | then-is_empty-via-then-is_empty w ↦ no_byte c.args.bytes.now others w.if-is_empty.ensures is
      | then-is_empty-via-else-is_empty+then-bytes-ne32 w ↦ w.if-bytes-ne32.true (ap (λ b. get_or b 0 0) is)
    ]

pub loop-end-preserved : goal.loop-end-preserved
loop-end-preserved c =
    let bytes = c.args.bytes.now in
    let others = take (length bytes - 1) (drop 1 bytes) in
    let so_far = c.loop-end.invariant in
    record {
      within = omega (arith, c.loop-end-test.true);
      none = none_more others c.loop-end.end c.loop-end-test.true c.if-others-end-ne32.true so_far.none;
    }

pub returns : goal.returns
returns c =
    let bytes = c.args.bytes.now in
    let others = take (length bytes - 1) (drop 1 bytes) in
    let so_far = c.loop-end.invariant in
    word_split bytes others c.loop-end.end (space_first bytes c.if-is_empty.ensures c.if-bytes-ne32.false) so_far.within so_far.none
    (elim c.loop-end-test.branch [
      | then-loop-end-test+else-others-end-ne32 w ↦ λ below. w.if-others-end-ne32.false
      | else-loop-end-test w ↦ λ below. absurd (omega (arith, below, w.loop-end-test.false))
    ])
