use Rattle.std.proofs.Common.{List, ◌≡◌, ◌≤◌, ◌<◌, ◌+◌, ◌-◌, ◌++◌, ℕ, ap, sym, ◌∙◌, arith, length, take, drop, length-drop, append-nil}
use Rattle.std.proofs.lemmas.List.{length-take-le, length-take}
use borrow.Rule.Slice.PartMut.{put_mid}
use Rattle.tl_record.proofs.Buffer.{part_filled}
use Rattle.tl_record.proofs.line_buffer.LineBuffer.fetch.Goals as goal

none_below : (n : ℕ) → 0 ≤ n
none_below n = omega arith

kept_within : (at filled room : ℕ) → filled ≤ room → filled - at ≤ room
kept_within at filled room h = omega arith

filled_within : (kept room count : ℕ) (moved bytes : List ℕ) → kept ≤ room → length moved ≡ room → length bytes ≡ length (take (length moved - kept) (drop kept moved)) → count ≤ length bytes → kept + count ≤ room
filled_within kept room count moved bytes h k e some = omega (arith, length-take (length moved - kept) (drop kept moved), length-drop kept moved)

nothing_added : (moved bytes front old : List ℕ) (kept room : ℕ) → length moved ≡ room → kept ≤ room → take kept moved ≡ front → front ≡ old
    → take (kept - 0) (put_mid kept (length moved - kept) moved bytes) ≡ old
nothing_added moved bytes front old kept room whole within is same =
    let flat : kept - 0 ≡ kept + 0 = omega arith in
    ap (λ n. take n (put_mid kept (length moved - kept) moved bytes)) flat ∙ part_filled moved bytes kept (length moved - kept) 0 (omega arith) (none_below _) ∙ append-nil (take kept moved) ∙ is ∙ same

pub returns-in-Ok-clause-bytes : goal.returns-in-Ok-clause-bytes
returns-in-Ok-clause-bytes g c =
    let count = c.in-Ok.count in
    let bytes = c.fetch.new.buf in
    let moved = c.move_to_front.new.bytes in
    let kept : ℕ = c.self.inside.filled - c.self.inside.at in
    let ordered : c.self.inside.at ≤ c.self.inside.filled = c.self.invariant.0 in
    let within : c.self.inside.filled ≤ g.row.N = c.self.invariant.1 in
    let whole : length moved ≡ g.row.N = c.move_to_front.auto.bytes ∙ c.self.told in
    let some : count ≤ length bytes = c.in-Ok.ensures.bound.0 in
    let size : length (take count bytes) ≡ count = length-take-le count bytes some in
    let room : kept < g.row.N =
    let before = rw (← c.self.view_is) at c.requires in
    omega (arith, before, length-take kept (drop c.self.inside.at c.self.inside.bytes), length-drop c.self.inside.at c.self.inside.bytes, c.self.told) in
    let free : length bytes ≡ length moved - kept =
    c.fetch.auto.buf ∙ length-take-le (length moved - kept) (drop kept moved) (omega (arith, length-drop kept moved)) in
    let flat : kept + count - 0 ≡ kept + count = omega arith in (
      take count bytes,
      size,
      record {
        added = ap (λ n. take n (put_mid kept (length moved - kept) moved bytes)) flat ∙ part_filled moved bytes kept (length moved - kept) count (omega arith) some ∙ ap (λ l. l ++ take count bytes) (c.move_to_front.ensures ∙ c.self.view_is);
        consumed = c.in-Ok.ensures.bytes.0;
        ended = λ none. c.in-Ok.ensures.bytes.1 (sym size ∙ none) (omega arith);
      },
    )

pub overflow_sub-self : goal.overflow_sub-self
overflow_sub-self g c = omega arith

pub slice_bounds-fetch-count : goal.slice_bounds-fetch-count
slice_bounds-fetch-count g c = omega arith

pub slice_bounds-fetch-start : goal.slice_bounds-fetch-start
slice_bounds-fetch-start g c = omega arith

pub slice_bounds-fetch-end : goal.slice_bounds-fetch-end
slice_bounds-fetch-end g c = omega arith

pub invariant_of-self : goal.invariant_of-self
invariant_of-self g c = (
  none_below _,
  filled_within (c.self.inside.filled - c.self.inside.at) g.row.N c.in-Ok.count c.move_to_front.new.bytes c.fetch.new.buf
      (kept_within c.self.inside.at c.self.inside.filled g.row.N c.self.invariant.1) (c.move_to_front.auto.bytes ∙ c.self.told) c.fetch.auto.buf c.in-Ok.ensures.bound.0,
)

pub invariant_of-self-in-Err : goal.invariant_of-self-in-Err
invariant_of-self-in-Err g c =
    (none_below _, kept_within c.self.inside.at c.self.inside.filled g.row.N c.self.invariant.1)

pub returns-in-Ok-clause-failures : goal.returns-in-Ok-clause-failures
returns-in-Ok-clause-failures g c = c.in-Ok.ensures.failures

pub returns-in-Ok-clause-same_reference : goal.returns-in-Ok-clause-same_reference
returns-in-Ok-clause-same_reference g c = c.in-Ok.ensures.same_reference

pub returns-in-Err-clause-failures : goal.returns-in-Err-clause-failures
returns-in-Err-clause-failures g c = c.in-Err.ensures.failures

pub returns-in-Err-clause-same_reference : goal.returns-in-Err-clause-same_reference
returns-in-Err-clause-same_reference g c = c.in-Err.ensures.same_reference

pub returns-in-Err-clause-bytes : goal.returns-in-Err-clause-bytes
returns-in-Err-clause-bytes g c =
    let kept : ℕ = c.self.inside.filled - c.self.inside.at in
    let within = kept_within c.self.inside.at c.self.inside.filled g.row.N c.self.invariant.1 in (
      nothing_added c.move_to_front.new.bytes c.fetch.new.buf (take kept (drop c.self.inside.at c.self.inside.bytes)) c.args.self.now kept g.row.N
          (c.move_to_front.auto.bytes ∙ c.self.told) within c.move_to_front.ensures c.self.view_is,
      c.in-Err.ensures.bytes,
    )
