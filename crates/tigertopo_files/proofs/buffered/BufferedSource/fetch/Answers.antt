use Rattle.std.proofs.Common.{◌≡◌, ◌-◌, ◌<◌, min, [], length, take, drop, slice_range, ap, subst, ◌∙◌, arith, length-take, length-drop}
use Rattle.std.proofs.KnownBytes.{prepend_known-read}
use Rattle.std.specs.Io.KnownBytes.{ReadConsumes, prepend_known}
use Rattle.tigertopo_files.proofs.JoiningLemmas.{advance, given, none_held, nothing_held}
use Rattle.tl_cert_output.proofs.WritingLemmas.{counts_err}
use Rattle.tigertopo_files.proofs.buffered.BufferedSource.fetch.Goals as goal

pub returns-then-buf-ge-MANY-clause-bytes : goal.returns-then-buf-ge-MANY-clause-bytes
returns-then-buf-ge-MANY-clause-bytes g c =
    let b = c.args.self.now in
    let none : b.start ≡ b.end = omega arith in
    let held = slice_range b.bytes.items b.start b.end in
    let before = g.S.Source.remaining b.source in
    let after = g.S.Source.remaining c.fetch.new.self in
    subst (λ from. ReadConsumes from (prepend_known held after) c.fetch.result c.fetch.new.buf) (nothing_held b.bytes.items b.start b.end before none)
    (subst (λ to. ReadConsumes before to c.fetch.result c.fetch.new.buf) (nothing_held b.bytes.items b.start b.end after none) c.fetch.ensures.bytes)

pub returns-clause-bytes : goal.returns-clause-bytes
returns-clause-bytes g c =
    let w = c.fill.new.self in
    let held = slice_range w.bytes.items w.start w.end in
    let n = c.give-count.result in
    let buf = c.args.buf.now in
    let count : n ≡ min (length held) (length buf) = rw c.as_slice-held.ensures.value at c.give-count.ensures.count in
    let copied = rw c.as_slice-held.ensures.value at c.give-count.ensures.copied in
    let long : length held ≡ w.end - w.start =
    length-take (w.end - w.start) (drop w.start w.bytes.items) ∙ (let rest = length-drop w.start w.bytes.items in omega (arith, rest, w.within)) in
    let read = prepend_known-read _ _ held (drop n held) (take n c.give-count.new.buf) ((n ≡ 0) × (0 < length c.give-count.new.buf)) c.in_ok-fill.ensures.bytes
    (given held buf c.give-count.new.buf n (omega (arith, count)) copied)
    (λ p.
    let none : held ≡ [] = none_held held buf c.give-count.new.buf n count copied p.0 p.1 in
    let empty : length held ≡ 0 = ap length none in
    (ap (drop n) none ∙ ap (λ k. drop k []) p.0, c.in_ok-fill.ensures.end (omega (arith, long, empty)))) in
    rw (advance w.bytes.items w.start w.end n (omega (arith, count, long))) (read.0, λ zero some. read.1 (zero, some))

pub returns-in_err-fill-clause-failures : goal.returns-in_err-fill-clause-failures
returns-in_err-fill-clause-failures g c = counts_err _ _ c.from_residual.result c.from_residual.ensures.0 c.in_err-fill.ensures.failures

pub returns-clause-failures : goal.returns-clause-failures
returns-clause-failures g c = c.in_ok-fill.ensures.failures

pub returns-then-buf-ge-MANY-clause-failures : goal.returns-then-buf-ge-MANY-clause-failures
returns-then-buf-ge-MANY-clause-failures g c = c.fetch.ensures.failures

pub returns-then-buf-ge-MANY-clause-bound : goal.returns-then-buf-ge-MANY-clause-bound
returns-then-buf-ge-MANY-clause-bound g c = c.fetch.ensures.bound
