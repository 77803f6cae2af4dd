use Rattle.std.proofs.Common.{◌-◌, ◌++◌, append-nil, length, take, drop, sym, ap, subst, ◌∙◌, arith, length-take}
use lib.Seq.{take-add, take-take}
use Rattle.std.specs.Io.KnownBytes.{Appends}
use Rattle.std.proofs.KnownBytes.{Appends-trans, Appends-kept}
use Rattle.tl_cert_output.proofs.WritingLemmas.{no_failure, passes_front, passes_err, nothing_ok}
use Rattle.tl_cert_output.proofs.output.write_all.Goals as goal

pub loop-written-preserved : goal.loop-written-preserved
loop-written-preserved g c =
    let done = c.loop-written.written in
    let n = c.in_ok-taken.taken in
    let xs = c.args.bytes.now in
    let before = c.loop-written.invariant in
    let fits = c.in_ok-taken.ensures.bound in
    let most = length-take (length xs - done) (drop done xs) in
    let joined = ap (λ l. take done xs ++ l) (take-take n (length xs - done) (drop done xs) (omega arith)) ∙ sym (take-add done n xs) in (
      omega arith,
      subst (Appends _ _) joined (Appends-trans _ _ _ _ _ before.1 c.in_ok-taken.ensures.bytes),
      c.in_ok-taken.ensures.failures ∙ no_failure n _ _ c.if-taken-eq0.false ∙ before.2,
    )

pub returns-in_err-taken-clause-passes : goal.returns-in_err-taken-clause-passes
returns-in_err-taken-clause-passes g c =
    passes_err (g.S.Sink.contents c.args.out.now) (g.S.Sink.contents c.put.new.self) _ _ c.args.bytes.now c.from_residual.result c.from_residual.ensures.0
    (passes_front (g.S.Sink.contents c.args.out.now) (g.S.Sink.contents c.put.new.self) c.loop-written.written c.args.bytes.now
    (Appends-kept _ _ _ _ c.loop-written.invariant.1 c.in_err-taken.ensures.bytes))

pub returns-then-taken-eq0-clause-passes : goal.returns-then-taken-eq0-clause-passes
returns-then-taken-eq0-clause-passes g c =
    let nothing = rw c.if-taken-eq0.true at c.in_ok-taken.ensures.bytes in
    passes_front _ _ c.loop-written.written c.args.bytes.now
    (subst (Appends _ _) (append-nil _) (Appends-trans _ _ _ _ _ c.loop-written.invariant.1 nothing))

pub returns-in_err-taken-clause-bytes : goal.returns-in_err-taken-clause-bytes
returns-in_err-taken-clause-bytes g c = nothing_ok _ c.from_residual.result c.from_residual.ensures.0
