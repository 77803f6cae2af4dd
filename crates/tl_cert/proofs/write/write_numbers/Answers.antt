use Rattle.std.proofs.Common.{◌∷◌, [], ◌≡◌, ◌+◌, ◌-◌, arith}
use Rattle.tl_cert_output.proofs.PageLemmas.{both, as_text}
use Rattle.tl_cert.proofs.WriteLemmas.{numbers_text, text_all}
use Rattle.tl_cert.proofs.PutLemmas.{numbers_more}
use Rattle.tl_cert.proofs.write.write_numbers.Goals as goal

pub loop-written-preserved : goal.loop-written-preserved
loop-written-preserved g c =
    let page = g.met.P.Page.adding in
    let written = c.loop-written.written in
    let count = c.min-count.result in
    let many : written + count - written ≡ count = omega arith in
    record {
      within = omega (arith, c.min-count.ensures);
      prints = as_text page (both page c.loop-written.invariant.prints (rw many at c.write_batch.ensures)) (numbers_more (c.args.letter ∷ []) c.args.numbers.now written count);
    }

pub returns : goal.returns
returns g c =
    let page = g.met.P.Page.adding in
    as_text page c.loop-written.invariant.prints (text_all (numbers_text (c.args.letter ∷ [])) c.args.numbers.now c.loop-written.written c.loop-written-test.false)
