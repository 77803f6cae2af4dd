use Rattle.std.proofs.Common.{◌≡◌, ◌≢◌, ◌+◌, [], refl, ap, ◌∙◌, length, take, take_all, arith}
use Rattle.tl_record.specs.Judgement.{judgement}
use Rattle.tl_record.specs.Meaning.{judgement_with}
use Rattle.tl_record.proofs.NextLemmas.{finds_last}
use Rattle.tl_record.proofs.FrontLemmas.{front_last, if_refused}
use Rattle.tl_record.proofs.reader.RecordReader.judge_last.Goals as goal

pub returns-clause-steps : goal.returns-clause-steps
returns-clause-steps g c =
    let reader = c.args.self.now in
    let bytes = reader.buffer in
    let same : length c.bytes-len.result.now ≡ length bytes = ap length c.bytes-len.ensures.value in
    let all : take (length c.bytes-len.result.now) bytes ≡ bytes = take_all (length c.bytes-len.result.now) bytes (omega arith) in
    let some : bytes ≢ [] = λ none. c.if-len-eq0.false (same ∙ ap length none) in
    let is = c.judge_pending.ensures.judged ∙ ap (judgement reader.layout (reader.lines + 1)) all in
    record {
      finds = finds_last reader.layout (reader.lines + 1) (g.R.Source.remaining reader.source) bytes (judgement_with c.judge_pending.result c.judge_pending.new.place) some c.requires.ended c.requires.none is;
      judges = (bytes, is);
      pending = tt;
      front = if_refused (judgement_with c.judge_pending.result c.judge_pending.new.place) _ (front_last (g.R.Source.remaining reader.source) bytes c.requires.ended);
      failures = refl;
      progress = record { layout = refl; lines = refl; skipped = refl; standing = refl };
    }
