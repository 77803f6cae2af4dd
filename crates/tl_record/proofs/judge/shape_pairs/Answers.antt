use Rattle.std.proofs.Common.{◌≡◌, ◌<◌, ◌+◌, ◌++◌, ◌∷◌, [], ap, sym, ◌∙◌, arith, length, take, add-one, set}
use Rattle.std.proofs.Math.Seq.{take-suc-set}
use Rattle.std.proofs.lemmas.List.{length-set}
use Rattle.std.proofs.lemmas.Result.{err_from_is_err_and}
use Rattle.tl_record.specs.Judgement.{shape_pairs}
use Rattle.tl_record.proofs.Pairs.{goes_on, fails, is_done}
use Rattle.tl_record.proofs.judge.shape_pairs.Goals as goal

pub returns-in_err-pairs : goal.returns-in_err-pairs
returns-in_err-pairs c =
    let p = err_from_is_err_and c.from_residual.result c.from_residual.ensures.1 in
    let within : c.loop-index.index < length c.args.columns.now = omega arith in
    rw (p.1, p.2) (fails (take c.loop-index.index c.loop-index.pairs) c.args.columns.now c.loop-index.index c.index-columns-index.result c.args.line.now c.in_err-pairs.field-0.0
    (shape_pairs 1 c.args.columns.now c.args.line.now) within (sym c.in_err-pairs.ensures) c.loop-index.invariant.read)

pub loop-index-preserved : goal.loop-index-preserved
loop-index-preserved c =
    let pair = c.in_ok-pairs.field-0 in
    let within : c.loop-index.index < length c.args.columns.now = omega arith in
    let room : c.loop-index.index < length c.loop-index.pairs = omega arith in
    let front : take (c.loop-index.index + 1) (set c.loop-index.pairs c.loop-index.index pair) ≡ take c.loop-index.index c.loop-index.pairs ++ pair ∷ [] =
    ap (λ n. take n (set c.loop-index.pairs c.loop-index.index pair)) (add-one c.loop-index.index)
    ∙ take-suc-set c.loop-index.pairs c.loop-index.index pair room in
    record {
      room = length-set c.loop-index.pairs c.loop-index.index pair ∙ c.loop-index.invariant.room;
      read = rw front (goes_on (take c.loop-index.index c.loop-index.pairs) c.args.columns.now c.loop-index.index c.index-columns-index.result c.args.line.now pair
          (shape_pairs 1 c.args.columns.now c.args.line.now) within (sym c.in_ok-pairs.ensures) c.loop-index.invariant.read);
    }

pub returns : goal.returns
returns c =
    is_done c.loop-index.pairs c.args.columns.now c.loop-index.index (c.loop-index.index + 1) c.args.line.now (shape_pairs 1 c.args.columns.now c.args.line.now)
    (omega arith) (omega arith) c.loop-index.invariant.read
