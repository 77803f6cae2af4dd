use Rattle.tl_cert.proofs.SplitLemmas.{coordinate_split}
use Rattle.tl_cert.proofs.number.word_coordinate.Goals as goal

pub returns-in_default-coordinate_of : goal.returns-in_default-coordinate_of
returns-in_default-coordinate_of c = λ z others fits starts is.
    let only = coordinate_split c.args.bytes.now c.in-Some.word.now c.in-Some.others.now z others c.in-Some.ensures fits starts is in
    c.in_default-coordinate_of.ensures z fits only.0
