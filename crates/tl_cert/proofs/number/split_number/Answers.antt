use Rattle.tl_cert.proofs.SplitLemmas.{number_split}
use Rattle.tl_cert.proofs.number.split_number.Goals as goal

pub returns-in_default-number_of : goal.returns-in_default-number_of
returns-in_default-number_of c = λ n others small starts is.
    let only = number_split c.args.bytes.now c.in-Some.word.now c.in-Some.others.now n others c.in-Some.ensures small starts is in
    c.in_default-number_of.ensures n small only.0
