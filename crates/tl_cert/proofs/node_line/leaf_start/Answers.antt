use Rattle.std.proofs.Common.{◌++◌, ◌∙◌, refl, sym}
use Rattle.tl_cert.specs.Text.{rectangle, number}
use Rattle.tl_cert.proofs.KindLemmas.{behind_rectangle}
use Rattle.tl_cert.proofs.WordLemmas.{same_rest}
use Rattle.tl_cert.proofs.node_line.leaf_start.Goals as goal

pub returns-in_default-small_number : goal.returns-in_default-small_number
returns-in_default-small_number c = λ version r k inside least most is.
    let read = c.in-Some.ensures in
    let rest = same_rest 76 76 c.args.bytes.now (rectangle r ++ number k) is in
    let same = behind_rectangle c.in-Some.rect r c.in-Some.others.now (number k) read.2 inside read.1 refl (sym read.0 ∙ rest) in
    c.in_default-small_number.ensures k least most same
