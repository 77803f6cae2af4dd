use Rattle.std.proofs.Common.{◌++◌, ◌∙◌, sym}
use Rattle.tl_cert.specs.Text.{rectangle, children}
use Rattle.tl_cert.proofs.KindLemmas.{behind_rectangle, children_start}
use Rattle.tl_cert.proofs.WordLemmas.{same_rest}
use Rattle.tl_cert.proofs.node_line.inner_start.Goals as goal

pub returns-in_default-child_count : goal.returns-in_default-child_count
returns-in_default-child_count c = λ r k inside fits is.
    let read = c.in-Some.ensures in
    let rest = same_rest 66 66 c.args.bytes.now (rectangle r ++ children c.args.version k) is in
    let same = behind_rectangle c.in-Some.rect r c.in-Some.others.now (children c.args.version k) read.2 inside read.1 (children_start c.args.version k) (sym read.0 ∙ rest) in
    c.in_default-child_count.ensures k fits same
