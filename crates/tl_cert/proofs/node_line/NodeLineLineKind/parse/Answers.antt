use Rattle.std.proofs.Common.{◌+◌, sym, subst}
use Rattle.std.proofs.lemmas.Bool.{false≢true}
use Rattle.tl_cert.specs.Keeping.Steps.{CanHave}
use Rattle.tl_cert.proofs.NodeLineLemmas.{children_same}
use Rattle.tl_cert.proofs.node_line.NodeLineLineKind.parse.Goals as goal

pub returns-then-not-can_begin : goal.returns-then-not-can_begin
returns-then-not-can_begin c = λ node fits is.
    let same = children_same c.args.self.now.version c.args.line.now c.in-Some.node node c.in-Some.ensures.0 fits.0 c.in-Some.ensures.1 is in
    false≢true
    (c.if-not-can_begin.ensures.1
    (subst (λ k. CanHave c.args.self.now.version (k + c.args.self.now.subtrees) c.args.self.now.nodes) (sym same) fits.1))
