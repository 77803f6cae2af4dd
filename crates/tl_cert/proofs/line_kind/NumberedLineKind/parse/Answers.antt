use Rattle.std.proofs.Common.{◌∷◌, [], arith}
use Rattle.tl_cert.proofs.KindLemmas.{numbered_is}
use Rattle.tl_cert.proofs.line_kind.NumberedLineKind.parse.Goals as goal

pub returns-then-n-self : goal.returns-then-n-self
returns-then-n-self c = λ n fits is.
    let same = numbered_is c.args.line.now (c.args.self.now.letter ∷ []) c.in-Some.n n c.in-Some.ensures.1 c.in-Some.ensures.0 is fits.0 in
    omega (arith, same, fits.1)
