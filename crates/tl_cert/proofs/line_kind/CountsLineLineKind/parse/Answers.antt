use Rattle.std.proofs.Common.{◌≡◌, [], ◌∙◌, sym, ap, append-nil, length, arith}
use Rattle.tl_cert.specs.Keeping.Words.{counts_words}
use Rattle.tl_cert.proofs.KindLemmas.{behind_counts}
use Rattle.tl_cert.proofs.WordLemmas.{same_rest}
use Rattle.tl_cert.proofs.line_kind.CountsLineLineKind.parse.Goals as goal

pub returns-then-not-is_empty : goal.returns-then-not-is_empty
returns-then-not-is_empty c = λ d small is.
    let read = c.in-Some-split_counts.ensures in
    let rest = same_rest 67 67 c.in-Some.others.now (counts_words d) (sym c.in-Some.ensures ∙ is) in
    let none = behind_counts c.in-Some-split_counts.counts d c.in-Some-split_counts.others.now [] read.2 small read.1 tt (sym read.0 ∙ rest ∙ sym (append-nil (counts_words d))) in
    let empty : length c.in-Some-split_counts.others.now ≡ 0 = ap length none in
    grind (arith, empty)
