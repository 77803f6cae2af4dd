use Rattle.std.proofs.Common.{◌∷◌, [], arith}
use Rattle.std.proofs.lemmas.Result.{err_from_is_err_and}
use Rattle.std.proofs.lemmas.List.{length-map}
use Rattle.tl_cert.specs.Text.{numbered_line, dart_lines}
use Rattle.tl_cert.proofs.LineLemmas.{front_lines_taken}
use Rattle.tl_cert.proofs.lines.Lines.darts_at_once.Goals as goal

pub returns-in_err-darts-clause-few : goal.returns-in_err-darts-clause-few
returns-in_err-darts-clause-few c = let p = err_from_is_err_and c.from_residual.result c.from_residual.ensures.1 in rw p.1 tt

pub returns-in_err-darts-clause-numbers : goal.returns-in_err-darts-clause-numbers
returns-in_err-darts-clause-numbers c = let p = err_from_is_err_and c.from_residual.result c.from_residual.ensures.1 in rw p.1 tt

pub returns-in_err-darts-clause-takes : goal.returns-in_err-darts-clause-takes
returns-in_err-darts-clause-takes c = let p = err_from_is_err_and c.from_residual.result c.from_residual.ensures.1 in rw p.1 tt

pub returns-clause-few : goal.returns-clause-few
returns-clause-few c = c.in_ok-darts.ensures.few

pub returns-clause-numbers : goal.returns-clause-numbers
returns-clause-numbers c = c.in_ok-darts.ensures.numbers

pub invariant_of-self : goal.invariant_of-self
invariant_of-self c = record { few_digits = c.in_ok-darts.ensures.digits }

pub returns-clause-takes : goal.returns-clause-takes
returns-clause-takes c =
    front_lines_taken c.args.self.now _ (dart_lines c.in_ok-darts.darts.items) c.in_ok-darts.len c.bytes.result.now c.bytes.ensures.value c.in_ok-darts.ensures.spelt c.consume.ensures
    (omega (arith, c.len.ensures, length-map c.in_ok-darts.darts.items (numbered_line (68 ∷ []))))
