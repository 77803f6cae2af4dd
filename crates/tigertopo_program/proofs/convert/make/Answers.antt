use Rattle.std.proofs.Common.{[], ap, ◌∙◌}
use Rattle.tigertopo_files.proofs.WorldLemmas.{does_so}
use Rattle.tigertopo_program.specs.declared.answer.Converted.{Converted as Counts}
use Rattle.tigertopo_program.specs.declared.answer.Answer.TheVariants.{Converted}
use Rattle.tigertopo_program.specs.Records.{StopsNever}
use Rattle.tigertopo_program.proofs.convert.make.Goals as goal

pub returns : goal.returns
returns g c =
    does_so _ [] _ _ _ StopsNever StopsNever
    (λ told so. record { is = so.is ∙ ap (λ (n : Counts). Converted n) c.counts_of-counts.ensures; kept = so.kept }) (λ s never. never) _ c.answer_with_file.ensures
