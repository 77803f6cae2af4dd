use Rattle.std.proofs.Common.{[], inl, ap, ◌∙◌}
use Rattle.tigertopo_files.proofs.WorldLemmas.{does_so}
use Rattle.tigertopo_program.specs.declared.answer.Bordered.{Bordered as Numbers}
use Rattle.tigertopo_program.specs.declared.answer.Answer.TheVariants.{Bordered}
use Rattle.tigertopo_program.specs.Records.{StopsNever}
use Rattle.tigertopo_program.proofs.border.keep.Goals as goal

pub returns : goal.returns
returns g c =
    does_so _ [] _ _ _ StopsNever StopsNever
    (λ told so. inl (record { sound = c.requires.sound; kept = so.kept }, so.is ∙ ap (λ (n : Numbers). Bordered n) c.numbers_of-numbers.ensures))
    (λ s never. never) _ c.answer_with_file.ensures
