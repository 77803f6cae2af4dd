use Rattle.tigertopo_border.specs.Spelling.{blanks}
use Rattle.tigertopo_border.proofs.fields.print_blanks.Goals as goal

pub returns : goal.returns
unfolding blanks
returns g c = c.print_bytes.ensures
