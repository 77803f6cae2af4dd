use Rattle.tigertopo_pictures.specs.Svg.Texts.{style_text}
use Rattle.tigertopo_pictures.proofs.svg.print.print_style.Goals as goal

pub returns : goal.returns
unfolding style_text
returns g c = c.add.ensures
