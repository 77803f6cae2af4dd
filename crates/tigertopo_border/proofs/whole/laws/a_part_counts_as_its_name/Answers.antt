use Rattle.tigertopo_border.proofs.WholeLemmas.AsOne.{as_name}
use Rattle.tigertopo_border.proofs.whole.laws.a_part_counts_as_its_name.Goals as goal

pub returns : goal.returns
returns c = λ homes parts joined border k part q n is_joined is_border proper is.
    as_name homes k joined.chains proper q n part.chains border.chains (is_joined.each k part is) is_border.chains
