use Rattle.tigertopo_border.proofs.WholeLemmas.Lies.{on_chain}
use Rattle.tigertopo_border.proofs.whole.laws.what_a_chain_names_lies_on_it.Goals as goal

pub returns : goal.returns
returns c = λ chains d chain r S proper planar agree truth is on none off.
    on_chain chains (record { proper = proper; planar = planar; agree = agree; truth = truth }) d chain is r on.0 on.1 S none off
