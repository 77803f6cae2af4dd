use Rattle.tigertopo_faults.proofs.hint.placed.print_place_of.Goals as goal

pub returns-in-Some : goal.returns-in-Some
returns-in-Some g c =
    let told = rw c.name_of-name.ensures at c.print_told_place.ensures in rw (← c.in-Some.ensures) told

pub returns-in-None : goal.returns-in-None
returns-in-None g c = rw (← c.in-None.ensures) c.print_no_place.ensures
