use Rattle.tigertopo_faults.proofs.hint.object.print_field_members.Goals as goal

pub returns-in-Some : goal.returns-in-Some
returns-in-Some g c =
    rw (← c.in-Some.ensures) c.print_members.ensures
