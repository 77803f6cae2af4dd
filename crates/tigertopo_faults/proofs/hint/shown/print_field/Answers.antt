use Rattle.tigertopo_faults.proofs.hint.shown.print_field.Goals as goal

pub returns-in-Some : goal.returns-in-Some
returns-in-Some g c =
    rw (← c.in-Some.ensures) c.print_columns.ensures
