use Rattle.tigertopo_program.proofs.stop.print_stop.Goals as goal

pub returns-in-Record : goal.returns-in-Record
returns-in-Record g c = rw c.in-Record.is c.print_refusal.ensures

pub returns-in-Memory : goal.returns-in-Memory
returns-in-Memory g c = rw c.in-Memory.is c.add.ensures

pub returns-in-Device : goal.returns-in-Device
returns-in-Device g c = rw c.in-Device.is c.add-in-Device.ensures

pub returns-in-Budget : goal.returns-in-Budget
returns-in-Budget g c = rw c.in-Budget.is c.add-in-Budget.ensures
