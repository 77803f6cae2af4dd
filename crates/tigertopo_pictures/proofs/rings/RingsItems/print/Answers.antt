use Rattle.tigertopo_pictures.proofs.rings.RingsItems.print.Goals as goal

pub returns : goal.returns
returns g c = rw c.walk_at-walk.ensures.walk at c.print_ring.ensures

pub print_ring-requires : goal.print_ring-requires
print_ring-requires g c =
    let chains = c.args.self.now.map.now.chains in
    record { some = c.walk_at-walk.ensures.some chains c.requires.0; darts = c.walk_at-walk.ensures.darts chains c.requires.0 }

pub walk_at-walk-requires : goal.walk_at-walk-requires
walk_at-walk-requires g c = c.requires.1
