use Rattle.std.proofs.Common.{take}
use Rattle.tl_map_rules.specs.declared.listing.kept.NamedSide.{NamedSide}
use Rattle.tl_map_rules.specs.Listing.Keeping.Told.{Tells}
use Rattle.tl_map_rules.specs.Listing.Keeping.Numbers.{IsMissing}
use Rattle.tl_map_rules.specs.Listing.Keeping.Keys.{side_fault}
use Rattle.tl_map_rules.proofs.listing.keys.push_unknown_sides.Given as goal

abbrev pub invariant-loop-name : goal.invariant-loop-name
invariant-loop-name l = Tells (IsMissing side_fault (λ (n : NamedSide). n.key) (take l.name-index l.names) l.keys) l.fn.faults.items l.faults.items
