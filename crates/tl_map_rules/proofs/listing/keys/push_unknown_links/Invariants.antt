use Rattle.std.proofs.Common.{take}
use Rattle.tl_map_rules.specs.declared.entry.LinkEntry.{LinkEntry}
use Rattle.tl_map_rules.specs.Listing.Keeping.Told.{Tells}
use Rattle.tl_map_rules.specs.Listing.Keeping.Numbers.{IsMissing}
use Rattle.tl_map_rules.specs.Listing.Keeping.Keys.{link_fault}
use Rattle.tl_map_rules.proofs.listing.keys.push_unknown_links.Given as goal

abbrev pub invariant-loop-link : goal.invariant-loop-link
invariant-loop-link l = Tells (IsMissing link_fault (λ (n : LinkEntry). n.key) (take l.link-index l.links) l.keys) l.fn.faults.items l.faults.items
