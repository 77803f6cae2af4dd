use Rattle.std.proofs.Common.{◌≡◌, take, map}
use Rattle.tl_map_rules.specs.declared.entry.LinkEntry.{LinkEntry}
use Rattle.tl_map_rules.proofs.listing.areas.lands_of_links.Given as goal

abbrev pub invariant-loop-link : goal.invariant-loop-link
invariant-loop-link l = l.lands.items ≡ map (λ (x : LinkEntry). x.land) (take l.link-index l.links)
