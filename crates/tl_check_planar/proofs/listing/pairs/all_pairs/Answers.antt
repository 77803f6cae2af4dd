use Rattle.std.proofs.lemmas.List.Filters.{dedup_is}
use Rattle.tl_check_planar.proofs.ListingLemmas.Ordering.{same_pair, sorted_once, once_all}
use Rattle.tl_check_planar.proofs.listing.pairs.all_pairs.Goals as goal

pub returns-clause-pairs : goal.returns-clause-pairs
returns-clause-pairs g c =
    once_all (g.I.Items.count c.args.items.now) (g.I.Items.tells c.args.items.now) c.in_ok-pairs.pairs.items c.sort_unstable.new.self.items c.dedup.new.self.items
    c.sort_unstable.ensures.permutation (dedup_is same_pair c.sort_unstable.new.self.items c.dedup.new.self.items c.dedup.ensures.filtered) c.in_ok-pairs.ensures

pub returns-clause-ordered : goal.returns-clause-ordered
returns-clause-ordered g c =
    sorted_once c.sort_unstable.new.self.items c.dedup.new.self.items c.sort_unstable.ensures.sorted
    (dedup_is same_pair c.sort_unstable.new.self.items c.dedup.new.self.items c.dedup.ensures.filtered)
