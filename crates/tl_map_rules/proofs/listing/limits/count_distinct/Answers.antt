use Rattle.std.proofs.Common.{eqb, length, ap, arith}
use Rattle.std.proofs.lemmas.List.Filters.{dedup_is}
use Rattle.tl_map_rules.proofs.listing.limits.count_distinct.Goals as goal

pub returns : goal.returns
returns c =
    let kept = dedup_is eqb c.args.numbers.now.items c.dedup.new.self.items c.dedup.ensures.filtered in
    omega (arith, c.len.ensures, c.dedup.new.self.ok.0, ap length kept)
