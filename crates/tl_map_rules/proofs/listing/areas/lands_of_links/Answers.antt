use Rattle.std.proofs.Common.{map, ap, ◌∙◌, sym}
use Rattle.std.proofs.lemmas.List.{map_more, take_all}
use Rattle.std.proofs.lemmas.Result.{err_from_is_err_and}
use Rattle.tl_map_rules.specs.declared.entry.LinkEntry.{LinkEntry}
use Rattle.tl_map_rules.proofs.listing.areas.lands_of_links.Goals as goal

pub loop-link-init : goal.loop-link-init
loop-link-init c = c.in_ok-lands.ensures.items

pub loop-link-preserved : goal.loop-link-preserved
loop-link-preserved c = rw (c.in_ok-push.ensures.items, c.loop-link.invariant) (sym (map_more (λ (l : LinkEntry). l.land) c.args.links.now c.loop-link.link-index _ c.loop-link-test.true))

pub returns : goal.returns
returns c =
    let all = c.loop-link.invariant ∙ ap (map (λ (l : LinkEntry). l.land)) (take_all c.loop-link.link-index c.args.links.now c.loop-link-test.false) in
    record { ordered = c.sort_numbers.ensures.ordered; moved = rw all at c.sort_numbers.ensures.moved }

pub returns-in_err-lands : goal.returns-in_err-lands
returns-in_err-lands c = let p = err_from_is_err_and c.from_residual.result c.from_residual.ensures.1 in rw p.1 (record { ordered = tt; moved = tt })

pub returns-in_err-push : goal.returns-in_err-push
returns-in_err-push c = let p = err_from_is_err_and c.from_residual-in_err-push.result c.from_residual-in_err-push.ensures.1 in rw p.1 (record { ordered = tt; moved = tt })
