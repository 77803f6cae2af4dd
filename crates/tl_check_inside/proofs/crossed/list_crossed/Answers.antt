use Rattle.tl_check_inside.proofs.Reaching.{crossed_by, crossed_below, on_ok}
use Rattle.tl_check_inside.proofs.crossed.list_crossed.Goals as goal

pub returns-clause-are : goal.returns-clause-are
returns-clause-are g c = on_ok c.collect_hits.result (λ adds. crossed_by c.args.map.now.chains c.args.point c.requires.reach c.new.result _ _ adds c.new.ensures c.clear.ensures.items) c.collect_hits.ensures.hits

pub returns-clause-known : goal.returns-clause-known
returns-clause-known g c =
    on_ok c.collect_hits.result (λ adds. crossed_below c.args.map.now.chains c.args.point _ (crossed_by c.args.map.now.chains c.args.point c.requires.reach c.new.result _ _ adds c.new.ensures c.clear.ensures.items)) c.collect_hits.ensures.hits
