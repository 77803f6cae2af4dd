use Rattle.tl_check_inside.proofs.Reaching.{on_ok}
use Rattle.tl_check_inside.proofs.Stripping.{enough_by}
use Rattle.tl_check_inside.proofs.strips.list_in_strip.Goals as goal

pub returns : goal.returns
returns g c = on_ok c.collect_hits.result (λ adds k d lt.
    enough_by c.new.result c.args.map.now.chains c.strip_of-strip.result _ _ _ c.requires.reach (c.strip_of-strip.ensures k d lt) adds c.new.ensures c.clear.ensures.items) c.collect_hits.ensures.hits
