use Rattle.std.proofs.Common.{subst}
use Rattle.tl_geom.specs.declared.rect.Rect.{Rect}
use Rattle.tl_tree_index.specs.Hits.{AreHits}
use Rattle.tl_check_planar.specs.Listing.Keeping.Pairing.{IsHitFrom}
use Rattle.tl_check_planar.proofs.ListingLemmas.Listing.{hits_of, on_ok}
use Rattle.tl_check_planar.proofs.listing.beside.list_beside.Goals as goal

pub returns : goal.returns
returns g c =
    let n = g.I.Items.count c.args.items.now in
    let bounds_of = g.I.Items.bounds_of c.args.items.now in
    let tells = g.I.Items.tells c.args.items.now in
    on_ok c.collect_hits.result
    (λ adds. subst (λ (r : Rect). AreHits n (IsHitFrom n bounds_of tells c.args.marks.now c.args.i r) c.collect_hits.new.out.items) c.bounds.ensures
    (hits_of _ _ _ _ adds c.clear.ensures.items))
    c.collect_hits.ensures.hits
