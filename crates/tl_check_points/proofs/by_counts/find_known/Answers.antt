use Rattle.std.proofs.Common.{◌+◌, All, length, sym, subst}
use Rattle.std.proofs.lemmas.Option.{slice_get-get_or}
use Rattle.std.proofs.lemmas.List.Elements.{All-push}
use Rattle.tl_check_inside.specs.Keeping.Strips.{IsSiteOf}
use Rattle.tl_check_points.proofs.Leaving.{AreLeftUpTo, one_left, one_placed, all_left, clear_by}
use Rattle.tl_check_points.proofs.by_counts.find_known.Goals as goal
use Rattle.tl_check_points.proofs.by_counts.find_known.Goals.{in-Some+in-None-misplaced_at, in-None+in_ok-push_site-in-None}

pub misplaced_at-requires-clause-off : goal.misplaced_at-requires-clause-off
misplaced_at-requires-clause-off c =
    (c.requires.counts c.loop-place.place _ c.in-Some.flanks.now (slice_get-get_or c.args.sites.now c.loop-place.place _ c.loop-place-test.true) c.in-Some.ensures).0

pub misplaced_at-requires-clause-tell : goal.misplaced_at-requires-clause-tell
misplaced_at-requires-clause-tell c =
    (c.requires.counts c.loop-place.place _ c.in-Some.flanks.now (slice_get-get_or c.args.sites.now c.loop-place.place _ c.loop-place-test.true) c.in-Some.ensures).1

pub loop-place-preserved : goal.loop-place-preserved
loop-place-preserved c =
    let m = c.args.map.now in
    let sites = c.args.sites.now in
    let k = c.loop-place.place in
    let lt = c.loop-place-test.true in
    elim c.match-at.branch [
      | in-Some+in-None-misplaced_at w ↦ record {
        left =
            subst (λ v. AreLeftUpTo m sites v.items (k + 1)) (sym w.others-is)
            (one_placed m sites c.loop-place.others.items k _ lt c.loop-place.invariant.left w.in-None-misplaced_at.ensures.found);
        others = subst (λ v. All (IsSiteOf m) v.items) (sym w.others-is) c.loop-place.invariant.others;
        clear = clear_by (length m.polygons) _ c.match-at.near _ c.match-at.far w.near-is w.far-is w.misplaced_at.ensures.clear;
      }
      | in-None+in_ok-push_site-in-None w ↦ record {
        left =
            subst (λ v. AreLeftUpTo m sites v.items (k + 1)) (sym w.others-is)
            (one_left m sites c.loop-place.others.items w.push_site.new.sites.items k _ lt w.in_ok-push_site-in-None.ensures c.loop-place.invariant.left);
        others =
            subst (λ v. All (IsSiteOf m) v.items) (sym w.others-is)
            (subst (All (IsSiteOf m)) (sym w.in_ok-push_site-in-None.ensures)
            (All-push (IsSiteOf m) c.loop-place.others.items _ c.loop-place.invariant.others (c.requires.sites k _ lt)));
        clear = clear_by (length m.polygons) _ c.match-at.near _ c.match-at.far w.near-is w.far-is c.loop-place.invariant.clear;
      }
    ]

pub returns-clause-found : goal.returns-clause-found
returns-clause-found c = all_left c.args.map.now c.args.sites.now c.loop-place.others.items c.loop-place.place c.loop-place-test.false c.loop-place.invariant.left
