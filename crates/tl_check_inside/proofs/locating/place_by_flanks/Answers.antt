use Rattle.std.proofs.Common.{◌≡◌, length, sym, subst, ap, ◌∙◌}
use Rattle.std.proofs.lemmas.List.{with_items_is}
use Rattle.std.proofs.lemmas.Result.{err_from_is_err_and}
use Rattle.tl_check_inside.specs.Keeping.Tallies.{AreNone}
use Rattle.tl_check_inside.proofs.Placing.{if_ok}
use Rattle.tl_check_inside.proofs.locating.place_by_flanks.Goals as goal

pub returns-in_err-near : goal.returns-in_err-near
returns-in_err-near c = let p = err_from_is_err_and c.from_residual.result c.from_residual.ensures.1 in rw p.1 tt

pub returns-in_err-far : goal.returns-in_err-far
returns-in_err-far c = let p = err_from_is_err_and c.from_residual-in_err-far.result c.from_residual-in_err-far.ensures.1 in rw p.1 tt

pub tally-requires-clause-no_near : goal.tally-requires-clause-no_near
tally-requires-clause-no_near c = subst AreNone (sym c.deref_mut.ensures.value) c.in_ok-near.ensures.none

pub tally-requires-clause-no_far : goal.tally-requires-clause-no_far
tally-requires-clause-no_far c = subst AreNone (sym c.deref_mut-2.ensures.value) c.in_ok-far.ensures.none

pub place_in-requires-clause-nears : goal.place_in-requires-clause-nears
place_in-requires-clause-nears c =
    let long : length c.tally.new.near ≡ length c.in_ok-near.near.items = c.tally.ensures.nears ∙ ap length c.deref_mut.ensures.value in
    let is : c.deref.result.now ≡ c.tally.new.near = c.deref.ensures.value ∙ with_items_is c.in_ok-near.near c.tally.new.near (long ∙ sym c.in_ok-near.near.ok.0) in
    ap length is ∙ long ∙ c.in_ok-near.ensures.long ∙ c.polygons-polygons.ensures

pub place_in-requires-clause-fars : goal.place_in-requires-clause-fars
place_in-requires-clause-fars c =
    let long : length c.tally.new.far ≡ length c.in_ok-far.far.items = c.tally.ensures.fars ∙ ap length c.deref_mut-2.ensures.value in
    let is : c.deref-2.result.now ≡ c.tally.new.far = c.deref-2.ensures.value ∙ with_items_is c.in_ok-far.far c.tally.new.far (long ∙ sym c.in_ok-far.far.ok.0) in
    ap length is ∙ long ∙ c.in_ok-far.ensures.long ∙ c.polygons-polygons.ensures

pub returns : goal.returns
returns c =
    let near_is : c.deref.result.now ≡ c.tally.new.near = c.deref.ensures.value ∙ with_items_is c.in_ok-near.near c.tally.new.near (c.tally.ensures.nears ∙ ap length c.deref_mut.ensures.value ∙ sym c.in_ok-near.near.ok.0) in
    let far_is : c.deref-2.result.now ≡ c.tally.new.far = c.deref-2.ensures.value ∙ with_items_is c.in_ok-far.far c.tally.new.far (c.tally.ensures.fars ∙ ap length c.deref_mut-2.ensures.value ∙ sym c.in_ok-far.far.ok.0) in
    if_ok c.place_in.result (λ place told q tell off. told q c.args.flanks.now tell (rw (near_is, far_is) c.tally.ensures.tallies) off) c.place_in.ensures
