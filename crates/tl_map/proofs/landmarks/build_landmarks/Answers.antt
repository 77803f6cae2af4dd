use Rattle.std.proofs.Common.{inl, eqb-true}
use Rattle.std.specs.Prelude.{nat_eq}
use Rattle.std.specs.Cmp.{nat_eq_equiv}
use Rattle.std.proofs.lemmas.Result.{err_from_is_err_and}
use Rattle.indexmap.specs.IndexMap.{keys}
use Rattle.tl_map.proofs.IndexLemmas.{numbers_keys}
use Rattle.tl_map.proofs.LinkedLemmas.{linked_all, unlinked, either_way}
use Rattle.tl_map.proofs.UnbuiltLemmas.{stops_for}
use Rattle.tl_map.proofs.landmarks.build_landmarks.Goals as goal

pub returns-in_err-firsts : goal.returns-in_err-firsts
returns-in_err-firsts c =
    let p = err_from_is_err_and c.from_residual.result c.from_residual.ensures.1 in
    rw (p.1, p.2) (stops_for _ _ c.in_err-firsts.field-0.0 (λ many. inl many) c.in_err-firsts.ensures.stops)

pub link_indexed-requires : goal.link_indexed-requires
link_indexed-requires c = record { polygons = c.requires.few; few = c.in_ok-firsts.ensures.ok.few; keys = c.requires.unique; lands = c.in_ok-firsts.ensures.ok.unique }

pub returns : goal.returns
returns c =
    let f = c.in_ok-firsts.firsts in
    let told = c.in_ok-firsts.ensures.ok in
    let ks = keys c.args.index.now in
    let entries = c.args.entries.now in
    let links = c.args.links.now in
    let lands = numbers_keys nat_eq nat_eq_equiv eqb-true f told.unique in
    either_way c.link_indexed.result _ _ _ _
    (λ l made. linked_all ks entries links made.1.made made.1.sorted f l made.0 told lands made.1.all made.1.by_landmark made.1.listed)
    (λ stop why. stops_for _ _ stop (unlinked ks entries f links told) why) c.link_indexed.ensures
