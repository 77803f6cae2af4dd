use Rattle.std.proofs.Common.{map, refl, string_bytes, sym}
use Rattle.std.proofs.lemmas.Option.{slice_get_past, slice_get_read}
use borrow.Author.Tests.{ltb-true, ltb-false}
use Rattle.tl_record.specs.Layout.{layout_with}
use Rattle.tigertopo_faults.proofs.PlacedLemmas.{told_next}
use Rattle.tigertopo_faults.proofs.HintLemmas.HintLemmas.{same_got}
use Rattle.tl_cert_output.proofs.PageLemmas.{both, as_text}
use Rattle.tigertopo_faults.proofs.hint.placed.print_refusals.Goals as goal
use Rattle.tigertopo_faults.proofs.hint.placed.print_refusals.Goals.{in-Some, in-None}

pub loop-index-preserved : goal.loop-index-preserved
loop-index-preserved g c =
    let page = g.met.P.Page.adding in
    let refusals = c.args.refusals.now in
    let fronts = c.args.fronts.now in
    let i = c.loop-index.index in
    let begun = both page c.loop-index.invariant c.print_beginning.ensures in
    let next = told_next c.args.form (layout_with c.args.options) (map string_bytes c.args.names.now) (λ front. front.items) c.args.counts.now refusals fronts i _ in
    let within = c.loop-index-test.true in
    let is = same_got refusals i _ _ within in
    elim c.match-get.branch [
      | in-Some w ↦
          let there = ltb-true _ _ (sym w.in-Some.ensures.lookup.0) in
          let here = slice_get_read fronts _ i w.in-Some.front.now refl there w.in-Some.ensures.lookup.1 in
          let told = rw w.as_slice.ensures.value at w.print_place_of.ensures in
          rw w.page-is (as_text page (both page begun told) (next _ within is here))
      | in-None w ↦
          let past = slice_get_past fronts i (ltb-false _ _ (sym w.in-None.ensures.lookup.0)) in
          rw w.page-is (as_text page (both page begun w.print_no_place.ensures) (next _ within is past))
    ]
