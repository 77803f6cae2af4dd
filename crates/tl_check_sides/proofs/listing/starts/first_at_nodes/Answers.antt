use Rattle.std.proofs.Common.{◌≡◌, length, length-set, sym, subst, ◌∙◌, arith}
use Rattle.std.proofs.lemmas.Result.{err_from_is_err_and}
use Rattle.tl_check_sides.specs.Listing.Keeping.Starts.{no_start, AreFirstsOf}
use Rattle.tl_check_sides.proofs.ListingLemmas.StartLemmas.{first_kept, first_set, is_kept, not_kept}
use Rattle.tl_check_sides.proofs.listing.starts.first_at_nodes.Goals as goal

pub loop-place-preserved-then-is_some : goal.loop-place-preserved-then-is_some
loop-place-preserved-then-is_some c =
    let known = c.requires c.loop-place.place no_start c.loop-place-test.true in
    let long = c.loop-place.invariant.long in
    record {
      firsts = first_kept c.args.starts.now c.loop-place.place c.loop-place.firsts.items
          (is_kept c.loop-place.firsts.items _ c.index.result.now (omega (arith, known, long)) c.index.ensures (sym c.is_some.ensures ∙ c.if-is_some.true)) c.loop-place.invariant.firsts;
      long = c.loop-place.invariant.long;
    }

pub loop-place-preserved : goal.loop-place-preserved
loop-place-preserved c =
    let known = c.requires c.loop-place.place no_start c.loop-place-test.true in
    let long = c.loop-place.invariant.long in
    record {
      firsts = first_set c.args.starts.now c.loop-place.place c.loop-place.firsts.items (omega (arith, known, long))
          (not_kept c.loop-place.firsts.items _ c.index.result.now (omega (arith, known, long)) c.index.ensures (sym c.is_some.ensures ∙ c.if-is_some.false)) c.loop-place.invariant.firsts;
      long = length-set c.loop-place.firsts.items _ _ ∙ c.loop-place.invariant.long;
    }

pub returns-clause-firsts : goal.returns-clause-firsts
returns-clause-firsts c =
    let past = c.loop-place-test.false in
    let within = c.loop-place.auto.place-end in
    let end : c.loop-place.place ≡ length c.args.starts.now = omega (arith, past, within) in
    subst (λ n. AreFirstsOf c.args.starts.now n c.loop-place.firsts.items) end c.loop-place.invariant.firsts

pub returns-clause-long : goal.returns-clause-long
returns-clause-long c = c.loop-place.invariant.long

pub returns-in_err-firsts-clause-firsts : goal.returns-in_err-firsts-clause-firsts
returns-in_err-firsts-clause-firsts c = let p = err_from_is_err_and c.from_residual.result c.from_residual.ensures.1 in rw p.1 tt

pub returns-in_err-firsts-clause-long : goal.returns-in_err-firsts-clause-long
returns-in_err-firsts-clause-long c = let p = err_from_is_err_and c.from_residual.result c.from_residual.ensures.1 in rw p.1 tt
