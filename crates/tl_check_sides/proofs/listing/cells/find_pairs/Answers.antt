use Rattle.std.proofs.Common.{◌≡◌, ◌<◌, ◌++◌, length, length-set, sym, ap, ◌∙◌, arith, subst}
use Rattle.std.proofs.lemmas.Result.{err_from_is_err_and}
use Rattle.tl_check_sides.specs.Listing.Keeping.Starts.{no_start, start_at, first_of, IsHeadOf}
use Rattle.tl_check_sides.specs.Listing.Keeping.Odds.{start_odds, HaveTold}
use Rattle.tl_check_sides.proofs.ListingLemmas.OddLemmas.{head_first, not_first, is_first, seen_kept, seen_more, seen_same, seen_other}
use Rattle.tl_check_sides.proofs.ListingLemmas.Telling.{told_skipped, told_more}
use Rattle.tl_check_sides.proofs.listing.cells.find_pairs.Goals as goal

pub loop-place-preserved-then-eq : goal.loop-place-preserved-then-eq
loop-place-preserved-then-eq c =
    let chains = c.args.map.now.chains in
    let starts = c.args.starts.now in
    let p = c.loop-place.place in
    let within = c.loop-place-test.true in
    let h = c.loop-place.invariant in
    let known = c.requires.known p no_start within in
    let long = h.long in
    let at = seen_same c.loop-place.seen.items (start_at starts p).node (start_at starts p).id c.index.result.now (omega (arith, known, long)) c.index.ensures (sym c.eq.ensures ∙ c.if-eq.true) in
    record {
      head = λ k e. let here : k ≡ p = omega (arith, e) in subst (λ m. IsHeadOf starts m c.head_at-head.result) (sym here) c.head_at-head.ensures;
      long = h.long;
      seen = seen_kept chains starts c.requires.starts p within c.loop-place.seen.items h.seen at;
      told = told_skipped chains starts p c.loop-place.found.items (not_first chains starts c.requires.starts p within c.loop-place.seen.items h.seen at) h.told;
    }

pub loop-place-preserved : goal.loop-place-preserved
loop-place-preserved c =
    let chains = c.args.map.now.chains in
    let starts = c.args.starts.now in
    let p = c.loop-place.place in
    let within = c.loop-place-test.true in
    let h = c.loop-place.invariant in
    let known = c.requires.known p no_start within in
    let long = h.long in
    let room : (start_at starts p).node < length c.loop-place.seen.items = omega (arith, known, long) in
    let unseen = seen_other c.loop-place.seen.items (start_at starts p).node (start_at starts p).id c.index.result.now room c.index.ensures (sym c.eq.ensures ∙ c.if-eq.false) in
    record {
      head = λ k e. let here : k ≡ p = omega (arith, e) in subst (λ m. IsHeadOf starts m c.head_at-head.result) (sym here) c.head_at-head.ensures;
      long = length-set c.loop-place.seen.items _ _ ∙ h.long;
      seen = seen_more chains starts c.requires.starts p within c.loop-place.seen.items h.seen room;
      told = told_more chains starts c.requires.starts p within c.head_at-head.result (head_first chains starts c.requires.starts p c.head_at-head.result within c.head_at-head.ensures)
          (is_first chains starts c.requires.starts p within c.loop-place.seen.items h.seen unseen) c.args.firsts.now known c.requires.firsts
          c.loop-place.found.items c.push_by_start.new.found.items
          (c.in_ok-push_by_start.ensures ∙ ap (λ xs. xs ++ start_odds (start_at starts p) (first_of c.args.firsts.now (start_at starts p).node)) c.in_ok-push_by_id.ensures) h.told;
    }

pub returns : goal.returns
returns c =
    let past = c.loop-place-test.false in
    let end = c.loop-place.auto.place-end in
    let is : c.loop-place.place ≡ length c.args.starts.now = omega (arith, past, end) in
    subst (λ n. HaveTold c.args.map.now.chains c.args.starts.now n c.loop-place.found.items) is c.loop-place.invariant.told

pub returns-in_err-push_by_id : goal.returns-in_err-push_by_id
returns-in_err-push_by_id c = let p = err_from_is_err_and c.from_residual.result c.from_residual.ensures.1 in rw p.1 tt

pub returns-in_err-push_by_start : goal.returns-in_err-push_by_start
returns-in_err-push_by_start c = let p = err_from_is_err_and c.from_residual-in_err-push_by_start.result c.from_residual-in_err-push_by_start.ensures.1 in rw p.1 tt
