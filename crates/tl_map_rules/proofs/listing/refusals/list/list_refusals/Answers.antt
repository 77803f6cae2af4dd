use Rattle.std.proofs.Common.{List, [], ◌∷◌, ◌++◌, ◌∙◌, refl, sym, ap, append-nil, append_assoc}
use Rattle.tl_record.specs.declared.refusal.Refusal.{Refusal}
use Rattle.std.proofs.lemmas.Result.{err_from_is_err_and}
use Rattle.tl_record.specs.Reader.{standing_of, refusals_to_come}
use Rattle.tl_map_rules.proofs.ListingLemmas.RefusalsLemmas.ListLemmas.{lists_behind, lists_more, lists_whole, still_goes_on, failure_told}
use Rattle.tl_map_rules.proofs.listing.refusals.list.list_refusals.Goals as goal

pub refusals-init : goal.refusals-init
refusals-init g c = record {
  so_far = lists_behind c.args.list.items (refusals_to_come g.R.Source.remaining c.args.reader.now);
  front = ([], sym (append-nil c.args.list.items));
  failures = refl;
  same = refl;
  goes = refl;
}

pub refusals-preserved : goal.refusals-preserved
refusals-preserved g c =
    let found = c.in-Ok-Some.ensures in
    let gives = found.gives in
    let settles = found.settles in
    let repeats = found.repeats in
    let failures = found.failures in
    let before = c.refusals.invariant in
    record {
      so_far = rw c.in_ok-push-in-Ok-Some.ensures.items (lists_more _ _ _ c.refusals.all.items c.in-Ok-Some.refusal before.so_far (rw c.in-Ok-Some.field-0-is at gives));
      front = (
        before.front.0 ++ c.in-Ok-Some.refusal ∷ [],
        c.in_ok-push-in-Ok-Some.ensures.items ∙ ap (λ (l : List Refusal). l ++ c.in-Ok-Some.refusal ∷ []) before.front.1 ∙ append_assoc c.args.list.items before.front.0 (c.in-Ok-Some.refusal ∷ []),
      );
      failures = failures ∙ before.failures;
      same = found.same_reference ∙ before.same;
      goes = still_goes_on (standing_of c.refusals.reader) (standing_of c.next_refusal.new.self) c.refusals.reader c.next_refusal.new.self c.in-Ok-Some.refusal (rw c.in-Ok-Some.field-0-is at repeats) (rw c.in-Ok-Some.field-0-is at settles) ∙ before.goes;
    }

pub returns-in-Err-Device : goal.returns-in-Err-Device
returns-in-Err-Device g c =
    let found = c.in-Err-Device.ensures in
    let failures = found.failures in
    let before = c.refusals.invariant in
    record {
      refusals = tt;
      front = tt;
      failures = failure_told (standing_of c.args.reader.now) (standing_of c.refusals.reader) _ _ _ before.failures before.goes (rw c.in-Err-Device.field-0-is at failures);
      stops = tt;
      same_reference = found.same_reference ∙ before.same;
    }

pub returns-in-Err-Endless : goal.returns-in-Err-Endless
returns-in-Err-Endless g c =
    let found = c.in-Err-Endless.ensures in
    let failures = found.failures in
    let before = c.refusals.invariant in
    record {
      refusals = tt;
      front = tt;
      failures = (rw c.in-Err-Endless.field-0-is at failures) ∙ before.failures;
      stops = tt;
      same_reference = found.same_reference ∙ before.same;
    }

pub returns-in-Ok-None : goal.returns-in-Ok-None
returns-in-Ok-None g c =
    let found = c.in-Ok-None.ensures in
    let gives = found.gives in
    let before = c.refusals.invariant in
    record {
      refusals = lists_whole c.args.list.items _ _ _ c.refusals.all.items before.so_far (rw c.in-Ok-None.field-0-is at gives);
      front = before.front;
      failures = found.failures ∙ before.failures;
      stops = tt;
      same_reference = found.same_reference ∙ before.same;
    }

pub returns-in_err-push-in-Ok-Some : goal.returns-in_err-push-in-Ok-Some
returns-in_err-push-in-Ok-Some g c =
    let p = err_from_is_err_and c.from_residual.result c.from_residual.ensures.1 in
    let found = c.in-Ok-Some.ensures in
    let before = c.refusals.invariant in
    rw (p.1, p.2) (record {
      refusals = tt;
      front = tt;
      failures = found.failures ∙ before.failures;
      stops = tt;
      same_reference = found.same_reference ∙ before.same;
    })
