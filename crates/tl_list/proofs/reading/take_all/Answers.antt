use Rattle.std.proofs.Common.{◌∙◌, ◌++◌, ◌∷◌, [], ap, inl, subst, List, Option, ℕ}
use Rattle.std.specs.Prelude.{IfSome}
use Rattle.tl_record.specs.declared.refusal.Refusal.{Refusal}
use Rattle.tl_record.specs.declared.stop.Cause.{Cause}
use Rattle.tl_map_rules.specs.Listing.Refusals.Listing.{ListsAll}
use Rattle.tl_record.specs.NextLine.{front_of}
use Rattle.tl_record.specs.Reader.{lines_of, judged_of, standing_of, layout_of, pending_of, unjudged}
use Rattle.tl_record.specs.Fronts.{lines_ahead}
use Rattle.tl_list.specs.Keeping.Noting.{bytes_of}
use Rattle.tl_map_rules.proofs.ListingLemmas.RefusalsLemmas.ListLemmas.{lists_more}
use Rattle.tl_map.proofs.GatherLemmas.{none_failed}
use Rattle.tl_list.proofs.MayTaking.{may_more, may_passed}
use Rattle.tl_list.proofs.NotedLemmas.{first_refusals, fronts_more, fronts_end, ahead_on, ahead_stop, ahead_passed}
use Rattle.tl_list.proofs.Passing.{lists_kept, first_given, stops_listed, read_before, refused_counts, not_passable, few_passed}
use Rattle.tl_list.proofs.reading.take_all.Goals as goal

pub lines-preserved-in_ok-take_record-in-Ok-Some : goal.lines-preserved-in_ok-take_record-in-Ok-Some
lines-preserved-in_ok-take_record-in-Ok-Some g c =
    let found = c.in-Ok-Some.ensures in
    let left = found.left in
    let repeats = found.repeats in
    let ahead = found.ahead in
    let failures = found.failures in
    let settles = found.settles in
    let before = c.lines.invariant in
    let took = c.in_ok-take_record-in-Ok-Some.ensures in
    record {
      kept = may_more c.args.joins c.args.skips c.args.notes _ _ _ _ c.in-Ok-Some.line _ c.lines.refused.items _ _ c.lines.taken c.take_record.new.taken
          (rw c.in-Ok-Some.field-0-is at left) took.taken took.noted before.kept;
      refused = lists_kept _ _ _ _ before.refused found.refusals;
      fronts = rw took.fronts before.fronts;
      ahead = ahead_on g.R.Source.remaining (lines_ahead g.R.Source.remaining c.args.reader.now) c.lines.reader c.read_next.new.self _ before.standing
          (rw c.in-Ok-Some.field-0-is at repeats) found.onward (rw c.in-Ok-Some.field-0-is at ahead) before.ahead;
      failures = none_failed (standing_of c.lines.reader) _ _ _ (rw c.in-Ok-Some.field-0-is at failures) ∙ before.failures;
      same = found.same_reference ∙ before.same;
      standing = rw c.in-Ok-Some.field-0-is at settles;
    }

pub returns-then-not-branch-clause-read : goal.returns-then-not-branch-clause-read
returns-then-not-branch-clause-read g c =
    let found = c.in-Err-Refused.ensures in
    let stops = found.stops in
    let repeats = found.repeats in
    let settles = found.settles in
    let counts = found.counts in
    let before = c.lines.invariant in
    let now = c.read_next.new.self in
    let line = c.in-Err-Refused.line in
    let cause = c.in-Err-Refused.cause in
    let passes = c.in_ok-pass_refused-in-Err-Refused.ensures.passes in
    let stays = rw c.if-not-branch.true at passes in
    let lists = c.in_ok-refused-in-Err-Refused.ensures.lists in
    let again = rw c.in-Err-Refused.field-0-is at repeats in
    let stopped = read_before (standing_of c.lines.reader) _ _ line cause _ before.standing again (rw c.in-Err-Refused.field-0-is at stops) in
    let counted = read_before (standing_of c.lines.reader) _ _ line cause _ before.standing again (rw c.in-Err-Refused.field-0-is at counts) in
    stops_listed c.args.skips _ _ _ _ c.lines.refused.items c.in_ok-refused-in-Err-Refused.refused.items (record { line = line; cause = cause }) before.refused stopped.1 found.refusals
    (rw stays.1 at lists)
    (λ skipping. not_passable (standing_of now) (lines_of now) (judged_of now) line cause (rw c.in-Err-Refused.field-0-is at settles) stopped.0 counted.0 stays.0)

pub returns-then-not-branch-clause-fronts : goal.returns-then-not-branch-clause-fronts
returns-then-not-branch-clause-fronts g c =
    let found = c.in-Err-Refused.ensures in
    let stops = found.stops in
    let repeats = found.repeats in
    let settles = found.settles in
    let counts = found.counts in
    let before = c.lines.invariant in
    let now = c.read_next.new.self in
    let first = c.args.reader.now in
    let line = c.in-Err-Refused.line in
    let cause = c.in-Err-Refused.cause in
    let passes = c.in_ok-pass_refused-in-Err-Refused.ensures.passes in
    let stays = rw c.if-not-branch.true at passes in
    let lists = c.in_ok-refused-in-Err-Refused.ensures.lists in
    let again = rw c.in-Err-Refused.field-0-is at repeats in
    let stopped = read_before (standing_of c.lines.reader) _ _ line cause _ before.standing again (rw c.in-Err-Refused.field-0-is at stops) in
    let counted = read_before (standing_of c.lines.reader) _ _ line cause _ before.standing again (rw c.in-Err-Refused.field-0-is at counts) in
    let many = not_passable (standing_of now) (lines_of now) (judged_of now) line cause (rw c.in-Err-Refused.field-0-is at settles) stopped.0 counted.0 stays.0 in
    let all = stops_listed c.args.skips _ _ _ _ c.lines.refused.items c.in_ok-refused-in-Err-Refused.refused.items (record { line = line; cause = cause }) before.refused stopped.1 found.refusals
    (rw stays.1 at lists) (λ skipping. many) in
    let added = c.in_ok-end_fronts-in-Err-Refused.ensures.added in
    let listed = all.all in
    fronts_end c.args.notes (layout_of first) (unjudged g.R.Source.remaining first) c.lines.refused.items lists.begins.0 c.in_ok-refused-in-Err-Refused.refused.items
    (record { line = line; cause = cause }) c.lines.noted.fronts.items _ (subst (λ (rs : Option (List (ℕ × Cause))). IfSome rs (λ r. ListsAll r c.in_ok-refused-in-Err-Refused.refused.items))
    (first_refusals g.R.Source.remaining first c.requires.reads c.requires.first) listed) lists.begins.1 many before.fronts (rw c.as_slice.ensures.value at added)

pub lines-preserved : goal.lines-preserved
lines-preserved g c =
    let found = c.in-Err-Refused.ensures in
    let left = found.left in
    let stops = found.stops in
    let repeats = found.repeats in
    let counts = found.counts in
    let ahead = found.ahead in
    let failures = found.failures in
    let before = c.lines.invariant in
    let now = c.read_next.new.self in
    let line = c.in-Err-Refused.line in
    let cause = c.in-Err-Refused.cause in
    let refusal : Refusal = record { line = line; cause = cause } in
    let passes = c.in_ok-pass_refused-in-Err-Refused.ensures.passes in
    let passed = rw c.if-not-branch.false at passes in
    let again = rw c.in-Err-Refused.field-0-is at repeats in
    let stopped = read_before (standing_of c.lines.reader) _ _ line cause _ before.standing again (rw c.in-Err-Refused.field-0-is at stops) in
    let counted = read_before (standing_of c.lines.reader) _ _ line cause _ before.standing again (rw c.in-Err-Refused.field-0-is at counts) in
    let few = few_passed now c.pass_refused.new.reader line counted.0 passed.1.lines in
    let lines = lines_ahead g.R.Source.remaining c.args.reader.now in
    let at_stop = ahead_stop g.R.Source.remaining lines c.lines.reader now line cause before.standing again found.onward (rw c.in-Err-Refused.field-0-is at ahead) before.ahead in
    let put = c.in_ok-add_front-in-Err-Refused.ensures in
    record {
      kept = rw (c.in_ok-push-in-Err-Refused.ensures.items, c.taken_if-taken.ensures, put.records)
          (may_passed c.args.joins c.args.skips c.args.notes _ _ _ _ _ line cause c.lines.refused.items refusal c.lines.noted.records c.lines.taken
          (rw c.in-Err-Refused.field-0-is at left) few passed.1.left before.kept);
      refused = rw c.in_ok-push-in-Err-Refused.ensures.items (lists_more _ _ _ c.lines.refused.items refusal before.refused
          (first_given _ _ _ line cause stopped.1 passed.1.refusals));
      fronts = rw c.in_ok-push-in-Err-Refused.ensures.items (fronts_more c.args.notes (unjudged g.R.Source.remaining c.args.reader.now) (lines_ahead g.R.Source.remaining now) (lines_of now) line cause c.lines.refused.items
          c.lines.noted.fronts.items c.add_front.new.self.fronts.items (front_of (pending_of now)) at_stop.0 at_stop.1 counted.0 few before.fronts
          (λ on. put.added on ∙ ap (λ (f : List ℕ). bytes_of c.lines.noted.fronts.items ++ f ∷ []) (c.in_ok-front-in-Err-Refused.ensures on ∙ c.refused_line.ensures)));
      ahead = ahead_passed lines (lines_ahead g.R.Source.remaining now) (lines_ahead g.R.Source.remaining c.pass_refused.new.reader) (standing_of c.pass_refused.new.reader) (lines_of now)
          (lines_of c.pass_refused.new.reader) passed.1.lines at_stop.0 passed.1.ahead;
      failures = c.in_ok-pass_refused-in-Err-Refused.ensures.failures
          ∙ refused_counts (standing_of c.lines.reader) _ _ line cause (rw c.in-Err-Refused.field-0-is at failures) ∙ before.failures;
      same = c.in_ok-pass_refused-in-Err-Refused.ensures.same_reference ∙ found.same_reference ∙ before.same;
      standing = inl passed.1.standing;
    }
