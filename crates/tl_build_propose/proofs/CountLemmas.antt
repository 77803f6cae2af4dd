-- Walks that are counted, one after the other.
use Rattle.std.proofs.Common.{◌≡◌, ℕ, ◌+◌, ◌*◌, ◌<◌, ◌≤◌, Bool, List, [], length, slice_index, refl, ap, subst, ◌∙◌, inl, inr, arith, Option, Some, None, Result, Ok, Err, suc, sym}
use Rattle.std.specs.Prelude.{IfOk, MatchOption}
use Rattle.std.proofs.lemmas.Bool.{cases_lt}
use Rattle.tl_map_county.specs.TheMap.{MapChain}
use Rattle.tl_tree_index.specs.Keeping.Marked.{mark_at}
use Rattle.tl_tree_index.proofs.Marks.{times-at}
use Rattle.tl_check_planar.specs.Planar.{IsPlanar}
use Rattle.tl_check_faces.specs.Crossings.Headings.{AreProper, HeadApart}
use Rattle.tl_check_faces.proofs.CrossingsLemmas.Apart.{apart}
use Rattle.tl_check_sides.specs.Lists.{and_list, EachList, HoldOnce}
use Rattle.tl_map_county.specs.Darts.{reverse_dart, dart_left}
use Rattle.tl_check_sides.specs.Sides.{IsNext, Follows, SidesAgree}
use Rattle.tl_check_sides.proofs.Boundaries.{back_again}
use Rattle.tl_check_sides.specs.Rounds.{AreRounds}
use Rattle.tl_check_sides.specs.Walks.{AreWalks}
use Rattle.tl_check_sides.specs.Keeping.Marked.{AddMarks}
use Rattle.tl_check_sides.proofs.Ends.{past, hold_once}
use Rattle.tl_check_sides.proofs.ListLemmas.{each-and, length-and}
use Rattle.tl_check_sides.proofs.TakeFacts.{mark_more}
use Rattle.tl_build_propose.specs.Keeping.Following.{IsOneToOne, IsLinkedIn, AreFollowed, GoesBy}
use Rattle.tl_build_propose.specs.Keeping.Lists.{AreUnmarked}
use Rattle.tl_build_propose.specs.Keeping.Siding.{HasOneLeft}
use Rattle.tl_build_propose.specs.Keeping.Counted.{AreCounted, AreTraced, HasTwoLefts, HaveWalksInAgreement}
use Rattle.tl_build_propose.proofs.MarkFacts.{no_lists, some_taken, stay_taken}
use Rattle.tl_build_propose.proofs.RingLemmas.{one_to_one, follows, are_walks}
use Rattle.tl_build_propose.proofs.SideLemmas.{agree}

-- what is taken is one of the darts that have marks
pub walk_within : (old new : List Bool) (walk : List ℕ) → AddMarks old walk new → (k : ℕ) → k < length walk → slice_index walk k < length new
walk_within old new walk m k h = elim (cases_lt (slice_index walk k) (length new)) [
  | inl within ↦ within
  | inr beyond ↦
      let one = times-at walk k h in
      absurd (omega (arith, one, m.marked (slice_index walk k), past new (slice_index walk k) beyond))
]

module _ (chains : List MapChain) (following : List ℕ) where
  -- none is counted yet
  pub none_counted : (taken : List Bool) → length taken ≡ length following → AreUnmarked taken → AreCounted chains following taken 0 0
  none_counted taken long free = record {
    walks = [];
    many = refl;
    few = omega arith;
    marks = no_lists (length following) taken long free;
    before = λ d h. absurd (omega (arith, h));
    some = λ k h. absurd (omega (arith, h));
    followed = λ one_to_one x is. absurd (omega (arith, is, free.each x));
    goes = λ one_to_one k h. absurd (omega (arith, h));
    one = λ k h. absurd (omega (arith, h));
  }

  -- one is counted more
  pub one_counted : (old new : List Bool) (walk : List ℕ) (first count : ℕ) → AreCounted chains following old first count → AddMarks old walk new →
      mark_at old first ≡ 0 → mark_at new first ≡ 1 →
      (IsOneToOne following → AreFollowed following old → GoesBy following walk) → (IsOneToOne following → AreFollowed following old → AreFollowed following new) →
      HasOneLeft chains walk → AreCounted chains following new (first + 1) (count + 1)
  one_counted old new walk first count is added free begun goes followed one =
      let some : 0 < length walk = some_taken old new walk first added free begun in
      record {
        walks = and_list is.walks walk;
        many = omega (arith, is.many, length-and is.walks walk);
        few = omega (arith, is.few);
        marks = mark_more (length following) is.walks old walk new is.marks added;
        before = λ d h. elim (cases_lt d first) [
          | inl earlier ↦ stay_taken old new walk d added (is.before d earlier)
          | inr last ↦ ap (mark_at new) (omega (arith, h, last)) ∙ begun
        ];
        some = each-and (λ w. 0 < length w) is.walks walk is.some some;
        followed = λ one_to_one. followed one_to_one (is.followed one_to_one);
        goes = λ one_to_one. each-and (GoesBy following) is.walks walk (is.goes one_to_one) (goes one_to_one (is.followed one_to_one));
        one = each-and (HasOneLeft chains) is.walks walk is.one one;
      }

  -- all are
  pub all_counted : (taken : List Bool) (first count : ℕ) → AreCounted chains following taken first count → length following ≤ first → AreTraced chains following count
  all_counted taken first count is whole = record {
    walks = is.walks;
    many = is.many;
    hold = hold_once (length following) is.walks taken is.marks (λ d h. is.before d (omega (arith, h, whole, is.marks.long)));
    some = is.some;
    goes = is.goes;
    one = is.one;
  }

module _ (chains : List MapChain) where
  -- where sides agree about each walk, and walks go by what follows each dart about the nodes
  in_agreement : (following : List ℕ) (rounds : List (List ℕ)) → length following ≡ 2 * length chains → EachList (IsLinkedIn following) rounds →
      HoldOnce (2 * length chains) rounds → AreProper chains → HeadApart chains → AreRounds chains rounds → (count : ℕ) → AreTraced chains following count →
      HaveWalksInAgreement chains count
  in_agreement following rounds long linked hold proper heads are count is =
      let only : IsOneToOne following = one_to_one (length chains) rounds following hold long linked in
      let walks : AreWalks chains is.walks = are_walks chains proper rounds are following long linked is.walks (subst (λ n. HoldOnce n is.walks) long is.hold) is.some (is.goes only) in
      record { walks = is.walks; are = walks; many = is.many; agree = agree chains heads is.walks walks is.one }

  -- where a walk changes its side, sides don't agree
  changed : (following : List ℕ) (rounds : List (List ℕ)) → length following ≡ 2 * length chains → EachList (IsLinkedIn following) rounds →
      HoldOnce (2 * length chains) rounds → AreProper chains → AreRounds chains rounds → HasTwoLefts chains following → SidesAgree chains → ⊥
  changed following rounds long linked hold proper are is sides =
      let only : IsOneToOne following = one_to_one (length chains) rounds following hold long linked in
      let d = slice_index is.walk is.changes.place in
      let e = slice_index is.walk (suc is.changes.place) in
      let leads : e ≡ slice_index following d = is.goes only (suc is.changes.place) is.changes.within in
      let place : is.changes.place < length is.walk = omega (arith, is.changes.within) in
      let led : Follows chains d (slice_index following d) = follows chains proper rounds are following long linked d (is.darts is.changes.place place) in
      let next : IsNext chains e (reverse_dart d) = subst (λ x. IsNext chains x (reverse_dart d)) (sym leads) led.next in
      is.changes.two (sides e (reverse_dart d) next ∙ ap (dart_left chains) (back_again d))

  pub told_of : (following : List ℕ) (rounds : List (List ℕ)) → length following ≡ 2 * length chains → EachList (IsLinkedIn following) rounds →
      HoldOnce (2 * length chains) rounds → (HeadApart chains → AreRounds chains rounds) → {E : Type 0} (told : Result (Option ℕ) E) →
      IfOk told (λ t. MatchOption t (HasTwoLefts chains following) (AreTraced chains following)) →
      IfOk told (λ t. AreProper chains → HeadApart chains → MatchOption t (¬ SidesAgree chains) (HaveWalksInAgreement chains))
  told_of following rounds long linked hold are (Ok (Some count)) is = λ proper heads. in_agreement following rounds long linked hold proper heads (are heads) count is
  told_of following rounds long linked hold are (Ok None) is = λ proper heads. changed following rounds long linked hold proper (are heads) is
  told_of following rounds long linked hold are (Err refused) is = tt

  pub where_planar : {E : Type 0} (told : Result (Option ℕ) E) →
      IfOk told (λ t. AreProper chains → HeadApart chains → MatchOption t (¬ SidesAgree chains) (HaveWalksInAgreement chains)) →
      IfOk told (λ t. AreProper chains → IsPlanar chains → MatchOption t (¬ SidesAgree chains) (HaveWalksInAgreement chains))
  where_planar (Ok told) is = λ proper planar. is proper (apart chains planar proper)
  where_planar (Err refused) is = tt
