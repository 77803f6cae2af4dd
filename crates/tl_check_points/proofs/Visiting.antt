-- What a sweep keeps on its way.
use Rattle.std.proofs.Common.{◌≡◌, inl, inr, ℕ, Bool, true, false, IsTrue, Result, Ok, Err, IfOk, List, [], ◌++◌, length, All, refl, sym, subst, arith}
use Rattle.std.proofs.lemmas.Bool.{cases_lt}
use Rattle.std.proofs.lemmas.List.Sums.{sum_by-take-le}
use Rattle.std.proofs.lemmas.List.Elements.{All-weaker, All-nil}
use Rattle.tl_map_county.specs.TheMap.{TheMap, MapChain}
use Rattle.tl_map_county.specs.Segments.{segments_before}
use Rattle.tl_check_active.proofs.Bits.{bit}
use Rattle.tl_check_active.specs.declared.events.Event.{Event}
use Rattle.tl_check_active.specs.declared.passing.BothSides.{BothSides}
use Rattle.tl_check_active.specs.Blocks.Lined.{TheLine, list_of}
use Rattle.tl_check_active.specs.Events.{AreEvents, AreEventsRising, begins_at, before, joined}
use Rattle.tl_check_active.specs.Gathered.{AreGathered}
use Rattle.tl_check_active.specs.Passed.{HasPassed}
use Rattle.tl_check_active.specs.Ranges.{AreInRange}
use Rattle.tl_check_active.proofs.Passed.{moved}
use Rattle.tl_check_inside.specs.declared.strips.Site.{Site}
use Rattle.tl_check_gaps.specs.Keeping.Facing.{raised}
use Rattle.tl_check_gaps.specs.Keeping.Swept.{IsSwept}
use Rattle.tl_check_gaps.proofs.Gone.{gone_on}
use Rattle.tl_check_gaps.proofs.Slab.{begins}
use Rattle.tl_check_points.specs.declared.labels.Gap.{Gap}
use Rattle.tl_check_points.specs.declared.visits.Visit.{Visit}
use Rattle.tl_check_points.specs.Keeping.Ways.{AreKept}
use Rattle.tl_check_points.specs.Keeping.Labels.{AreLabelled, IsOnce}
use Rattle.tl_check_points.specs.Keeping.Visits.{IsVisit}
use Rattle.tl_check_points.specs.Keeping.UnderWay.{AreVisits, IsUnderWay}
use Rattle.tl_check_points.specs.declared.sweeping.Visited.{Visited}

-- each segment begins once, so none is active twice
once_swept : (chains : List MapChain) (events : List Event) (from : ℕ) (list : List ℕ) → AreEvents chains events → IsSwept chains events from list → IsOnce list
once_swept chains events from list are swept s =
    let sum = swept.counted s in
    let part = sum_by-take-le (λ (e : Event). bit (begins_at s e)) events from in
    elim (cases_lt s (segments_before chains (length chains))) [
      | inl lt ↦ let one = are.begun s lt in omega (arith, sum, part, one)
      | inr le ↦ let none = (are.no_more s le).0 in omega (arith, sum, part, none)
    ]

module _ (n : ℕ) (chains : List MapChain) (sites : List Site) where
  no_visits : (gaps : List Gap) (visits : List Visit) → visits ≡ [] → All (IsVisit n chains sites gaps) visits
  no_visits gaps visits none = subst (All (IsVisit n chains sites gaps)) (sym none) (All-nil (IsVisit n chains sites gaps))

  visits_kept : (old new : List Gap) (visits : List Visit) → AreKept n old new → All (IsVisit n chains sites old) visits → All (IsVisit n chains sites new) visits
  visits_kept old new visits kept all =
      All-weaker (IsVisit n chains sites old) (IsVisit n chains sites new)
      (λ visit v. record { site = v.site; is = v.is; off = v.off; way = v.way; is_way = kept visit.gap v.way v.is_way; tell = v.tell }) visits all

-- what is so whether all is passed or not
pub either : {A : Type 0} (done : Bool) → (IsTrue done → A) → (done ≡ false → A) → A
either true passed stopped = passed refl
either false passed stopped = stopped refl

-- an answer of which two facts are known
pub ok_both : {A E : Type 0} (answered : Result A E) (P Q R : A → Type 0) → ((answer : A) → P answer → Q answer → R answer) → IfOk answered P →
    IfOk answered Q → IfOk answered R
ok_both (Ok answer) P Q R f p q = f answer p q
ok_both (Err error) P Q R f p q = tt

pub sets_out : (sites : List Site) (notes : Visited) (m : TheMap) (groups : List (List Event)) → AreEvents m.chains (joined groups) →
    AreEventsRising (joined groups) → AreInRange m.chains → notes.visits.items ≡ [] → IsUnderWay sites notes m groups 0 []
sets_out sites notes m groups are rising ranges none = record {
  are = are;
  rising = rising;
  ranges = ranges;
  swept = begins m.chains (joined groups) [] are refl;
  labelled = tt;
  visits = no_visits (length m.polygons) m.chains sites notes.labels.gaps.items notes.visits.items none;
}

pub visits_stay : (sites : List Site) (m : TheMap) (old new : Visited) → AreKept (length m.polygons) old.labels.gaps.items new.labels.gaps.items →
    new.visits.items ≡ old.visits.items → AreVisits sites old m → AreVisits sites new m
visits_stay sites m old new kept same visits =
    subst (All (IsVisit (length m.polygons) m.chains sites new.labels.gaps.items)) (sym same)
    (visits_kept (length m.polygons) m.chains sites old.labels.gaps.items new.labels.gaps.items old.visits.items kept visits)

-- at a vertex that is passed gaps stay, and where segments that stand in the stead of others are labelled, all are
module _ (sites : List Site) (m : TheMap) (groups : List (List Event)) (from to : ℕ) (list : List ℕ) (line : TheLine) (outs outs' ins ins' : List ℕ)
    (both : BothSides) (old new : Visited) (under : IsUnderWay sites old m groups from list) (gathered : AreGathered groups from to outs ins)
    (passed : HasPassed m.chains list line outs outs' ins ins' both)
    (kept : AreKept (length m.polygons) old.labels.gaps.items new.labels.gaps.items) (same : new.visits.items ≡ old.visits.items) where
  further : IsSwept m.chains (joined groups) (before to groups) (list_of line)
  further =
      gone_on m.chains groups from to list (list_of line) outs ins under.are under.rising under.swept gathered
      (moved m.chains list line outs outs' ins ins' both passed) (passed.tested under.swept.tested)

  pub goes_on : ((west : List ℕ) → line.front ≡ west ++ ins' → IsOnce (list_of line) →
      AreLabelled (length m.polygons) (raised m.chains) old.labels.gaps.items old.labels.labels.items (west ++ (outs' ++ line.back)) →
      AreLabelled (length m.polygons) (raised m.chains) new.labels.gaps.items new.labels.labels.items (list_of line)) →
      IsUnderWay sites new m groups to (list_of line)
  goes_on labelled = record {
    are = under.are;
    rising = under.rising;
    ranges = under.ranges;
    swept = further;
    labelled = labelled passed.west passed.is (once_swept m.chains (joined groups) (before to groups) (list_of line) under.are further)
        (subst (AreLabelled (length m.polygons) (raised m.chains) old.labels.gaps.items old.labels.labels.items) passed.was under.labelled);
    visits = visits_stay sites m old new kept same under.visits;
  }
