-- Walks that are taken.
use Rattle.std.proofs.Common.{◌≡◌, ℕ, List, [], ◌∷◌, refl, ◌∙◌, append_assoc}
use Rattle.tl_map_county.specs.TheMap.{TheMap}
use Rattle.tl_check_sides.specs.Lists.{and_list}
use Rattle.tl_check_sides.specs.declared.walks.Walks.{Walks}
use Rattle.tl_check_sides.specs.Keeping.Walked.{AreReady, HaveWalked}
use Rattle.tl_check_inside.specs.Placed.{ArePlaced}
use Rattle.tl_cert.specs.Certificates.{TheCertificate}
use Rattle.tl_check.specs.declared.state.State.{State}
use Rattle.tl_check.specs.declared.state.State.TheVariants as state
use Rattle.tl_check.specs.declared.search.LeftOpen.{LeftOpen}
use Rattle.tl_check.specs.Keeping.Parts.{Continues, TakesWalks, AreWalksSoFar, IsLed, IsWalked, IsShown, with_walk}

-- one walk more
pub walk_laid : (m : TheMap) (c : TheCertificate) (walk : List ℕ) (old new : Walks) (left : LeftOpen) → AreReady m.chains new → HaveWalked m.chains (and_list c.walks walk) new
    → AreWalksSoFar m c old left → AreWalksSoFar m (with_walk c walk) new left
walk_laid m c walk old new left ready have so = record {
  founded = record { counts = so.founded.counts; tree = so.founded.tree; planar = so.founded.planar; cells = so.founded.cells };
  rounds = so.rounds;
  sides = so.sides;
  ready = ready;
  walked = have;
  no_more = so.no_more;
}

-- what was walked is shown, with points that are placed
pub shown_by : (m : TheMap) (c : TheCertificate) (count : ℕ) (left : LeftOpen) → IsWalked m c count left → ArePlaced m → IsShown m c count
shown_by m c count left w placed = record {
  valid = w.valid;
  planar = w.planar;
  sides = w.sides;
  points = placed;
  cells = w.cells;
  counted = w.counted;
}

-- a walk that is taken where the rounds have ended
pub led_on : (m : TheMap) (walk : List ℕ) (old ended next : State) → IsLed m (λ c. c) TakesWalks old ended → IsLed m (λ c. with_walk c walk) TakesWalks ended next
    → IsLed m (λ c. with_walk c walk) TakesWalks old next
led_on m walk old ended next led on = record {
  holds = λ c held. on.holds c (led.holds c held);
  takes = on.takes;
  searched = λ n searched. on.searched n (led.searched n searched);
  behind = λ behind. on.behind (led.behind behind);
}

-- what goes on behind one walk more goes on before it
goes_on_before : (c d : TheCertificate) (walk : List ℕ) → Continues (with_walk c walk) d → Continues c d
goes_on_before c d walk on = record {
  counts = on.counts;
  tree = on.tree;
  more_rounds = on.more_rounds;
  rounds = on.rounds;
  more_walks = walk ∷ on.more_walks;
  walks = on.walks ∙ append_assoc c.walks (walk ∷ []) on.more_walks;
}

-- a walk that is passed over, since the parts before it are wrong
pub walk_passed : (m : TheMap) (walk : List ℕ) (s : State) → TakesWalks s → ((walks : Walks) (left : LeftOpen) → s ≡ state.Walking walks left → ⊥) → IsLed m (λ c. with_walk c walk) TakesWalks s s
walk_passed m walk (state.Rounding rounds left) takes ne = absurd takes
walk_passed m walk (state.Walking walks left) takes ne = absurd (ne walks left refl)
walk_passed m walk (state.Unrounded fault) takes ne = record {
  holds = λ c held. held;
  takes = takes;
  searched = λ n searched. searched;
  behind = λ behind. behind;
}
walk_passed m walk (state.Wrong fault) takes ne = record {
  holds = λ c held d on. held d (goes_on_before c d walk on);
  takes = takes;
  searched = λ n searched. searched;
  behind = λ behind. behind;
}
