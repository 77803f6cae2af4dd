-- Rounds that have no fault so far.
use Rattle.std.proofs.Common.{◌≡◌, ℕ, List, [], ◌∷◌, ◌∙◌, refl, append_assoc}
use Rattle.tl_check_sides.specs.Lists.{and_list}
use Rattle.tl_check_sides.specs.Keeping.Rounded.{AreSized, HaveTaken}
use Rattle.tl_map_county.specs.TheMap.{TheMap}
use Rattle.tl_check_sides.specs.declared.rounds.Rounds.{Rounds}
use Rattle.tl_cert.specs.Certificates.{TheCertificate}
use Rattle.tl_check.specs.declared.search.LeftOpen.{LeftOpen}
use Rattle.tl_check.specs.declared.state.State.{State}
use Rattle.tl_check.specs.declared.state.State.TheVariants as state
use Rattle.tl_check.specs.Keeping.Parts.{Continues, AreRoundsSoFar, IsLed, TakesRounds, TakesWalks, with_round}

-- one round more
pub round_laid : (m : TheMap) (c : TheCertificate) (round : List ℕ) (old new : Rounds) (left : LeftOpen) → AreSized m.chains new → HaveTaken m.chains (and_list c.rounds round) new
    → AreRoundsSoFar m c old left → AreRoundsSoFar m (with_round c round) new left
round_laid m c round old new left sized have so = record {
  founded = record { counts = so.founded.counts; tree = so.founded.tree; planar = so.founded.planar; cells = so.founded.cells };
  no_walks = so.no_walks;
  sized = sized;
  taken = have;
  no_more = so.no_more;
}

-- what goes on behind one round more goes on before it
goes_on_before : (c d : TheCertificate) (round : List ℕ) → Continues (with_round c round) d → Continues c d
goes_on_before c d round on = record {
  counts = on.counts;
  tree = on.tree;
  more_rounds = round ∷ on.more_rounds;
  rounds = on.rounds ∙ append_assoc c.rounds (round ∷ []) on.more_rounds;
  more_walks = on.more_walks;
  walks = on.walks;
}

-- a round that is passed over, since the parts before it are wrong
pub round_passed : (m : TheMap) (round : List ℕ) (s : State) → TakesRounds s → ((rounds : Rounds) (left : LeftOpen) → s ≡ state.Rounding rounds left → ⊥) → IsLed m (λ c. with_round c round) TakesRounds s s
round_passed m round (state.Rounding rounds left) takes ne = absurd (ne rounds left refl)
round_passed m round (state.Walking walks left) takes ne = absurd takes
round_passed m round (state.Unrounded fault) takes ne = absurd takes
round_passed m round (state.Wrong fault) takes ne = record {
  holds = λ c held d on. held d (goes_on_before c d round on);
  takes = takes;
  searched = λ n searched. searched;
  behind = λ behind. behind;
}

-- rounds that have ended already, or are wrong
kept : (m : TheMap) (s : State) → TakesWalks s → IsLed m (λ c. c) TakesWalks s s
kept m s takes = record { holds = λ c held. held; takes = takes; searched = λ n searched. searched; behind = λ behind. behind }

pub ended_before : (m : TheMap) (s : State) → ((rounds : Rounds) (left : LeftOpen) → s ≡ state.Rounding rounds left → ⊥) → IsLed m (λ c. c) TakesWalks s s
ended_before m (state.Rounding rounds left) ne = absurd (ne rounds left refl)
ended_before m (state.Walking walks left) ne = kept m (state.Walking walks left) tt
ended_before m (state.Unrounded fault) ne = kept m (state.Unrounded fault) tt
ended_before m (state.Wrong fault) ne = kept m (state.Wrong fault) tt
