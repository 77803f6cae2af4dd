use Rattle.std.proofs.Common.{◌≡◌, ℕ, Bool, inl, inr, List, [], ◌∷◌, length, get_or, Contains, refl, sym, subst, ◌∙◌, arith}
use Rattle.std.proofs.lemmas.Bool.{cases_Bool, true≢false}
use Rattle.std.specs.Bool.{Decides}
use Rattle.std.specs.List.Sorted.{IsNonDecreasing}
use Rattle.tl_record.specs.declared.record.Record.{Record}
use Rattle.tl_map_rules.specs.declared.fault.RecordFault.{RecordFault}
use Rattle.tl_map_rules.specs.declared.fault.RecordFault.TheVariants as fault
use Rattle.tl_map_rules.specs.ChainsOf.{shape_count}
use Rattle.tl_map_rules.specs.Faults.{IsTrueOf, AreJoined, IsFaultOfChains}
use Rattle.tl_map_rules.specs.declared.listing.numbers.Numbered.TheVariants.{DuplicateChain, ShapeWithoutChain}
use Rattle.tl_map_rules.specs.declared.listing.shape.ShapeSummary.{ShapeSummary}
use Rattle.tl_map_rules.specs.Listing.AllFaults.{fault_place}
use Rattle.tl_map_rules.specs.Listing.Keeping.Told.{Tells, AreTold, AreChainsTold}
use Rattle.tl_map_rules.specs.Listing.Keeping.Numbers.{fault_of, StandsNext, IsMissing, StandAsOften, chains_with}
use Rattle.tl_map_rules.specs.Listing.Keeping.Runs.{AreShapes, IsRunFault, run_of, in_sequence}
use Rattle.tl_map_rules.proofs.ListingLemmas.ToldLemmas.{told_none, told_of, tells_nothing}
use Rattle.tl_map_rules.proofs.ListingLemmas.CountedLemmas.{number_stands, number_counted}
use Rattle.tl_map_rules.proofs.ListingLemmas.TlidLemmas.{absent, next_counted, told_duplicate_chains, told_stray_shapes}
use Rattle.tl_map_rules.proofs.ListingLemmas.RunLemmas.{nothing}
use Rattle.tl_map_rules.proofs.ListingLemmas.ShapeLemmas.{run_true, told_shapes, numbered_run, run_numbered}

-- of records that are joined no fault of chains and shapes is told, and of others one is
pub told_chains : (rs : List Record) (chains tlids : List ℕ) (shapes : List ShapeSummary) (one two all : List RecordFault) (joined : Bool) → IsNonDecreasing chains → StandAsOften (chains_with rs) chains → StandAsOften (shape_count rs) tlids → AreShapes rs shapes → Tells (StandsNext (fault_of DuplicateChain) chains (length chains)) [] one → Tells (IsMissing (fault_of ShapeWithoutChain) (λ n. n) tlids chains) one two → Tells (IsRunFault shapes (length shapes)) two all → Decides joined (all ≡ []) → AreChainsTold rs joined all
told_chains rs chains tlids shapes one two all joined order often shape_often are first second third empty =
    let told : AreTold rs (4 ∷ 3 ∷ 2 ∷ 1 ∷ []) all =
    told_shapes rs (2 ∷ 1 ∷ []) shapes two all are third
    (told_stray_shapes rs (1 ∷ []) tlids chains one two shape_often often second (told_duplicate_chains rs [] chains [] one order often first (told_none rs))) in
    record {
      told = told;
      of_chains =
          told_of IsFaultOfChains (IsRunFault shapes (length shapes)) two all
          (told_of IsFaultOfChains (IsMissing (fault_of ShapeWithoutChain) (λ (n : ℕ). n) tlids chains) one two
          (told_of IsFaultOfChains (StandsNext (fault_of DuplicateChain) chains (length chains)) [] one (λ k d lt. absurd (omega arith)) (λ f s. subst IsFaultOfChains (sym s.is) tt) first)
          (λ f m. subst IsFaultOfChains (sym m.is) tt) second)
          (λ f r. elim (run_true rs shapes (get_or shapes r.place nothing).tlid f are (r.is nothing)) [ inl w ↦ subst IsFaultOfChains (sym w.0) tt | inr w ↦ subst IsFaultOfChains (sym w.0) tt ]) third;
      are_joined = (
        λ e. go told (empty.0 e),
        λ join. empty.1 (tells_nothing (IsRunFault shapes (length shapes)) two all third
            (tells_nothing (IsMissing (fault_of ShapeWithoutChain) (λ (n : ℕ). n) tlids chains) one two second
            (tells_nothing (StandsNext (fault_of DuplicateChain) chains (length chains)) [] one first refl (λ f s. join.once s.item (next_counted DuplicateChain (chains_with rs) chains f often s)))
            (λ f m. join.no_stray m.item (number_counted (shape_count rs) tlids m.item shape_often m.among, absent (chains_with rs m.item) (λ some. m.unknown (number_stands (chains_with rs) chains m.item often some)))))
            (λ f r. elim (run_true rs shapes (get_or shapes r.place nothing).tlid f are (r.is nothing)) [ inl w ↦ w.1 (join.numbered (get_or shapes r.place nothing).tlid) | inr w ↦ join.no_gap (get_or shapes r.place nothing).tlid w.1 ])),
      );
    }
  where
    never : AreTold rs (4 ∷ 3 ∷ 2 ∷ 1 ∷ []) all → all ≡ [] → (f : RecordFault) → IsTrueOf rs f → Contains (4 ∷ 3 ∷ 2 ∷ 1 ∷ []) (fault_place f).0 → ⊥
    never told none f holds among = let has = rw none at (told.every f holds among) in omega (arith, has.1)

    go : AreTold rs (4 ∷ 3 ∷ 2 ∷ 1 ∷ []) all → all ≡ [] → AreJoined rs
    go told none = record {
      once = λ t h. never told none (fault.DuplicateChain t) h (3, omega arith, refl);
      no_stray = λ t h. never told none (fault.ShapeWithoutChain t) h (2, omega arith, refl);
      numbered = λ t. elim (cases_Bool (in_sequence (run_of shapes t))) [
        | inl up ↦ run_numbered rs shapes t are up
        | inr off ↦ absurd (never told none (fault.ShapeSequence t) (λ numbered. true≢false (sym (numbered_run rs shapes t are numbered) ∙ off)) (1, omega arith, refl))
      ];
      no_gap = λ t h. never told none (fault.ShapeGap t) h (0, omega arith, refl);
    }
