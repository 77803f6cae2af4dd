-- What one more answer of a reader adds to the records that are kept.
use Rattle.std.proofs.Common.{◌≡◌, ℕ, Bool, true, false, ◌≤◌, List, [], ◌∷◌, ◌++◌, Option, Some, None, ap, ◌∙◌}
use Rattle.std.specs.Prelude.{Ok, Err, IfSome}
use Rattle.tl_record.specs.declared.record.Record.{Record}
use Rattle.tl_record.specs.declared.stop.Cause.{Cause}
use Rattle.tl_record.specs.Records.{Records}
use Rattle.tl_record.specs.declared.stop.ReadStop.TheVariants.{Refused}
use Rattle.tl_record.specs.Limits.{most_lines}
use Rattle.tl_record.specs.Reader.{Gives, KeepsRecords}
use Rattle.tl_record.specs.Leaving.{GivesLeft}
use Rattle.tl_map_rules.specs.Reading.{records_in}
use Rattle.std.specs.Option.{option_map}
use Rattle.tl_record.specs.Records.{joined_where}
use Rattle.tl_map.specs.Joined.Told.{joined_records}
use Rattle.tl_map.proofs.JoinedLemmas.JoinLemmas.{records_joined}
use Rattle.tl_map.proofs.GatherLemmas.{so_far_first, so_far_more, known_whole}
use Rattle.tl_map.specs.declared.collected.CollectedRecords.{CollectedRecords}
use Rattle.tl_map.specs.Collecting.{HasCollected}
use Rattle.tl_list.specs.declared.reading.Taken.{Taken}
use Rattle.tl_list.specs.Keeping.Reading.{Takes, joined_if, TakesSoFar, IsSoFar, TakesAll, KeepsAll, AreWhole}

pub keeps_none : (joins : Bool) (at_first : Option Records) (taken : Taken) → Takes joins [] taken → TakesSoFar joins at_first at_first taken
keeps_none joins at_first taken keeps = record { records = []; keeps = keeps; known = so_far_first at_first }

pub keeps_more : (joins : Bool) (at_first now new : Option Records) (skipped line : ℕ) (r : Record) (a b : Taken) → Gives now new skipped (Ok (Some (line, r)))
    → ((joins : Bool) (rs : List Record) → Takes joins rs a → Takes joins (rs ++ r ∷ []) b) → TakesSoFar joins at_first now a → TakesSoFar joins at_first new b
keeps_more joins at_first now new skipped line r a b gives adds before = record {
  records = before.records ++ r ∷ [];
  keeps = adds joins before.records before.keeps;
  known = so_far_more at_first now new skipped line r before.records gives before.known;
}

-- an entry of what is left, or its end
pub left_gives : (old new : Option Records) (skipped : ℕ) (entry : Option (ℕ × Record)) → GivesLeft old new skipped (Ok entry) → Gives old new skipped (Ok entry)
left_gives None new skipped entry gives = tt
left_gives (Some all) new skipped None gives = gives
left_gives (Some all) new skipped (Some entry) gives = gives

-- a refused line that is passed over takes nothing of what is left
pub keeps_passed : (joins : Bool) (at_first now mid new : Option Records) (skipped line : ℕ) (cause : Cause) (taken : Taken)
    → GivesLeft now mid skipped (Err (Refused line cause)) → line ≤ most_lines → KeepsRecords mid new → TakesSoFar joins at_first now taken → TakesSoFar joins at_first new taken
keeps_passed joins at_first now mid new skipped line cause taken gives few keeps before = record {
  records = before.records;
  keeps = before.keeps;
  known = go at_first before.known;
}
  where
    stays : (now : Option Records) → GivesLeft now mid skipped (Err (Refused line cause)) → (rest : Records) → now ≡ Some rest → new ≡ Some rest
    stays None gives rest is = absurd (cc)
    stays (Some all) gives rest is = let kept : new ≡ Some all = rw (gives few) at keeps in kept ∙ is

    go : (first : Option Records) → IsSoFar first now before.records → IsSoFar first new before.records
    go None known = tt
    go (Some all) known = (known.0, stays now gives known.0 known.1, known.2, known.3, known.4)

whole : (at_first : Option Records) (rs : List Record) (skipped : ℕ) → IfSome at_first
    (λ all. (records_in all ≡ rs) × (all.refusal ≡ None) × (all.skipped ≡ skipped)) → IfSome at_first (λ all. AreWhole all skipped rs)
whole None rs skipped known = tt
whole (Some all) rs skipped known = record { records_are = known.0; no_refusal = known.1; skipped_lines = known.2 }

pub keeps_all : (joins : Bool) (at_first now new : Option Records) (skipped : ℕ) (taken : Taken) → Gives now new skipped (Ok None)
    → TakesSoFar joins at_first now taken → TakesAll joins at_first skipped taken
keeps_all joins at_first now new skipped taken gives so_far = record {
  records = so_far.records;
  keeps = so_far.keeps;
  known = whole at_first so_far.records skipped (known_whole at_first now new skipped so_far.records gives so_far.known);
}

-- what was taken is kept, joined where that is asked
pub keeps_taken : (joins : Bool) (came : Option Records) (skipped : ℕ) (taken : Taken) (held : CollectedRecords) → ((joins : Bool) (rs : List Record) → Takes joins rs taken → HasCollected (joined_if joins rs) held)
    → TakesAll joins came skipped taken → KeepsAll (option_map (joined_where joins) came) skipped held
keeps_taken joins came skipped taken held keep all = record {
  records = joined_if joins all.records;
  keeps = keep joins all.records all.keeps;
  known = go joins came all.known;
}
  where
    go : (joins : Bool) (came : Option Records) → IfSome came (λ every. AreWhole every skipped all.records) → IfSome (option_map (joined_where joins) came) (λ every. AreWhole every skipped (joined_if joins all.records))
    go joins None known = tt
    go false (Some every) known = record { records_are = known.records_are; no_refusal = known.no_refusal; skipped_lines = known.skipped_lines }
    go true (Some every) known = record { records_are = records_joined every.entries ∙ ap joined_records known.records_are; no_refusal = known.no_refusal; skipped_lines = known.skipped_lines }
