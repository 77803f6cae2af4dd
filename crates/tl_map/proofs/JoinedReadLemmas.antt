-- Records that come, joined where that is asked.
use Rattle.std.proofs.Common.{◌≡◌, ℕ, ◌+◌, ◌<◌, ◌≤◌, Bool, true, false, List, [], ◌∷◌, ◌++◌, length, take, get_or, Option, Some, None, refl, ap, ◌∙◌, add-one}
use Rattle.std.proofs.Math.Seq.{take-suc}
use Rattle.std.proofs.lemmas.List.{take_all}
use Rattle.tl_map.specs.Keeping.Areas.{KeepsAreas}
use Rattle.tl_map.specs.Keeping.Collected.{Collects}
use Rattle.std.specs.Prelude.{IfOk, IfErr, Result, Ok, Err}
use Rattle.std.specs.Option.{option_map}
use Rattle.tl_record.specs.declared.record.Record.{Record}
use Rattle.tl_record.specs.declared.options.Options.{Options}
use Rattle.tl_record.specs.Layout.{layout_with}
use Rattle.tl_record.specs.Records.{Records, lines_read, joined_where}
use Rattle.tl_map_rules.specs.declared.fault.MapStop.{MapStop}
use Rattle.tl_map_rules.specs.declared.fault.MapStop.TheVariants.{Refused, Device, Memory, Fault, NoRecords}
use Rattle.tl_map.specs.Joined.Told.{joined_records}
use Rattle.tl_map.proofs.JoinedLemmas.JoinLemmas.{records_joined}
use Rattle.tl_map.specs.declared.areas.AreaRecords.{AreaRecords}
use Rattle.tl_map.specs.declared.collect.Collected.{Collected}
use Rattle.tl_map.specs.declared.joined.told.ToldRecords.{ToldRecords}
use Rattle.tl_map.specs.Joined.Told.{HasTold}
use Rattle.tl_map.specs.Keeping.Gathering.{Gathers, GathersAll, GathersTold, CollectsAll, StopsGathering}
use Rattle.tl_map.proofs.ReadLemmas.{AreAll}

-- the records of a text, before more is asked of them
abbrev pub plain_records : Options → List ℕ → Records
plain_records options bytes = joined_where options.join (lines_read (layout_with options) bytes)

-- what comes of a text, joined, are they
pub of_text : (options : Options) (text : Option (List ℕ)) (came : Option Records) → came ≡ option_map (lines_read (layout_with options)) text
    → option_map (joined_where options.join) came ≡ option_map (plain_records options) text
of_text options None came is = rw is refl
of_text options (Some bytes) came is = rw is refl

-- where nothing is joined, the records are those that came
pub all_plain : (came : Option Records) (skipped : ℕ) (rs : List Record) (joins : Bool) → joins ≡ false → AreAll came skipped rs → AreAll (option_map (joined_where joins) came) skipped rs
all_plain None skipped rs joins plain known = tt
all_plain (Some all) skipped rs joins plain known = rw plain known

-- and else they are those joined
pub all_joined : (came : Option Records) (skipped : ℕ) (rs : List Record) (joins : Bool) → joins ≡ true → AreAll came skipped rs
    → AreAll (option_map (joined_where joins) came) skipped (joined_records rs)
all_joined None skipped rs joins join known = tt
all_joined (Some all) skipped rs joins join known = rw join (records_joined all.entries ∙ ap joined_records known.0, known.1, known.2)

-- and a line that is refused is the same
pub stops_joined : (came : Option Records) (joins : Bool) (stop : MapStop) → StopsGathering came stop → StopsGathering (option_map (joined_where joins) came) stop
stops_joined came joins Device why = tt
stops_joined came joins Memory why = tt
stops_joined None joins (Refused line cause) why = tt
stops_joined (Some all) joins (Refused line cause) why = why
stops_joined came joins (Fault fault) why = absurd why
stops_joined came joins (NoRecords lacking) why = absurd why

pub stops_by : {T : Type 0} (came : Option Records) (joins : Bool) (r : Result T MapStop) → IfErr r (StopsGathering came) → IfErr r (StopsGathering (option_map (joined_where joins) came))
stops_by came joins (Ok made) why = tt
stops_by came joins (Err stop) why = stops_joined came joins stop why

-- what is collected of records that aren't joined
pub chains_plain : (came : Option Records) (skipped : ℕ) (joins : Bool) (r : Result Collected MapStop) → joins ≡ false → IfOk r (Gathers came skipped)
    → IfOk r (Gathers (option_map (joined_where joins) came) skipped)
chains_plain came skipped joins (Ok c) plain all = record { records = all.records; kept = all.kept; known = all_plain came skipped all.records joins plain all.known }
chains_plain came skipped joins (Err stop) plain all = tt

pub areas_plain : (came : Option Records) (skipped : ℕ) (joins : Bool) (r : Result (Collected × AreaRecords) MapStop) → joins ≡ false
    → IfOk r (λ made. GathersAll came skipped made.0 made.1) → IfOk r (λ made. GathersAll (option_map (joined_where joins) came) skipped made.0 made.1)
areas_plain came skipped joins (Ok made) plain all = record {
  records = all.records;
  kept = all.kept;
  areas = all.areas;
  known = all_plain came skipped all.records joins plain all.known;
}
areas_plain came skipped joins (Err stop) plain all = tt

-- and of records that are
pub told_joined : (came : Option Records) (skipped : ℕ) (joins : Bool) (told : ToldRecords) (made : Collected × AreaRecords) → joins ≡ true → GathersTold came skipped told
    → ((rs : List Record) → HasTold rs told → CollectsAll (joined_records rs) made) → GathersAll (option_map (joined_where joins) came) skipped made.0 made.1
told_joined came skipped joins told made join all collects =
    let are = collects all.records all.kept in
    record { records = joined_records all.records; kept = are.kept; areas = are.areas; known = all_joined came skipped all.records joins join all.known }

-- the chains alone
pub chains_of_all : (came : Option Records) (skipped : ℕ) (c : Collected) (a : AreaRecords) → GathersAll came skipped c a → Gathers came skipped c
chains_of_all came skipped c a all = record { records = all.records; kept = all.kept; known = all.known }

-- one more is collected
pub collects_next : (items : List Record) (i : ℕ) (d : Record) (c e : Collected) (a b : AreaRecords) → i < length items
    → ((rs : List Record) → Collects rs c → Collects (rs ++ get_or items i d ∷ []) e) → ((rs : List Record) → KeepsAreas rs a → KeepsAreas (rs ++ get_or items i d ∷ []) b)
    → CollectsAll (take i items) (c, a) → CollectsAll (take (i + 1) items) (e, b)
collects_next items i d c e a b within chains areas all = rw (add-one, take-suc items i d within) (record {
  kept = chains (take i items) all.kept;
  areas = areas (take i items) all.areas;
})

-- and all are
pub collects_whole : (items joined : List Record) (i : ℕ) (made : Collected × AreaRecords) → items ≡ joined → length items ≤ i → CollectsAll (take i items) made → CollectsAll joined made
collects_whole items joined i made same past all = rw (← same) (rw (take_all i items past) at all)
