use Rattle.std.proofs.Common.{◌≡◌, ℕ, ◌⊎◌, inl, inr, Option, Some, None, List, [], ◌∷◌, ◌++◌, refl, sym, ap, ◌∙◌}
use Rattle.std.specs.Prelude.{Ok, Err, IfSome}
use Rattle.std.proofs.lemmas.List.{append-nil, append_assoc}
use Rattle.tl_record.specs.declared.record.Record.{Record}
use Rattle.tl_record.specs.Records.{Records}
use Rattle.tl_record.specs.declared.reader.Standing.{Standing}
use Rattle.tl_record.specs.declared.reader.Standing.TheVariants.{Reading, Ended, Stopped}
use Rattle.tl_record.specs.declared.reader.RecordReader.{RecordReader}
use Rattle.tl_record.specs.declared.stop.ReadStop.{ReadStop}
use Rattle.tl_record.specs.declared.stop.ReadStop.TheVariants.{Refused, Device}
use Rattle.tl_record.specs.Failures.{one_more}
use Rattle.tl_record.specs.Reader.{Gives, Repeats, TellsFailure, with_entry, nothing_after, refusal_after}
use Rattle.tl_map.specs.declared.areas.AreaRecords.{AreaRecords}
use Rattle.tl_map.specs.declared.collect.Collected.{Collected}
use Rattle.tl_map_rules.specs.Reading.{records_in, stop_of, TellsDevice}
use Rattle.tl_map.specs.Keeping.Areas.{KeepsAreas}
use Rattle.tl_map.specs.Keeping.Collected.{Collects}
use Rattle.tl_map.specs.Keeping.Gathering.{GathersSoFar, GathersAllSoFar, GathersToldSoFar, StopsGathering}
use Rattle.tl_map.specs.declared.joined.told.ToldRecords.{ToldRecords}
use Rattle.tl_map.specs.Joined.Told.{HasTold}

-- what was to come at first is the records so far and what comes now
abbrev pub IsSoFar : Option Records → Option Records → List Record → Type 0
IsSoFar at_first now rs = IfSome at_first (λ all. (rest : Records) × (now ≡ Some rest) × (records_in all ≡ rs ++ records_in rest) × (all.refusal ≡ rest.refusal) × (all.skipped ≡ rest.skipped))

pub so_far_more : (at_first now new : Option Records) (skipped line : ℕ) (r : Record) (rs : List Record) → Gives now new skipped (Ok (Some (line, r))) → IsSoFar at_first now rs → IsSoFar at_first new (rs ++ r ∷ [])
so_far_more None now new skipped line r rs gives before = tt
so_far_more (Some all) now new skipped line r rs gives before =
    let rest = before.0 in
    let more : (next : Records) × (new ≡ Some next) × (rest ≡ with_entry (line, r) next) = rw before.1 at gives in (
      more.0,
      more.1,
      before.2 ∙ ap (λ (x : Records). rs ++ records_in x) more.2 ∙ sym (append_assoc rs (r ∷ []) (records_in more.0)),
      before.3 ∙ ap (λ (x : Records). x.refusal) more.2,
      before.4 ∙ ap (λ (x : Records). x.skipped) more.2,
    )

-- one record more is gathered
pub gathers_one_more : (at_first now new : Option Records) (skipped line : ℕ) (r : Record) (c d : Collected) → Gives now new skipped (Ok (Some (line, r))) → ((rs : List Record) → Collects rs c → Collects (rs ++ r ∷ []) d) → GathersSoFar at_first now c → GathersSoFar at_first new d
gathers_one_more at_first now new skipped line r c d gives chains before = record {
  records = before.records ++ r ∷ [];
  kept = chains before.records before.kept;
  known = so_far_more at_first now new skipped line r before.records gives before.known;
}

pub gathers_more : (at_first now new : Option Records) (skipped line : ℕ) (r : Record) (c d : Collected) (a b : AreaRecords) → Gives now new skipped (Ok (Some (line, r))) → ((rs : List Record) → Collects rs c → Collects (rs ++ r ∷ []) d) → ((rs : List Record) → KeepsAreas rs a → KeepsAreas (rs ++ r ∷ []) b) → GathersAllSoFar at_first now c a → GathersAllSoFar at_first new d b
gathers_more at_first now new skipped line r c d a b gives chains areas before = record {
  records = before.records ++ r ∷ [];
  kept = chains before.records before.kept;
  areas = areas before.records before.areas;
  known = so_far_more at_first now new skipped line r before.records gives before.known;
}

pub gathers_told_more : (at_first now new : Option Records) (skipped line : ℕ) (r : Record) (c d : ToldRecords) → Gives now new skipped (Ok (Some (line, r))) → ((rs : List Record) → HasTold rs c → HasTold (rs ++ r ∷ []) d) → GathersToldSoFar at_first now c → GathersToldSoFar at_first new d
gathers_told_more at_first now new skipped line r c d gives adds before = record {
  records = before.records ++ r ∷ [];
  kept = adds before.records before.kept;
  known = so_far_more at_first now new skipped line r before.records gives before.known;
}

-- no failure is counted where a record or the end is answered
pub none_failed : (standing : Standing) (old new : ℕ) (entry : Option (ℕ × Record)) → TellsFailure standing old new (Ok entry) → new ≡ old
none_failed Reading old new entry tells = tells
none_failed Ended old new entry tells = tells
none_failed (Stopped stop) old new entry tells = tells

-- before the first record
pub so_far_first : (at_first : Option Records) → IsSoFar at_first at_first []
so_far_first None = tt
so_far_first (Some all) = (all, refl, refl, refl, refl)

-- at the end the records so far are all
pub known_whole : (at_first now new : Option Records) (skipped : ℕ) (rs : List Record) → Gives now new skipped (Ok None) → IsSoFar at_first now rs → IfSome at_first (λ all. (records_in all ≡ rs) × (all.refusal ≡ None) × (all.skipped ≡ skipped))
known_whole None now new skipped rs gives before = tt
known_whole (Some all) now new skipped rs gives before =
    let is : before.0 ≡ nothing_after skipped = rw before.1 at gives in (
      before.2 ∙ ap (λ (x : Records). rs ++ records_in x) is ∙ append-nil rs,
      before.3 ∙ ap (λ (x : Records). x.refusal) is,
      before.4 ∙ ap (λ (x : Records). x.skipped) is,
    )

-- a stop is the refusal that was to come, or a failed read
pub stop_told : (at_first now new : Option Records) (skipped : ℕ) (rs : List Record) (stop : ReadStop) → Gives now new skipped (Err stop) → IsSoFar at_first now rs → StopsGathering at_first (stop_of stop)
stop_told at_first now new skipped rs Device gives before = tt
stop_told None now new skipped rs (Refused line cause) gives before = tt
stop_told (Some all) now new skipped rs (Refused line cause) gives before =
    let is : before.0 ≡ refusal_after skipped line cause = rw before.1 at gives in
    before.3 ∙ ap (λ (x : Records). x.refusal) is

-- a stop of a reader that neither ended nor stopped before tells whether a read failed
pub failure_told : (T : Type 0) {R : Type 0} (standing : Standing) (before after : RecordReader R) (old now new : ℕ) (stop : ReadStop) → (standing ≡ Reading) ⊎ (standing ≡ Ended) → Repeats standing before after (Err stop) → TellsFailure standing now new (Err stop) → now ≡ old → TellsDevice {T = T} old new (Err (stop_of stop))
failure_told T Reading before after old now new (Refused line cause) way repeats tells same = tells ∙ same
failure_told T Reading before after old now new Device way repeats tells same = tells ∙ ap one_more same
failure_told T Ended before after old now new stop way repeats tells same = absurd (let other : Err stop ≡ Ok None = repeats.0 in cc)
failure_told T (Stopped other) before after old now new stop way repeats tells same = elim way [
  | inl is ↦ absurd (let wrong : Stopped other ≡ Reading = is in cc)
  | inr is ↦ absurd (let wrong : Stopped other ≡ Ended = is in cc)
]
