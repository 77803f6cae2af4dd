-- What a listing says of the records of its text.
use Rattle.std.proofs.Common.{◌≡◌, ◌≢◌, ◌↔◌, ℕ, zero, suc, inl, inr, Bool, true, false, List, [], ◌∷◌, map, filter, None, refl, arith}
use Rattle.std.proofs.Common.{subst, ◌∙◌}
use Rattle.std.specs.List.{All, Contains}
use Rattle.std.proofs.lemmas.List.Elements.{All-map, All-append, All-filter}
use Rattle.tl_record.specs.declared.layout.Layout.{Layout}
use Rattle.tl_record.specs.declared.options.Options.{Options}
use Rattle.tl_record.specs.Layout.{layout_with}
use Rattle.tl_record.specs.declared.stop.Cause.{Cause}
use Rattle.tl_record.specs.Records.{Records, records_of}
use Rattle.tl_record.specs.Refusals.{refusals_of}
use Rattle.tl_record.specs.Searching.{pair_of}
use Rattle.tl_map_rules.specs.Faults.{IsTrueOf}
use Rattle.tl_map_rules.specs.Lacking.{lacks}
use Rattle.tl_map_rules.specs.Reading.{records_in, lacking_of}
use Rattle.tl_map_county.specs.TheMap.{TheMap}
use Rattle.tl_check_verdict.specs.declared.fault.MapFault.{MapFault}
use Rattle.tl_check_verdict.specs.declared.fault.MapFault.TheVariants as fault
use Rattle.tl_check_verdict.specs.Sound.{IsSoundFor}
use Rattle.tl_check_verdict.specs.Truth.{IsTrueOfMapFor}
use Rattle.tl_check_verdict.specs.Verdicts.{IsReport}
use Rattle.tl_check_verdict.specs.Records.{HaveMap, IsTrueOfRecordsFor}
use Rattle.tl_check_verdict.proofs.OneMap.{both, weaker}
use Rattle.tl_check_verdict.proofs.Deciding.{not_sound_records}
use Rattle.tl_list_text.specs.declared.listing.Listing.{Listing}
use Rattle.tl_list_text.specs.declared.listing.Listing.TheVariants.{Sound, Refused, Faults}
use Rattle.tl_decide.specs.MapFaults.{AreFaultsFor, IsTrueAmong}
use Rattle.tl_list.specs.Listings.{AreRecordFaults, AreFaults, IsListingOf, stands_alone, lack_told}
use Rattle.tl_list.specs.Telling.{StandsInList, Tells, SaysSound, EachFault, IsTrueAmongFaults}
use Rattle.tl_decide.proofs.Emptiness.{map_empty}
use Rattle.tl_list.proofs.Lists.{some_first, none_first}
use Rattle.tl_list.proofs.Lacked.{some_of, told_or_caused, lack_is_told}
use Rattle.tl_decide.proofs.Truth.{each_is_true_for, among_denies}
use Rattle.tl_list.proofs.Told.{told_for}
use Rattle.tl_list.proofs.Assembling.{first_is}

one_held : {X : Type 0} (P : X → Type 0) (x : X) → P x → All P (x ∷ [])
one_held P x p zero d lt = p
one_held P x p (suc k) d lt = absurd (omega (arith, lt))

pub held_so : {X : Type 0} (P : X → Type 0) (xs : List X) (x : X) → All P xs → Contains xs x → P x
held_so P xs x each held = subst P held.2 (each held.0 x held.1)

-- ---- what is told is true

map_fault_true : (faces : Bool) (all : Records) (f : MapFault) → HaveMap all (λ m. IsTrueAmong faces m f) → IsTrueAmongFaults faces all f
map_fault_true faces all (fault.Records f) have = absurd have.so
map_fault_true faces all (fault.NoRecords lacking) have = absurd have.so
map_fault_true faces all (fault.Meet meet) have = have
map_fault_true faces all (fault.Side node first next) have = have
map_fault_true faces all (fault.PolygonPoint misplaced) have = have
map_fault_true faces all (fault.Cell odds) have = have
map_fault_true faces all (fault.Face f) have = have

-- a fault that is true alone is true among others
pub among_others : (faces : Bool) (all : Records) (f : MapFault) → IsTrueOfRecordsFor faces all f → IsTrueAmongFaults faces all f
among_others faces all (fault.Records f) true_one = true_one
among_others faces all (fault.NoRecords lacking) true_one = true_one
among_others faces all (fault.Meet meet) true_one = true_one
among_others faces all (fault.Side node first next) true_one = true_one
among_others faces all (fault.PolygonPoint misplaced) true_one = true_one
among_others faces all (fault.Cell odds) true_one = true_one
among_others faces all (fault.Face f) true_one =
    weaker all (λ m. IsTrueOfMapFor faces m (fault.Face f)) (λ m. IsTrueAmong faces m (fault.Face f)) (λ m so. ((so.0, (so.1.0.planar, so.1.0.sides)), so.1.1)) true_one

-- and denies that the map keeps what is asked of it
among_denies_map : (faces : Bool) (all : Records) (f : MapFault) → HaveMap all (λ m. IsTrueAmong faces m f) → ¬ HaveMap all (IsSoundFor faces)
among_denies_map faces all f true_one have =
    let one = both all (λ m. IsTrueAmong faces m f) (IsSoundFor faces) true_one have in
    among_denies faces one.map f one.so.0 one.so.1

among_denies_records : (faces : Bool) (all : Records) (f : MapFault) → IsTrueAmongFaults faces all f → ¬ HaveMap all (IsSoundFor faces)
among_denies_records faces all (fault.Records f) true_one have = not_sound_records faces all (fault.Records f) true_one have
among_denies_records faces all (fault.NoRecords lacking) true_one have = not_sound_records faces all (fault.NoRecords lacking) true_one have
among_denies_records faces all (fault.Meet meet) true_one have = among_denies_map faces all (fault.Meet meet) true_one have
among_denies_records faces all (fault.Side node first next) true_one have = among_denies_map faces all (fault.Side node first next) true_one have
among_denies_records faces all (fault.PolygonPoint misplaced) true_one have = among_denies_map faces all (fault.PolygonPoint misplaced) true_one have
among_denies_records faces all (fault.Cell odds) true_one have = among_denies_map faces all (fault.Cell odds) true_one have
among_denies_records faces all (fault.Face f) true_one have = among_denies_map faces all (fault.Face f) true_one have

-- that there are no records of some type is true where it is told
lack_true : (faces : Bool) (all : Records) → all.refusal ≡ None → All (IsTrueAmongFaults faces all) (lack_told (lacking_of all))
lack_true faces all unrefused = go (lacks (lacking_of all)) refl
  where
    go : (b : Bool) → lacks (lacking_of all) ≡ b → All (IsTrueAmongFaults faces all) (lack_told (lacking_of all))
    go false none = rw none (λ k d lt. absurd (omega (arith, lt)))
    go true some = rw some (one_held (IsTrueAmongFaults faces all) (fault.NoRecords (lacking_of all)) (unrefused, refl, some))

faults_true : (faces : Bool) (all : Records) (faults : List MapFault) (touched : ℕ) → all.refusal ≡ None → AreFaults faces all faults touched
    → All (IsTrueAmongFaults faces all) faults
faults_true faces all faults touched unrefused (inl of_records) =
    let lacking = lacking_of all in
    let told = of_records.0.told in
    rw of_records.0.are (All-append (IsTrueAmongFaults faces all) (map fault.Records (filter (stands_alone lacking) told)) (lack_told lacking)
    (All-map (IsTrueAmongFaults faces all) fault.Records (filter (stands_alone lacking) told)
    (All-filter (stands_alone lacking) (λ f. IsTrueAmongFaults faces all (fault.Records f)) told (λ k d lt. (unrefused, of_records.0.are_all.each k d lt))))
    (lack_true faces all unrefused))
faults_true faces all faults touched unrefused (inr have) = λ k d lt.
    map_fault_true faces all _
    (record { map = have.map; is_read = have.is_read; so = each_is_true_for faces have.map faults touched have.so k d lt })

pub each_true : (options : Options) (text : List ℕ) (listing : Listing) → IsListingOf options text listing → EachFault listing
    (IsTrueAmongFaults options.faces (records_of (layout_with options) text))
each_true options text (Sound report) is = tt
each_true options text (Refused list) is = tt
each_true options text (Faults faults touched) is =
    faults_true options.faces (records_of (layout_with options) text) faults.items touched is.1 is.2

-- ---- sound maps

pub none_is_refused : (layout : Layout) (text : List ℕ) (listed : List (ℕ × Cause)) → listed ≡ refusals_of layout text →
    (records_of layout text).refusal ≡ None → listed ≡ []
none_is_refused layout text listed is unrefused = is ∙ none_first _ (first_is layout text ∙ unrefused)

pub sound_alone : (options : Options) (text : List ℕ) (listing : Listing) → IsListingOf options text listing
    → SaysSound listing ↔ HaveMap (records_of (layout_with options) text) (IsSoundFor options.faces)
sound_alone options text (Sound report) is =
    (λ said. weaker (records_of (layout_with options) text) (λ m. IsSoundFor options.faces m × IsReport m report) (IsSoundFor options.faces) (λ m so. so.0) is, λ have. tt)
sound_alone options text (Refused list) is = (
  λ said. absurd said,
  λ have. absurd (is.0 (map_empty pair_of list.items (none_is_refused (layout_with options) text _ is.1 have.is_read.no_refusal))),
)
sound_alone options text (Faults faults touched) is = (
  λ said. absurd said,
  λ have.
      let all = records_of (layout_with options) text in
      let some = some_first faults.items is.0 in
      absurd (among_denies_records options.faces all some.0
      (held_so (IsTrueAmongFaults options.faces all) faults.items some.0 (faults_true options.faces all faults.items touched is.1 is.2) some.1) have),
)

-- ---- what is true is told

unrefused_where_true : (faces : Bool) (all : Records) (f : MapFault) → IsTrueAmongFaults faces all f → all.refusal ≡ None
unrefused_where_true faces all (fault.Records f) true_one = true_one.0
unrefused_where_true faces all (fault.NoRecords lacking) true_one = true_one.0
unrefused_where_true faces all (fault.Meet meet) true_one = true_one.is_read.no_refusal
unrefused_where_true faces all (fault.Side node first next) true_one = true_one.is_read.no_refusal
unrefused_where_true faces all (fault.PolygonPoint misplaced) true_one = true_one.is_read.no_refusal
unrefused_where_true faces all (fault.Cell odds) true_one = true_one.is_read.no_refusal
unrefused_where_true faces all (fault.Face f) true_one = true_one.is_read.no_refusal

module _ (faces : Bool) (all : Records) (faults : List MapFault) (touched : ℕ) where
  -- records that have a map have no fault
  pub no_map : (P : TheMap → Type 0) → faults ≢ [] → AreRecordFaults all faults → ¬ HaveMap all P
  no_map P some of_records have =
      let lacking = lacking_of all in
      let first = some_first of_records.told (some_of lacking of_records.told (λ none. some (of_records.are ∙ none)) have.is_read.none_lacking) in
      have.is_read.no_fault first.0 (held_so (IsTrueOf (records_in all)) of_records.told first.0 of_records.are_all.each first.1)

  map_told : (f : MapFault) → HaveMap all (λ m. AreFaultsFor faces m faults touched) → HaveMap all (λ m. IsTrueAmong faces m f)
      → StandsInList faults touched f
  map_told f have true_one =
      let one = both all (λ m. AreFaultsFor faces m faults touched) (λ m. IsTrueAmong faces m f) have true_one in
      told_for faces one.map faults touched one.so.0 f one.so.1

  fault_told : (f : MapFault) → faults ≢ [] → AreFaults faces all faults touched → IsTrueAmongFaults faces all f → StandsInList faults touched f
  fault_told (fault.Records f) some (inl of_records) true_one =
      rw of_records.0.are (told_or_caused (lacking_of all) of_records.0.told f (of_records.0.are_all.every f true_one.1))
  fault_told (fault.Records f) some (inr have) true_one = absurd (have.is_read.no_fault f true_one.1)
  fault_told (fault.NoRecords lacking) some (inl of_records) true_one =
      let same = true_one.1 in
      rw (of_records.0.are, same) (lack_is_told (lacking_of all) of_records.0.told (subst (λ l. lacks l ≡ true) same true_one.2))
  fault_told (fault.NoRecords lacking) some (inr have) true_one =
      let none = have.is_read.none_lacking in
      let same = true_one.1 in
      let some = true_one.2 in
      absurd (cc)
  fault_told (fault.Meet meet) some (inl of_records) true_one = absurd (no_map _ some of_records.0 true_one)
  fault_told (fault.Meet meet) some (inr have) true_one = map_told (fault.Meet meet) have true_one
  fault_told (fault.Side node first next) some (inl of_records) true_one = absurd (no_map _ some of_records.0 true_one)
  fault_told (fault.Side node first next) some (inr have) true_one = map_told (fault.Side node first next) have true_one
  fault_told (fault.PolygonPoint misplaced) some (inl of_records) true_one = absurd (no_map _ some of_records.0 true_one)
  fault_told (fault.PolygonPoint misplaced) some (inr have) true_one = map_told (fault.PolygonPoint misplaced) have true_one
  fault_told (fault.Cell odds) some (inl of_records) true_one = absurd (no_map _ some of_records.0 true_one)
  fault_told (fault.Cell odds) some (inr have) true_one = map_told (fault.Cell odds) have true_one
  fault_told (fault.Face f) some (inl of_records) true_one = absurd (no_map _ some of_records.0 true_one)
  fault_told (fault.Face f) some (inr have) true_one = map_told (fault.Face f) have true_one

pub each_told : (options : Options) (text : List ℕ) (listing : Listing) (f : MapFault) → IsListingOf options text listing
    → IsTrueAmongFaults options.faces (records_of (layout_with options) text) f → Tells listing f
each_told options text (Sound report) f is true_one =
    let all = records_of (layout_with options) text in
    absurd (among_denies_records options.faces all f true_one
    (weaker all (λ m. IsSoundFor options.faces m × IsReport m report) (IsSoundFor options.faces) (λ m so. so.0) is))
each_told options text (Refused list) f is true_one =
    let all = records_of (layout_with options) text in
    absurd (is.0 (map_empty pair_of list.items
    (none_is_refused (layout_with options) text _ is.1 (unrefused_where_true options.faces all f true_one))))
each_told options text (Faults faults touched) f is true_one =
    fault_told options.faces (records_of (layout_with options) text) faults.items touched f is.0 is.2 true_one
