-- What is true of records of which a fault is told, or a line that is refused, and what is true of a map that is decided.
--
-- `layout` is the column table that the records are read by, and `options` what is asked of them; `known` is the text of the record
-- files, where it is known, and `spelt` that of the certificate.
use Rattle.std.specs.Prelude.{◌≡◌, ◌↔◌, ◌≤◌, ℕ, Bool, true, List, Option, None, Some, IfSome, Ok}
use Rattle.tl_record.specs.declared.stop.Cause.{Cause}
use Rattle.tl_record.specs.declared.layout.Layout.{Layout}
use Rattle.tl_record.specs.declared.options.Options.{Options}
use Rattle.tl_record.specs.Layout.{layout_with}
use Rattle.tl_record.specs.Records.{records_of}
use Rattle.tl_map_rules.specs.declared.fault.RecordFault.{RecordFault}
use Rattle.tl_map_rules.specs.Faults.{IsTrueOf}
use Rattle.tl_map_rules.specs.declared.lacking.Lacking.{Lacking}
use Rattle.tl_map_rules.specs.Lacking.{lacks}
use Rattle.tl_map_rules.specs.Reading.{IsReadFrom, records_in, lacking_of}
use Rattle.tl_map_county.specs.TheMap.{TheMap}
use Rattle.tl_cert_output.specs.declared.stop.Stop.{Stop}
use Rattle.tl_cert_output.specs.declared.stop.Stop.TheVariants.{Record, Budget}
use Rattle.tl_check_planar.specs.Planar.{IsPlanar}
use Rattle.tl_check_planar.specs.Searching.{meeting_segments, AreBeyond}
use Rattle.tl_check_verdict.specs.declared.fault.MapFault.{MapFault as TheMapFault}
use Rattle.tl_check_verdict.specs.declared.fault.MapFault.TheVariants.{Records, NoRecords, Meet, Side, PolygonPoint, Cell, Face}
use Rattle.tl_check_verdict.specs.declared.fault.CertFault.{CertFault as TheCertFault}
use Rattle.tl_check_verdict.specs.declared.verdict.Report.{Report}
use Rattle.tl_check_verdict.specs.declared.verdict.Verdict.{Verdict}
use Rattle.tl_check_verdict.specs.declared.verdict.Verdict.TheVariants.{Sound, MapFault, CertFault}
use Rattle.tl_check_verdict.specs.Sound.{IsSoundFor}
use Rattle.tl_check_verdict.specs.Texts.{IsValidText, IsTrueOfText, TextAllowsSearch}
use Rattle.tl_check_verdict.specs.Truth.{IsOfDarts}
use Rattle.tl_check_verdict.specs.Records.{HaveMap, IsTrueOfRecordsFor}
use Rattle.tl_check_verdict.specs.Verdicts.{IsReport, OnSearched}

-- no line of the text is refused, and the fault is true of its records
abbrev pub HasFault : Layout → List ℕ → RecordFault → Type 0
HasFault layout text fault = ((records_of layout text).refusal ≡ None) × IsTrueOf (records_in (records_of layout text)) fault

-- this is the first line of the text that is refused, and why it is
abbrev pub IsFirstRefusal : Layout → List ℕ → ℕ → Cause → Type 0
IsFirstRefusal layout text line cause = (records_of layout text).refusal ≡ Some (line, cause)

-- no line of the text is refused, and of these types it has no record, where records of each are asked for
abbrev pub LacksRecords : Layout → List ℕ → Lacking → Type 0
LacksRecords layout text lacking = ((records_of layout text).refusal ≡ None) × (lacking ≡ lacking_of (records_of layout text)) × (lacks lacking ≡ true)

-- the fault is one of the records, of those that are sought, and they have it; or that there are none of some type
abbrev pub IsOfRecords : Layout → Option (List ℕ) → (sought : RecordFault → Type 0) → TheMapFault → Type 0
IsOfRecords layout known sought (Records fault) = sought fault × IfSome known (λ text. HasFault layout text fault)
IsOfRecords layout known sought (NoRecords lacking) = IfSome known (λ text. LacksRecords layout text lacking)
IsOfRecords layout known sought (Meet meet) = ⊥
IsOfRecords layout known sought (Side node first next) = ⊥
IsOfRecords layout known sought (PolygonPoint fault) = ⊥
IsOfRecords layout known sought (Cell odds) = ⊥
IsOfRecords layout known sought (Face fault) = ⊥

-- why records aren't read, but for want of memory and for a device that failed: this line is the first that is refused
abbrev pub StopsRecords : Layout → Option (List ℕ) → Stop → Type 0
StopsRecords layout known (Record line cause) = IfSome known (λ text. IsFirstRefusal layout text line cause)
StopsRecords layout known other = ⊥

-- the map of the records is so, where no line is refused and no fault is true
abbrev pub IsMapOf : Layout → Option (List ℕ) → TheMap → Type 0
IsMapOf layout known m = IfSome known (λ text. IsReadFrom (records_of layout text) m)

-- the records have a map that is so
abbrev pub OfMap : Layout → Option (List ℕ) → (TheMap → Type 0) → Type 0
OfMap layout known P = IfSome known (λ text. HaveMap (records_of layout text) P)

-- a fault that is named is true of the records, or of their map
abbrev pub IsTrueFault : Options → Option (List ℕ) → TheMapFault → Type 0
IsTrueFault options known fault = IfSome known (λ text. IsTrueOfRecordsFor options.faces (records_of (layout_with options) text) fault)

-- the map keeps what is asked of it, and the report is its report
pub record IsSoundWith (faces : Bool) (report : Report) (m : TheMap) : Type 0 where
  pub sound : IsSoundFor faces m
  pub reported : IsReport m report

-- what is decided of records with no certificate given: their map keeps what the options ask, or a fault of theirs
abbrev pub IsAudited : Options → Option (List ℕ) → Verdict → Type 0
IsAudited options known (Sound report) = OfMap (layout_with options) known (IsSoundWith options.faces report)
IsAudited options known (MapFault fault) = IsTrueFault options known fault
IsAudited options known (CertFault fault) = ⊥

-- the map keeps what is asked of it, at most as many pairs of its segments as the budget have rectangles that meet, the report is its
-- report, and the certificate's text, where it is known, is that of a certificate that is valid for it
pub record IsDecided (faces : Bool) (report : Report) (budget : ℕ) (spelt : Option (List ℕ)) (m : TheMap) : Type 0 where
  pub sound : IsSoundFor faces m
  pub within : meeting_segments m.chains ≤ budget
  pub reported : IsReport m report
  pub valid : IfSome spelt (λ text. IsValidText m text)

-- a search may be made by the certificate's text, where both texts are known: it begins with the counts of the records' map
-- and with a tree that fits
abbrev pub MayBeSearched : Layout → (known spelt : Option (List ℕ)) → Type 0
MayBeSearched layout known spelt = OfMap layout known (λ m. IfSome spelt (TextAllowsSearch m))

-- a fault of the map is true, and comes of such a search where it is one of the map itself
pub record IsMapFault (options : Options) (known spelt : Option (List ℕ)) (fault : TheMapFault) : Type 0 where
  pub holds : IsTrueFault options known fault
  pub behind : OnSearched (Ok (MapFault fault)) (MayBeSearched (layout_with options) known spelt)

-- the records have a map, and the fault is true of the certificate's text beside it; and where it is one of rounds or of walks, or a
-- search may be made by the text, the map's chains are planar
pub record IsCertFault (layout : Layout) (known spelt : Option (List ℕ)) (fault : TheCertFault) : Type 0 where
  pub holds : OfMap layout known (λ m. IfSome spelt (λ certificate. IsTrueOfText m certificate fault))
  pub behind : IsOfDarts fault → OfMap layout known (λ m. IsPlanar m.chains)
  pub searched : OfMap layout known (λ m. IfSome spelt (λ certificate. TextAllowsSearch m certificate → IsPlanar m.chains))

-- what is decided of records by a certificate
abbrev pub IsChecked : Options → (budget : ℕ) → (known spelt : Option (List ℕ)) → Verdict → Type 0
IsChecked options budget known spelt (Sound report) = OfMap (layout_with options) known (IsDecided options.faces report budget spelt)
IsChecked options budget known spelt (MapFault fault) = IsMapFault options known spelt fault
IsChecked options budget known spelt (CertFault fault) = IsCertFault (layout_with options) known spelt fault

-- why that isn't decided: more pairs of the map's segments than the budget have rectangles that meet, of which as many as the budget
-- don't conflict, and a search may be made by the certificate; or as `StopsRecords` says
abbrev pub StopsCheck : Options → (budget : ℕ) → (known spelt : Option (List ℕ)) → Stop → Type 0
StopsCheck options budget known spelt Budget =
    OfMap (layout_with options) known (λ m. AreBeyond m.chains budget) × MayBeSearched (layout_with options) known spelt
StopsCheck options budget known spelt other = StopsRecords (layout_with options) known other

-- nothing but memory and devices stops it
abbrev pub StopsNever : Stop → Type 0
StopsNever stop = ⊥

-- the status is 0 exactly where the records, if their text is known, have a map that keeps what is asked of it
abbrev pub IsDoneWhereSound : Options → Option (List ℕ) → ℕ → Type 0
IsDoneWhereSound options known status = IfSome known (λ text. (status ≡ 0) ↔ HaveMap (records_of (layout_with options) text) (IsSoundFor options.faces))
