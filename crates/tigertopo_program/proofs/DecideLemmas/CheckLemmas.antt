-- What the claims of a check say of its verdict.
use Rattle.std.proofs.Common.{◌≡◌, inl, inr, arith, ℕ, ◌+◌, ◌≤◌, Bool, List, Option, Some, None, Result, Ok, Err}
use Rattle.std.specs.Prelude.{IfOk, IfErr}
use Rattle.std.specs.Option.{IfSome}
use Rattle.tl_record.specs.declared.options.Options.{Options}
use Rattle.tl_record.specs.Layout.{layout_with}
use Rattle.tl_record.specs.Records.{Records, records_of}
use Rattle.tl_check_planar.specs.Planar.{IsPlanar}
use Rattle.tl_check_planar.specs.Searching.{meeting_segments}
use Rattle.tl_cert_output.specs.declared.stop.Stop.{Stop}
use Rattle.tl_cert_output.specs.declared.stop.Stop.TheVariants.{Record, Memory, Device, Budget}
use Rattle.tl_check_verdict.specs.declared.verdict.Report.{Report}
use Rattle.tl_check_verdict.specs.declared.verdict.Verdict.{Verdict}
use Rattle.tl_check_verdict.specs.declared.verdict.Verdict.TheVariants.{Sound, MapFault, CertFault}
use Rattle.tl_check_verdict.specs.Sound.{IsSoundFor}
use Rattle.tl_check_verdict.specs.Truth.{IsOfDarts}
use Rattle.tl_check_verdict.specs.Texts.{IsValidWhereKnown, IsTrueOfText, TextAllowsSearch}
use Rattle.tl_check_verdict.specs.Records.{HaveMap, IsTrueOfRecordsFor, MayStopOn, TellsEither}
use Rattle.tl_check_verdict.specs.Verdicts.{OnSound, OnSoundButFaces, IfSound, IfMapFault, IfCertFault, UnlessMeet, IsReport, OnSearched}
use Rattle.tl_check_verdict.proofs.OneMap.{both, weaker}
use Rattle.tigertopo_files.specs.Reading.{TellsReads}
use Rattle.tigertopo_files.specs.World.{MayStop}
use Rattle.tigertopo_program.specs.Records.{IsDecided, IsChecked, StopsCheck, MayBeSearched}

-- a read of the records or of the certificate failed
pub tells_both : (other : Type 0) (r0 r c0 c : ℕ) (x : Result Verdict Stop) → r0 ≡ 0 → c0 ≡ 0 → TellsEither r0 r c0 c x → TellsReads other (r + c) x
tells_both other r0 r c0 c (Ok t) rz cz tells = let one = tells.0 in let two = tells.1 in omega (arith, one, two, rz, cz)
tells_both other r0 r c0 c (Err (Record line cause)) rz cz tells = let one = tells.0 in let two = tells.1 in omega (arith, one, two, rz, cz)
tells_both other r0 r c0 c (Err Memory) rz cz tells = let one = tells.0 in let two = tells.1 in omega (arith, one, two, rz, cz)
tells_both other r0 r c0 c (Err Budget) rz cz tells = let one = tells.0 in let two = tells.1 in omega (arith, one, two, rz, cz)
tells_both other r0 r c0 c (Err Device) rz cz (inl records) = let one = records.0 in let two = records.1 in inl (omega (arith, one, two, rz, cz))
tells_both other r0 r c0 c (Err Device) rz cz (inr cert) = let one = cert.0 in let two = cert.1 in inl (omega (arith, one, two, rz, cz))

-- the claims of a sound map
sound_map : (all : Records) (faces : Bool) (budget : ℕ) (spelt : Option (List ℕ)) (report : Report) → HaveMap all (IsSoundFor faces)
    → HaveMap all (λ m. meeting_segments m.chains ≤ budget) → HaveMap all (IsValidWhereKnown spelt)
    → HaveMap all (λ m. IsReport m report) → HaveMap all (IsDecided faces report budget spelt)
sound_map all faces budget spelt report sound within valid reported =
    weaker all _ _ (λ m so. record { sound = so.0.0; reported = so.1.0; within = so.1.1; valid = so.0.1 })
    (both all _ _ (both all _ _ sound valid) (both all _ _ reported within))

-- what is known of the records is known of their map
decided : (options : Options) (budget : ℕ) (known spelt : Option (List ℕ)) (report : Report)
    → IfSome known (λ text. HaveMap (records_of (layout_with options) text) (IsSoundFor options.faces))
    → IfSome known (λ text. HaveMap (records_of (layout_with options) text) (λ m. meeting_segments m.chains ≤ budget))
    → IfSome known (λ text. HaveMap (records_of (layout_with options) text) (IsValidWhereKnown spelt))
    → IfSome known (λ text. HaveMap (records_of (layout_with options) text) (λ m. IsReport m report))
    → IfSome known (λ text. HaveMap (records_of (layout_with options) text) (IsDecided options.faces report budget spelt))
decided options budget None spelt report sound within valid reported = tt
decided options budget (Some text) spelt report sound within valid reported =
    sound_map (records_of (layout_with options) text) options.faces budget spelt report sound within valid reported

module _ (options : Options) (budget : ℕ) (known spelt : Option (List ℕ)) where
  pub checked : (r : Result Verdict Stop)
      → OnSound r (IfSome known (λ text. HaveMap (records_of (layout_with options) text) (IsSoundFor options.faces)))
      → OnSoundButFaces r (IfSome known (λ text. HaveMap (records_of (layout_with options) text) (λ m. meeting_segments m.chains ≤ budget)))
      → OnSoundButFaces r (IfSome known (λ text. HaveMap (records_of (layout_with options) text) (IsValidWhereKnown spelt)))
      → IfSound r (λ report. IfSome known (λ text. HaveMap (records_of (layout_with options) text) (λ m. IsReport m report)))
      → IfMapFault r (λ fault. IfSome known (λ text. IsTrueOfRecordsFor options.faces (records_of (layout_with options) text) fault))
      → OnSearched r (MayBeSearched (layout_with options) known spelt)
      → IfCertFault r (λ fault. IfSome known (λ text. HaveMap (records_of (layout_with options) text) (λ m. IfSome spelt (λ certificate. IsTrueOfText m certificate fault))))
      → IfCertFault r (λ fault. IsOfDarts fault → IfSome known (λ text. HaveMap (records_of (layout_with options) text) (λ m. IsPlanar m.chains)))
      → UnlessMeet r (IfSome known (λ text. HaveMap (records_of (layout_with options) text) (λ m. IfSome spelt (λ certificate. TextAllowsSearch m certificate → IsPlanar m.chains))))
      → IfOk r (IsChecked options budget known spelt)
  checked (Ok (Sound report)) sound within valid reported fault searched cert planar meets = decided options budget known spelt report sound within valid reported
  checked (Ok (MapFault told)) sound within valid reported fault searched cert planar meets = record { holds = fault; behind = searched }
  checked (Ok (CertFault told)) sound within valid reported fault searched cert planar meets = record { holds = cert; behind = planar; searched = meets }
  checked (Err stop) sound within valid reported fault searched cert planar meets = tt

  -- why there is none
  stopped_by : (stop : Stop) → IfSome known (λ text. MayStopOn (records_of (layout_with options) text) budget stop) → OnSearched (Err stop) (MayBeSearched (layout_with options) known spelt)
      → MayStop (StopsCheck options budget known spelt) stop
  stopped_by (Record line cause) stops searched = stops
  stopped_by Memory stops searched = tt
  stopped_by Device stops searched = tt
  stopped_by Budget stops searched = (stops, searched)

  pub check_stops : (r : Result Verdict Stop) → IfErr r (λ stop. IfSome known (λ text. MayStopOn (records_of (layout_with options) text) budget stop)) → OnSearched r (MayBeSearched (layout_with options) known spelt)
      → IfErr r (MayStop (StopsCheck options budget known spelt))
  check_stops (Ok v) stops searched = tt
  check_stops (Err stop) stops searched = stopped_by stop stops searched
