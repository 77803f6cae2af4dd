-- What comes of an export.
use Rattle.std.proofs.Common.{◌≡◌, inl, inr, ℕ, Bool, List, [], Option, Some, None, Result, Ok, Err, refl, sym, ap, subst}
use Rattle.std.specs.Bool.{⊤}
use Rattle.std.specs.Result.{IsErrAnd}
use Rattle.tl_record.specs.declared.layout.Layout.{Layout}
use Rattle.tl_cert_output.specs.declared.stop.Stop.{Stop}
use Rattle.tl_cert_output.specs.declared.stop.Stop.TheVariants.{Record, Memory, Device, Budget}
use Rattle.tl_map_county.specs.TheMap.{TheMap}
use Rattle.tl_check_sides.specs.Walks.{AreWalks}
use Rattle.tl_check_verdict.specs.declared.fault.MapFault.{MapFault as TheMapFault}
use Rattle.tl_check_verdict.specs.declared.verdict.Verdict.TheVariants.{MapFault}
use Rattle.tl_check_verdict.specs.Sound.{IsSound}
use Rattle.tl_build.specs.Auditing.{IsMemoryStop}
use Rattle.tigertopo_pictures.specs.Geojson.Holes.{ring_count}
use Rattle.tigertopo_pictures.specs.Geojson.Rings.{county_text, county_text_with}
use Rattle.tigertopo_files.specs.Files.{Under, StandsUnder}
use Rattle.tigertopo_files.specs.Log.{Log}
use Rattle.tigertopo_files.specs.World.{World, Does}
use Rattle.tigertopo_files.proofs.WorldLemmas.{does_then, does_read, none_made, does_make, does_fail}
use Rattle.tigertopo_program.specs.declared.answer.Answer.TheVariants.{Exported, Verdict}
use Rattle.tigertopo_program.specs.declared.answer.Answer.{Answer}
use Rattle.tigertopo_program.specs.Answers.{IsSaid, IsReadMap}
use Rattle.tigertopo_program.specs.Records.{StopsNever, StopsRecords}
use Rattle.tigertopo_program.proofs.RecordLemmas.{tells_fault}
use Rattle.tigertopo_program.specs.Exports.{Asked, ExportAnswers, IsExportedOf, counts_of}

-- ---- what is answered of a map, with no file read before

-- a map that isn't sound was exported
pub exported_plain : (w : World) (asked : Asked) (m : TheMap) → ¬ IsSound m → StandsUnder w.after asked.name (county_text asked.file asked.layer m)
    → IsExportedOf w asked m ((Exported (counts_of m None)))
exported_plain w asked m faulty kept = record {
  rings = None;
  exported = record { text = county_text asked.file asked.layer m; is = inl (record { faulty = faulty; none = refl; is = refl }); kept = kept };
  is = refl;
}

-- a sound one was, whose walks these are
pub exported_whole : (w : World) (asked : Asked) (m : TheMap) (walks : List (List ℕ)) (count : ℕ) → IsSound m → AreWalks m.chains walks → count ≡ ring_count m.chains walks → StandsUnder w.after asked.name (county_text_with asked.file asked.layer m walks)
    → IsExportedOf w asked m ((Exported (counts_of m (Some count))))
exported_whole w asked m walks count sound are counted kept = record {
  rings = Some count;
  exported = record { text = county_text_with asked.file asked.layer m walks; is = inr (record { sound = sound; walks = walks; are = are; some = ap Some counted; is = refl }); kept = kept };
  is = refl;
}

-- memory is refused, and no file is made
pub export_stopped : (u : Under) (l : Log) (k : Bool) (name : List ℕ) (R : Answer → Type 0) (stop : Stop) → IsMemoryStop stop → (r : Result Answer Stop) → IsErrAnd r (λ told. told ≡ stop)
    → Does (record { before = u; after = u; log = l; logged = l; knows = k }) [] (Some name) R StopsNever r
export_stopped u l k name R (Record line cause) memory r is = absurd memory
export_stopped u l k name R Memory memory r is =
    does_fail (record { before = u; after = u; log = l; logged = l; knows = k }) [] (Some name) (λ (done : Unit {0}). StandsUnder u name []) StopsNever Memory
    (does_make {T = Unit {0}} u u l l k name [] StopsNever (Err Memory) ((λ other apart. refl), tt) (λ known. refl)) R r is
export_stopped u l k name R Device memory r is = absurd memory
export_stopped u l k name R Budget memory r is = absurd memory

-- ---- what is answered of records

-- they were read, and no file was made: they have a fault
pub export_of_fault : (w : World) (names : List (List ℕ)) (asked : Asked) (layout : Layout) (known : Option (List ℕ)) (fault : TheMapFault)
    → Does w names None (IsReadMap layout known) (StopsRecords layout known) (Ok (Err fault))
    → Does w names (Some asked.name) (IsSaid (ExportAnswers w layout known asked)) (StopsRecords layout known) (Ok (Verdict (MapFault fault)))
export_of_fault w names asked layout known fault first =
    does_read w names (IsReadMap layout known) (StopsRecords layout known) (Some asked.name) (Err fault) first (IsSaid (ExportAnswers w layout known asked)) (Verdict (MapFault fault))
    (inr (tells_fault layout known (λ fault. ⊤) fault first.answered, none_made w (Some asked.name) first.keeps))

module _ (u v after : Under) (l m q : Log) (k : Bool) (names : List (List ℕ)) (asked : Asked) (layout : Layout) (known : Option (List ℕ)) (map : TheMap)
    (first : Does (record { before = u; after = v; log = l; logged = m; knows = k }) names None (IsReadMap layout known) (StopsRecords layout known) (Ok (Ok map))) where
  -- what is answered of their map is answered of them
  said_of : (answer : Answer) → IsExportedOf (record { before = v; after = after; log = m; logged = q; knows = k }) asked map answer
      → IsSaid (ExportAnswers (record { before = u; after = after; log = l; logged = q; knows = k }) layout known asked) answer
  said_of answer so =
      subst (IsSaid (ExportAnswers (record { before = u; after = after; log = l; logged = q; knows = k }) layout known asked)) (sym so.is) (
      inl (record {
        map = map;
        drawn = first.answered;
        rings = so.rings;
        exported = record { text = so.exported.text; is = so.exported.is; kept = so.exported.kept };
        is = refl;
        line = refl;
      })
      )

  -- they were read, and then a file was made of their map, or none
  pub export_of_read : (r : Result Answer Stop)
      → Does (record { before = v; after = after; log = m; logged = q; knows = k }) [] (Some asked.name) (IsExportedOf (record { before = v; after = after; log = m; logged = q; knows = k }) asked map) StopsNever r
      → Does (record { before = u; after = after; log = l; logged = q; knows = k }) names (Some asked.name) (IsSaid (ExportAnswers (record { before = u; after = after; log = l; logged = q; knows = k }) layout known asked)) (StopsRecords layout known) r
  export_of_read r second =
      does_then u v after l m q k names (Some asked.name) (IsReadMap layout known) (StopsRecords layout known) (Ok map) first
      (IsExportedOf (record { before = v; after = after; log = m; logged = q; knows = k }) asked map)
      (IsSaid (ExportAnswers (record { before = u; after = after; log = l; logged = q; knows = k }) layout known asked)) StopsNever r second said_of (λ s never. absurd never)
