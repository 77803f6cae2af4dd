-- What faults speak of, and where they lie.
use Rattle.std.specs.Prelude.{◌≡◌, ℕ, List, Option, map}
use Rattle.tl_record.specs.declared.layout.Layout.{Layout}
use Rattle.tl_record.specs.declared.record.Record.{Record}
use Rattle.tl_record.specs.Records.{lines_read}
use Rattle.tl_record.specs.Left.{left_of}
use Rattle.tl_map_county.specs.TheMap.{TheMap, MapChain}
use Rattle.tl_check_verdict.specs.declared.fault.MapFault.{MapFault}
use Rattle.tigertopo_files.specs.Files.{Under}
use Rattle.tigertopo_files.specs.Joining.{joined}
use Rattle.tigertopo_faults.specs.Places.LinePlaces.{line_count}
use Rattle.tigertopo_faults.specs.Hint.Telling.{HaveTexts}
use Rattle.tigertopo_faults.specs.Records.Finding.{HoldsAll}
use Rattle.tigertopo_faults.specs.Records.SpokenOf.{chains_of}
use Rattle.tigertopo_faults.specs.Lines.Places.{fault_place}
use Rattle.tigertopo_faults.specs.declared.lines.speaking.Spoken.{Spoken}

-- of records with these lines, in files of so many: where the faults lie, how many lines each file has, and the lines of all records they speak of
pub record Speaks (counts : List ℕ) (entries : List (ℕ × Record)) (drawn : Option TheMap) (faults : List MapFault) (spoken : Spoken) : Type 0 where
  pub placed : spoken.places.items ≡ map (fault_place drawn) faults
  pub counted : spoken.counts.items ≡ counts
  pub lines : HoldsAll (chains_of drawn) faults entries spoken.lines

-- of files of these texts: how many lines each has, and the lines of all records that the faults speak of, without those of refused lines
pub record AreOf (layout : Layout) (texts : List (List ℕ)) (chains : List MapChain) (faults : List MapFault) (spoken : Spoken) : Type 0 where
  pub counted : spoken.counts.items ≡ map line_count texts
  pub lines : HoldsAll chains faults (lines_read layout (left_of layout (joined texts))).entries spoken.lines

-- where the faults lie on the map, where there is one; and the same where the text under each name is known
pub record AreSpoken (layout : Layout) (under : Under) (names : List (List ℕ)) (drawn : Option TheMap) (faults : List MapFault) (spoken : Spoken) : Type 0 where
  pub placed : spoken.places.items ≡ map (fault_place drawn) faults
  pub read : (texts : List (List ℕ)) → HaveTexts under names texts → AreOf layout texts (chains_of drawn) faults spoken
