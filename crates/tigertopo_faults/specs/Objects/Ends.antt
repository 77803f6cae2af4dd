-- The last object, which says how many there are.
use Rattle.std.specs.Prelude.{ℕ, List, ◌++◌, codes, decimal}
use Rattle.tl_check_verdict.specs.declared.verdict.Report.{Report}

-- of a sound map, with its numbers
unfoldable pub sound_object : Report → List ℕ
sound_object report =
    codes "{\"is\":\"sound\",\"chains\":" ++ decimal report.chains ++ codes ",\"segments\":" ++ decimal report.segments
    ++ codes ",\"nodes\":" ++ decimal report.nodes ++ codes ",\"polygons\":" ++ decimal report.polygons
    ++ codes ",\"landmarks\":" ++ decimal report.landmarks ++ codes ",\"rings\":" ++ decimal report.rings ++ codes "}\n"

-- of faults: how many there are, how many of them are printed, and how many polygons are touched
unfoldable pub faults_end : (count printed touched : ℕ) → List ℕ
faults_end count printed touched =
    codes "{\"is\":\"faults\",\"faults\":" ++ decimal count ++ codes ",\"printed\":" ++ decimal printed
    ++ codes ",\"touched\":" ++ decimal touched ++ codes "}\n"

-- of refused lines: how many there are, and how many of them are printed
unfoldable pub refusals_end : (count printed : ℕ) → List ℕ
refusals_end count printed = codes "{\"is\":\"refusals\",\"refused\":" ++ decimal count ++ codes ",\"printed\":" ++ decimal printed ++ codes "}\n"

-- that of refused lines that were skipped
abbrev pub skipped_end : ℕ → List ℕ
skipped_end count = codes "{\"is\":\"skipped\",\"refused\":" ++ decimal count ++ codes "}\n"
