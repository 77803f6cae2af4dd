-- What is printed of what came of a command, and with which exit status: 0 where it is done, 1 where the map has a fault, 2 where the
-- certificate has one, 3 where a record is refused, 4 where it stopped otherwise, and 64 where the words are no use of a command or no
-- file may be made.
use Rattle.std.specs.Prelude.{ℕ, ◌==◌, if◌then◌else◌, List, [], ◌++◌, Option, Some, None, codes, decimal}
use Rattle.tl_check_verdict.specs.declared.verdict.Verdict.{Verdict as TheVerdict}
use Rattle.tl_check_verdict.specs.declared.verdict.Verdict.TheVariants.{Sound, MapFault, CertFault}
use Rattle.tl_check_verdict.specs.Messages.{report_text, map_fault_text, cert_fault_text, touched_words}
use Rattle.tl_cert_output.specs.declared.stop.Stop.{Stop}
use Rattle.tl_cert_output.specs.declared.stop.Stop.TheVariants.{Record, Memory, Device, Budget}
use Rattle.tl_cert_output.specs.Writing.{line_of}
use Rattle.tl_list_text.specs.Texts.{listing_text as list_text}
use Rattle.tl_list_text.specs.declared.listing.Listing.{Listing as TheListing}
use Rattle.tl_list_text.specs.declared.listing.Listing.TheVariants as listing
use Rattle.tigertopo_program.specs.Print.Printing.{shown_text, listing_text}
use Rattle.tigertopo_program.specs.declared.answer.Answer.{Answer}
use Rattle.tigertopo_program.specs.declared.answer.Answer.TheVariants.{Chains, Landmarks, Verdict, Built, Converted, Exported, Drawn, Bordered, Listing, Lines}

-- the counts of a conversion
abbrev pub counts_text : ℕ → ℕ → ℕ → List ℕ
counts_text nodes rounds walks = codes "converted nodes=" ++ (decimal nodes ++ (codes " rounds=" ++ (decimal rounds ++ (codes " walks=" ++ decimal walks))))

-- the numbers of chains and of polygons that were exported, and that of rings; where there is none, that the map isn't sound
abbrev pub exported_text : ℕ → ℕ → Option ℕ → List ℕ
exported_text chains polygons None = codes "exported chains=" ++ (decimal chains ++ (codes " polygons=" ++ (decimal polygons ++ codes "\nnot sound")))
exported_text chains polygons (Some rings) =
    codes "exported chains=" ++ (decimal chains ++ (codes " polygons=" ++ (decimal polygons ++ (codes " rings=" ++ decimal rings))))

-- how many polygons of the map are touched, behind other words, where some are
abbrev pub touched_behind : ℕ → List ℕ
touched_behind touched = if touched == 0 then [] else codes " " ++ touched_words touched

-- how many chains are shown, and where they are asked for, how many faults, and how many polygons are touched
abbrev pub drawn_text : ℕ → Option ℕ → (touched : ℕ) → List ℕ
drawn_text chains None touched = codes "drawn chains=" ++ decimal chains
drawn_text chains (Some faults) touched = codes "drawn chains=" ++ (decimal chains ++ (codes " faults=" ++ (decimal faults ++ touched_behind touched)))

-- the numbers of chains and of segments of a border that was written
abbrev pub bordered_text : ℕ → ℕ → List ℕ
bordered_text chains segments = codes "bordered chains=" ++ (decimal chains ++ (codes " segments=" ++ decimal segments))

-- the status of an export: that of a fault where the map isn't sound
abbrev pub exported_status : Option ℕ → ℕ
exported_status None = 1
exported_status (Some rings) = 0

-- the text of a verdict
abbrev pub verdict_text : TheVerdict → List ℕ
verdict_text (Sound report) = codes "sound " ++ report_text report
verdict_text (MapFault fault) = map_fault_text fault
verdict_text (CertFault fault) = cert_fault_text fault

-- the status of a verdict
abbrev pub verdict_status : TheVerdict → ℕ
verdict_status (Sound report) = 0
verdict_status (MapFault fault) = 1
verdict_status (CertFault fault) = 2

-- the status of a listing
abbrev pub listing_status : TheListing → ℕ
listing_status (listing.Sound report) = 0
listing_status (listing.Faults faults touched) = 1
listing_status (listing.Refused list) = 3

-- the text of an answer
abbrev pub answer_text : Answer → List ℕ
answer_text (Chains chains) = shown_text chains
answer_text (Landmarks map) = listing_text map
answer_text (Verdict verdict) = line_of (verdict_text verdict)
answer_text (Built report) = line_of (codes "built " ++ report_text report)
answer_text (Converted counts) = line_of (counts_text counts.nodes counts.rounds counts.walks)
answer_text (Exported exported) = line_of (exported_text exported.chains exported.polygons exported.rings)
answer_text (Drawn drawn) = line_of (drawn_text drawn.chains drawn.faults drawn.touched)
answer_text (Bordered bordered) = line_of (bordered_text bordered.chains bordered.segments)
answer_text (Listing list most) = list_text most list
answer_text (Lines status text) = text.items

-- the status of an answer
abbrev pub answer_status : Answer → ℕ
answer_status (Chains chains) = 0
answer_status (Landmarks map) = 0
answer_status (Verdict verdict) = verdict_status verdict
answer_status (Built report) = 0
answer_status (Converted counts) = 0
answer_status (Exported exported) = exported_status exported.rings
answer_status (Drawn drawn) = 0
answer_status (Bordered bordered) = 0
answer_status (Listing list most) = listing_status list
answer_status (Lines status text) = status

-- the status of a stop
abbrev pub stop_status : Stop → ℕ
stop_status (Record line cause) = 3
stop_status Memory = 4
stop_status Device = 4
stop_status Budget = 4
