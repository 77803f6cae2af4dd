-- The lines of the records that faults speak of, among those of a text.
use Rattle.std.proofs.Common.{◌≡◌, ℕ, true, List, [], ◌++◌, Option, None, Some, Result, Ok, Err, IfOk, map, refl, ap, subst, ◌∙◌, inl, inr, Contains}
use Rattle.tl_record.specs.declared.layout.Layout.{Layout}
use Rattle.tl_record.specs.declared.record.Record.{Record}
use Rattle.tl_record.specs.Left.{left_of}
use Rattle.tl_record.specs.Records.{lines_read}
use Rattle.tl_map_county.specs.TheMap.{TheMap, MapChain}
use Rattle.tl_check_verdict.specs.declared.fault.MapFault.{MapFault}
use Rattle.tigertopo_files.specs.Files.{Under}
use Rattle.tigertopo_files.specs.Joining.{joined}
use Rattle.tigertopo_faults.specs.Places.LinePlaces.{line_count}
use Rattle.tigertopo_faults.specs.Hint.Telling.{HaveTexts}
use Rattle.tigertopo_faults.specs.declared.records.subject.Subject.{Subject}
use Rattle.tigertopo_faults.specs.declared.records.kept.KeptLines.{KeptLines}
use Rattle.tigertopo_faults.specs.declared.records.lines.RecordLines.{RecordLines}
use Rattle.tigertopo_faults.specs.declared.lines.speaking.Spoken.{Spoken}
use Rattle.tigertopo_faults.specs.Records.SpokenOf.{chains_of, lines_about, subjects_of}
use Rattle.tigertopo_faults.specs.Records.Kept.{kept_of, is_wanted, NotesAll}
use Rattle.tigertopo_faults.specs.Records.Keeping.{held}
use Rattle.tigertopo_faults.specs.Records.Wanting.{HasAll}
use Rattle.tigertopo_faults.specs.Records.Finding.{HoldsLines, HoldsAll}
use Rattle.tigertopo_faults.specs.Lines.Speaking.{AreSpoken, Speaks}

-- of all faults
pub then_all : (chains : List MapChain) (faults : List MapFault) (keys : List Subject) (empty kept : KeptLines) (lines : RecordLines) (entries : List (ℕ × Record)) → lines.kept ≡ kept → HasAll chains faults keys
    → ((s : Subject) → Contains keys s → is_wanted empty s ≡ true) → ((s : Subject) → kept_of empty s ≡ []) → NotesAll empty kept entries → HoldsAll chains faults entries lines
then_all chains faults keys empty kept lines entries same has wanted none notes = λ k fault there.
    let its : (s : Subject) → is_wanted empty s ≡ true → held lines s ≡ lines_about entries s =
    λ s is. ap (λ (l : KeptLines). kept_of l s) same ∙ notes.lines s is ∙ ap (λ l. l ++ lines_about entries s) (none s) in (
      one (subjects_of chains fault).0 (λ s spoken. its s (wanted s (has k fault there s (inl spoken)))),
      one (subjects_of chains fault).1 (λ s spoken. its s (wanted s (has k fault there s (inr spoken)))),
    )
  where
    one : (subject : Option Subject) → ((s : Subject) → subject ≡ Some s → held lines s ≡ lines_about entries s) → HoldsLines entries lines subject
    one None each = tt
    one (Some s) each = each s refl

-- no lines at all
pub then_none : {E : Type 0} (result : Result RecordLines E) (kept : KeptLines) → IfOk result (λ lines. lines.kept ≡ kept) → ((s : Subject) → kept_of kept s ≡ [])
    → IfOk result (λ lines. (s : Subject) → held lines s ≡ [])
then_none (Ok lines) kept same none = λ s. ap (λ (l : KeptLines). kept_of l s) same ∙ none s
then_none (Err stop) kept same none = tt

-- what is spoken of among records is so of files, where the records are those of what is left of their texts without refused lines
pub are_spoken : (layout : Layout) (under : Under) (names : List (List ℕ)) (counts : List ℕ) (entries : List (ℕ × Record)) (drawn : Option TheMap) (faults : List MapFault) (spoken : Spoken) → Speaks counts entries drawn faults spoken
    → ((texts : List (List ℕ)) → HaveTexts under names texts → (counts ≡ map line_count texts) × (entries ≡ (lines_read layout (left_of layout (joined texts))).entries)) → AreSpoken layout under names drawn faults spoken
are_spoken layout under names counts entries drawn faults spoken speaks read = record {
  placed = speaks.placed;
  read = λ texts have. let both = read texts have in record {
    counted = speaks.counted ∙ both.0;
    lines = subst (λ (l : List (ℕ × Record)). HoldsAll (chains_of drawn) faults l spoken.lines) both.1 speaks.lines;
  };
}
