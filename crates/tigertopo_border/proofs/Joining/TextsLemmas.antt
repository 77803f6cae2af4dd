-- The map of texts that are read as one is joined from the maps of each text.
use Rattle.std.proofs.Common.{◌≡◌, ℕ, Bool, true, false, List, map, Some, None, refl, sym, ap, subst, ◌∙◌}
use Rattle.std.specs.Prelude.{slice_get}
use Rattle.std.proofs.lemmas.List.{length-map}
use Rattle.tl_record.specs.declared.options.Options.{Options}
use Rattle.tl_record.specs.Layout.{layout_with}
use Rattle.tl_record.specs.Lines.{raw_lines}
use Rattle.tl_record.specs.Records.{Records, records_of_lines, lines_read, joined_where}
use Rattle.tl_map.specs.Joined.Told.{joined_records}
use Rattle.tl_map.proofs.JoinedLemmas.JoinLemmas.{records_joined}
use Rattle.tl_map_county.specs.TheMap.{TheMap}
use Rattle.tl_map_rules.specs.MapOf.{IsMapOf}
use Rattle.tl_map_rules.specs.Reading.{records_in}
use Rattle.tigertopo_border.specs.Whole.Joined.{IsJoined}
use Rattle.tigertopo_files.specs.Joining.{joined}
use Rattle.tigertopo_faults.specs.Places.LinePlaces.{lines_of_all}
use Rattle.tigertopo_faults.proofs.PlaceLemmas.{joined_lines_are}
use Rattle.tigertopo_border.specs.Parts.{all_records, homes_of, joined_if, DrawParts, HaveNoFaultButMany}
use Rattle.tigertopo_border.specs.InParts.{joining, line_records, IsDrawnTogether, IsReadTogether, AreReadApart}
use Rattle.tigertopo_border.proofs.Joining.DrawnLemmas.{item_beside}
use Rattle.tigertopo_border.proofs.Joining.RecordsLemmas.{from_map, parts_joined}
use Rattle.tigertopo_border.proofs.Joining.LineLemmas.{texts_divided}

-- the records of a text, joined where counties are
records_where : (join : Bool) (all : Records) → records_in (joined_where join all) ≡ joined_if join (records_in all)
records_where true all = records_joined all.entries
records_where false all = refl

-- the records of all lines are those of each text's, without landmarks
pub lines_together : (options : Options) (texts : List (List ℕ)) → (lines_read (layout_with (joining options)) (joined texts)).refusal ≡ None
    → ((k : ℕ) (text : List ℕ) → slice_get texts k ≡ Some text → (lines_read (layout_with options) text).refusal ≡ None)
    → records_in (lines_read (layout_with (joining options)) (joined texts)) ≡ all_records (map (line_records options) texts)
lines_together options texts together apart =
    let same : records_of_lines (layout_with (joining options)) 0 (raw_lines (joined texts)) ≡ records_of_lines (layout_with (joining options)) 0 (lines_of_all texts) =
    ap (records_of_lines (layout_with (joining options)) 0) (joined_lines_are texts) in
    ap records_in same ∙ texts_divided options texts 0 (ap (λ (all : Records). all.refusal) (sym same) ∙ together) apart

module _ (options : Options) (texts : List (List ℕ)) (parts : List TheMap) (m : TheMap) (apart : AreReadApart options texts parts) where
  text_records : (text : List ℕ) → records_in (joined_where options.join (lines_read (layout_with options) text)) ≡ joined_if options.join (line_records options text)
  text_records text = records_where options.join (lines_read (layout_with options) text)

  draw : DrawParts options.join (map (line_records options) texts) parts
  draw = record {
    many = length-map texts (line_records options) ∙ apart.many;
    no_fault = λ k rs there.
        let text = from_map (line_records options) texts k rs there in
        let part = item_beside parts texts k text.0 (sym apart.many) text.1 in
        subst (λ qs. HaveNoFaultButMany (joined_if options.join qs)) text.2 (subst HaveNoFaultButMany (text_records text.0) (λ fault other. (apart.each k text.0 part.0 text.1 part.1).no_fault fault));
    drawn = λ k rs part there at.
        let text = from_map (line_records options) texts k rs there in
        subst (λ qs. IsMapOf (joined_if options.join qs) part) text.2 (subst (λ qs. IsMapOf qs part) (text_records text.0) (apart.each k text.0 part text.1 at).map);
  }

  pub none_refused : (k : ℕ) (text : List ℕ) → slice_get texts k ≡ Some text → (lines_read (layout_with options) text).refusal ≡ None
  none_refused k text there = let part = item_beside parts texts k text (sym apart.many) there in (apart.each k text part.0 there part.1).no_refusal

  -- what is read as one is drawn by the records of all texts
  pub drawn_together : IsReadTogether options texts m → IsDrawnTogether options texts m
  drawn_together is = record {
    no_fault = subst HaveNoFaultButMany records_are (λ fault other. is.no_fault fault);
    map = subst (λ rs. IsMapOf rs m) records_are is.map;
  }
    where
      records_are : records_in (joined_where true (lines_read (layout_with (joining options)) (joined texts))) ≡ joined_records (all_records (map (line_records options) texts))
      records_are =
          records_joined (lines_read (layout_with (joining options)) (joined texts)).entries ∙ ap joined_records (lines_together options texts is.no_refusal none_refused)

  pub texts_joined : IsDrawnTogether options texts m → IsJoined (homes_of parts) parts m
  texts_joined is = parts_joined options.join (map (line_records options) texts) parts m draw is.no_fault is.map
