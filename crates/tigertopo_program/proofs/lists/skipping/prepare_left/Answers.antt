use Rattle.std.proofs.Common.{◌≡◌, ℕ, true, List, Option, map, string_bytes, sym, subst, ap, ◌∙◌, ◌++◌, length}
use Rattle.std.specs.Prelude.{Vec, option_copied}
use Rattle.std.specs.Global.{Global}
use Rattle.tl_record.specs.Layout.{layout_with}
use Rattle.tl_record.specs.declared.refusal.Refusal.{Refusal}
use Rattle.tl_map_county.specs.TheMap.{TheMap}
use Rattle.tl_check_verdict.specs.declared.fault.MapFault.{MapFault}
use Rattle.tigertopo_faults.specs.Lines.Speaking.{AreSpoken}
use Rattle.tigertopo_faults.specs.Records.SpokenOf.{chains_of}
use Rattle.tigertopo_faults.proofs.LinesLemmas.SpeakingLemmas.{are_spoken}
use Rattle.tl_list.specs.Keeping.Noting.{bytes_of}
use Rattle.tigertopo_faults.specs.Told.{told_text}
use Rattle.tigertopo_program.specs.Lists.Keeping.{AreFronts}
use Rattle.tigertopo_program.specs.Lists.Listed.{asks_lines, featured, most_of, refusals_text, skipped_text, wanted_of}
use Rattle.tigertopo_program.specs.Texts.{answer_text}
use Rattle.tigertopo_program.proofs.lists.skipping.prepare_left.Goals as goal

pub returns-clause-prepared : goal.returns-clause-prepared
returns-clause-prepared c = λ u noted.
    let layout = layout_with c.args.options in
    let asked = wanted_of (map string_bytes c.args.names.now) c.args.wanted in
    let left = c.args.left.now in
    let drawn = c.as_ref-drawn.ensures.value in
    let shown = c.featured-shown.ensures ∙ ap (λ (fs : List MapFault). featured c.args.wanted.told fs) c.as_slice-faults.ensures.value in
    let spoken = c.in_ok-spoken.spoken in
    let fronts = λ (asks : asks_lines asked.form asked.made ≡ true).
    subst (λ (fs : List (Vec ℕ Global)). AreFronts u asked.names c.as_slice-counts.result.now c.args.list.items (bytes_of fs)) (sym c.as_slice-fronts.ensures.value)
    (subst (λ (counts : List ℕ). AreFronts u asked.names counts c.args.list.items (bytes_of c.args.noted.now.fronts.items))
    (sym (c.as_slice-counts.ensures.value ∙ (c.in_ok-spoken.ensures.spoken asks).counted)) (noted asks).0) in
    let so = c.in_ok-refused.ensures.prepared u fronts in
    let told =
    c.as_slice.ensures.value ∙ c.in_ok-behind.ensures.bytes
    ∙ ap (λ (d : Option TheMap). told_text asked.names (chains_of d) spoken asked.form asked.told c.as_slice-faults.result.now left.touched) drawn
    ∙ ap (λ (fs : List MapFault). told_text asked.names (chains_of left.map) spoken asked.form asked.told fs left.touched) c.as_slice-faults.ensures.value in
    record {
      told = so.answer.told;
      stand = so.answer.stand;
      plain = so.answer.plain;
      lines =
          c.in_ok-text.ensures.bytes
          ∙ ap (λ (rs : List Refusal). answer_text c.in_ok-refused.refused.0 ++ c.as_slice.result.now ++ skipped_text asked.form (length rs)) c.as_slice-refusals.ensures.value
          ∙ ap (λ (t : List ℕ). t ++ c.as_slice.result.now ++ skipped_text asked.form (length c.args.list.items)) so.answer.lines
          ∙ ap (λ (t : List ℕ). refusals_text asked.form (most_of asked.told) c.args.list.items so.answer.told ++ t ++ skipped_text asked.form (length c.args.list.items)) told;
      speak = λ asks.
          subst (λ (d : Option TheMap). AreSpoken layout u asked.names d (featured asked.told left.faults.items) spoken) drawn
          (subst (λ (fs : List MapFault). AreSpoken layout u asked.names (option_copied c.as_ref-drawn.result) fs spoken) shown
          (are_spoken layout u asked.names c.args.counts.items c.args.noted.now.records (option_copied c.as_ref-drawn.result) c.featured-shown.result.now spoken
          (c.in_ok-spoken.ensures.spoken asks) (noted asks).1));
      features = so.features;
    }
