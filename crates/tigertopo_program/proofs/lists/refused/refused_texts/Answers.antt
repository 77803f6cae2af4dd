use Rattle.std.proofs.Common.{List, map, string_bytes, ap, ◌∙◌}
use Rattle.tl_record.specs.Layout.{layout_with}
use Rattle.tl_record.specs.declared.refusal.Refusal.{Refusal}
use Rattle.tigertopo_faults.specs.declared.hint.form.RefusedForm.TheVariants.{Features}
use Rattle.tigertopo_faults.specs.Hint.Fronts.{fronted_text}
use Rattle.tl_list.specs.Keeping.Noting.{bytes_of}
use Rattle.tigertopo_program.specs.Lists.Listed.{featured, wanted_of}
use Rattle.tigertopo_program.proofs.ListLemmas.{asks_where_made, asks_where_placed, features_placed}
use Rattle.tigertopo_program.proofs.lists.refused.refused_texts.Goals as goal

pub returns-clause-prepared : goal.returns-clause-prepared
returns-clause-prepared c = λ under are.
    let asked = wanted_of (map string_bytes c.args.names.now) c.args.wanted in
    let layout = layout_with c.args.options in
    let counts = c.args.counts.now in
    let fronts = bytes_of c.args.fronts.now in
    let listed = c.featured-shown.ensures ∙ ap (λ (rs : List Refusal). featured asked.told rs) c.as_slice.ensures.value in
    record {
      answer = c.in_ok-answer.ensures.answer under (λ asks. are (asks_where_placed asked.form asked.made asks));
      features = λ asks.
          features_placed layout under asked.names asked.told counts c.args.list.items fronts (are (asks_where_made asked.form asked.made asks)) c.in_ok-features.features.items
          (c.in_ok-features.ensures.text asks ∙ ap (λ (rs : List Refusal). fronted_text Features layout asked.names counts rs fronts) listed);
    }
