use Rattle.std.proofs.Common.{[], ℕ, List, Option, map, string_bytes, refl, subst, ap, ◌∙◌}
use Rattle.std.specs.Prelude.{option_copied}
use Rattle.tl_map_county.specs.TheMap.{TheMap}
use Rattle.tl_check_verdict.specs.declared.fault.MapFault.{MapFault}
use Rattle.tigertopo_faults.specs.Records.SpokenOf.{chains_of}
use Rattle.tigertopo_faults.specs.Records.Keeping.{held}
use Rattle.tigertopo_files.specs.World.{Made, world}
use Rattle.tigertopo_files.proofs.WorldLemmas.{does_fail, does_answer}
use Rattle.tigertopo_faults.specs.Lines.Speaking.{AreSpoken}
use Rattle.tigertopo_faults.specs.Geojson.Texts.{faults_text}
use Rattle.tigertopo_faults.proofs.LinesLemmas.SpeakingLemmas.{are_spoken}
use Rattle.tigertopo_program.specs.Records.{StopsNever}
use Rattle.tigertopo_program.specs.Lists.Listed.{featured, wanted_of}
use Rattle.tigertopo_program.specs.Lists.Keeping.{IsPrepared}
use Rattle.tigertopo_program.proofs.ListLemmas.{does_not, faults_answered, faults_status}
use Rattle.tigertopo_program.proofs.lists.listing.tell_faults.Goals as goal

pub returns-in_err-spoken : goal.returns-in_err-spoken
returns-in_err-spoken g c = λ layout lines. does_not _ refl (λ known. refl) _ _ StopsNever _ c.in_err-spoken.ensures.stop c.from_residual.result c.from_residual.ensures.1

pub returns-in_err-text : goal.returns-in_err-text
returns-in_err-text g c = λ layout lines.
    does_not _ refl (λ known. refl) _ _ StopsNever _ c.in_err-text.ensures.stop c.from_residual-in_err-text.result c.from_residual-in_err-text.ensures.1

pub returns-in_err-make_collection : goal.returns-in_err-make_collection
returns-in_err-make_collection g c = λ layout lines.
    does_fail _ [] _ _ StopsNever c.in_err-make_collection.field-0.0 c.in_err-make_collection.ensures _ c.from_residual-in_err-make_collection.result c.from_residual-in_err-make_collection.ensures.1

pub returns : goal.returns
returns g c = λ layout lines.
    let u = g.F.FileSystem.under c.args.files.now in
    let w = world g.F.FileSystem.under g.F.FileSystem.log g.F.FileSystem.knows c.args.files.now c.make_collection.new.files in
    let names = map string_bytes c.args.names.now in
    let asked = wanted_of names c.args.wanted in
    let drawn = c.as_ref-drawn.ensures.value in
    let listed = c.as_slice-listed.ensures.value in
    let shown = c.featured-shown.ensures ∙ ap (λ (fs : List MapFault). featured c.args.wanted.told fs) listed in
    let spoken = c.in_ok-spoken.spoken in
    let text = c.in_ok-text.text in
    let same = ap (λ (m : Option TheMap). faults_text names spoken.counts.items m (held spoken.lines) spoken.places.items c.featured-shown.result.now c.args.touched []) drawn
    ∙ ap (λ (fs : List MapFault). faults_text names spoken.counts.items c.args.map (held spoken.lines) spoken.places.items fs c.args.touched []) shown in
    let prepared = subst (λ (m : Option TheMap). IsPrepared names (chains_of m) spoken c.args.wanted.form c.args.wanted.told c.args.faults.items c.args.touched text) drawn
    (subst (λ (fs : List MapFault). IsPrepared names (chains_of (option_copied c.as_ref-drawn.result)) spoken c.args.wanted.form c.args.wanted.told fs c.args.touched text) listed c.in_ok-text.ensures.prepared) in
    does_answer w [] asked.made _ StopsNever c.in_ok-make_collection.field-0 c.in_ok-make_collection.ensures _ _ (record {
      spoken = spoken;
      speak = λ asks.
          subst (λ (m : Option TheMap). AreSpoken layout u names m (featured c.args.wanted.told c.args.faults.items) spoken) drawn
          (subst (λ (fs : List MapFault). AreSpoken layout u names (option_copied c.as_ref-drawn.result) fs spoken) shown
          (are_spoken layout u names c.args.counts.items c.args.records.now (option_copied c.as_ref-drawn.result) c.featured-shown.result.now spoken
          (c.in_ok-spoken.ensures.spoken asks) (lines asks)));
      kept = subst (λ (t : List ℕ). Made w asked.made t) same c.in_ok-make_collection.ensures.answered;
      is = rw c.faults_answer.ensures (faults_status c.args.wanted.told c.args.faults c.args.touched text);
      lines = rw c.faults_answer.ensures (faults_answered names (chains_of c.args.map) spoken c.args.wanted.form c.args.wanted.told c.args.faults c.args.touched text prepared);
    })
