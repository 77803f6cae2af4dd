use Rattle.std.proofs.Common.{[], ℕ, List, Option, map, string_bytes, refl, subst, ap, ◌∙◌}
use Rattle.tl_map_county.specs.TheMap.{TheMap}
use Rattle.tl_check_verdict.specs.declared.fault.MapFault.{MapFault}
use Rattle.tigertopo_files.specs.World.{Made, world}
use Rattle.tigertopo_files.proofs.WorldLemmas.{does_answer, does_fail, does_so}
use Rattle.tigertopo_faults.specs.Records.Keeping.{held}
use Rattle.tigertopo_faults.specs.Geojson.Texts.{faults_text}
use Rattle.tigertopo_program.specs.Records.{StopsNever}
use Rattle.tigertopo_program.specs.Lists.Listed.{StopsList, featured, wanted_of}
use Rattle.tigertopo_program.proofs.ListLemmas.{does_not, left_answers}
use Rattle.tigertopo_program.proofs.lists.skipping.tell_left.Goals as goal

pub returns-in_err-texts : goal.returns-in_err-texts
returns-in_err-texts g c = λ known are found noted.
    does_not _ refl (λ known. refl) _ _ _ _ c.in_err-texts.ensures.stop c.from_residual.result c.from_residual.ensures.1

pub returns-in_err-make_collection : goal.returns-in_err-make_collection
returns-in_err-make_collection g c = λ known are found noted.
    let asked = wanted_of (map string_bytes c.args.names.now) c.args.wanted in
    does_so _ [] asked.made _ _ StopsNever (StopsList c.args.options known asked) (λ t is. is) (λ s never. absurd never) _
    (does_fail _ [] asked.made _ StopsNever c.in_err-make_collection.field-0.0 c.in_err-make_collection.ensures _
    c.from_residual-in_err-make_collection.result c.from_residual-in_err-make_collection.ensures.1)

pub returns : goal.returns
returns g c = λ known are found noted.
    let asked = wanted_of (map string_bytes c.args.names.now) c.args.wanted in
    let w = world g.F.FileSystem.under g.F.FileSystem.log g.F.FileSystem.knows c.args.files.now c.make_collection.new.files in
    let left = c.args.left.now in
    let texts = c.in_ok-texts.texts in
    let shown = c.featured-shown.ensures ∙ ap (λ (fs : List MapFault). featured c.args.wanted.told fs) c.as_slice-faults.ensures.value in
    let same =
    ap (λ (d : Option TheMap). faults_text asked.names texts.spoken.counts.items d (held texts.spoken.lines) texts.spoken.places.items c.featured-shown.result.now left.touched c.as_slice-features.result.now) c.as_ref-drawn.ensures.value
    ∙ ap (λ (fs : List MapFault). faults_text asked.names texts.spoken.counts.items left.map (held texts.spoken.lines) texts.spoken.places.items fs left.touched c.as_slice-features.result.now) shown
    ∙ ap (λ (t : List ℕ). faults_text asked.names texts.spoken.counts.items left.map (held texts.spoken.lines) texts.spoken.places.items (featured asked.told left.faults.items) left.touched t) c.as_slice-features.ensures.value in
    does_so w [] asked.made _ _ StopsNever (StopsList c.args.options known asked) (λ t is. is) (λ s never. absurd never) _
    (does_answer w [] asked.made _ StopsNever c.in_ok-make_collection.field-0 c.in_ok-make_collection.ensures _ _
    (left_answers c.args.options known asked w c.args.list are left found texts (c.in_ok-texts.ensures.prepared w.before noted)
    (subst (λ (t : List ℕ). Made w asked.made t) same c.in_ok-make_collection.ensures.answered)))
