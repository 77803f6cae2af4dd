use Rattle.std.proofs.Common.{[], ℕ, List, map, string_bytes, refl, subst}
use Rattle.tigertopo_files.specs.World.{Made, world}
use Rattle.tigertopo_files.proofs.WorldLemmas.{does_answer, does_fail, does_so}
use Rattle.tigertopo_program.specs.Records.{StopsNever}
use Rattle.tigertopo_program.specs.Lists.Listed.{StopsList, refused_text, wanted_of}
use Rattle.tigertopo_program.proofs.ListLemmas.{does_not, refused_answers}
use Rattle.tigertopo_program.proofs.lists.refused.tell_refusals.Goals as goal

pub returns-in_err-prepared : goal.returns-in_err-prepared
returns-in_err-prepared g c = λ known all are nothing fronts.
    does_not _ refl (λ known. refl) _ _ _ _ c.in_err-prepared.ensures.stop c.from_residual.result c.from_residual.ensures.1

pub returns-in_err-make_without_faults : goal.returns-in_err-make_without_faults
returns-in_err-make_without_faults g c = λ known all are nothing fronts.
    let asked = wanted_of (map string_bytes c.args.names.now) c.args.wanted in
    does_so _ [] asked.made _ _ StopsNever (StopsList c.args.options known asked) (λ t is. is) (λ s never. absurd never) _
    (does_fail _ [] asked.made _ StopsNever c.in_err-make_without_faults.field-0.0 c.in_err-make_without_faults.ensures _
    c.from_residual-in_err-make_without_faults.result c.from_residual-in_err-make_without_faults.ensures.1)

pub returns : goal.returns
returns g c = λ known all are nothing fronts.
    let asked = wanted_of (map string_bytes c.args.names.now) c.args.wanted in
    let w = world g.F.FileSystem.under g.F.FileSystem.log g.F.FileSystem.knows c.args.files.now c.make_without_faults.new.files in
    does_so w [] asked.made _ _ StopsNever (StopsList c.args.options known asked) (λ t is. is) (λ s never. absurd never) _
    (does_answer w [] asked.made _ StopsNever c.in_ok-make_without_faults.field-0 c.in_ok-make_without_faults.ensures _ c.in_ok-prepared.prepared.0
    (refused_answers c.args.options known asked w c.args.list are all nothing c.in_ok-prepared.prepared (c.in_ok-prepared.ensures.prepared w.before fronts)
    (subst (λ (t : List ℕ). Made w asked.made (refused_text asked.names t)) c.as_slice.ensures.value c.in_ok-make_without_faults.ensures.answered)))
