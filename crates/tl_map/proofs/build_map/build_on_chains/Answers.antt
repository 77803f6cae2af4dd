use Rattle.std.proofs.Common.{◌≡◌, length, sym, ap, ◌∙◌}
use Rattle.std.proofs.lemmas.List.{length-map}
use Rattle.tl_map_county.specs.declared.polygons.Polygon.{Polygon}
use Rattle.tl_map_rules.specs.MapOf.{keys}
use Rattle.tl_map.proofs.OnceLemmas.{rows_once}
use Rattle.tl_map.proofs.SideLemmas.{all_among}
use Rattle.tl_map.proofs.MappedLemmas.{linked_all, as_many, few_rows}
use Rattle.tl_map.proofs.LeftLemmas.{leaves_same, some_told}
use Rattle.tl_map.proofs.UnbuiltLemmas.{faulty}
use Rattle.tl_map.proofs.build_map.build_on_chains.Goals as goal

pub link_areas-requires-clause-kept : goal.link_areas-requires-clause-kept
link_areas-requires-clause-kept c = c.requires.kept

pub faults_behind-requires : goal.faults_behind-requires
faults_behind-requires c = c.requires.kept.2.chains.rising

pub new-requires-clause-paired : goal.new-requires-clause-paired
new-requires-clause-paired c =
    let kept = c.requires.kept in
    let made = c.in-Ok.ensures.linked kept.0 kept.1 kept.2 kept.3 in
    as_many kept.0 kept.1 c.args.chains c.args.areas.sides made.paired c.in-Ok.sides (keys c.args.areas.polygons.items) kept.2 made.pairs made.resolved

pub new-requires-clause-landmarks : goal.new-requires-clause-landmarks
new-requires-clause-landmarks c =
    let kept = c.requires.kept in
    few_rows _ _ _ c.in-Ok.linked (c.in-Ok.ensures.linked kept.0 kept.1 kept.2 kept.3).linked

pub new-requires-clause-linked : goal.new-requires-clause-linked
new-requires-clause-linked c =
    let kept = c.requires.kept in
    let ps = c.args.areas.polygons.items in
    let many : length c.link_areas.new.areas.polygons.items ≡ length (keys ps) = ap length c.in-Ok.ensures.same.polygons ∙ sym (length-map ps (λ (p : Polygon). p.key)) in
    rw many (rows_once _ _ _ c.in-Ok.linked (c.in-Ok.ensures.linked kept.0 kept.1 kept.2 kept.3).linked)

pub new-requires-clause-among : goal.new-requires-clause-among
new-requires-clause-among c =
    let kept = c.requires.kept in
    let made = c.in-Ok.ensures.linked kept.0 kept.1 kept.2 kept.3 in
    let ps = c.args.areas.polygons.items in
    let many : length c.link_areas.new.areas.polygons.items ≡ length (keys ps) = ap length c.in-Ok.ensures.same.polygons ∙ sym (length-map ps (λ (p : Polygon). p.key)) in
    rw (many, made.resolved) (all_among (keys ps) made.paired made.known)

pub returns-in-Ok : goal.returns-in-Ok
returns-in-Ok c = λ rs skipped built keeps.
    rw (c.in_ok-map-in-Ok.ensures, c.in-Ok.ensures.same.polygons)
    (linked_all rs skipped c.args.chains c.args.areas c.in-Ok.sides c.in-Ok.linked built keeps c.requires.few (c.in-Ok.ensures.linked rs skipped built keeps))

pub returns-in-Err-Faulty : goal.returns-in-Err-Faulty
returns-in-Err-Faulty c = λ rs skipped built keeps.
    let all = c.in_ok-faults-in-Err-Faulty.ensures rs skipped built (leaves_same rs c.args.areas c.link_areas.new.areas keeps c.in-Err-Faulty.ensures.same) in
    let why = faulty _ c.in-Err-Faulty.field-0 c.in-Err-Faulty.field-0-is (c.in-Err-Faulty.ensures.linked rs skipped built keeps) in
    (all, some_told rs c.in_ok-faults-in-Err-Faulty.faults.items all why)
