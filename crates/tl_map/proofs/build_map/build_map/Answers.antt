use Rattle.std.proofs.Common.{ap, length, arith}
use Rattle.tl_map_rules.specs.declared.fault.Limited.TheVariants.{Polygons}
use Rattle.tl_map_rules.specs.declared.fault.RecordFault.TheVariants.{TooMany}
use Rattle.tl_map.proofs.CollectLemmas.{leaves_all}
use Rattle.tl_map.proofs.LeftLemmas.{leaves_areas, some_told, none_of_chains}
use Rattle.tl_map.proofs.UnbuiltLemmas.{faulty}
use Rattle.tl_map.proofs.build_map.build_map.Goals as goal

pub build_chains-requires : goal.build_chains-requires
build_chains-requires c = (c.requires.0, c.requires.1)

pub faults_of-requires : goal.faults_of-requires
faults_of-requires c = (c.requires.0, leaves_all c.requires.0 c.args.collected c.requires.1)

pub faults_of-requires-in-Err-Faulty : goal.faults_of-requires-in-Err-Faulty
faults_of-requires-in-Err-Faulty c =
    (c.requires.0, faulty _ c.in-Err-Faulty.field-0 c.in-Err-Faulty.field-0-is (c.in-Err-Faulty.ensures.left c.requires.0 c.requires.1))

pub returns-then-len : goal.returns-then-len
returns-then-len c = λ rs h k.
    let same = ap length k.polygons in
    let all = c.in_ok-faults.ensures rs (leaves_all rs c.args.collected h) (leaves_areas rs c.args.areas k) in
    (all, some_told rs c.in_ok-faults.faults.items all (λ none. none (TooMany Polygons) (omega (arith, same, c.len.ensures, c.if-len.true, c.args.areas.polygons.ok.0))))

pub returns-in_ok-faults-in-Err-Faulty : goal.returns-in_ok-faults-in-Err-Faulty
returns-in_ok-faults-in-Err-Faulty c = λ rs h k.
    let left = faulty _ c.in-Err-Faulty.field-0 c.in-Err-Faulty.field-0-is (c.in-Err-Faulty.ensures.left rs h) in
    let all = c.in_ok-faults-in-Err-Faulty.ensures rs left (leaves_areas rs c.args.areas k) in
    let why = faulty _ c.in-Err-Faulty.field-0 c.in-Err-Faulty.field-0-is (c.in-Err-Faulty.ensures.built rs h) in
    (all, some_told rs c.in_ok-faults-in-Err-Faulty.faults.items all (λ none. why (none_of_chains rs none)))
