use Rattle.std.proofs.Common.{◌≡◌, Option, subst}
use Rattle.std.specs.Option.{IfSome}
use Rattle.tl_record.specs.Layout.{layout_with}
use Rattle.tl_map_county.specs.TheMap.{TheMap}
use Rattle.tl_list.specs.MapListings.{IsListingFor}
use Rattle.tl_cert_output.specs.declared.stop.Stop.TheVariants.{Device}
use Rattle.tl_cert_output.proofs.StopLemmas.{by_stop}
use Rattle.tl_list.specs.Findings.{SaysWhy}
use Rattle.tigertopo_files.specs.World.{MayStop}
use Rattle.tigertopo_program.specs.Records.{StopsRecords}
use Rattle.tigertopo_program.proofs.DrawLemmas.SubjectLemmas.{first_no_device, subject_found, subject_missing}
use Rattle.tigertopo_program.proofs.draw.subject.subject_of.Goals as goal

pub returns-in-Some-clause-found : goal.returns-in-Some-clause-found
returns-in-Some-clause-found c = λ options known found of_map. (
  subject_found options known c.args.found c.in-Some.map _ _ found c.in-Some.is c.faults_of.ensures c.touched_of.ensures,
  c.has_sound_map.ensures options.faces c.in-Some.map (subst (λ (m : Option TheMap). IfSome m (λ m. IsListingFor options.faces m c.args.found.listing)) c.in-Some.is of_map),
)

pub returns-in_ok-first_of-in-None-clause-found : goal.returns-in_ok-first_of-in-None-clause-found
returns-in_ok-first_of-in-None-clause-found c = λ options known found of_map.
    subject_missing options known c.args.found _ found c.in-None.is c.requires c.in_ok-first_of-in-None.ensures

pub returns-in_err-first_of-in-None-clause-stopped : goal.returns-in_err-first_of-in-None-clause-stopped
returns-in_err-first_of-in-None-clause-stopped c = λ options known found.
    by_stop c.from_residual.result c.in_err-first_of-in-None.field-0.0 (MayStop (StopsRecords (layout_with options) known)) c.from_residual.ensures.1
    (subject_missing options known c.args.found _ found c.in-None.is c.requires c.in_err-first_of-in-None.ensures)

pub returns-in_err-first_of-in-None-clause-no_device : goal.returns-in_err-first_of-in-None-clause-no_device
returns-in_err-first_of-in-None-clause-no_device c =
    by_stop c.from_residual.result c.in_err-first_of-in-None.field-0.0 (λ stop. ¬ (stop ≡ Device)) c.from_residual.ensures.1
    (first_no_device c.args.found.listing _ c.in_err-first_of-in-None.ensures)

pub first_of-requires : goal.first_of-requires
first_of-requires c = subst (λ m. SaysWhy m c.args.found.listing) c.in-None.is c.requires
