use Rattle.std.proofs.Common.{string_bytes}
use Rattle.tigertopo_program.specs.Building.{IsBuildOf}
use Rattle.tigertopo_files.specs.World.{world}
use Rattle.tigertopo_program.proofs.DecideLemmas.BuildLemmas.{build_faulty, build_stopped}
use Rattle.tigertopo_program.proofs.decide.building.build_of_map.Goals as goal

pub keep-requires-clause-sound : goal.keep-requires-clause-sound
keep-requires-clause-sound g c = rw c.in-Cert.is at c.in_ok-certificate.ensures.sound

pub keep-requires-clause-valid : goal.keep-requires-clause-valid
keep-requires-clause-valid g c = rw c.in-Cert.is at c.in_ok-certificate.ensures.valid

pub keep-requires-clause-version : goal.keep-requires-clause-version
keep-requires-clause-version g c = rw c.in-Cert.is at c.in_ok-certificate.ensures.version

pub returns-in-Fault : goal.returns-in-Fault
returns-in-Fault g c =
    rw c.fault.ensures (build_faulty (g.F.FileSystem.under c.args.files.now) (g.F.FileSystem.log c.args.files.now) g.F.FileSystem.knows (string_bytes c.args.made.now) c.args.faces c.args.map.now c.in-Fault.fault
    (rw c.in-Fault.is at c.in_ok-certificate.ensures.fault))

pub returns-in_err-certificate : goal.returns-in_err-certificate
returns-in_err-certificate g c =
    let w = world g.F.FileSystem.under g.F.FileSystem.log g.F.FileSystem.knows c.args.files.now c.args.files.now in
    build_stopped w.before w.log w.knows (string_bytes c.args.made.now) c.args.faces c.args.map.now (IsBuildOf w (string_bytes c.args.made.now) c.args.faces c.args.map.now) c.in_err-certificate.field-0.0 c.in_err-certificate.ensures.stops
    c.from_residual.result c.from_residual.ensures.1
