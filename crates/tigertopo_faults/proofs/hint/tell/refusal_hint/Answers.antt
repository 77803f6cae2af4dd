use Rattle.std.proofs.Common.{Option, refl, ◌∙◌, ap, arith, map, string_bytes}
use Rattle.std.proofs.lemmas.Result.{err_from_is_err_and}
use Rattle.tl_cert_output.specs.Stops.{StopsFor}
use Rattle.tl_cert_output.proofs.StopLemmas.{by_stop, stops_for}
use Rattle.tigertopo_files.specs.Files.{Under, bytes_under}
use Rattle.tigertopo_files.specs.World.{world}
use Rattle.tigertopo_faults.specs.declared.hint.refused.Sought.{Sought}
use Rattle.tigertopo_faults.specs.Hint.Again.{FailsAgain}
use Rattle.tigertopo_faults.specs.Hint.Advice.{asking}
use Rattle.tigertopo_faults.proofs.HintLemmas.HintLemmas.{among, told_behind, told_here, told_nowhere}
use Rattle.tigertopo_faults.proofs.HintLemmas.AgainLemmas.{fails_among, fails_behind, passing_among, stops_logged, stops_one}
use Rattle.tigertopo_faults.proofs.hint.tell.refusal_hint.Goals as goal

pub returns-in-Some-Told-clause-hint : goal.returns-in-Some-Told-clause-hint
returns-in-Some-Told-clause-hint g c = λ texts have.
    let answered = c.in_ok-text.ensures.told.answered in
    let told = rw c.in-Some-Told.is at answered in
    told_here string_bytes (asking c.args.by) (g.F.FileSystem.under c.args.files.now) c.args.names.now texts have _ c.args.cause c.loop-name.name-index c.name-item.result _ c.loop-name.number _
    c.loop-name-test.true c.name-item.is (ap (λ (u : Under). bytes_under u (string_bytes c.name-item.result)) c.loop-name.invariant.stays) (rw c.in-Some-Told.field-0-is at told) (c.loop-name.invariant.left texts have)

pub returns-in-None-clause-hint : goal.returns-in-None-clause-hint
returns-in-None-clause-hint g c = λ texts have.
    let passing = c.in_ok-text.ensures.passing in
    absurd (passing_among string_bytes (g.F.FileSystem.under c.args.files.now) (g.F.FileSystem.under c.loop-name.files) c.args.names.now c.loop-name.name-index c.name-item.result c.loop-name-test.true c.name-item.is c.loop-name.invariant.stays
    (rw c.in-None.is at passing) texts have)

pub loop-name-preserved : goal.loop-name-preserved
loop-name-preserved g c =
    let before = c.loop-name.invariant in
    let does = c.in_ok-text.ensures in
    let answered = does.told.answered in
    let told = rw c.in-Some-Behind.is at answered in
    let sought = rw c.in-Some-Behind.field-0-is at told in record {
      stays = does.stays ∙ before.stays;
      same = λ known. does.logged known ∙ before.same known;
      left = λ texts have.
          told_behind string_bytes (asking c.args.by) (g.F.FileSystem.under c.args.files.now) c.args.names.now texts have _ c.args.cause c.loop-name.name-index c.name-item.result _ c.loop-name.number c.in-Some-Behind.lines
          c.loop-name-test.true c.name-item.is (ap (λ (u : Under). bytes_under u (string_bytes c.name-item.result)) before.stays) sought.0 sought.1 (before.left texts have);
    }

pub returns-clause-hint : goal.returns-clause-hint
returns-clause-hint g c = λ texts have.
    rw c.new-2.ensures.items (told_nowhere string_bytes (asking c.args.by) (g.F.FileSystem.under c.args.files.now) c.args.names.now texts have _ c.args.cause c.loop-name.name-index c.loop-name.number
    (omega (arith, c.loop-name-test.false)) (c.loop-name.invariant.left texts have))

pub loop-name-init : goal.loop-name-init
loop-name-init g c = record { stays = refl; same = λ known. refl; left = λ texts have. refl }

pub returns-in-Some-Told-clause-stops : goal.returns-in-Some-Told-clause-stops
returns-in-Some-Told-clause-stops g c = tt

pub returns-in-Some-Told-clause-stays : goal.returns-in-Some-Told-clause-stays
returns-in-Some-Told-clause-stays g c = c.in_ok-text.ensures.stays ∙ c.loop-name.invariant.stays

pub returns-in-Some-Told-clause-logged : goal.returns-in-Some-Told-clause-logged
returns-in-Some-Told-clause-logged g c = λ known. c.in_ok-text.ensures.logged known ∙ c.loop-name.invariant.same known

pub returns-in-None-clause-stops : goal.returns-in-None-clause-stops
returns-in-None-clause-stops g c = tt

pub returns-in-None-clause-stays : goal.returns-in-None-clause-stays
returns-in-None-clause-stays g c = c.in_ok-text.ensures.stays ∙ c.loop-name.invariant.stays

pub returns-in-None-clause-logged : goal.returns-in-None-clause-logged
returns-in-None-clause-logged g c = λ known. c.in_ok-text.ensures.logged known ∙ c.loop-name.invariant.same known

pub returns-clause-stops : goal.returns-clause-stops
returns-clause-stops g c = tt

pub returns-clause-stays : goal.returns-clause-stays
returns-clause-stays g c = c.loop-name.invariant.stays

pub returns-clause-logged : goal.returns-clause-logged
returns-clause-logged g c = λ known. c.loop-name.invariant.same known

pub returns-in_err-text-clause-hint : goal.returns-in_err-text-clause-hint
returns-in_err-text-clause-hint g c = let p = err_from_is_err_and c.from_residual.result c.from_residual.ensures.1 in rw p.1 tt

pub returns-in_err-text-clause-stops : goal.returns-in_err-text-clause-stops
returns-in_err-text-clause-stops g c =
    let names = map string_bytes c.args.names.now in
    let now = world g.F.FileSystem.under g.F.FileSystem.log g.F.FileSystem.knows c.loop-name.files c.read_again.new.self in
    let w = world g.F.FileSystem.under g.F.FileSystem.log g.F.FileSystem.knows c.args.files.now c.read_again.new.self in
    let here = among string_bytes c.args.names.now c.loop-name.name-index c.name-item.result c.loop-name-test.true c.name-item.is in
    by_stop c.from_residual.result c.in_err-text.field-0.0 (StopsFor (FailsAgain w names)) c.from_residual.ensures.1
    (stops_for _ _ c.in_err-text.field-0.0
    (λ fails. fails_behind w.before now.before w.after w.log now.log w.logged w.knows names c.loop-name.invariant.stays c.loop-name.invariant.same (fails_among now names (string_bytes c.name-item.result) here fails))
    (stops_one now (string_bytes c.name-item.result) _ c.in_err-text.field-0.0 c.in_err-text.ensures))

pub returns-in_err-text-clause-stays : goal.returns-in_err-text-clause-stays
returns-in_err-text-clause-stays g c = c.in_err-text.ensures.stays ∙ c.loop-name.invariant.stays

pub returns-in_err-text-clause-logged : goal.returns-in_err-text-clause-logged
returns-in_err-text-clause-logged g c = λ known.
    stops_logged (Option Sought) (g.F.FileSystem.log c.args.files.now) (g.F.FileSystem.log c.loop-name.files) (g.F.FileSystem.log c.read_again.new.self) c.from_residual.result c.in_err-text.field-0.0 c.from_residual.ensures.1
    (c.loop-name.invariant.same known) (c.in_err-text.ensures.logged known)
