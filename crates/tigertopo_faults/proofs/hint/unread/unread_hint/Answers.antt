use Rattle.std.proofs.Common.{subst, ◌∙◌, [], ◌∷◌, ap, length, arith, map, string_bytes}
use Rattle.std.proofs.lemmas.List.{length-append}
use Rattle.tl_cert_output.specs.Stops.{StopsFor}
use Rattle.tl_cert_output.proofs.StopLemmas.{by_stop, stops_for}
use Rattle.tigertopo_files.specs.Files.{Under, bytes_under}
use Rattle.tigertopo_files.specs.World.{world}
use Rattle.tigertopo_faults.specs.declared.hint.holding.Held.{Held}
use Rattle.tigertopo_faults.specs.Hint.Again.{FailsAgain}
use Rattle.tigertopo_faults.proofs.HintLemmas.HintLemmas.{among}
use Rattle.tigertopo_faults.proofs.HintLemmas.AgainLemmas.{fails_among, fails_behind, stops_logged}
use Rattle.tigertopo_faults.specs.Hint.Advice.{asking}
use Rattle.tigertopo_faults.specs.Hint.Unread.{IsHeld}
use Rattle.tigertopo_faults.proofs.HintLemmas.UnreadLemmas.{all_told, held_chain_first, held_more}
use Rattle.tigertopo_faults.proofs.hint.unread.unread_hint.Goals as goal

pub returns-in-Chains-clause-hint : goal.returns-in-Chains-clause-hint
returns-in-Chains-clause-hint g c = λ texts have.
    let name = c.name-item.result in
    let holds = subst (λ (u : Under). IsHeld (bytes_under u (string_bytes name)) c.in_ok-other.other) c.loop-name.invariant.stays c.in_ok-other.ensures.held in
    c.new.ensures.items
    ∙ held_chain_first string_bytes (asking c.args.by) (g.F.FileSystem.under c.args.files.now) c.args.names.now texts have c.loop-name.name-index name c.in_ok-other.other c.loop-name-test.true c.name-item.is holds c.in-Chains.is

pub loop-name-preserved : goal.loop-name-preserved
loop-name-preserved g c =
    let name = c.name-item.result in
    let holds = subst (λ (u : Under). IsHeld (bytes_under u (string_bytes name)) c.in_ok-other.other) c.loop-name.invariant.stays c.in_ok-other.ensures.held in
    let pushed = c.in_ok-push-in_default.ensures.items in
    record {
      counted = omega (arith, ap (length {A = Held}) pushed, length-append c.loop-name.held.items (c.in_ok-other.other ∷ []), c.loop-name.invariant.counted);
      stays = c.in_ok-other.ensures.stays ∙ c.loop-name.invariant.stays;
      same = λ known. c.in_ok-other.ensures.logged known ∙ c.loop-name.invariant.same known;
      held = λ texts have.
          held_more string_bytes (asking c.args.by) (g.F.FileSystem.under c.args.files.now) c.args.names.now texts have c.loop-name.name-index name c.in_ok-other.other c.loop-name.held.items c.push.new.self.items
          c.loop-name-test.true c.name-item.is holds c.in_default.not-Chains pushed (c.loop-name.invariant.held texts have);
    }

pub returns-clause-hint : goal.returns-clause-hint
returns-clause-hint g c =
    all_told string_bytes (asking c.args.by) (g.F.FileSystem.under c.args.files.now) c.args.names.now c.loop-name.name-index c.loop-name.held.items _ c.with_printed.result (omega (arith, c.loop-name-test.false)) c.loop-name.invariant.held
    (rw c.as_slice.ensures.value at c.with_printed.ensures.bytes)

pub returns-in_err-other-clause-stops : goal.returns-in_err-other-clause-stops
returns-in_err-other-clause-stops g c =
    let names = map string_bytes c.args.names.now in
    let name = c.name-item.result in
    let now = world g.F.FileSystem.under g.F.FileSystem.log g.F.FileSystem.knows c.loop-name.files c.held_under.new.files in
    let w = world g.F.FileSystem.under g.F.FileSystem.log g.F.FileSystem.knows c.args.files.now c.held_under.new.files in
    let here = among string_bytes c.args.names.now c.loop-name.name-index name c.loop-name-test.true c.name-item.is in
    by_stop c.from_residual.result c.in_err-other.field-0.0 (StopsFor (FailsAgain w names)) c.from_residual.ensures.1
    (stops_for _ _ c.in_err-other.field-0.0
    (λ fails. fails_behind w.before now.before w.after w.log now.log w.logged w.knows names c.loop-name.invariant.stays c.loop-name.invariant.same (fails_among now names (string_bytes name) here fails))
    c.in_err-other.ensures.stops)

pub returns-in_err-other-clause-logged : goal.returns-in_err-other-clause-logged
returns-in_err-other-clause-logged g c = λ known.
    stops_logged Held (g.F.FileSystem.log c.args.files.now) (g.F.FileSystem.log c.loop-name.files) (g.F.FileSystem.log c.held_under.new.files) c.from_residual.result c.in_err-other.field-0.0 c.from_residual.ensures.1
    (c.loop-name.invariant.same known) (c.in_err-other.ensures.logged known)
