use Rattle.std.proofs.Common.{[], refl, map, string_bytes}
use Rattle.std.proofs.lemmas.List.Elements.{All-nil, All-push, All-same}
use Rattle.tigertopo_files.specs.Counting.{IsShort}
use Rattle.tigertopo_files.specs.Files.{bytes_under}
use Rattle.tigertopo_files.specs.World.{SomeMissing}
use Rattle.tl_cert_output.specs.Stops.{StopsFor}
use Rattle.tl_cert_output.proofs.StopLemmas.{by_stop}
use Rattle.tigertopo_files.proofs.OpeningLemmas.{none_opened, one_more_opened, all_opened, missing_item, one_more_clear}
use Rattle.tigertopo_files.proofs.opening.open_each.Goals as goal

pub loop-name-init : goal.loop-name-init
loop-name-init g c = (
  none_opened g.O.Reader.Source.remaining (λ name. bytes_under (g.O.Opener.held c.args.opener.now) (string_bytes name)) _ c.args.names.now c.new-files.ensures.items,
  rw c.new-files.ensures.items refl,
  All-same (λ file. IsShort (g.O.Reader.Source.remaining file)) _ [] c.new-files.ensures.items (All-nil (λ file. IsShort (g.O.Reader.Source.remaining file))),
)

pub loop-name-preserved : goal.loop-name-preserved
loop-name-preserved g c =
    let before = c.loop-name.invariant in (
      one_more_opened g.O.Reader.Source.remaining (λ name. bytes_under (g.O.Opener.held c.args.opener.now) (string_bytes name)) c.loop-name.files.items _ c.in_ok-open_one.field-0 c.args.names.now c.loop-name.name-index c.name-item.result c.loop-name-test.true c.name-item.is
          (rw c.as_str.ensures.value at c.in_ok-open_one.ensures.opened) c.in_ok-push.ensures.items before.0,
      one_more_clear g.O.Reader.Source.failure_count c.loop-name.files.items _ c.in_ok-open_one.field-0 c.in_ok-push.ensures.items before.1 c.in_ok-open_one.ensures.fresh,
      All-same (λ file. IsShort (g.O.Reader.Source.remaining file)) _ _ c.in_ok-push.ensures.items (All-push (λ file. IsShort (g.O.Reader.Source.remaining file)) c.loop-name.files.items c.in_ok-open_one.field-0 before.2 c.in_ok-open_one.ensures.short),
    )

pub returns-clause-opened : goal.returns-clause-opened
returns-clause-opened g c = all_opened g.O.Reader.Source.remaining (λ name. bytes_under (g.O.Opener.held c.args.opener.now) (string_bytes name)) c.loop-name.files.items c.args.names.now c.loop-name.name-index c.loop-name-test.false c.loop-name.invariant.0

pub returns-clause-fresh : goal.returns-clause-fresh
returns-clause-fresh g c = c.loop-name.invariant.1

pub returns-clause-short : goal.returns-clause-short
returns-clause-short g c = c.loop-name.invariant.2

pub returns-in_err-open_one-clause-failed : goal.returns-in_err-open_one-clause-failed
returns-in_err-open_one-clause-failed g c =
    by_stop c.from_residual.result c.in_err-open_one.field-0.0 (StopsFor (SomeMissing (g.O.Opener.held c.args.opener.now) (map string_bytes c.args.names.now))) c.from_residual.ensures.1
    (missing_item string_bytes (g.O.Opener.held c.args.opener.now) c.args.names.now c.loop-name.name-index c.name-item.result c.in_err-open_one.field-0.0 c.loop-name-test.true c.name-item.is
    (rw c.as_str.ensures.value at c.in_err-open_one.ensures.failed))
