use Rattle.std.proofs.Common.{inl, map, string_bytes}
use Rattle.tl_cert_output.proofs.StopLemmas.{stops_for}
use Rattle.tigertopo_files.proofs.LendingLemmas.{missing_alone, not_opened, passing_last}
use Rattle.tigertopo_files.proofs.lending.read_each_again.Goals as goal

pub returns-in_err-all_last-2-clause-told : goal.returns-in_err-all_last-2-clause-told
returns-in_err-all_last-2-clause-told g c =
    let why = c.in_err-all_last-2.ensures.failed in
    rw c.in-Some.is (not_opened _ _ _ c.from_residual-in_err-all_last-2.result c.in_err-all_last-2.field-0.0 c.from_residual-in_err-all_last-2.ensures.1
    (stops_for _ _ c.in_err-all_last-2.field-0.0 inl (missing_alone (g.O.Opener.held c.args.opener.now) (map string_bytes c.args.names.now) (string_bytes c.in-Some.name.now) c.in_err-all_last-2.field-0.0 (rw c.from_ref.ensures.value at why))))

pub returns-then-not-branch-2-clause-passing : goal.returns-then-not-branch-2-clause-passing
returns-then-not-branch-2-clause-passing g c =
    let passing = c.in_ok-all_last-2.ensures.passing in
    rw c.in-Some.is (passing_last (g.O.Opener.held c.args.opener.now) (map string_bytes c.args.names.now) (string_bytes c.in-Some.name.now) (rw (c.from_ref.ensures.value, c.if-not-branch-2.true) at passing))
