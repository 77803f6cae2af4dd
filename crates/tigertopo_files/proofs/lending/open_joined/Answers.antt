use Rattle.std.proofs.Common.{◌∙◌, map, string_bytes, arith}
use Rattle.tigertopo_files.proofs.CountsLemmas.{begin_counted, begin_none}
use Rattle.tigertopo_files.proofs.FailureLemmas.{none_counted}
use Rattle.tigertopo_files.proofs.LendingLemmas.{joined_under}
use Rattle.tigertopo_files.proofs.lending.open_joined.Goals as goal
use Rattle.tigertopo_files.proofs.lending.open_joined.Goals.{then-counts, else-counts}

pub returns-clause-bytes : goal.returns-clause-bytes
returns-clause-bytes g c =
    c.new-2.ensures.bytes ∙ c.new.ensures.bytes ∙ joined_under g.O.Reader.Source.remaining string_bytes (g.O.Opener.held c.args.opener.now) c.in_ok-files.files.items c.args.names.now c.in_ok-files.ensures.opened

pub returns-clause-fresh : goal.returns-clause-fresh
returns-clause-fresh g c = c.new-2.ensures.failures ∙ c.new.ensures.failures ∙ none_counted g.O.Reader.Source.failure_count c.in_ok-files.files.items c.in_ok-files.ensures.fresh

pub new-requires : goal.new-requires
new-requires g c =
    let under = g.O.Opener.held c.args.opener.now in
    let readers = c.in_ok-files.files.items in
    let lines = c.in_ok-lines.lines.items in
    let many = c.in_ok-lines.ensures.count in
    elim c.if-counts.branch [
      | then-counts w ↦
          begin_counted g.O.Reader.Source.remaining string_bytes under c.args.counts c.args.names.now readers lines g.T.Texts.texts c.requires w.if-counts.true c.in_ok-files.ensures.opened
          (omega (arith, many, w.no_lines-is, w.len.ensures, c.in_ok-lines.lines.ok.0, c.in_ok-files.files.ok.0)) c.in_ok-files.ensures.short c.in_ok-lines.ensures.new
      | else-counts w ↦
          begin_none g.O.Reader.Source.remaining under c.args.counts (map string_bytes c.args.names.now) readers lines g.T.Texts.texts c.requires w.if-counts.false (omega (arith, many, w.no_lines-is, c.in_ok-lines.lines.ok.0))
    ]
