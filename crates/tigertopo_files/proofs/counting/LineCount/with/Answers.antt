use Rattle.tigertopo_files.proofs.CountingLemmas.{with_bytes}
use Rattle.tigertopo_files.proofs.counting.LineCount.with.Goals as goal

pub returns : goal.returns
returns c = λ text.
    with_bytes c.args.bytes.now text c.args.self c.saturating_add.result c.leaves_open.result (rw c.line_feeds.ensures at c.saturating_add.ensures) c.leaves_open.ensures
