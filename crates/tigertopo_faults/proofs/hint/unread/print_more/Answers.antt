use Rattle.std.proofs.Common.{◌≡◌, true}
use Rattle.std.specs.Prelude.{nat_lt}
use Rattle.std.proofs.lemmas.Bool.{lt-ltb}
use Rattle.tigertopo_faults.specs.Hint.Unread.{most_files}
use Rattle.tl_cert_output.proofs.PageLemmas.{both}
use Rattle.tigertopo_faults.proofs.hint.unread.print_more.Goals as goal

pub returns-then-count-gt-MOST_FILES : goal.returns-then-count-gt-MOST_FILES
returns-then-count-gt-MOST_FILES g c =
    let page = g.met.P.Page.adding in
    let there : nat_lt most_files c.args.count ≡ true = lt-ltb most_files c.args.count c.if-count-gt-MOST_FILES.true in
    rw there (both page (both page c.add.ensures c.number.ensures) c.add-then-count-gt-MOST_FILES.ensures)
