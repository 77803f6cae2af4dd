use Rattle.std.proofs.Common.{sym}
use Rattle.tigertopo_files.proofs.JoiningLemmas.{leaves_open-of_last}
use Rattle.tigertopo_files.proofs.counting.leaves_open.Goals as goal

pub returns-in-Some : goal.returns-in-Some
returns-in-Some c = leaves_open-of_last c.args.before c.args.bytes.now c.in-Some.byte.now (sym (rw c.in-Some.is at c.last.ensures.value))
