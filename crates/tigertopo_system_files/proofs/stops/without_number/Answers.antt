use Rattle.std.proofs.Common.{string_bytes}
use Rattle.tigertopo_system_files.proofs.WordLemmas.{before_number}
use Rattle.tigertopo_system_files.proofs.stops.without_number.Goals as goal

pub returns-in-Some : goal.returns-in-Some
returns-in-Some c = before_number string_bytes c.from_str.result c.args.text.now c.in-Some.words.now c.in-Some.field-0-1.now c.in-Some.ensures.cases c.from_str.ensures.ok
