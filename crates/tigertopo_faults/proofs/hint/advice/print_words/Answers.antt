use Rattle.std.proofs.Common.{sym}
use Rattle.tigertopo_faults.proofs.hint.advice.print_words.Goals as goal

pub returns-in-Archive : goal.returns-in-Archive
returns-in-Archive g c =
    rw (c.in-Archive.is, sym c.unpacked_switches-switches.ensures) c.print_piped.ensures

pub returns-in-Compressed : goal.returns-in-Compressed
returns-in-Compressed g c =
    rw (c.in-Compressed.is, sym c.unpacked_switches-switches.ensures) c.print_piped-in-Compressed.ensures
