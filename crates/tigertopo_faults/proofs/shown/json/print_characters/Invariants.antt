use Rattle.std.proofs.Common.{drop}
use Rattle.std.specs.List.{flat_map}
use Rattle.tigertopo_words.specs.Json.{byte_character}
use Rattle.tigertopo_pictures.proofs.PieceLemmas.{PrintsUpTo}
use Rattle.tigertopo_faults.proofs.shown.json.print_characters.Given as goal

abbrev pub invariant-loop-byte : goal.invariant-loop-byte
invariant-loop-byte g l =
    PrintsUpTo g.P.Page.adds l.initial.page l.page (flat_map byte_character l.bytes) (flat_map byte_character (drop l.byte-index l.bytes))
