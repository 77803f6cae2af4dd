use Rattle.std.proofs.Common.{◌≡◌, [], ◌∷◌, ◌++◌, codes, map, drop}
use Rattle.std.specs.List.{list_any}
use Rattle.std.specs.Str.{bytes_eq}
use Rattle.tigertopo_words.specs.declared.table.Row.{Row}
use Rattle.tigertopo_words.proofs.first_word.is_among.Given as goal

abbrev pub invariant-loop-row : goal.invariant-loop-row
invariant-loop-row l =
    list_any (bytes_eq l.word) (map (λ (row : Row). row.name.now) (drop l.row-index l.rows) ++ codes "help" ∷ [])
    ≡ list_any (bytes_eq l.word) (map (λ (row : Row). row.name.now) l.rows ++ codes "help" ∷ [])
