use Rattle.std.proofs.Common.{refl, ◌∙◌, ap, ◌++◌, ◌∷◌, [], arith}
use Rattle.tl_map_county.proofs.SidesLemmas.{bare_is, with_is, more_bare, more_kept}
use Rattle.tl_map_county.proofs.kept.keep_cells.Goals as goal

pub returns-then-has_no_cells-clause-kept : goal.returns-then-has_no_cells-clause-kept
returns-then-has_no_cells-clause-kept c = λ ps p same pair.
    more_bare c.args.cells.now.items c.args.before ps p c.args.sides c.requires same (bare_is c.args.sides p pair c.if-has_no_cells.ensures.0 c.if-has_no_cells.ensures.1)

pub returns-clause-kept : goal.returns-clause-kept
returns-clause-kept c = λ ps p same pair.
    more_kept c.args.cells.now.items _ c.args.before _ _ c.cells_of.result ps p c.args.sides c.requires (omega (arith, c.args.cells.now.ok.0)) same (λ q. refl) (with_is c.args.sides c.cells_of.result p pair c.cells_of.ensures.start c.cells_of.ensures.end)
    (c.in_ok-push.ensures.items ∙ ap (λ xs. xs ++ c.cells_of.result ∷ []) c.in_ok-resize.ensures.items)
