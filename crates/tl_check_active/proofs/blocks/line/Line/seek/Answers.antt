use Rattle.std.proofs.Common.{take, drop, ◌+◌, sym, ap, ◌∙◌}
use Rattle.tl_check_active.specs.Blocks.Keeping.Blocks.{numbers_of}
use Rattle.tl_check_active.specs.Blocks.Lined.{list_of}
use Rattle.tl_check_active.proofs.BlocksLemmas.Numbers.{whole}
use Rattle.tl_check_active.proofs.blocks.line.Line.seek.Goals as goal

pub returns-then-place-len : goal.returns-then-place-len
returns-then-place-len c =
    let before = numbers_of (take c.self.inside.opened c.self.inside.blocks.items) in
    let behind = numbers_of (drop (c.self.inside.opened + 1) c.self.inside.blocks.items) in
    whole before c.self.inside.items.items behind c.args.place ∙ sym (whole before c.self.inside.items.items behind c.self.inside.place) ∙ ap list_of c.self.view_is

pub returns-else-place-len : goal.returns-else-place-len
returns-else-place-len c =
    let before = numbers_of (take c.self.inside.opened c.self.inside.blocks.items) in
    let behind = numbers_of (drop (c.self.inside.opened + 1) c.self.inside.blocks.items) in
    whole before c.self.inside.items.items behind c.len-self-inside.result ∙ sym (whole before c.self.inside.items.items behind c.self.inside.place) ∙ ap list_of c.self.view_is
