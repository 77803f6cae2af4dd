use Rattle.std.proofs.Common.{◌≡◌, ap, ◌∙◌}
use Rattle.tl_check_active.specs.Blocks.Lined.{list_of}
use Rattle.tl_check_active.proofs.BlocksLemmas.Answered.{still_ok}
use Rattle.tl_check_active.proofs.BlocksLemmas.Numbers.{opened_whole}
use Rattle.tl_check_active.proofs.blocks.line.Line.open_block.Goals as goal

pub returns : goal.returns
returns c =
    let whole = opened_whole c.self.inside.blocks.items c.keep_place.new.blocks.items c.close-gone.new.blocks.items c.lift.new.blocks.items
    c.self.inside.opened c.if-gone.self c.self.inside.items.items c.lift.new.items.items c.self.inside.place
    c.keep_place.ensures.before c.keep_place.ensures.behind c.close-gone.ensures.numbers c.lift.ensures.numbers in
    still_ok c.join_next.result _ (list_of c.join_next.new.self ≡ list_of c.args.self.now) (λ same. same ∙ whole ∙ ap list_of c.self.view_is) c.join_next.ensures
