use Rattle.std.proofs.Common.{◌≡◌, ◌++◌, ◌+◌, drop, ap, sym, subst, ◌∙◌, arith}
use Rattle.tl_check_active.specs.Blocks.Keeping.Blocks.{numbers_of, AreSome}
use Rattle.tl_check_active.specs.Blocks.Lined.{list_of}
use Rattle.tl_check_active.proofs.BlocksLemmas.Answered.{still_ok}
use Rattle.tl_check_active.proofs.BlocksLemmas.Numbers.{joined_whole, front_same, count_same}
use Rattle.tl_check_active.proofs.blocks.line.Line.join_next.Goals as goal

pub returns : goal.returns
returns c =
    let old = c.self.inside.blocks.items in
    let new = c.join.new.blocks.items in
    let opened = c.self.inside.opened in
    let items = c.self.inside.items.items in
    let more = c.join.new.items.items in
    still_ok c.join.result (more ++ numbers_of (drop (opened + 1) new) ≡ items ++ numbers_of (drop (opened + 1) old)) _
    (λ numbers. joined_whole old new opened items more c.self.inside.place c.join.ensures.before numbers ∙ ap list_of c.self.view_is)
    c.join.ensures.numbers

pub join-requires : goal.join-requires
join-requires c = record { some = c.self.invariant.3 }

pub invariant_of-self : goal.invariant_of-self
invariant_of-self c =
    let old = c.self.inside.blocks.items in
    let opened = c.self.inside.opened in
    let same = c.join.ensures.before in
    let inner = c.self.invariant.0 in
    let longer = c.join.ensures.longer in (
      omega (arith, inner, longer),
      count_same old _ opened same c.self.invariant.1,
      subst AreSome (sym (front_same old _ opened same)) c.self.invariant.2,
      c.join.ensures.some,
    )
