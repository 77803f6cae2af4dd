use Rattle.std.proofs.Common.{◌++◌, ◌+◌, take, drop, ap, sym, subst, ◌∙◌, arith}
use Rattle.tl_check_active.specs.Blocks.Keeping.Blocks.{numbers_of, AreSome}
use Rattle.tl_check_active.proofs.BlocksLemmas.Numbers.{front_kept, front_same, count_same, back_taken, end_taken}
use Rattle.tl_check_active.proofs.blocks.line.Line.take.Goals as goal

pub returns-then-self-len-clause-front : goal.returns-then-self-len-clause-front
returns-then-self-len-clause-front c =
    let before = numbers_of (take c.self.inside.opened c.self.inside.blocks.items) in
    let place = c.self.inside.place in
    ap (λ xs. before ++ take place xs) c.remove.ensures.items ∙ ap (λ xs. before ++ xs) (front_kept c.self.inside.items.items place) ∙ ap (λ l. l.front) c.self.view_is

pub returns-then-self-len-clause-back : goal.returns-then-self-len-clause-back
returns-then-self-len-clause-back c =
    let behind = numbers_of (drop (c.self.inside.opened + 1) c.self.inside.blocks.items) in
    let place = c.self.inside.place in
    let within = c.if-self-len.true in
    let len = c.len.ensures in
    ap (λ xs. drop place xs ++ behind) c.remove.ensures.items ∙ back_taken c.self.inside.items.items behind place (omega (arith, within, len)) ∙ ap (λ l. drop 1 l.back) c.self.view_is

pub returns-else-self-len-clause-front : goal.returns-else-self-len-clause-front
returns-else-self-len-clause-front c =
    ap (λ blocks. numbers_of blocks ++ take c.self.inside.place c.self.inside.items.items) (front_same c.self.inside.blocks.items _ c.self.inside.opened c.take_first.ensures.before) ∙
    ap (λ l. l.front) c.self.view_is

pub returns-else-self-len-clause-back : goal.returns-else-self-len-clause-back
returns-else-self-len-clause-back c =
    let past = c.if-self-len.false in
    let len = c.len.ensures in
    end_taken c.self.inside.items.items (numbers_of (drop (c.self.inside.opened + 1) c.self.inside.blocks.items)) _ c.self.inside.place (omega (arith, past, len)) c.take_first.ensures.numbers ∙
    ap (λ l. drop 1 l.back) c.self.view_is

pub invariant_of-self : goal.invariant_of-self
invariant_of-self c =
    let within = c.if-self-len.true in
    let len = c.len.ensures in
    let less = c.remove.ensures.len in
    let count = c.self.inside.items.ok in
    let new_count = c.remove.new.self.ok in (
      omega (arith, within, len, less, count, new_count),
      c.self.invariant.1,
      c.self.invariant.2,
      c.self.invariant.3,
    )

pub take_first-requires : goal.take_first-requires
take_first-requires c = record { some = c.self.invariant.3 }

pub invariant_of-self-else-self-len : goal.invariant_of-self-else-self-len
invariant_of-self-else-self-len c =
    let old = c.self.inside.blocks.items in
    let opened = c.self.inside.opened in
    let same = c.take_first.ensures.before in (
      c.self.invariant.0,
      count_same old _ opened same c.self.invariant.1,
      subst AreSome (sym (front_same old _ opened same)) c.self.invariant.2,
      c.take_first.ensures.some,
    )
