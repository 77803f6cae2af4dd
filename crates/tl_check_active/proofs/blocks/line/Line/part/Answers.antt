use Rattle.std.proofs.Common.{◌≤◌, ◌<◌, ◌/◌, ◌+◌, length, take, drop, length-take, length-drop, ap, sym, subst, ◌∙◌, arith}
use Rattle.std.proofs.lemmas.Result.{err_from_is_err_and}
use Rattle.tl_check_active.specs.Blocks.Keeping.Blocks.{AreSome}
use Rattle.tl_check_active.proofs.BlocksLemmas.Numbers.{parted_front, parted_back, parted_some, later_some, before_front, before_back, before_some, behind_some}
use Rattle.tl_check_active.proofs.blocks.line.Line.part.Goals as goal

pub returns-then-self-half-clause-back : goal.returns-then-self-half-clause-back
returns-then-self-half-clause-back c =
    let items = c.self.inside.items.items in
    let half = c.len-half.result / 2 in
    let len = c.len-half.ensures in
    let within : half ≤ length items = omega (arith, len) in
    parted_back c.self.inside.blocks.items c.keep_place.new.blocks.items _ c.self.inside.opened items c.take_behind.new.items.items c.self.inside.place half
    c.in_ok-behind.behind c.in_ok-keep_place.ensures.within c.keep_place.ensures.behind c.in_ok-insert.ensures.items c.in_ok-behind.ensures.kept
    c.in_ok-behind.ensures.behind c.if-self-half.true within ∙ ap (λ l. l.back) c.self.view_is

pub invariant_of-self-2 : goal.invariant_of-self-2
invariant_of-self-2 c =
    let old = c.self.inside.blocks.items in
    let kept = c.keep_place.new.blocks.items in
    let opened = c.self.inside.opened in
    let items = c.self.inside.items.items in
    let half = c.len-half.result / 2 in
    let before = c.replace-before.result in
    let long = ap length (ap (λ block. block.items) c.replace-before.ensures.after ∙ c.in_ok-behind.ensures.behind) in
    let left = ap length (ap (λ block. block.items) c.replace-before.ensures.value ∙ c.in_ok-behind.ensures.kept) in
    let dropped = length-drop half items in
    let taken = length-take half items in
    let full = c.if-len-lt-MOST.false in
    let len = c.len.ensures in
    let more = c.in_ok-insert-2.ensures.len in
    let count = c.keep_place.new.blocks.ok in
    let new_count = c.insert-2.new.self.ok in
    let inner = c.self.invariant.0 in
    let within = c.keep_place.ensures.most in
    let some : 0 < length before.items = omega (arith, left, taken, full, len) in (
      omega (arith, long, dropped, inner),
      omega (arith, within, more, count, new_count),
      before_some old kept _ opened before within c.keep_place.ensures.before c.in_ok-insert-2.ensures.items some c.self.invariant.2,
      behind_some old kept _ opened before within c.keep_place.ensures.behind c.in_ok-insert-2.ensures.items c.self.invariant.3,
    )

pub returns-clause-front : goal.returns-clause-front
returns-clause-front c =
    let half = c.len-half.result / 2 in
    let past = c.if-self-half.false in
    let le : half ≤ c.self.inside.place = omega (arith, past) in
    before_front c.self.inside.blocks.items c.keep_place.new.blocks.items _ c.self.inside.opened c.self.inside.items.items c.replace-before.new.dest.items
    c.self.inside.place half c.replace-before.result c.keep_place.ensures.most c.keep_place.ensures.before c.in_ok-insert-2.ensures.items
    (ap (λ block. block.items) c.replace-before.ensures.value ∙ c.in_ok-behind.ensures.kept)
    (ap (λ block. block.items) c.replace-before.ensures.after ∙ c.in_ok-behind.ensures.behind) le ∙ ap (λ l. l.front) c.self.view_is

pub returns-clause-back : goal.returns-clause-back
returns-clause-back c =
    let half = c.len-half.result / 2 in
    let past = c.if-self-half.false in
    let le : half ≤ c.self.inside.place = omega (arith, past) in
    before_back c.self.inside.blocks.items c.keep_place.new.blocks.items _ c.self.inside.opened c.self.inside.items.items c.replace-before.new.dest.items
    c.self.inside.place half c.replace-before.result c.keep_place.ensures.most c.keep_place.ensures.behind c.in_ok-insert-2.ensures.items
    (ap (λ block. block.items) c.replace-before.ensures.after ∙ c.in_ok-behind.ensures.behind) le ∙ ap (λ l. l.back) c.self.view_is

pub invariant_of-self : goal.invariant_of-self
invariant_of-self c = (
  c.self.invariant.0,
  c.keep_place.ensures.most,
  subst AreSome (sym c.keep_place.ensures.before) c.self.invariant.2,
  subst AreSome (sym c.keep_place.ensures.behind) c.self.invariant.3,
)

pub returns-in_err-keep_place-clause-front : goal.returns-in_err-keep_place-clause-front
returns-in_err-keep_place-clause-front c = let p = err_from_is_err_and c.from_residual.result c.from_residual.ensures.1 in rw p.1 tt

pub returns-in_err-keep_place-clause-back : goal.returns-in_err-keep_place-clause-back
returns-in_err-keep_place-clause-back c = let p = err_from_is_err_and c.from_residual.result c.from_residual.ensures.1 in rw p.1 tt

pub take_behind-requires : goal.take_behind-requires
take_behind-requires c = let len = c.len-half.ensures in omega (arith, len)

pub invariant_of-self-in_err-behind : goal.invariant_of-self-in_err-behind
invariant_of-self-in_err-behind c =
    let stays = ap length c.in_err-behind.ensures.stays in
    let inner = c.self.invariant.0 in (
      omega (arith, stays, inner),
      c.keep_place.ensures.most,
      subst AreSome (sym c.keep_place.ensures.before) c.self.invariant.2,
      subst AreSome (sym c.keep_place.ensures.behind) c.self.invariant.3,
    )

pub returns-in_err-behind-clause-front : goal.returns-in_err-behind-clause-front
returns-in_err-behind-clause-front c = let p = err_from_is_err_and c.from_residual-in_err-behind.result c.from_residual-in_err-behind.ensures.1 in rw p.1 tt

pub returns-in_err-behind-clause-back : goal.returns-in_err-behind-clause-back
returns-in_err-behind-clause-back c = let p = err_from_is_err_and c.from_residual-in_err-behind.result c.from_residual-in_err-behind.ensures.1 in rw p.1 tt

pub insert-requires : goal.insert-requires
insert-requires c =
    let within = c.in_ok-keep_place.ensures.within in
    let count = c.keep_place.new.blocks.ok in
    omega (arith, within, count)

pub invariant_of-self-in_err-insert : goal.invariant_of-self-in_err-insert
invariant_of-self-in_err-insert c =
    let half = c.len-half.result / 2 in
    let same = c.in_err-insert.ensures.items in
    let count = ap length same in
    let most = c.keep_place.ensures.most in
    let left = ap length c.in_ok-behind.ensures.kept in
    let taken = length-take half c.self.inside.items.items in
    let before = c.if-self-half.true in
    let len = c.len-half.ensures in (
      omega (arith, left, taken, before, len),
      omega (arith, count, most),
      subst AreSome (sym (ap (take c.self.inside.opened) same ∙ c.keep_place.ensures.before)) c.self.invariant.2,
      subst AreSome (sym (ap (drop (c.self.inside.opened + 1)) same ∙ c.keep_place.ensures.behind)) c.self.invariant.3,
    )

pub returns-in_err-insert-clause-front : goal.returns-in_err-insert-clause-front
returns-in_err-insert-clause-front c = let p = err_from_is_err_and c.from_residual-in_err-insert.result c.from_residual-in_err-insert.ensures.1 in rw p.1 tt

pub returns-in_err-insert-clause-back : goal.returns-in_err-insert-clause-back
returns-in_err-insert-clause-back c = let p = err_from_is_err_and c.from_residual-in_err-insert.result c.from_residual-in_err-insert.ensures.1 in rw p.1 tt

pub invariant_of-self-then-self-half : goal.invariant_of-self-then-self-half
invariant_of-self-then-self-half c =
    let old = c.self.inside.blocks.items in
    let kept = c.keep_place.new.blocks.items in
    let opened = c.self.inside.opened in
    let half = c.len-half.result / 2 in
    let behind = c.in_ok-behind.behind in
    let within = c.in_ok-keep_place.ensures.within in
    let more = c.in_ok-insert.ensures.len in
    let count = c.keep_place.new.blocks.ok in
    let new_count = c.insert.new.self.ok in
    let left = ap length c.in_ok-behind.ensures.kept in
    let long = ap length c.in_ok-behind.ensures.behind in
    let taken = length-take half c.self.inside.items.items in
    let dropped = length-drop half c.self.inside.items.items in
    let before = c.if-self-half.true in
    let full = c.if-len-lt-MOST.false in
    let first_len = c.len.ensures in
    let len = c.len-half.ensures in
    let some : 0 < length behind.items = omega (arith, long, dropped, full, first_len, len) in (
      omega (arith, left, taken, before, len),
      omega (arith, within, more, count, new_count),
      parted_some old kept _ opened behind within c.keep_place.ensures.before c.in_ok-insert.ensures.items c.self.invariant.2,
      later_some old kept _ opened behind within c.keep_place.ensures.behind c.in_ok-insert.ensures.items some c.self.invariant.3,
    )

pub returns-then-self-half-clause-front : goal.returns-then-self-half-clause-front
returns-then-self-half-clause-front c =
    parted_front c.self.inside.blocks.items c.keep_place.new.blocks.items _ c.self.inside.opened c.self.inside.items.items c.take_behind.new.items.items c.self.inside.place (c.len-half.result / 2)
    c.in_ok-behind.behind c.in_ok-keep_place.ensures.within c.keep_place.ensures.before c.in_ok-insert.ensures.items c.in_ok-behind.ensures.kept
    c.if-self-half.true ∙ ap (λ l. l.front) c.self.view_is

pub overflow_sub-self : goal.overflow_sub-self
overflow_sub-self c = let past = c.if-self-half.false in omega (arith, past)

pub insert-requires-2 : goal.insert-requires-2
insert-requires-2 c =
    let most = c.keep_place.ensures.most in
    let count = c.keep_place.new.blocks.ok in
    omega (arith, most, count)

pub invariant_of-self-in_err-insert-2 : goal.invariant_of-self-in_err-insert-2
invariant_of-self-in_err-insert-2 c =
    let half = c.len-half.result / 2 in
    let same = c.in_err-insert-2.ensures.items in
    let count = ap length same in
    let most = c.keep_place.ensures.most in
    let long = ap length (ap (λ block. block.items) c.replace-before.ensures.after ∙ c.in_ok-behind.ensures.behind) in
    let dropped = length-drop half c.self.inside.items.items in
    let inner = c.self.invariant.0 in (
      omega (arith, long, dropped, inner),
      omega (arith, count, most),
      subst AreSome (sym (ap (take c.self.inside.opened) same ∙ c.keep_place.ensures.before)) c.self.invariant.2,
      subst AreSome (sym (ap (drop (c.self.inside.opened + 1)) same ∙ c.keep_place.ensures.behind)) c.self.invariant.3,
    )

pub returns-in_err-insert-2-clause-front : goal.returns-in_err-insert-2-clause-front
returns-in_err-insert-2-clause-front c = let p = err_from_is_err_and c.from_residual-in_err-insert-2.result c.from_residual-in_err-insert-2.ensures.1 in rw p.1 tt

pub returns-in_err-insert-2-clause-back : goal.returns-in_err-insert-2-clause-back
returns-in_err-insert-2-clause-back c = let p = err_from_is_err_and c.from_residual-in_err-insert-2.result c.from_residual-in_err-insert-2.ensures.1 in rw p.1 tt
