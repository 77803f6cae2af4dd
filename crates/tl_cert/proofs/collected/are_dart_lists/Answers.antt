use Rattle.std.proofs.Common.{ℕ, arith, Vec, Global}
use Rattle.std.proofs.lemmas.List.{length-map}
use Rattle.tl_cert.proofs.Lists.{each_list, each_vector}
use Rattle.tl_cert.proofs.collected.are_dart_lists.Goals as goal

pub returns-then-lists-le-MOST : goal.returns-then-lists-le-MOST
returns-then-lists-le-MOST c =
    let lists = c.args.lists.now in (
      (λ is. record { counted = omega (arith, c.if-lists-le-MOST.true, length-map lists (λ (l : Vec ℕ Global). l.items)); each = each_vector lists (c.is_each_dart_list.ensures.0 is) }),
      (λ are. c.is_each_dart_list.ensures.1 (each_list lists are.each)),
    )
