use Rattle.std.proofs.Common.{◌∷◌, ◌++◌, ◌∙◌, refl, sym, ap, append_assoc, arith, length, length-append}
use Rattle.tl_cert.specs.Text.{rectangle, number, children}
use Rattle.tl_cert.proofs.FrontLemmas.{stands_first, first_of}
use Rattle.tl_cert.proofs.node_line.front_node.Goals as goal

pub returns-then-bytes-eq76 : goal.returns-then-bytes-eq76
returns-then-bytes-eq76 c =
    let first = c.in-Some.ensures.first in
    let told = c.in-Some-front_small.ensures in
    let rest = c.in-Some-front_small.rest.now in
    let words = rectangle c.in-Some.rect in
    let counted = number c.in-Some-front_small.items in (
      (first.1, told.1, told.2),
      stands_first c.args.bytes.now (76 ∷ (words ++ counted)) rest _
          (first_of 76 c.args.bytes.now (omega (arith, c.if-bytes-lt-MOST_BYTES.false)) c.if-bytes-eq76.true
          ∙ ap (λ l. 76 ∷ l) (first.0 ∙ ap (λ l. words ++ l) told.0 ∙ sym (append_assoc words counted (10 ∷ rest)))) refl,
    )

pub returns : goal.returns
returns c =
    let first = c.in-Some.ensures.first in
    let told = c.in-Some-front_children.ensures in
    let rest = c.in-Some-front_children.rest.now in
    let words = rectangle c.in-Some.rect in
    let counted = children c.args.version c.in-Some-front_children.k in (
      (first.1, told.1),
      stands_first c.args.bytes.now (66 ∷ (words ++ counted)) rest _
          (first_of 66 c.args.bytes.now (omega (arith, c.if-bytes-lt-MOST_BYTES.false)) c.if-bytes-ne66.false
          ∙ ap (λ l. 66 ∷ l) (first.0 ∙ ap (λ l. words ++ l) told.0 ∙ sym (append_assoc words counted (10 ∷ rest)))) refl,
    )

pub returns-then-bytes-lt-MOST_BYTES : goal.returns-then-bytes-lt-MOST_BYTES
returns-then-bytes-lt-MOST_BYTES c = tt

pub returns-in_default : goal.returns-in_default
returns-in_default c = tt

pub returns-in_default-front_small : goal.returns-in_default-front_small
returns-in_default-front_small c = tt

pub returns-then-bytes-ne66 : goal.returns-then-bytes-ne66
returns-then-bytes-ne66 c = tt

pub returns-in_default-front_children : goal.returns-in_default-front_children
returns-in_default-front_children c = tt

pub overflow_sub-result : goal.overflow_sub-result
overflow_sub-result c =
    let rest = c.in-Some-front_small.rest.now in
    let words = rectangle c.in-Some.rect in
    let counted = number c.in-Some-front_small.items in
    let whole = first_of 76 c.args.bytes.now (omega (arith, c.if-bytes-lt-MOST_BYTES.false)) c.if-bytes-eq76.true ∙ ap (λ l. 76 ∷ l) (c.in-Some.ensures.first.0 ∙ ap (λ l. words ++ l) c.in-Some-front_small.ensures.0 ∙ sym (append_assoc words counted (10 ∷ rest))) in
    omega (arith, ap length whole, length-append (words ++ counted) (10 ∷ rest))

pub overflow_sub-result-then-bytes-eq76 : goal.overflow_sub-result-then-bytes-eq76
overflow_sub-result-then-bytes-eq76 c =
    let rest = c.in-Some-front_small.rest.now in
    let words = rectangle c.in-Some.rect in
    let counted = number c.in-Some-front_small.items in
    let whole = first_of 76 c.args.bytes.now (omega (arith, c.if-bytes-lt-MOST_BYTES.false)) c.if-bytes-eq76.true ∙ ap (λ l. 76 ∷ l) (c.in-Some.ensures.first.0 ∙ ap (λ l. words ++ l) c.in-Some-front_small.ensures.0 ∙ sym (append_assoc words counted (10 ∷ rest))) in
    omega (arith, ap length whole, length-append (words ++ counted) (10 ∷ rest))

pub overflow_sub-result-2 : goal.overflow_sub-result-2
overflow_sub-result-2 c =
    let rest = c.in-Some-front_children.rest.now in
    let words = rectangle c.in-Some.rect in
    let counted = children c.args.version c.in-Some-front_children.k in
    let whole = first_of 66 c.args.bytes.now (omega (arith, c.if-bytes-lt-MOST_BYTES.false)) c.if-bytes-ne66.false ∙ ap (λ l. 66 ∷ l) (c.in-Some.ensures.first.0 ∙ ap (λ l. words ++ l) c.in-Some-front_children.ensures.0 ∙ sym (append_assoc words counted (10 ∷ rest))) in
    omega (arith, ap length whole, length-append (words ++ counted) (10 ∷ rest))

pub overflow_sub-result-3 : goal.overflow_sub-result-3
overflow_sub-result-3 c =
    let rest = c.in-Some-front_children.rest.now in
    let words = rectangle c.in-Some.rect in
    let counted = children c.args.version c.in-Some-front_children.k in
    let whole = first_of 66 c.args.bytes.now (omega (arith, c.if-bytes-lt-MOST_BYTES.false)) c.if-bytes-ne66.false ∙ ap (λ l. 66 ∷ l) (c.in-Some.ensures.first.0 ∙ ap (λ l. words ++ l) c.in-Some-front_children.ensures.0 ∙ sym (append_assoc words counted (10 ∷ rest))) in
    omega (arith, ap length whole, length-append (words ++ counted) (10 ∷ rest))
