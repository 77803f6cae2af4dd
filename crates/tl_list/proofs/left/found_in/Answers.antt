use Rattle.std.proofs.Common.{◌≡◌, ◌∙◌, sym, ap, length, arith}
use Rattle.std.proofs.lemmas.Bool.{eq-eqb, eqb-true}
use Rattle.tl_list.proofs.Assembling.{found_left, found_whole, none_held_in}
use Rattle.tl_list.proofs.NotedLemmas.{not_refused}
use Rattle.tl_list.proofs.left.found_in.Goals as goal

pub returns-then-is_empty-clause-found : goal.returns-then-is_empty-clause-found
returns-then-is_empty-clause-found c = λ options skips known read.
    let refused = c.args.refused in
    let ok = refused.ok in
    let zero : refused.len ≡ 0 = eqb-true _ _ (sym c.is_empty.ensures ∙ c.if-is_empty.true) in
    found_whole options skips known c.args.noted refused.items c.args.listed read (none_held_in refused.items (omega (arith, ok.0, zero)))

pub returns-clause-found : goal.returns-clause-found
returns-clause-found c = λ options skips known read.
    let refused = c.args.refused in
    let ok = refused.ok in
    found_left options skips known c.args.noted refused c.args.listed c.faults_left.result read
    (λ none.
    let size = ap length none in
    let zero : refused.len ≡ 0 = omega (arith, ok.0, size) in
    let wrong = sym c.if-is_empty.false ∙ c.is_empty.ensures ∙ eq-eqb refused.len 0 zero in cc)
    c.faults_left.ensures

pub returns-then-is_empty-clause-refused : goal.returns-then-is_empty-clause-refused
returns-then-is_empty-clause-refused c = λ some. not_refused some.0 some.1.0 c.args.listed.listing _ some.1.1.told
