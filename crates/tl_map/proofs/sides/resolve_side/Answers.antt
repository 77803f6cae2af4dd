use Rattle.std.proofs.Common.{◌≡◌, ◌∙◌, None, Some, sym, ap, refl, arith}
use Rattle.tl_map_county.specs.declared.sides.Side.TheVariants.{Polygon}
use Rattle.tl_map.proofs.IndexLemmas.{place_is, not_known, known_key}
use Rattle.tl_map.proofs.sides.resolve_side.Goals as goal

pub returns-in-None-clause-side : goal.returns-in-None-clause-side
returns-in-None-clause-side c = λ ks h. rw c.in-None.is (record { is = refl; known = λ k e. absurd (let f : None ≡ Some k = e in cc) })

pub returns-in-Some-number_of-clause-side : goal.returns-in-Some-number_of-clause-side
returns-in-Some-number_of-clause-side c = λ ks h.
    let here = sym c.number_of.ensures.index ∙ c.in-Some-number_of.is in
    rw c.in-Some.is (record {
      is = ap Polygon (sym (place_is ks c.in-Some.polygon c.in-Some-number_of.number _ h here));
      known = λ k e. let same : c.in-Some.polygon ≡ k = cc in rw (← same) (known_key ks c.in-Some.polygon c.in-Some-number_of.number _ h here);
    })

pub returns-in-None-number_of-clause-side : goal.returns-in-None-number_of-clause-side
returns-in-None-number_of-clause-side c = λ ks h.
    (c.in-Some.polygon, c.in-Some.is, not_known ks c.in-Some.polygon _ h (sym c.number_of.ensures.index ∙ c.in-None-number_of.is))

pub returns-in-Some-number_of-clause-number : goal.returns-in-Some-number_of-clause-number
returns-in-Some-number_of-clause-number c = omega (arith, rw c.in-Some-number_of.is at c.number_of.ensures.within, c.requires)
