use Rattle.std.proofs.Common.{◌≡◌, ◌+◌, ◌-◌, ◌<◌, eqb, not, inl, inr, length, get_or, refl, sym, ap, ◌∙◌, arith}
use Rattle.std.proofs.lemmas.Bool.{cases_Bool, eq-eqb, eqb-true, true≢false}
use Rattle.tl_map_rules.proofs.ListingLemmas.ChainLemmas.{not_alone, alone, no_chain}
use Rattle.tl_map_rules.proofs.listing.chains.stands_alone.Goals as goal
use Rattle.tl_map_rules.proofs.listing.chains.stands_alone.Goals.{else-place-gt0-via-then-place-gt0+else-chains-place, else-place-gt0-via-else-place-gt0}

pub returns-then-chains-place : goal.returns-then-chains-place
returns-then-chains-place c = λ d.
    let i = c.args.place - 1 in
    let next : i + 1 ≡ c.args.place = omega (arith, c.if-place-gt0.true) in
    not_alone c.args.chains.now i no_chain no_chain d (omega (arith, next, c.requires.within)) (rw next c.if-chains-place.true) c.args.place (inr (sym next))

pub returns-then-place-chains : goal.returns-then-place-chains
returns-then-place-chains c = λ d.
    eq-eqb _ _ c.if-place-chains.true
    ∙ alone c.args.chains.now c.args.place no_chain no_chain no_chain d c.requires.order c.requires.within
    (λ low. elim c.else-place-gt0.branch [ else-place-gt0-via-then-place-gt0+else-chains-place w ↦ w.if-chains-place.false | else-place-gt0-via-else-place-gt0 w ↦ absurd (omega (arith, low, w.if-place-gt0.false)) ])
    (λ next. absurd (omega (arith, next, c.if-place-chains.true)))

pub returns-else-place-chains : goal.returns-else-place-chains
returns-else-place-chains c = λ d.
    let chains = c.args.chains.now in
    let i = c.args.place in
    let next : i + 1 < length chains = omega (arith, c.requires.within, c.if-place-chains.false) in
    elim (cases_Bool (eqb (get_or chains (i + 1) no_chain).tlid (get_or chains i no_chain).tlid)) [
      | inl met ↦ ap not met ∙ not_alone chains i no_chain no_chain d next (sym (eqb-true _ _ met)) i (inl refl)
      | inr other ↦ ap not other ∙ alone chains i no_chain no_chain no_chain d c.requires.order c.requires.within
          (λ low. elim c.else-place-gt0.branch [ else-place-gt0-via-then-place-gt0+else-chains-place w ↦ w.if-chains-place.false | else-place-gt0-via-else-place-gt0 w ↦ absurd (omega (arith, low, w.if-place-gt0.false)) ])
          (λ more same. true≢false (sym (eq-eqb _ _ same) ∙ other))
    ]
