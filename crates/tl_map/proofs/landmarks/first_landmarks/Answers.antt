use Rattle.std.proofs.lemmas.Result.{err_from_is_err_and}
use Rattle.std.proofs.Common.{◌∙◌, sym, refl, arith}
use Rattle.std.specs.Prelude.{nat_eq}
use Rattle.indexmap.specs.IndexMap.{get}
use Rattle.indexmap.proofs.CallerLemmas.{insert_entry-new}
use Rattle.tl_map.proofs.IndexLemmas.{none_told}
use Rattle.tl_map.proofs.LandmarkLemmas.{listing_none, listing_new, listing_old, too_many, listed}
use Rattle.tl_map.proofs.landmarks.first_landmarks.Goals as goal
use Rattle.tl_map.proofs.landmarks.first_landmarks.Goals.{then-not-contains_key+else-len+in_ok-insert, else-not-contains_key}

pub loop-entry-init : goal.loop-entry-init
loop-entry-init c = record { listing = listing_none c.args.entries.now _ c.with_hasher-firsts.ensures.empty; unique = c.with_hasher-firsts.ensures.unique }

pub returns-then-len-clause-stops : goal.returns-then-len-clause-stops
returns-then-len-clause-stops c =
    let none = none_told (get nat_eq c.loop-entry.firsts _) (sym c.contains_key.ensures ∙ c.if-not-contains_key.true) in
    too_many c.args.entries.now c.loop-entry.entry-index _ c.loop-entry.firsts.entries c.loop-entry-test.true none (omega (arith, c.len.ensures.len, c.if-len.true)) c.loop-entry.invariant.listing

pub loop-entry-preserved : goal.loop-entry-preserved
loop-entry-preserved c = elim c.if-not-contains_key.branch [
  | then-not-contains_key+else-len+in_ok-insert w ↦
      let none = none_told (get nat_eq c.loop-entry.firsts _) (sym c.contains_key.ensures ∙ w.if-not-contains_key.true) in
      let after = listing_new c.args.entries.now c.loop-entry.entry-index _ c.loop-entry.firsts.entries c.loop-entry-test.true (omega (arith, w.len.ensures.len, w.if-len.false)) none c.loop-entry.invariant.listing in
      rw w.firsts-is (record { listing = rw (w.in_ok-insert.ensures.entries, insert_entry-new nat_eq c.loop-entry.firsts _ _ none) after; unique = w.insert.ensures.unique })
  | else-not-contains_key w ↦
      rw w.firsts-is (record {
        listing = listing_old c.args.entries.now c.loop-entry.entry-index _ c.loop-entry.firsts.entries _ c.loop-entry-test.true refl (sym c.contains_key.ensures ∙ w.if-not-contains_key.false) c.loop-entry.invariant.listing;
        unique = c.loop-entry.invariant.unique;
      })
]

pub returns-clause-ok : goal.returns-clause-ok
returns-clause-ok c = listed c.args.entries.now c.loop-entry.entry-index c.loop-entry.firsts c.loop-entry-test.false c.loop-entry.invariant.unique c.loop-entry.invariant.listing

pub returns-then-len-clause-ok : goal.returns-then-len-clause-ok
returns-then-len-clause-ok c = tt

pub returns-in_err-insert-clause-ok : goal.returns-in_err-insert-clause-ok
returns-in_err-insert-clause-ok c =
    let p = err_from_is_err_and c.from_residual.result c.from_residual.ensures.1 in
    rw p.1 tt

pub returns-in_err-insert-clause-stops : goal.returns-in_err-insert-clause-stops
returns-in_err-insert-clause-stops c =
    let p = err_from_is_err_and c.from_residual.result c.from_residual.ensures.1 in
    rw (p.1, p.2) tt

pub returns-clause-stops : goal.returns-clause-stops
returns-clause-stops c = tt
