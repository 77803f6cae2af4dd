-- Darts that are linked so far, each behind the one before it.
use Rattle.std.proofs.Common.{◌≡◌, ℕ, ◌+◌, ◌-◌, ◌<◌, ◌≤◌, List, length, set, length-set, get_or-set_same, get_or-set_other, refl, sym, ap, ◌∙◌, arith, inl, inr}
use Rattle.std.specs.Prelude.{slice_index}
use Rattle.std.proofs.lemmas.Bool.{cases_lt}
use Rattle.tl_tree_index.specs.Hits.{times}
use Rattle.tl_check_sides.specs.Lists.{before}
use Rattle.tl_check_sides.proofs.ListLemmas.{none_below, before_more, before_at, before_stands, place_before, place_before_within, two_before}

pub record LinkSoFar (old round : List ℕ) (place : ℕ) (last : ℕ) (next : List ℕ) : Type 0 where
  pub last_is : last ≡ before round place
  pub long : length next ≡ length old
  pub linked : (k : ℕ) → k < place → slice_index next (before round k) ≡ slice_index round k
  pub others : (d : ℕ) → times d round ≡ 0 → slice_index next d ≡ slice_index old d

-- the one before a place is within a list of enough length
pub last_within : (old round next : List ℕ) (place last : ℕ) → LinkSoFar old round place last next → ((k : ℕ) → k < length round → slice_index round k < length old) → place < length round → last < length next
last_within old round next place last so darts h =
    rw (so.last_is, before_at round place) (let d = darts (place_before round place) (place_before_within round place h) in omega (arith, d, so.long))

pub link_more : (old round next : List ℕ) (place last : ℕ) → LinkSoFar old round place last next → ((k : ℕ) → k < length round → slice_index round k < length old) → ((d : ℕ) → times d round ≤ 1) → place < length round → LinkSoFar old round (place + 1) (slice_index round place) (set next last (slice_index round place))
link_more old round next place last so darts once h =
    let x = slice_index round place in
    let here : last < length next = last_within old round next place last so darts h in
    record {
      last_is = sym (before_more round place);
      long = length-set next last x ∙ so.long;
      linked = λ k l. elim (cases_lt k place) [
        | inl earlier ↦
            let ne : before round k ≡ last → ⊥ = λ e. (let s : k ≡ place = two_before round k place once (omega (arith, earlier, h)) h (e ∙ so.last_is) in omega (arith, s, earlier)) in
            get_or-set_other next last (before round k) x 0 ne ∙ so.linked k earlier
        | inr late ↦
            let same : k ≡ place = omega (arith, l, late) in
            rw (same, ← so.last_is) (get_or-set_same next last x 0 here)
      ];
      others = λ d t.
          let ne : d ≡ last → ⊥ = λ e. (let s : 1 ≤ times (before round place) round = before_stands round place h in let f : times d round ≡ times (before round place) round = ap (λ m. times m round) (e ∙ so.last_is) in omega (arith, s, f, t)) in
          get_or-set_other next last d x 0 ne ∙ so.others d t;
    }

-- none is linked yet
pub link_first : (old round : List ℕ) → LinkSoFar old round 0 (slice_index round (length round - 1)) old
link_first old round = record { last_is = refl; long = refl; linked = λ k l. none_below k l; others = λ d t. refl }
