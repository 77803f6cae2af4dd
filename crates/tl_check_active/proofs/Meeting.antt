-- Which events may be at one point.
use Rattle.std.proofs.Common.{◌≡◌, inl, inr, ⊎_elim, ℕ, ◌+◌, ◌-◌, ◌<◌, ◌≤◌, Bool, true, false, not, IsTrue, nat_eq, if◌then◌else◌, List, length, get_or, refl, sym, ap, subst, ◌∙◌, arith}
use Rattle.std.specs.Prelude.{slice_get}
use Rattle.std.proofs.lemmas.Bool.{cases_eq, cases_lt}
use Rattle.std.proofs.lemmas.Bool.Decides.{nat_tests}
use Rattle.std.proofs.lemmas.List.{get_or_default}
use Rattle.tl_map_county.specs.TheMap.{MapChain}
use Rattle.tl_map_county.specs.Segments.{segments_before, IsSegmentOf}
use Rattle.tl_check_planar.specs.Keeping.Apart.{one_found}
use Rattle.tl_check_planar.proofs.Numbering.{one_chain, below_total}
use Rattle.tl_check_active.specs.declared.events.Event.{Event}
use Rattle.tl_check_active.specs.Vertices.{IsAtPlace, IsEndOfChain, MayMeet}

-- ---- ends of chains

module _ (chains : List MapChain) (e : Event) (n : ℕ) where
  -- where the number before is of another chain, or there is none
  pub first_end : e.first ≡ true → (0 < e.segment → (k : ℕ) × IsSegmentOf chains (e.segment - 1) n k) → (m : ℕ) → ((k : ℕ) × IsSegmentOf chains e.segment m k) → (0 < e.segment → ¬ (n ≡ m)) →
      (c p : ℕ) → IsAtPlace chains e c p → IsEndOfChain chains c p
  first_end is_first earlier m own differ c p at chain is =
      let place : p ≡ at.k = at.place ∙ ap (λ (b : Bool). if b then at.k else at.k + 1) is_first in
      let number = at.number.number in
      let within = at.number.place in
      ⊎_elim (λ e. inl (place ∙ e))
      (λ ne. absurd (
      let some : 0 < e.segment = omega (arith, number, ne) in
      let before : IsSegmentOf chains (e.segment - 1) c (at.k - 1) = record { chain = at.number.chain; is = at.number.is; place = omega (arith, within); number = omega (arith, number, ne) } in
      let other = earlier some in
      differ some (one_chain chains (e.segment - 1) n other.0 c (at.k - 1) other.1 before ∙ one_chain chains e.segment c at.k m own.0 at.number own.1)))
      (cases_eq at.k 0)

  -- where the number after is of another chain, or there is none
  pub last_end : e.first ≡ false → (total : ℕ) → total ≡ segments_before chains (length chains) → (e.segment + 1 < total → (k : ℕ) × IsSegmentOf chains (e.segment + 1) n k) → (m : ℕ) → ((k : ℕ) × IsSegmentOf chains e.segment m k) → (e.segment + 1 < total → ¬ (n ≡ m)) →
      (c p : ℕ) → IsAtPlace chains e c p → IsEndOfChain chains c p
  last_end is_last total all later m own differ c p at chain is =
      let place : p ≡ at.k + 1 = at.place ∙ ap (λ (b : Bool). if b then at.k else at.k + 1) is_last in
      let number = at.number.number in
      let within = at.number.place in
      let same : length at.number.chain.points ≡ length chain.points = ap (λ (z : MapChain). length z.points) (one_found at.number.chain chain (slice_get chains c) at.number.is is) in
      elim (cases_lt (at.k + 2) (length at.number.chain.points)) [
        | inl more ↦
            absurd (
            let after : IsSegmentOf chains (e.segment + 1) c (at.k + 1) = record { chain = at.number.chain; is = at.number.is; place = omega (arith, more); number = omega (arith, number) } in
            let few : e.segment + 1 < total = let lt = below_total chains (e.segment + 1) c (at.k + 1) after in omega (arith, lt, all) in
            let other = later few in
            differ few (one_chain chains (e.segment + 1) n other.0 c (at.k + 1) other.1 after ∙ one_chain chains e.segment c at.k m own.0 at.number own.1))
        | inr none ↦ inr (omega (arith, place, none, within, same))
      ]

pub both_ends : (chains : List MapChain) (e f : Event) → ((c p : ℕ) → IsAtPlace chains e c p → IsEndOfChain chains c p) → ((c p : ℕ) → IsAtPlace chains f c p → IsEndOfChain chains c p) → MayMeet chains e f
both_ends chains e f one other c p d q at at' = inr (one c p at, other d q at')

-- ---- tests of numbers

pub differ : (x y : ℕ) → IsTrue (not (nat_eq x y)) → ¬ (x ≡ y)
differ x y h e = grind (arith, nat_tests)

pub equal : (x y : ℕ) → IsTrue (nat_eq x y) → x ≡ y
equal x y h = grind (arith, nat_tests)

pub is_true : (b : Bool) → not b ≡ false → b ≡ true
is_true true e = refl
is_true false e = absurd (cc)

-- ---- one place

pub one_after : (chains : List MapChain) (e f : Event) (c : ℕ) → e.first ≡ false → f.first ≡ true → e.segment + 1 ≡ f.segment → (k : ℕ) × IsSegmentOf chains e.segment c k → (k : ℕ) × IsSegmentOf chains f.segment c k → MayMeet chains e f
one_after chains e f n is_last is_first next own own' c p d q at at' =
    let place : p ≡ at.k + 1 = at.place ∙ ap (λ (b : Bool). if b then at.k else at.k + 1) is_last in
    let place' : q ≡ at'.k = at'.place ∙ ap (λ (b : Bool). if b then at'.k else at'.k + 1) is_first in
    let here : c ≡ n = one_chain chains e.segment c at.k n own.0 at.number own.1 in
    let there : d ≡ n = one_chain chains f.segment d at'.k n own'.0 at'.number own'.1 in
    let before : segments_before chains c ≡ segments_before chains d = ap (λ m. segments_before chains m) (here ∙ sym there) in
    let number = at.number.number in
    let number' = at'.number.number in
    inl (here ∙ sym there, omega (arith, place, place', next, before, number, number'))

pub turned : (chains : List MapChain) (e f : Event) → MayMeet chains f e → MayMeet chains e f
turned chains e f meets c p d q at at' = ⊎_elim (λ k. inl (sym k.0, sym k.1)) (λ k. inr (k.1, k.0)) (meets d q c p at' at)

-- ---- one more event

pub one_more : (P : Event → Event → Type 0) (events : List Event) (n : ℕ) (x y : Event) → ((k : ℕ) (d : Event) → k + 1 < n → P (get_or events k d) (get_or events (k + 1) d)) → 1 ≤ n → n < length events →
    P (get_or events (n - 1) x) (get_or events n y) → (k : ℕ) (d : Event) → k + 1 < n + 1 → P (get_or events k d) (get_or events (k + 1) d)
one_more P events n x y before some within here k d lt =
    ⊎_elim
    (λ e.
    let at : n - 1 ≡ k = omega (arith, e, some) in
    let next : n ≡ k + 1 = omega (arith, e) in
    subst (λ z. P z (get_or events (k + 1) d)) (ap (λ m. get_or events m x) at ∙ get_or_default events k x d (omega (arith, e, within)))
    (subst (λ z. P (get_or events (n - 1) x) z) (ap (λ m. get_or events m y) next ∙ get_or_default events (k + 1) y d (omega (arith, e, within))) here))
    (λ ne. before k d (omega (arith, ne, lt)))
    (cases_eq (k + 1) n)
