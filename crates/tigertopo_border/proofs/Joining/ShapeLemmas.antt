-- Shapes by their numbers.
use Rattle.std.proofs.Common.{◌≡◌, ℕ, zero, suc, ◌+◌, ◌<◌, ◌≤◌, Bool, true, false, cond, eqb, ◌&&◌, List, [], ◌∷◌, count_by, refl, arith, inl, inr}
use Rattle.std.proofs.lemmas.Bool.{cases_Bool, cases_lt, eqb-true}
use Rattle.std.proofs.lemmas.List.Sums.{sum_by-cons}
use Rattle.tl_record.specs.declared.record.Record.{Record}
use Rattle.tl_record.specs.declared.record.Record.TheVariants.{Chain, Shape, Sides, PolyPoint, Landmark, AreaLink}
use Rattle.tl_map_rules.specs.ChainsOf.{is_shape, is_shape_at, shape_count}
use Rattle.tl_map_rules.specs.Faults.{AreShapesNumbered}

-- the sum of a function's values from 0 to n
abbrev pub up_to : (ℕ → ℕ) → ℕ → ℕ
up_to f zero = f 0
up_to f (suc n) = up_to f n + f (suc n)

abbrev hit : Bool → ℕ → ℕ → ℕ
hit b k n = cond (b && eqb k n) 1 0

hit_other : (b : Bool) (k n : ℕ) → eqb k n ≡ false → hit b k n ≡ 0
hit_other true k n other = rw other refl
hit_other false k n other = refl

hit_at_most : (b : Bool) (k n : ℕ) → hit b k n ≤ cond {A = ℕ} b 1 0
hit_at_most true k n = elim (cases_Bool (eqb k n)) [
  | inl same ↦ rw same (omega arith)
  | inr other ↦ rw other (omega arith)
]
hit_at_most false k n = omega arith

other_number : (k n : ℕ) → n < k → eqb k n ≡ false
other_number k n below = elim (cases_Bool (eqb k n)) [
  | inl same ↦ absurd (let e = eqb-true k n same in omega (arith, e, below))
  | inr other ↦ other
]

missed : (b : Bool) (k n : ℕ) → n < k → up_to (hit b k) n ≡ 0
missed b k zero below = hit_other b k 0 (other_number k 0 below)
missed b k (suc n) below = omega (arith, missed b k n (omega (arith, below)), hit_other b k (suc n) (other_number k (suc n) below))

hit_once : (b : Bool) (k n : ℕ) → up_to (hit b k) n ≤ cond {A = ℕ} b 1 0
hit_once b k zero = hit_at_most b k 0
hit_once b k (suc n) = elim (cases_Bool (eqb k (suc n))) [
  | inl same ↦ let e = eqb-true k (suc n) same in omega (arith, e, missed b k n (omega (arith, e)), hit_at_most b k (suc n))
  | inr other ↦ omega (arith, hit_once b k n, hit_other b k (suc n) other)
]

up_to-both : (f g h : ℕ → ℕ) → ((n : ℕ) → h n ≡ f n + g n) → (n : ℕ) → up_to h n ≡ up_to f n + up_to g n
up_to-both f g h both zero = both 0
up_to-both f g h both (suc n) = omega (arith, both (suc n), up_to-both f g h both n)

up_to-none : (f : ℕ → ℕ) → ((n : ℕ) → f n ≡ 0) → (n : ℕ) → up_to f n ≡ 0
up_to-none f none zero = none 0
up_to-none f none (suc n) = omega (arith, none (suc n), up_to-none f none n)

-- how many type 2 records of a TLID have a number
abbrev pub at_number : List Record → ℕ → ℕ → ℕ
at_number rs t n = count_by (is_shape_at t n) rs

one_record : (t : ℕ) (r : Record) (n : ℕ) → up_to (λ m. cond {A = ℕ} (is_shape_at t m r) 1 0) n ≤ cond {A = ℕ} (is_shape t r) 1 0
one_record t (Chain u from to) n = omega (arith, up_to-none (λ m. 0) (λ m. refl) n)
one_record t (Shape u k pairs) n = hit_once (eqb u t) k n
one_record t (Sides u start end left right) n = omega (arith, up_to-none (λ m. 0) (λ m. refl) n)
one_record t (PolyPoint k q) n = omega (arith, up_to-none (λ m. 0) (λ m. refl) n)
one_record t (Landmark k q) n = omega (arith, up_to-none (λ m. 0) (λ m. refl) n)
one_record t (AreaLink k m) n = omega (arith, up_to-none (λ m. 0) (λ m. refl) n)

-- the numbers are those of all of its records
numbers_counted : (rs : List Record) (t n : ℕ) → up_to (at_number rs t) n ≤ shape_count rs t
numbers_counted [] t n = omega (arith, up_to-none (at_number [] t) (λ m. refl) n)
numbers_counted (r ∷ rs) t n =
    let split = up_to-both (λ m. cond {A = ℕ} (is_shape_at t m r) 1 0) (at_number rs t) (at_number (r ∷ rs) t) (λ m. sum_by-cons (λ s. cond {A = ℕ} (is_shape_at t m s) 1 0) r rs) n in
    omega (arith, split, one_record t r n, numbers_counted rs t n, sum_by-cons (λ s. cond {A = ℕ} (is_shape t s) 1 0) r rs)

ones : (f : ℕ → ℕ) (m : ℕ) → ((n : ℕ) → 1 ≤ n → n ≤ m → f n ≡ 1) → (n : ℕ) → n ≤ m → n ≤ up_to f n
ones f m each zero within = omega arith
ones f m each (suc n) within = omega (arith, each (suc n) (omega arith) within, ones f m each n (omega (arith, within)))

more : (f : ℕ → ℕ) (m n : ℕ) → m < n → up_to f m + f n ≤ up_to f n
more f m zero before = absurd (omega (arith, before))
more f m (suc n) before = elim (cases_lt m n) [
  | inl earlier ↦ omega (arith, more f m n earlier)
  | inr last ↦ let at : m ≡ n = omega arith in rw at (omega arith)
]

-- behind the last number there is none
pub none_past : (rs : List Record) (t n : ℕ) → AreShapesNumbered rs t → shape_count rs t < n → at_number rs t n ≡ 0
none_past rs t n numbered past =
    omega (arith, ones (at_number rs t) (shape_count rs t) numbered (shape_count rs t) (omega arith), more (at_number rs t) (shape_count rs t) n past, numbers_counted rs t n)

-- no number stands twice
pub once_at_most : (rs : List Record) (t n : ℕ) → AreShapesNumbered rs t → 1 ≤ n → at_number rs t n ≤ 1
once_at_most rs t n numbered some = elim (cases_lt (shape_count rs t) n) [
  | inl past ↦ omega (arith, none_past rs t n numbered past)
  | inr within ↦ omega (arith, numbered n some (omega (arith, within)))
]

-- lists that have the same numbers have as many records
pub as_many : (rs js : List Record) (t : ℕ) → AreShapesNumbered rs t → AreShapesNumbered js t → ((n : ℕ) → 1 ≤ n → at_number rs t n ≡ at_number js t n) → shape_count rs t ≡ shape_count js t
as_many rs js t one other same = elim (cases_lt (shape_count rs t) (shape_count js t)) [
  | inl fewer ↦
      let n = shape_count rs t + 1 in
      absurd (omega (arith, none_past rs t (shape_count rs t + 1) one (omega arith), same (shape_count rs t + 1) (omega arith), other (shape_count rs t + 1) (omega arith) (omega (arith, fewer))))
  | inr not_fewer ↦ elim (cases_lt (shape_count js t) (shape_count rs t)) [
    | inl more_of ↦ absurd (omega (arith, none_past js t (shape_count js t + 1) other (omega arith), same (shape_count js t + 1) (omega arith), one (shape_count js t + 1) (omega arith) (omega (arith, more_of))))
    | inr not_more ↦ omega arith
  ]
]
