-- Lists to which numbers are added, or which are joined, where each two neighbours are tested; and what a step moves.
use Rattle.std.proofs.Common.{◌≡◌, ℕ, suc, ◌+◌, ◌-◌, Some, List, [], ◌∷◌, ◌++◌, length, get_or, take, drop, append_assoc, refl, sym, ap, subst, ◌∙◌, arith}
use Rattle.std.specs.Prelude.{slice_get}
use Rattle.tl_tree_index.specs.Hits.{times}
use Rattle.tl_tree_index.proofs.Times.{times-append}
use Rattle.tl_check_planar.specs.Keeping.Apart.{one_found}
use Rattle.tl_check_planar.specs.ByHeight.Neighbours.{EachTwo}
use Rattle.tl_check_active.specs.Blocks.Lined.{last_of}
use Rattle.tl_check_planar.proofs.ByHeight.Walking.{two_front, two_back}

pub last_more : (x y : ℕ) (xs : List ℕ) → last_of (x ∷ (y ∷ xs)) ≡ last_of (y ∷ xs)
last_more x y xs = ap (slice_get (x ∷ (y ∷ xs))) (let one : length (x ∷ (y ∷ xs)) - 1 ≡ suc (length (y ∷ xs) - 1) = omega arith in one)

pub pushed : (P : ℕ → ℕ → Type 0) (xs : List ℕ) (s : ℕ) → EachTwo P xs → ((t : ℕ) → last_of xs ≡ Some t → P t s) → EachTwo P (xs ++ s ∷ [])
pushed P [] s two next = tt
pushed P (x ∷ []) s two next = (next x refl, tt)
pushed P (x ∷ (y ∷ xs)) s two next = (two.0, pushed P (y ∷ xs) s two.1 (λ t e. next t (last_more x y xs ∙ e)))

pub joined : (P : ℕ → ℕ → Type 0) (xs ys : List ℕ) → EachTwo P xs → EachTwo P ys → ((s t : ℕ) → last_of xs ≡ Some s → slice_get ys 0 ≡ Some t → P s t) → EachTwo P (xs ++ ys)
joined P [] ys two two' next = two'
joined P (x ∷ []) [] two two' next = tt
joined P (x ∷ []) (y ∷ ys) two two' next = (next x y refl refl, two')
joined P (x ∷ (z ∷ xs)) ys two two' next = (two.0, joined P (z ∷ xs) ys two.1 two' (λ s t e f. next s t (last_more x z xs ∙ e) f))

-- ---- a step

-- what is taken off is the first
pub first_off : (back : List ℕ) (s : ℕ) → slice_get back 0 ≡ Some s → back ≡ s ∷ drop 1 back
first_off [] s e = absurd (cc)
first_off (x ∷ back) s e = ap (λ y. y ∷ back) (one_found x s (Some x) refl e)

-- one more of them is off
pub one_off : (outs before back : List ℕ) (k s : ℕ) → before ≡ take k outs ++ back → slice_get back 0 ≡ Some s → take (k + 1) outs ≡ take k outs ++ s ∷ [] → before ≡ take (k + 1) outs ++ drop 1 back
one_off outs before back k s is e more =
    is ∙ ap (λ b. take k outs ++ b) (first_off back s e) ∙ sym (append_assoc (take k outs) (s ∷ []) (drop 1 back)) ∙ ap (λ a. a ++ drop 1 back) (sym more)

-- a list of one number
pub single : (l : List ℕ) → length l ≡ 1 → l ≡ get_or l 0 0 ∷ []
single [] one = absurd (omega (arith, one))
single (x ∷ []) one = refl
single (x ∷ (y ∷ l)) one = absurd (omega (arith, one))

pub moved : (s : ℕ) (front outs ins back old new : List ℕ) → old ≡ front ++ (outs ++ back) → new ≡ (front ++ ins) ++ back → times s new + times s outs ≡ times s old + times s ins
moved s front outs ins back old new e f =
    let n : times s new ≡ times s ((front ++ ins) ++ back) = ap (times s) f in
    let o : times s old ≡ times s (front ++ (outs ++ back)) = ap (times s) e in
    let a = times-append s (front ++ ins) back in
    let b = times-append s front ins in
    let c = times-append s front (outs ++ back) in
    let d = times-append s outs back in
    omega (arith, n, o, a, b, c, d)

pub before_tested : (P : ℕ → ℕ → Type 0) (front outs back old : List ℕ) → old ≡ front ++ (outs ++ back) → EachTwo P old → EachTwo P front × EachTwo P back
before_tested P front outs back old e two =
    let all : EachTwo P (front ++ (outs ++ back)) = subst (EachTwo P) e two in
    (two_front P front (outs ++ back) all, two_back P outs back (two_back P front (outs ++ back) all))
