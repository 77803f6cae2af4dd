-- What parts of a search leave, one after the other.
use Rattle.std.proofs.Common.{◌≡◌, ℕ, ◌+◌, ◌<◌, ◌≤◌, Bool, true, false, ◌||◌, Option, Some, None, ◌⊎◌, inl, inr, refl, sym, arith}
use Rattle.std.proofs.lemmas.Bool.{false≢true}
use Rattle.tl_geom.specs.declared.rect.Rect.{Rect}
use Rattle.tl_tree_index.specs.Pairs.{meeting}
use Rattle.tl_tree_index.specs.Searches.{IsFreePair}
use Rattle.tl_tree_index.specs.declared.items.Conflict.{Conflict}
use Rattle.tl_tree.specs.declared.search.Progress.{Progress}
use Rattle.tl_tree.specs.Keeping.Walking.{Enough, GoesOn, Stops, MayLeave}
use Rattle.tl_tree.proofs.PairLemmas.{IsSymmetric}
use Rattle.tl_tree.proofs.PairTests.{meeting-swap}

either-true : (a b : Bool) → (a || b) ≡ true → (a ≡ true) ⊎ (b ≡ true)
either-true true b e = inl refl
either-true false b e = inr e

first-true : (a b : Bool) → a ≡ true → (a || b) ≡ true
first-true true b e = refl
first-true false b e = absurd (false≢true e)

second-true : (a b : Bool) → b ≡ true → (a || b) ≡ true
second-true true b e = refl
second-true false b e = e

-- ---- what holds of all that counts some pairs that don't conflict

module _ {C : Type 0} {n : ℕ} {b : ℕ → Rect} {tells : ℕ → ℕ → Option C → Type 0} where
  pub enough_all : {P : (ℕ → ℕ → ℕ) → Type 0} → ((f : ℕ → ℕ → ℕ) → P f) → Enough n b tells P
  enough_all h = record { chosen = λ i j. false; free = λ i j l k t. absurd (false≢true t); counted = λ f c. h f }

  pub enough_from : {P Q : (ℕ → ℕ → ℕ) → Type 0} → Enough n b tells P → ((f : ℕ → ℕ → ℕ) → IsSymmetric f → P f → Q f) → Enough n b tells Q
  enough_from e h = record { chosen = e.chosen; free = e.free; counted = λ f c. h f c.turned (e.counted f c) }

  pub enough_both : {P Q R : (ℕ → ℕ → ℕ) → Type 0} → Enough n b tells P → Enough n b tells Q → ((f : ℕ → ℕ → ℕ) → IsSymmetric f → P f → Q f → R f) → Enough n b tells R
  enough_both {P} {Q} {R} p q h =
      record {
        chosen = λ i j. p.chosen i j || q.chosen i j;
        free = λ i j l k t. by_choice i j l k (either-true (p.chosen i j) (q.chosen i j) t);
        counted = λ f c. h f c.turned
            (p.counted f (record { turned = c.turned; each = λ i j l k t. c.each i j l k (first-true (p.chosen i j) (q.chosen i j) t) }))
            (q.counted f (record { turned = c.turned; each = λ i j l k t. c.each i j l k (second-true (p.chosen i j) (q.chosen i j) t) }));
      }
    where
      by_choice : (i j : ℕ) → i < j → j < n → (p.chosen i j ≡ true) ⊎ (q.chosen i j ≡ true) → IsFreePair b tells i j
      by_choice i j l k (inl t) = p.free i j l k t
      by_choice i j l k (inr t) = q.free i j l k t

module _ {C : Type 0} (n : ℕ) (b : ℕ → Rect) (tells : ℕ → ℕ → Option C → Type 0) where
  pub stops_from : {P : (ℕ → ℕ → ℕ) → Type 0} (sum sum' : (ℕ → ℕ → ℕ) → ℕ) (left left' : ℕ) (found : Option (Conflict C)) → Stops n b tells sum left found → Enough n b tells P → ((f : ℕ → ℕ → ℕ) → IsSymmetric f → P f → (e : ℕ) → left + e ≤ sum f → left' + e ≤ sum' f) → Stops n b tells sum' left' found
  stops_from sum sum' left left' None h p k = record { x = h.x; y = h.y; further = h.further; spent = enough_both h.spent p (λ f s q r. k f s r (f h.x h.y) q) }
  stops_from sum sum' left left' (Some x) h p k = h

  -- a part that stops stops the whole, where something is known of what went before
  pub stops_after : {P : (ℕ → ℕ → ℕ) → Type 0} (sum : (ℕ → ℕ → ℕ) → ℕ) (free : Type 0) (old new : Progress C) (sum' : (ℕ → ℕ → ℕ) → ℕ) (left' : ℕ) (r : Bool) → MayLeave n b tells sum free old new r → r ≡ false → Enough n b tells P → ((f : ℕ → ℕ → ℕ) → IsSymmetric f → P f → (e : ℕ) → old.left + e ≤ sum f → left' + e ≤ sum' f) → Stops n b tells sum' left' new.found
  stops_after sum free old new sum' left' true h e p k = absurd (false≢true (sym e))
  stops_after sum free old new sum' left' false h e p k = stops_from sum sum' old.left left' new.found h p k

  -- the same of a first part
  pub stops : (sum : (ℕ → ℕ → ℕ) → ℕ) (free : Type 0) (old new : Progress C) (sum' : (ℕ → ℕ → ℕ) → ℕ) (left' : ℕ) (r : Bool) → MayLeave n b tells sum free old new r → r ≡ false → ((f : ℕ → ℕ → ℕ) → IsSymmetric f → (e : ℕ) → old.left + e ≤ sum f → left' + e ≤ sum' f) → Stops n b tells sum' left' new.found
  stops sum free old new sum' left' r h e k =
      let none : Enough n b tells (λ f. Unit {0}) = enough_all (λ f. tt) in
      stops_after sum free old new sum' left' r h e none (λ f s p. k f s)

  -- what is known where a part goes on
  pub goes : (sum : (ℕ → ℕ → ℕ) → ℕ) (free : Type 0) (old new : Progress C) (r : Bool) → MayLeave n b tells sum free old new r → r ≡ true → GoesOn n b tells sum free old new
  goes sum free old new true h e = h
  goes sum free old new false h e = absurd (false≢true e)

  -- the same of more pairs, of which as many have bounds that meet, and which are free where those are
  pub leaves_more : (sum : (ℕ → ℕ → ℕ) → ℕ) (free : Type 0) (old new : Progress C) (sum' : (ℕ → ℕ → ℕ) → ℕ) (free' : Type 0) (r : Bool) → sum (meeting b) ≡ sum' (meeting b) → ((f : ℕ → ℕ → ℕ) → IsSymmetric f → sum f ≤ sum' f) → (free → free') → MayLeave n b tells sum free old new r → MayLeave n b tells sum' free' old new r
  leaves_more sum free old new sum' free' true p m q h =
      record { left = omega (arith, h.left, p); spent = enough_from h.spent (λ f s k. omega (arith, k, m f s)); free = q h.free; nothing_found = h.nothing_found }
  leaves_more sum free old new sum' free' false p m q h =
      let none : Enough n b tells (λ f. Unit {0}) = enough_all (λ f. tt) in
      stops_from sum sum' old.left old.left new.found h none (λ f s u e k. omega (arith, k, m f s))

  -- the same of the same pairs
  pub leaves_same : (sum : (ℕ → ℕ → ℕ) → ℕ) (free : Type 0) (old new : Progress C) (sum' : (ℕ → ℕ → ℕ) → ℕ) (free' : Type 0) (r : Bool) → ((f : ℕ → ℕ → ℕ) → IsSymmetric f → sum f ≡ sum' f) → (free → free') → MayLeave n b tells sum free old new r → MayLeave n b tells sum' free' old new r
  leaves_same sum free old new sum' free' r p q h =
      leaves_more sum free old new sum' free' r (p (meeting b) (meeting-swap b)) (λ f s. omega (arith, p f s)) q h

  -- two parts, one after the other
  pub leaves_both : (sum : (ℕ → ℕ → ℕ) → ℕ) (free : Type 0) (old mid new : Progress C) (sum' : (ℕ → ℕ → ℕ) → ℕ) (free' : Type 0) (r : Bool) → GoesOn n b tells sum free old mid → MayLeave n b tells sum' free' mid new r → MayLeave n b tells (λ f. sum f + sum' f) (free × free') old new r
  leaves_both sum free old mid new sum' free' true p h =
      record { left = omega (arith, h.left, p.left); spent = enough_both p.spent h.spent (λ f s k l. omega (arith, k, l)); free = (p.free, h.free); nothing_found = h.nothing_found }
  leaves_both sum free old mid new sum' free' false p h =
      stops_from sum' (λ f. sum f + sum' f) mid.left old.left new.found h p.spent (λ f s k e l. omega (arith, k, l))
