-- Lists that are filled pair by pair.
use Rattle.std.specs.Prelude.{◌≡◌, ℕ, List, All}
use Rattle.std.specs.List.{Any}
use Rattle.tl_check_planar.specs.Listing.Orders.{IsPairBefore, AreRising}

-- of things with two numbers each: all are good, they rise strictly, all come before the pair of a and b, and each pair
-- before that one that is wanted stands there
pub record ReachTo {X : Type 0} (first second : X → ℕ) (Good : X → Type 0) (Wanted : ℕ → ℕ → Type 0) (a b : ℕ) (xs : List X) : Type 0 where
  pub good : All Good xs
  pub rising : AreRising first second xs
  pub before : All (λ x. IsPairBefore (first x) (second x) a b) xs
  pub each : (i j : ℕ) → Wanted i j → IsPairBefore i j a b → Any (λ x. (first x ≡ i) × (second x ≡ j)) xs
