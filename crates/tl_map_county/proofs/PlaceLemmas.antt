use Rattle.std.proofs.Common.{◌≡◌, ℕ, zero, suc, ◌<◌, Some, None, List, [], ◌∷◌, length, map, get_or, Contains, ap, ◌∙◌, arith}
use Rattle.std.specs.Prelude.{slice_get}
use Rattle.std.specs.Option.{option_map}
use Rattle.std.proofs.lemmas.Option.{slice_get-map, slice_get-get_or}

-- the i-th item of images
pub slice_get-image : {X Y : Type 0} (f : X → Y) (xs : List X) (i : ℕ) (d : X) → i < length xs → slice_get (map f xs) i ≡ Some (f (get_or xs i d))
slice_get-image f xs i d lt = slice_get-map f xs i ∙ ap (option_map f) (slice_get-get_or xs i d lt)

-- what stands at a place is contained
pub contained : {X : Type 0} (xs : List X) (k : ℕ) (x : X) → slice_get xs k ≡ Some x → Contains xs x
contained [] k x at = absurd (let e : None ≡ Some x = at in cc)
contained (y ∷ ys) zero x at = (0, omega arith, (let e : y ≡ x = cc in e))
contained (y ∷ ys) (suc k) x at = let rest = contained ys k x at in (suc rest.0, omega (arith, rest.1), rest.2)
