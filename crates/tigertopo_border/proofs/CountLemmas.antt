-- The numbers of a border.
use Rattle.std.proofs.Common.{◌≡◌, ℕ, ◌+◌, ◌-◌, ◌<◌, ◌≤◌, ◌||◌, Bool, true, false, cond, List, [], ◌∷◌, ◌++◌, Some, length, take, get_or, slice_get, arith, refl, ap, ◌∙◌, take_all, zero-add}
use Rattle.std.specs.Prelude.{sum_by, count_by}
use Rattle.std.specs.Int.{from_bool}
use Rattle.std.proofs.lemmas.List.{take_more}
use Rattle.std.proofs.lemmas.List.Sums.{sum_by-append, sum_by-cons, sum_by-take-le}
use Rattle.std.proofs.lemmas.Option.{slice_get-get_or, slice_get_within}
use Rattle.tl_geom.specs.declared.point.Point.{Point}
use Rattle.tl_map_county.specs.declared.sides.Side.{Side}
use Rattle.tl_map_county.specs.Segments.{segments_before}
use Rattle.tl_map_county.specs.TheMap.{TheMap, MapChain, IsChain}
use Rattle.tigertopo_border.specs.Whole.Homes.{is_blank}
use Rattle.tigertopo_border.specs.Whole.Borders.{has_blank}
use Rattle.tigertopo_border.specs.Border.{border_segments, segments_at}

-- one more of a sum
pub one_added : {X : Type 0} (f : X → ℕ) (xs : List X) (i : ℕ) (x : X) → slice_get xs i ≡ Some x → i < length xs → sum_by f (take (i + 1) xs) ≡ sum_by f (take i xs) + f x
one_added f xs i x here lt =
    let same : get_or xs i x ≡ x = cc (slice_get-get_or xs i x lt, here) in
    ap (sum_by f) (take_more xs i x lt ∙ ap (λ y. take i xs ++ y ∷ []) same) ∙ sum_by-append f (take i xs) (x ∷ []) ∙ ap (λ n. sum_by f (take i xs) + n) (zero-add (f x))

-- the segments of a chain that was looked up, if it is of the border
pub segments_there : (m : TheMap) (c tlid : ℕ) (points : List Point) (left right : Side) → IsChain (slice_get m.chains c) tlid points left right
    → (is_blank left || is_blank right) ≡ true → length points - 1 ≡ segments_at m c
segments_there m c tlid points left right is blank =
    let its : has_blank is.chain ≡ true = rw (is.left_is, is.right_is) at blank in
    rw is.is (rw its (ap (λ (ps : List Point). length ps - 1) is.points_are))

pub no_segments_there : (m : TheMap) (c tlid : ℕ) (points : List Point) (left right : Side) → IsChain (slice_get m.chains c) tlid points left right
    → (is_blank left || is_blank right) ≡ false → 0 ≡ segments_at m c
no_segments_there m c tlid points left right is named =
    let its : has_blank is.chain ≡ false = rw (is.left_is, is.right_is) at named in
    rw is.is (rw its refl)

-- a chain has no more segments than all
pub few_points : (m : TheMap) (c tlid : ℕ) (points : List Point) (left right : Side) → IsChain (slice_get m.chains c) tlid points left right
    → length points - 1 ≤ segments_before m.chains (length m.chains)
few_points m c tlid points left right is =
    let f : MapChain → ℕ = λ chain. length chain.points - 1 in
    let lt = slice_get_within m.chains c is.chain is.is in
    let more = one_added f m.chains c is.chain is.is lt in
    let part = sum_by-take-le f m.chains (c + 1) in
    let all : take (length m.chains) m.chains ≡ m.chains = take_all (length m.chains) m.chains (omega arith) in
    let whole : segments_before m.chains (length m.chains) ≡ sum_by f m.chains = ap (sum_by f) all in
    let own : length points ≡ length is.chain.points = ap length is.points_are in
    omega (arith, more, part, whole, own)

-- nor has the border
at_most : (c : MapChain) (b : Bool) → has_blank c ≡ b → border_segments c ≤ length c.points - 1
at_most c true is = rw is (omega arith)
at_most c false is = rw is (omega arith)

less_than_all : (chains : List MapChain) → sum_by border_segments chains ≤ sum_by (λ c. length c.points - 1) chains
less_than_all [] = omega arith
less_than_all (c ∷ chains) =
    omega (arith, at_most c (has_blank c) refl, less_than_all chains, sum_by-cons border_segments c chains, sum_by-cons (λ (d : MapChain). length d.points - 1) c chains)

pub few_segments : (m : TheMap) (n : ℕ) → sum_by border_segments (take n m.chains) ≤ segments_before m.chains (length m.chains)
few_segments m n =
    let f : MapChain → ℕ = λ chain. length chain.points - 1 in
    let some = less_than_all (take n m.chains) in
    let part = sum_by-take-le f m.chains n in
    let all : take (length m.chains) m.chains ≡ m.chains = take_all (length m.chains) m.chains (omega arith) in
    let whole : segments_before m.chains (length m.chains) ≡ sum_by f m.chains = ap (sum_by f) all in
    omega (arith, some, part, whole)

-- one chain more
one_here : (m : TheMap) (chains : List MapChain) (n : ℕ) (x : MapChain) → m.chains ≡ chains → n < length chains
    → sum_by border_segments (take (n + 1) m.chains) ≡ sum_by border_segments (take n m.chains) + segments_at m n
one_here m chains n x same lt =
    let there : slice_get chains n ≡ Some (get_or chains n x) = slice_get-get_or chains n x lt in
    rw (same, there) (one_added border_segments chains n (get_or chains n x) there lt)

pub segments_more : (m : TheMap) (chains : List MapChain) (n : ℕ) → m.chains ≡ chains → n < length chains
    → sum_by border_segments (take (n + 1) m.chains) ≡ sum_by border_segments (take n m.chains) + segments_at m n
segments_more m [] n same lt = absurd (omega arith)
segments_more m (x ∷ chains) n same lt = one_here m (x ∷ chains) n x same lt

-- one chain more is counted
pub counted_more : (chains : List MapChain) (n tlid count : ℕ) (points : List Point) (left right : Side) (b : Bool) (one : ℕ) → IsChain (slice_get chains n) tlid points left right
    → b ≡ (is_blank left || is_blank right) → one ≡ from_bool b → count ≡ count_by has_blank (take n chains) → count + one ≡ count_by has_blank (take (n + 1) chains)
counted_more chains n tlid count points left right b one is says worth before =
    let lt = slice_get_within chains n is.chain is.is in
    let its : b ≡ has_blank is.chain = rw (is.left_is, is.right_is) at says in
    let more = one_added (λ c. cond (has_blank c) 1 0) chains n is.chain is.is lt in
    one_counted b (has_blank is.chain) one its worth before more
  where
    one_counted : (b c : Bool) (one : ℕ) → b ≡ c → one ≡ from_bool b → count ≡ count_by has_blank (take n chains)
        → count_by has_blank (take (n + 1) chains) ≡ count_by has_blank (take n chains) + cond c 1 0 → count + one ≡ count_by has_blank (take (n + 1) chains)
    one_counted true c one same worth before more = let own : cond {A = ℕ} c 1 0 ≡ 1 = rw (← same) refl in let w : one ≡ 1 = worth in omega (arith, own, w, before, more)
    one_counted false c one same worth before more = let own : cond {A = ℕ} c 1 0 ≡ 0 = rw (← same) refl in let w : one ≡ 0 = worth in omega (arith, own, w, before, more)

pub one_at_most : (b : Bool) (n : ℕ) → n ≡ from_bool b → n ≤ 1
one_at_most true n is = omega (arith, is)
one_at_most false n is = omega (arith, is)
