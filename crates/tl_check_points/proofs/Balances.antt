-- Near and far sides along lists that are joined.
use Rattle.std.proofs.Common.{◌≡◌, ℕ, ◌+◌, ◌<◌, Bool, List, [], ◌∷◌, ◌++◌, length, take, get_or, add-one, sym, ap, ◌∙◌, arith}
use Rattle.std.proofs.Math.Seq.{take-suc}
use Rattle.std.proofs.lemmas.List.{map-append}
use Rattle.std.proofs.lemmas.List.Sums.{sum_by-cons, sum_by-append}
use Rattle.tl_map_county.specs.declared.sides.Side.{Side}
use Rattle.tl_map_county.specs.TheMap.{MapChain}
use Rattle.tl_check_active.proofs.Bits.{bit}
use Rattle.tl_check_inside.specs.declared.flanks.Flanks.{Flanks}
use Rattle.tl_check_inside.specs.Inside.{flanks_at}
use Rattle.tl_check_inside.specs.Keeping.Tallies.{flanks_in, near_count, far_count}
use Rattle.tl_check_points.specs.Keeping.Balances.{HaveOneBalance, LeadsTo}

module _ (S : Side → Bool) where
  pub near_more : (f : Flanks) (fs : List Flanks) → near_count (f ∷ fs) S ≡ bit (S f.near) + near_count fs S
  near_more f fs = sum_by-cons (λ (x : Flanks). bit (S x.near)) f fs

  pub far_more : (f : Flanks) (fs : List Flanks) → far_count (f ∷ fs) S ≡ bit (S f.far) + far_count fs S
  far_more f fs = sum_by-cons (λ (x : Flanks). bit (S x.far)) f fs

  pub near_joined : (xs ys : List Flanks) → near_count (xs ++ ys) S ≡ near_count xs S + near_count ys S
  near_joined xs ys = sum_by-append (λ (x : Flanks). bit (S x.near)) xs ys

  pub far_joined : (xs ys : List Flanks) → far_count (xs ++ ys) S ≡ far_count xs S + far_count ys S
  far_joined xs ys = sum_by-append (λ (x : Flanks). bit (S x.far)) xs ys

pub same_balance : (fs : List Flanks) → HaveOneBalance fs fs
same_balance fs S none = omega arith

pub balance_by : (a b c : List Flanks) → HaveOneBalance a b → HaveOneBalance b c → HaveOneBalance a c
balance_by a b c one other S none = let e = one S none in let f = other S none in omega (arith, e, f)

pub balance_back : (a b : List Flanks) → HaveOneBalance a b → HaveOneBalance b a
balance_back a b one S none = let e = one S none in omega (arith, e)

-- one more on both
pub balance_more : (f : Flanks) (a b : List Flanks) → HaveOneBalance a b → HaveOneBalance (f ∷ a) (f ∷ b)
balance_more f a b one S none =
    let e = one S none in
    let n = near_more S f a in let m = far_more S f a in let n' = near_more S f b in let m' = far_more S f b in
    omega (arith, e, n, m, n', m')

-- in the stead of one part between two stands another
pub balance_within : (front outs ins back : List Flanks) → HaveOneBalance outs ins → HaveOneBalance (front ++ (outs ++ back)) (front ++ (ins ++ back))
balance_within front outs ins back one S none =
    let e = one S none in
    let a = near_joined S front (outs ++ back) in let b = near_joined S outs back in
    let c = near_joined S front (ins ++ back) in let d = near_joined S ins back in
    let a' = far_joined S front (outs ++ back) in let b' = far_joined S outs back in
    let c' = far_joined S front (ins ++ back) in let d' = far_joined S ins back in
    omega (arith, e, a, b, c, d, a', b', c', d')

pub flanks_joined : (chains : List MapChain) (xs ys : List ℕ) → flanks_in chains (xs ++ ys) ≡ flanks_in chains xs ++ flanks_in chains ys
flanks_joined chains xs ys = map-append (flanks_at chains) xs ys

-- two lists that lead from one side to the same other one
pub balanced_by : (a b : List Flanks) (from to : Side) → LeadsTo a from to → LeadsTo b from to → HaveOneBalance a b
balanced_by a b from to one other S none = let e = one S in let f = other S in omega (arith, e, f)

-- one segment more
pub leads_more : (chains : List MapChain) (list : List ℕ) (k d : ℕ) (from side : Side) (flanks : Flanks) → k < length list →
    flanks ≡ flanks_at chains (get_or list k d) → flanks.near ≡ side → LeadsTo (flanks_in chains (take k list)) from side →
    LeadsTo (flanks_in chains (take (k + 1) list)) from flanks.far
leads_more chains list k d from side flanks lt is near before S =
    let more : flanks_in chains (take (k + 1) list) ≡ flanks_in chains (take k list) ++ flanks ∷ [] =
    ap (flanks_in chains) (rw add-one (take-suc list k d lt)) ∙ flanks_joined chains (take k list) (get_or list k d ∷ [])
    ∙ ap (λ (f : Flanks). flanks_in chains (take k list) ++ f ∷ []) (sym is) in
    let a : near_count (flanks_in chains (take (k + 1) list)) S ≡ near_count (flanks_in chains (take k list) ++ flanks ∷ []) S = ap (λ l. near_count l S) more in
    let b : far_count (flanks_in chains (take (k + 1) list)) S ≡ far_count (flanks_in chains (take k list) ++ flanks ∷ []) S = ap (λ l. far_count l S) more in
    let a' = near_joined S (flanks_in chains (take k list)) (flanks ∷ []) in
    let b' = far_joined S (flanks_in chains (take k list)) (flanks ∷ []) in
    let n = near_more S flanks [] in let m = far_more S flanks [] in
    let e = before S in
    let f : bit (S flanks.near) ≡ bit (S side) = ap (λ y. bit (S y)) near in
    omega (arith, a, b, a', b', n, m, e, f)
