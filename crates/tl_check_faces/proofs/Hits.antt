-- Two lists in which each of some numbers stands once have one balance.
use Rattle.std.proofs.Common.{◌≡◌, ℕ, pos, ◌-ℤ◌, Bool, cond, List, map, count_by, sym, ap, ◌∙◌}
use Rattle.tl_map_county.specs.declared.sides.Side.{Side}
use Rattle.tl_map_county.specs.TheMap.{MapChain}
use Rattle.tl_tree_index.specs.Hits.{times, AreHits}
use Rattle.tl_check_inside.specs.declared.flanks.Flanks.{Flanks}
use Rattle.tl_check_inside.specs.Inside.{flanks_at, balance}
use Rattle.tl_check_inside.proofs.Counting.{same_sum, sum-map, same_times}

same_count : (chains : List MapChain) (P : Flanks → Bool) (xs ys : List ℕ) → ((i : ℕ) → times i xs ≡ times i ys) → count_by P (map (flanks_at chains) xs) ≡ count_by P (map (flanks_at chains) ys)
same_count chains P xs ys e =
    sum-map (λ f. cond (P f) 1 0) (flanks_at chains) xs
    ∙ same_sum (λ s. cond (P (flanks_at chains s)) 1 0) xs ys e
    ∙ sym (sum-map (λ f. cond (P f) 1 0) (flanks_at chains) ys)

pub one_balance : (chains : List MapChain) (n : ℕ) (hit : ℕ → Type 0) (S : Side → Bool) (xs ys : List ℕ) → AreHits n hit xs → AreHits n hit ys → balance S (map (flanks_at chains) xs) ≡ balance S (map (flanks_at chains) ys)
one_balance chains n hit S xs ys a b =
    let e : (i : ℕ) → times i xs ≡ times i ys = same_times n hit xs ys a b in
    ap (λ k. pos k -ℤ pos (count_by (λ f. S f.far) (map (flanks_at chains) xs))) (same_count chains (λ f. S f.near) xs ys e)
    ∙ ap (λ k. pos (count_by (λ f. S f.near) (map (flanks_at chains) ys)) -ℤ pos k) (same_count chains (λ f. S f.far) xs ys e)
