-- Faults that stay true, whatever lists follow.
use Rattle.std.proofs.Common.{◌≡◌, ℕ, ◌<◌, ◌≤◌, List, ◌++◌, length, length-append, arith}
use Rattle.tl_map_county.specs.TheMap.{MapChain}
use Rattle.tl_check_sides.specs.Lists.{times_in, and_list, list_at}
use Rattle.tl_check_sides.specs.Rounds.{IsRoundRepeated}
use Rattle.tl_check_sides.proofs.ListLemmas.{times-more, list-kept}
use Rattle.tl_check_sides.proofs.TakeFacts.{last_so}

pub unknown_lasts : (n d : ℕ) (lists more : List (List ℕ)) → (n ≤ d) × (1 ≤ times_in d lists) → (n ≤ d) × (1 ≤ times_in d (lists ++ more))
unknown_lasts n d lists more h = (h.0, omega (arith, h.1, times-more d lists more))

pub twice_lasts : (d : ℕ) (lists more : List (List ℕ)) → 2 ≤ times_in d lists → 2 ≤ times_in d (lists ++ more)
twice_lasts d lists more h = omega (arith, h, times-more d lists more)

still : (P : List ℕ → Type 0) (lists more : List (List ℕ)) (k : ℕ) → (k < length lists) × P (list_at lists k) → (k < length (lists ++ more)) × P (list_at (lists ++ more) k)
still P lists more k h = (omega (arith, h.0, length-append lists more), rw (list-kept lists more k h.0) h.1)

-- what is wrong with the last list is wrong with the list of its number
pub last_lasts : (P : List ℕ → Type 0) (lists more : List (List ℕ)) (xs : List ℕ) (number : ℕ) → number ≡ length lists → P xs → (number < length (and_list lists xs ++ more)) × P (list_at (and_list lists xs ++ more) number)
last_lasts P lists more xs number e p = still P (and_list lists xs) more number (last_so P lists xs number e p)

pub repeated_lasts : (chains : List MapChain) (lists more : List (List ℕ)) (r : ℕ) → IsRoundRepeated chains lists r → IsRoundRepeated chains (lists ++ more) r
repeated_lasts chains lists more r h =
    let earlier = h.is_earlier in
    let within = h.within in
    record {
      within = omega (arith, within, length-append lists more);
      earlier = h.earlier;
      is_earlier = earlier;
      node = h.node;
      earlier_starts = rw (list-kept lists more h.earlier (omega (arith, earlier, within))) h.earlier_starts;
      starts = rw (list-kept lists more r within) h.starts;
    }
