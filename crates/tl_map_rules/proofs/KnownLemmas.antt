use Rattle.std.proofs.Common.{◌≡◌, ℕ, ◌+◌, ◌<◌, List, [], ◌∷◌, length, get_or, Contains, sym, ◌∙◌, arith}
use Rattle.std.specs.List.Sorted.{IsStrictlyIncreasing}
use Rattle.std.proofs.lemmas.List.{get_or_default, length-map, get_or-map}
use Rattle.tl_record.specs.declared.record.Record.{Record}
use Rattle.tl_map_county.specs.Chains.{CompleteChain, tlids}
use Rattle.tl_map_rules.specs.ChainsOf.{IsDrawn, AreChainsOf}
use Rattle.tl_map_rules.specs.Faults.{HasChain}
use Rattle.tl_map_rules.proofs.CountLemmas.{rising_pairs}

-- numbers that rise by neighbours rise
pub far : (xs : List ℕ) → IsStrictlyIncreasing xs → (i j : ℕ) → i < j → j < length xs → get_or xs i 0 < get_or xs j 0
far xs up i j before within =
    rising_pairs (λ (x : ℕ). x) xs (λ k d lt. let one = get_or_default xs k 0 d (omega arith) in let two = get_or_default xs (k + 1) 0 d lt in omega (arith, up k lt, one, two)) i j 0 before within

-- a TLID of the chains is one of a type 1 record, and the other way round
pub chain_known : (rs : List Record) (chains : List CompleteChain) (t : ℕ) → AreChainsOf rs chains → Contains (tlids chains) t → HasChain rs t
chain_known rs [] t are has = absurd (omega (arith, has.1))
chain_known rs (x ∷ chains) t are has =
    let lt : has.0 < length (x ∷ chains) = omega (arith, has.1, length-map (x ∷ chains) (λ (c : CompleteChain). c.tlid)) in
    let drawn : IsDrawn rs (get_or (x ∷ chains) has.0 x) = are.drawn has.0 x lt in
    let same : (get_or (x ∷ chains) has.0 x).tlid ≡ t = sym (get_or-map (λ (c : CompleteChain). c.tlid) (x ∷ chains) has.0 x t lt) ∙ has.2 in
    rw (← same) (drawn.from, drawn.to, drawn.record_of_it)
