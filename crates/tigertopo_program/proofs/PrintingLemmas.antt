-- What is printed piece by piece.
use Rattle.std.proofs.Common.{◌≡◌, ℕ, zero, suc, ◌+◌, ◌-◌, ◌<◌, ◌≤◌, List, [], ◌∷◌, ◌++◌, length, take, drop, map, slice_get, slice_index_or, Some, refl, sym, ap, ◌∙◌, append_assoc, append-nil, add-one, zero-add, arith, drop-cons}
use Rattle.std.proofs.Math.Seq.{take-nil}
use Rattle.std.proofs.lemmas.List.{take_all}
use Rattle.tl_geom.specs.declared.point.Point.{Point}
use Rattle.tl_map_county.specs.Chains.{CompleteChain, tlids}
use Rattle.tigertopo_program.specs.Print.Printing.{point_text, points_text, chain_text, chains_text}

pub points_text-append : (xs ys : List Point) → points_text (xs ++ ys) ≡ points_text xs ++ points_text ys
points_text-append [] ys = refl
points_text-append (x ∷ xs) ys =
    ap (λ l. point_text x ++ l) (points_text-append xs ys) ∙ sym (append_assoc (point_text x) (points_text xs) (points_text ys))

chains_text-suc : (list : List CompleteChain) (i t : ℕ) (points : List Point) → slice_get (tlids list) i ≡ Some t
    → slice_get (map (λ chain. chain.points) list) i ≡ Some points
    → chains_text (take (suc i) list) ≡ chains_text (take i list) ++ chain_text (record { tlid = t; points = points })
chains_text-suc [] i t points tlid here = cc
chains_text-suc (chain ∷ rest) zero t points tlid here =
    let same_tlid : chain.tlid ≡ t = cc in
    let same_points : chain.points ≡ points = cc in
    rw (append-nil, ← same_tlid, ← same_points) refl
chains_text-suc (chain ∷ rest) (suc i) t points tlid here =
    ap (λ l. chain_text chain ++ l) (chains_text-suc rest i t points tlid here)
    ∙ sym (append_assoc (chain_text chain) (chains_text (take i rest)) _)

-- one chain more
pub chains_text-next : (list : List CompleteChain) (i t : ℕ) (points : List Point) → slice_get (tlids list) i ≡ Some t
    → slice_get (map (λ chain. chain.points) list) i ≡ Some points
    → chains_text (take (i + 1) list) ≡ chains_text (take i list) ++ chain_text (record { tlid = t; points = points })
chains_text-next list i t points tlid here = rw add-one (chains_text-suc list i t points tlid here)

-- a blank, a text, a comma and a text before the rest, piece by piece
pub point_parts : (x y rest : List ℕ) → 32 ∷ (x ++ 44 ∷ (y ++ rest)) ≡ 32 ∷ x ++ 44 ∷ [] ++ y ++ rest
point_parts x y rest = ap (λ l. 32 ∷ l) (sym (append_assoc (x ++ 44 ∷ []) y rest ∙ append_assoc x (44 ∷ []) (y ++ rest)))

-- a point before the text of those behind it
pub points_text-back : (points : List Point) (i : ℕ) (d : Point) (rest : List ℕ) → i < length points
    → point_text (slice_index_or points i d) ++ (points_text (drop (i + 1) points) ++ rest) ≡ points_text (drop i points) ++ rest
points_text-back points i d rest within = rw (add-one, drop-cons points i d within) (sym (append_assoc _ _ rest))

take_two : (i n : ℕ) (points : List Point) → take (i + n) points ≡ take i points ++ take n (drop i points)
take_two zero n points = ap (λ k. take k points) (zero-add n)
take_two (suc i) n [] = take-nil (suc i + n) ∙ sym (take-nil n)
take_two (suc i) n (p ∷ points) = let e : suc i + n ≡ suc (i + n) = omega arith in rw e (ap (λ l. p ∷ l) (take_two i n points))

-- several points more
pub points_text-several : (points : List Point) (i n : ℕ) → points_text (take (i + n) points) ≡ points_text (take i points) ++ points_text (take n (drop i points))
points_text-several points i n = rw (take_two i n points) (points_text-append _ _)

-- a line whose points come in two parts
pub chain_parts : (head : List ℕ) (points : List Point) (i : ℕ) (end : List ℕ) → i ≤ length points
    → head ++ points_text (take i points) ++ points_text (take (length points - i) (drop i points)) ++ end ≡ head ++ points_text points ++ end
chain_parts head points i end within =
    let all : take (i + (length points - i)) points ≡ points = take_all _ points (omega arith) in
    ap (λ l. l ++ end) (append_assoc head _ _ ∙ ap (λ l. head ++ l) (sym (points_text-several points i (length points - i)) ∙ ap points_text all))
