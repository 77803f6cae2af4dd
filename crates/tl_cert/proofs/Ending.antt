-- From each state that lines lead to, lines lead to the end.
use Rattle.std.proofs.Common.{◌≡◌, ℕ, zero, suc, ◌+◌, ◌*◌, ◌≤◌, ◌⊎◌, inl, inr, List, [], ◌∷◌, refl, subst, arith, codes, pos, FitsSigned, w32}
use Rattle.tl_geom.specs.declared.rect.Rect.{Rect}
use Rattle.tl_cert.specs.declared.certificate.Counts.{Counts}
use Rattle.tl_cert.specs.Certificates.{IsInRange, AreCountsInRange}
use Rattle.tl_cert.specs.Text.{numbered_line, head_line, counts_line, end_line, inner_line, leaf_line}
use Rattle.tl_cert.specs.Keeping.Steps.{State, start, headed, counted, tree, rounds, walks, ended, CanHave, Steps, at_head, at_counts, at_nodes, at_inner}
use Rattle.tl_cert.specs.Keeping.Steps.{at_leaf, at_item, at_rounds, at_round, at_round_dart, at_walks, at_walk, at_walk_dart, at_end, Runs, no_line}
use Rattle.tl_cert.specs.Keeping.Steps.{first_line}
use Rattle.tl_cert.proofs.StandingTrees.{can_same}

-- what holds where lines lead to a state: its subtrees can have its nodes
abbrev pub IsOpen : State → Type 0
IsOpen (tree v p r i) = CanHave v p r
IsOpen start = Unit {0}
IsOpen (headed v) = Unit {0}
IsOpen (counted v) = Unit {0}
IsOpen (rounds m k) = Unit {0}
IsOpen (walks m k) = Unit {0}
IsOpen ended = Unit {0}

pub step_open : (s t : State) (line : List ℕ) → Steps s line t → IsOpen s → IsOpen t
step_open s t line (at_head v known) before = tt
step_open s t line (at_counts v c range) before = tt
step_open s t line (at_nodes v n small can) before = can
step_open s t line (at_inner v p r rect k range least most two can) before = can
step_open s t line (at_leaf v p r rect k range least most can) before = can
step_open s t line (at_item v p r i x small) before = before
step_open s t line (at_rounds v m small) before = tt
step_open s t line (at_round m k some small) before = tt
step_open s t line (at_round_dart m k x small) before = tt
step_open s t line (at_walks m small) before = tt
step_open s t line (at_walk m k some small) before = tt
step_open s t line (at_walk_dart m k x small) before = tt
step_open s t line at_end before = tt

pub run_open : (s t : State) (lines : List (List ℕ)) → Runs s lines t → IsOpen s → IsOpen t
run_open s t lines (no_line s') before = before
run_open s t lines (first_line s' next t' line others step more) before = run_open next t' others more (step_open s' next line step before)

-- lines lead from here to there
pub record Reaches (s t : State) : Type 0 where
  pub lines : List (List ℕ)
  pub run : Runs s lines t

reaches_step : (s t u : State) (line : List ℕ) → Steps s line t → Reaches t u → Reaches s u
reaches_step s t u line step more = record { lines = line ∷ more.lines; run = first_line s t u line more.lines step more.run }

walks_reach : (m k : ℕ) → Reaches (walks m k) ended
walks_reach zero zero = record { lines = end_line ∷ []; run = first_line (walks 0 0) ended ended end_line [] at_end (no_line ended) }
walks_reach (suc m) zero =
    reaches_step (walks (suc m) 0) (walks m 1) ended (numbered_line (codes "K") 1) (at_walk m 1 (omega arith) (omega arith))
    (reaches_step (walks m 1) (walks m 0) ended (numbered_line (codes "D") 0) (at_walk_dart m 0 0 (omega arith)) (walks_reach m zero))
walks_reach m (suc k) = reaches_step (walks m (suc k)) (walks m k) ended (numbered_line (codes "D") 0) (at_walk_dart m k 0 (omega arith)) (walks_reach m k)

rounds_reach : (m k : ℕ) → Reaches (rounds m k) ended
rounds_reach zero zero = reaches_step (rounds 0 0) (walks 0 0) ended (numbered_line (codes "W") 0) (at_walks 0 (omega arith)) (walks_reach 0 0)
rounds_reach (suc m) zero =
    reaches_step (rounds (suc m) 0) (rounds m 1) ended (numbered_line (codes "R") 1) (at_round m 1 (omega arith) (omega arith))
    (reaches_step (rounds m 1) (rounds m 0) ended (numbered_line (codes "D") 0) (at_round_dart m 0 0 (omega arith)) (rounds_reach m zero))
rounds_reach m (suc k) = reaches_step (rounds m (suc k)) (rounds m k) ended (numbered_line (codes "D") 0) (at_round_dart m k 0 (omega arith)) (rounds_reach m k)

point : Rect
point = record { xmin = pos 0; ymin = pos 0; xmax = pos 0; ymax = pos 0 }

point_in_range : IsInRange point
unfolding point
point_in_range =
    let fits : FitsSigned w32 (pos 0) = record { sfits = omega arith } in
    record { xmin = fits; ymin = fits; xmax = fits; ymax = fits }

items_reach : (v p r i : ℕ) → Reaches (tree v p r 0) ended → Reaches (tree v p r i) ended
items_reach v p r zero more = more
items_reach v p r (suc i) more =
    reaches_step (tree v p r (suc i)) (tree v p r i) ended (numbered_line (codes "S") 0) (at_item v p r i 0 (omega arith)) (items_reach v p r i more)

-- as many nodes as subtrees: leaves
leaves_reach : (v p : ℕ) → Reaches (tree v p p 0) ended
leaves_reach v zero =
    reaches_step (tree v 0 0 0) (rounds 0 0) ended (numbered_line (codes "N") 0) (at_rounds v 0 (omega arith)) (rounds_reach 0 0)
leaves_reach v (suc p) =
    reaches_step (tree v (suc p) (suc p) 0) (tree v p p 1) ended (leaf_line point 1)
    (at_leaf v p p point 1 point_in_range (omega arith) (omega arith) (can_same v p p refl))
    (reaches_step (tree v p p 1) (tree v p p 0) ended (numbered_line (codes "S") 0) (at_item v p p 0 0 (omega arith)) (leaves_reach v p))

-- an inner node before others
node_reach : (v p r k : ℕ) → 2 ≤ k → k ≤ 8 → (v ≤ 1 → k ≡ 2) → CanHave v (k + p) r → Reaches (tree v (k + p) r 0) ended
    → Reaches (tree v (suc p) (suc r) 0) ended
node_reach v p r k least most two can more =
    reaches_step (tree v (suc p) (suc r) 0) (tree v (k + p) r 0) ended (inner_line v point k) (at_inner v p r point k point_in_range least most two can) more

can_pairs : (v p r inner : ℕ) → v ≤ 1 → 1 ≤ p → r ≡ p + 2 * inner → CanHave v p r
can_pairs zero p r inner low some e = inr (some, (inner, e))
can_pairs (suc zero) p r inner low some e = inr (some, (inner, e))
can_pairs (suc (suc v)) p r inner low some e = absurd (omega arith)

can_more : (v p r : ℕ) → 2 ≤ v → 1 ≤ p → p + 2 ≤ r → CanHave v p r
can_more zero p r high some more = absurd (omega arith)
can_more (suc zero) p r high some more = absurd (omega arith)
can_more (suc (suc v)) p r high some more = inr (some, more)

-- of version 1: pairs of nodes more than subtrees
pairs_reach : (v p r inner : ℕ) → v ≤ 1 → 1 ≤ p → r ≡ p + 2 * inner → Reaches (tree v p r 0) ended
pairs_reach v p r zero low some e = subst (λ n. Reaches (tree v p n 0) ended) (omega (arith, e)) (leaves_reach v p)
pairs_reach v zero r (suc inner) low some e = absurd (omega arith)
pairs_reach v (suc p) zero (suc inner) low some e = absurd (omega (arith, e))
pairs_reach v (suc p) (suc r) (suc inner) low some e =
    let rest : r ≡ 2 + p + 2 * inner = omega (arith, e) in
    node_reach v p r 2 (omega arith) (omega arith) (λ h. refl) (can_pairs v (2 + p) r inner low (omega arith) rest)
    (pairs_reach v (2 + p) r inner low (omega arith) rest)

two_more : (p r : ℕ) → p + 2 ≤ r → ((r ≡ p + 2) ⊎ (r ≡ p + 3)) ⊎ (p + 4 ≤ r)
two_more p r more = grind arith

-- of version 2: two nodes more than subtrees, or more
more_reach : (v p r : ℕ) → 2 ≤ v → 1 ≤ p → p + 2 ≤ r → Reaches (tree v p r 0) ended
more_reach v zero r high some more = absurd (omega arith)
more_reach v (suc p) zero high some more = absurd (omega arith)
more_reach v (suc p) (suc r) high some more =
    elim (two_more (suc p) (suc r) more) [
      | inl (inl e) ↦
          let same : 2 + p ≡ r = omega (arith, e) in
          node_reach v p r 2 (omega arith) (omega arith) (λ h. refl) (can_same v (2 + p) r same)
          (subst (λ n. Reaches (tree v (2 + p) n 0) ended) same (leaves_reach v (2 + p)))
      | inl (inr e) ↦
          let same : 3 + p ≡ r = omega (arith, e) in
          node_reach v p r 3 (omega arith) (omega arith) (λ h. omega arith) (can_same v (3 + p) r same)
          (subst (λ n. Reaches (tree v (3 + p) n 0) ended) same (leaves_reach v (3 + p)))
      | inr e ↦
          node_reach v p r 2 (omega arith) (omega arith) (λ h. refl) (can_more v (2 + p) r high (omega arith) (omega (arith, e)))
          (more_reach v (2 + p) r high (omega arith) (omega (arith, e)))
    ]

nodes_reach : (v p r : ℕ) → CanHave v p r → Reaches (tree v p r 0) ended
nodes_reach zero p r (inl same) = subst (λ n. Reaches (tree 0 p n 0) ended) same (leaves_reach 0 p)
nodes_reach zero p r (inr more) = pairs_reach 0 p r more.1.0 (omega arith) more.0 more.1.1
nodes_reach (suc zero) p r (inl same) = subst (λ n. Reaches (tree 1 p n 0) ended) same (leaves_reach 1 p)
nodes_reach (suc zero) p r (inr more) = pairs_reach 1 p r more.1.0 (omega arith) more.0 more.1.1
nodes_reach (suc (suc v)) p r (inl same) = subst (λ n. Reaches (tree (suc (suc v)) p n 0) ended) same (leaves_reach (suc (suc v)) p)
nodes_reach (suc (suc v)) p r (inr more) = more_reach (suc (suc v)) p r (omega arith) more.0 more.1

counted_reach : (v : ℕ) → Reaches (counted v) ended
counted_reach v =
    reaches_step (counted v) (tree v 0 0 0) ended (numbered_line (codes "T") 0) (at_nodes v 0 (omega arith) (can_same v 0 0 refl)) (leaves_reach v 0)

no_counts : Counts
no_counts = record { chains = 0; segments = 0; nodes = 0; polygons = 0 }

no_counts_in_range : AreCountsInRange no_counts
unfolding no_counts
no_counts_in_range = record { chains = omega arith; segments = omega arith; nodes = omega arith; polygons = omega arith }

headed_reach : (v : ℕ) → Reaches (headed v) ended
headed_reach v = reaches_step (headed v) (counted v) ended (counts_line no_counts) (at_counts v no_counts no_counts_in_range) (counted_reach v)

pub all_reach : (s : State) → IsOpen s → Reaches s ended
all_reach start here = reaches_step start (headed 1) ended (head_line 1) (at_head 1 (inl refl)) (headed_reach 1)
all_reach (headed v) here = headed_reach v
all_reach (counted v) here = counted_reach v
all_reach (tree v p r i) here = items_reach v p r i (nodes_reach v p r here)
all_reach (rounds m k) here = rounds_reach m k
all_reach (walks m k) here = walks_reach m k
all_reach ended here = record { lines = []; run = no_line ended }
