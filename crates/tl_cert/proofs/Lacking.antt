-- A text that is refused within a part has no such part at its front.
use Rattle.std.proofs.Common.{◌≡◌, ℕ, zero, suc, ◌<◌, ◌≤◌, List, [], ◌∷◌, ◌++◌, sym, ap, subst, ◌∙◌, arith, append_assoc}
use Rattle.tl_record.specs.Lines.{line_feed, joined_lines}
use Rattle.tl_cert.specs.Keeping.Steps.{State, Steps, at_head, at_counts, at_nodes, at_inner, at_leaf, at_item, at_rounds, at_round, at_round_dart}
use Rattle.tl_cert.specs.Keeping.Steps.{at_walks, at_walk, at_walk_dart, at_end, Runs, no_line, first_line, IsStuck, tree_stage, stage}
use Rattle.tl_cert.proofs.StepLemmas.{step_short, step_same}
use Rattle.tl_cert.proofs.RunLemmas.{run_none, run_first}
use Rattle.tl_cert.proofs.JoinedLines.{line_apart}

-- no line leads back to a part before
counts_behind : (i r : ℕ) → 1 ≤ tree_stage i r
counts_behind (suc i) r = omega arith
counts_behind zero (suc r) = omega arith
counts_behind zero zero = omega arith

step_on : (s t : State) (line : List ℕ) → Steps s line t → stage s ≤ stage t
step_on s t line (at_head v known) = omega arith
step_on s t line (at_counts v c range) = omega arith
step_on s t line (at_nodes v n small can) = counts_behind 0 n
step_on s t line (at_inner v p r rect k range least most two can) = counts_behind 0 r
step_on s t line (at_leaf v p r rect k range least most can) = counts_behind k r
step_on s t line (at_item v p r i x small) = counts_behind i r
step_on s t line (at_rounds v m small) = omega arith
step_on s t line (at_round m k some small) = omega arith
step_on s t line (at_round_dart m k x small) = omega arith
step_on s t line (at_walks m small) = omega arith
step_on s t line (at_walk m k some small) = omega arith
step_on s t line (at_walk_dart m k x small) = omega arith
step_on s t line at_end = omega arith

runs_on : (s t : State) (lines : List (List ℕ)) → Runs s lines t → stage s ≤ stage t
runs_on s t lines (no_line s') = omega arith
runs_on s t lines (first_line s' next t' line others step more) = omega (arith, step_on s' next line step, runs_on next t' others more)

-- so lines that lead further than to where the text is refused don't begin it
pub stuck_before : (s t u : State) (xs ys : List (List ℕ)) (rest other : List ℕ) → Runs s xs t → IsStuck t rest → Runs s ys u → stage t < stage u
    → joined_lines xs ++ rest ≡ joined_lines ys ++ other → ⊥
stuck_before s t u xs [] rest other run stuck further less same =
    omega (arith, runs_on s t xs run, ap stage (run_none s u further), less)
stuck_before s t u [] (y ∷ ys) rest other run stuck further less same =
    let parts = run_first s u y ys further in
    stuck.none y (joined_lines ys ++ other) parts.0 (subst (λ n. Steps n y parts.0) (run_none s t run) parts.1) (same ∙ append_assoc y (line_feed ∷ joined_lines ys) other)
stuck_before s t u (x ∷ xs) (y ∷ ys) rest other run stuck further less same =
    let one = run_first s t x xs run in
    let two = run_first s u y ys further in
    let apart = line_apart x y (joined_lines xs ++ rest) (joined_lines ys ++ other) (step_short s one.0 x one.1).0 (step_short s two.0 y two.1).0
    (sym (append_assoc x (line_feed ∷ joined_lines xs) rest) ∙ same ∙ append_assoc y (line_feed ∷ joined_lines ys) other) in
    let next = step_same s two.0 one.0 x (subst (λ l. Steps s l two.0) (sym apart.0) two.1) one.1 in
    stuck_before one.0 t u xs ys rest other one.2 stuck (subst (λ n. Runs n ys u) next two.2) less apart.1
