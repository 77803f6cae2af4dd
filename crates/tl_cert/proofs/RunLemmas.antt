-- Runs put together, and the run of a certificate's lines.
use Rattle.std.proofs.Common.{◌≡◌, ℕ, suc, ◌+◌, ◌≤◌, ◌⊎◌, inl, inr, length, List, [], ◌∷◌, ◌++◌, refl, sym, subst, arith, codes, All}
use Rattle.std.proofs.lemmas.List.Elements.{All-head, All-tail}
use Rattle.tl_tree_index.specs.declared.node.TreeNode.{TreeNode}
use Rattle.tl_tree_index.specs.declared.node.TreeNode.TheVariants.{Inner, Leaf}
use Rattle.tl_tree_index.specs.Preorder.{AreTrees, IsPreorder}
use Rattle.tl_cert.specs.Certificates.{TheCertificate, IsNumber, IsCounted, IsDartList, AreDartLists, IsNode, IsNodeInRange, IsCertificate}
use Rattle.tl_cert.specs.Text.{numbered_line, head_line, counts_line, end_line, inner_line, leaf_line, item_lines, dart_lines, nodes_lines, tree_lines}
use Rattle.tl_cert.specs.Text.{all_darts_lines, rounds_lines, walks_lines, certificate_lines}
use Rattle.tl_cert.specs.Keeping.Steps.{State, start, headed, counted, tree, rounds, walks, ended, roots, Steps, at_head, at_counts, at_nodes, at_inner}
use Rattle.tl_cert.specs.Keeping.Steps.{at_leaf, at_item, at_rounds, at_round, at_round_dart, at_walks, at_walk, at_walk_dart, at_end, Runs, no_line}
use Rattle.tl_cert.specs.Keeping.Steps.{first_line}
use Rattle.tl_cert.proofs.StepLemmas.{step_same}
use Rattle.tl_cert.proofs.StandingTrees.{Stand, trees_stand, stand_can}

-- ---- runs

pub runs-append : (s t u : State) (xs ys : List (List ℕ)) → Runs s xs t → Runs t ys u → Runs s (xs ++ ys) u
runs-append s t u xs ys (no_line s') rest = rest
runs-append s t u xs ys (first_line s' next t' line lines step more) rest =
    first_line s' next u line (lines ++ ys) step (runs-append next t' u lines ys more rest)

pub run_none : (s t : State) → Runs s [] t → s ≡ t
run_none s t (no_line s') = refl

pub run_first : (s u : State) (line : List ℕ) (lines : List (List ℕ)) → Runs s (line ∷ lines) u → (t : State) × Steps s line t × Runs t lines u
run_first s u line lines (first_line s' t u' line' lines' step more) = (t, step, more)

-- a state is the only one that its lines lead to
pub runs_same : (s t u : State) (xs ys : List (List ℕ)) → Runs s xs t → Runs s (xs ++ ys) u → Runs t ys u
runs_same s t u xs ys (no_line s') whole = whole
runs_same s t u xs ys (first_line s' next t' line lines step more) whole =
    let parts = run_first s' u line (lines ++ ys) whole in
    runs_same next t' u lines ys more (subst (λ n. Runs n (lines ++ ys) u) (step_same s' parts.0 next line parts.1 step) parts.2)

-- what is behind one of them
pub runs_split : (s u : State) (xs ys : List (List ℕ)) → Runs s (xs ++ ys) u → (t : State) × Runs s xs t × Runs t ys u
runs_split s u [] ys whole = (s, no_line s, whole)
runs_split s u (line ∷ lines) ys whole =
    let parts = run_first s u line (lines ++ ys) whole in
    let more = runs_split parts.0 u lines ys parts.2 in
    (more.0, first_line s parts.0 more.0 line lines parts.1 more.1, more.2)

-- ---- the tree

pub items_run : (v p r : ℕ) (items : List ℕ) → All IsNumber items → Runs (tree v p r (length items)) (item_lines items) (tree v p r 0)
items_run v p r [] all = no_line (tree v p r 0)
items_run v p r (item ∷ items) all =
    first_line (tree v p r (suc (length items))) (tree v p r (length items)) (tree v p r 0) (numbered_line (codes "S") item) (item_lines items)
    (at_item v p r (length items) item (All-head IsNumber item items all)) (items_run v p r items (All-tail IsNumber item items all))

pub stand_run : (v p : ℕ) (nodes : List TreeNode) → Stand nodes p → All (IsNode v) nodes → All IsNodeInRange nodes → (v ≤ 1 → v ≡ 1)
    → Runs (tree v p (length nodes) 0) (nodes_lines v nodes) (tree v 0 0 0)
stand_run v p [] stand nodes range low = subst (λ m. Runs (tree v m 0 0) [] (tree v 0 0 0)) (sym stand) (no_line (tree v 0 0 0))
stand_run v p (Leaf rect items ∷ others) stand nodes range low =
    let n = length others in
    let q : ℕ = stand.0 in
    let here = All-head IsNodeInRange (Leaf rect items) others range in
    let can = stand_can v others q stand.2 low (All-tail (IsNode v) (Leaf rect items) others nodes) in
    let more = stand_run v q others stand.2 (All-tail (IsNode v) (Leaf rect items) others nodes) (All-tail IsNodeInRange (Leaf rect items) others range) low in
    subst (λ m. Runs (tree v m (suc n) 0) (nodes_lines v (Leaf rect items ∷ others)) (tree v 0 0 0)) (sym stand.1)
    (first_line (tree v (suc q) (suc n) 0) (tree v q n (length items.items)) (tree v 0 0 0) (leaf_line rect (length items.items))
    (item_lines items.items ++ nodes_lines v others)
    (at_leaf v q n rect (length items.items) here.0 (All-head (IsNode v) (Leaf rect items) others nodes) here.1 can)
    (runs-append (tree v q n (length items.items)) (tree v q n 0) (tree v 0 0 0) (item_lines items.items) (nodes_lines v others)
    (items_run v q n items.items here.2) more))
stand_run v p (Inner rect k ∷ others) stand nodes range low =
    let n = length others in
    let q : ℕ = stand.0 in
    let here = All-head IsNodeInRange (Inner rect k) others range in
    let two : v ≤ 1 → k ≡ 2 = λ h. All-head (IsNode v) (Inner rect k) others nodes (low h) in
    let can = stand_can v others (k + q) stand.4 low (All-tail (IsNode v) (Inner rect k) others nodes) in
    let more = stand_run v (k + q) others stand.4 (All-tail (IsNode v) (Inner rect k) others nodes) (All-tail IsNodeInRange (Inner rect k) others range) low in
    subst (λ m. Runs (tree v m (suc n) 0) (nodes_lines v (Inner rect k ∷ others)) (tree v 0 0 0)) (sym stand.1)
    (first_line (tree v (suc q) (suc n) 0) (tree v (k + q) n 0) (tree v 0 0 0) (inner_line v rect k) (nodes_lines v others)
    (at_inner v q n rect k here stand.2 stand.3 two can) more)

pub low_known : (v : ℕ) → (v ≡ 1) ⊎ (v ≡ 2) → v ≤ 1 → v ≡ 1
low_known v known low = omega arith

pub nodes_run : (version p : ℕ) (nodes : List TreeNode) → AreTrees nodes p → All (IsNode version) nodes → All IsNodeInRange nodes
    → ((version ≡ 1) ⊎ (version ≡ 2)) → Runs (tree version p (length nodes) 0) (nodes_lines version nodes) (tree version 0 0 0)
nodes_run version p nodes trees each range known = stand_run version p nodes (trees_stand nodes p trees) each range (low_known version known)

-- a preorder stands as its one tree, or none
pub preorder_stand : (nodes : List TreeNode) → IsPreorder nodes → Stand nodes (roots (length nodes))
preorder_stand [] (inl none) = refl
preorder_stand [] (inr trees) = refl
preorder_stand (node ∷ nodes) (inl none) = cc
preorder_stand (node ∷ nodes) (inr trees) = trees_stand (node ∷ nodes) 1 trees

pub tree_runs : (version : ℕ) (nodes : List TreeNode) → IsPreorder nodes → IsCounted nodes → All (IsNode version) nodes → All IsNodeInRange nodes
    → ((version ≡ 1) ⊎ (version ≡ 2)) → Runs (counted version) (tree_lines version nodes) (tree version 0 0 0)
tree_runs version nodes preorder small each range known =
    let stand = preorder_stand nodes preorder in
    let n = length nodes in
    first_line (counted version) (tree version (roots n) n 0) (tree version 0 0 0) (numbered_line (codes "T") n) (nodes_lines version nodes)
    (at_nodes version n small (stand_can version nodes (roots n) stand (low_known version known) each))
    (stand_run version (roots n) nodes stand each range (low_known version known))

-- ---- rounds and walks

pub darts_run : (m : ℕ) (darts : List ℕ) → All IsNumber darts → Runs (rounds m (length darts)) (dart_lines darts) (rounds m 0)
darts_run m [] all = no_line (rounds m 0)
darts_run m (dart ∷ darts) all =
    first_line (rounds m (suc (length darts))) (rounds m (length darts)) (rounds m 0) (numbered_line (codes "D") dart) (dart_lines darts)
    (at_round_dart m (length darts) dart (All-head IsNumber dart darts all)) (darts_run m darts (All-tail IsNumber dart darts all))

pub walk_darts_run : (m : ℕ) (darts : List ℕ) → All IsNumber darts → Runs (walks m (length darts)) (dart_lines darts) (walks m 0)
walk_darts_run m [] all = no_line (walks m 0)
walk_darts_run m (dart ∷ darts) all =
    first_line (walks m (suc (length darts))) (walks m (length darts)) (walks m 0) (numbered_line (codes "D") dart) (dart_lines darts)
    (at_walk_dart m (length darts) dart (All-head IsNumber dart darts all)) (walk_darts_run m darts (All-tail IsNumber dart darts all))

pub rounds_run : (left : ℕ) (lists : List (List ℕ)) → All IsDartList lists → All (All IsNumber) lists
    → Runs (rounds (length lists + left) 0) (all_darts_lines (codes "R") lists) (rounds left 0)
rounds_run left [] each all = subst (λ m. Runs (rounds m 0) [] (rounds left 0)) (omega arith) (no_line (rounds left 0))
rounds_run left (darts ∷ lists) each all =
    let m = length lists + left in
    let one : suc m ≡ suc (length lists) + left = omega arith in
    let here = All-head IsDartList darts lists each in
    subst (λ n. Runs (rounds n 0) (all_darts_lines (codes "R") (darts ∷ lists)) (rounds left 0)) one
    (first_line (rounds (suc m) 0) (rounds m (length darts)) (rounds left 0) (numbered_line (codes "R") (length darts))
    (dart_lines darts ++ all_darts_lines (codes "R") lists) (at_round m (length darts) here.some here.counted)
    (runs-append (rounds m (length darts)) (rounds m 0) (rounds left 0) (dart_lines darts) (all_darts_lines (codes "R") lists)
    (darts_run m darts (All-head (All IsNumber) darts lists all))
    (rounds_run left lists (All-tail IsDartList darts lists each) (All-tail (All IsNumber) darts lists all))))

pub walks_run : (left : ℕ) (lists : List (List ℕ)) → All IsDartList lists → All (All IsNumber) lists
    → Runs (walks (length lists + left) 0) (all_darts_lines (codes "K") lists) (walks left 0)
walks_run left [] each all = subst (λ m. Runs (walks m 0) [] (walks left 0)) (omega arith) (no_line (walks left 0))
walks_run left (darts ∷ lists) each all =
    let m = length lists + left in
    let one : suc m ≡ suc (length lists) + left = omega arith in
    let here = All-head IsDartList darts lists each in
    subst (λ n. Runs (walks n 0) (all_darts_lines (codes "K") (darts ∷ lists)) (walks left 0)) one
    (first_line (walks (suc m) 0) (walks m (length darts)) (walks left 0) (numbered_line (codes "K") (length darts))
    (dart_lines darts ++ all_darts_lines (codes "K") lists) (at_walk m (length darts) here.some here.counted)
    (runs-append (walks m (length darts)) (walks m 0) (walks left 0) (dart_lines darts) (all_darts_lines (codes "K") lists)
    (walk_darts_run m darts (All-head (All IsNumber) darts lists all))
    (walks_run left lists (All-tail IsDartList darts lists each) (All-tail (All IsNumber) darts lists all))))

pub all_rounds_run : (version : ℕ) (lists : List (List ℕ)) → AreDartLists lists → All (All IsNumber) lists
    → Runs (tree version 0 0 0) (rounds_lines (length lists) lists) (rounds 0 0)
all_rounds_run version lists are all =
    first_line (tree version 0 0 0) (rounds (length lists) 0) (rounds 0 0) (numbered_line (codes "N") (length lists)) (all_darts_lines (codes "R") lists)
    (at_rounds version (length lists) are.counted)
    (subst (λ n. Runs (rounds n 0) (all_darts_lines (codes "R") lists) (rounds 0 0)) (omega arith) (rounds_run 0 lists are.each all))

pub all_walks_run : (lists : List (List ℕ)) → AreDartLists lists → All (All IsNumber) lists → Runs (rounds 0 0) (walks_lines (length lists) lists) (walks 0 0)
all_walks_run lists are all =
    first_line (rounds 0 0) (walks (length lists) 0) (walks 0 0) (numbered_line (codes "W") (length lists)) (all_darts_lines (codes "K") lists)
    (at_walks (length lists) are.counted)
    (subst (λ n. Runs (walks n 0) (all_darts_lines (codes "K") lists) (walks 0 0)) (omega arith) (walks_run 0 lists are.each all))

-- ---- the whole

pub certificate_runs : (c : TheCertificate) → IsCertificate c → Runs start (certificate_lines c) ended
certificate_runs c is =
    let v = c.version in
    let the_tree = tree_lines v c.tree in
    let the_rounds = rounds_lines (length c.rounds) c.rounds in
    let the_walks = walks_lines (length c.walks) c.walks in
    let all_tree = tree_runs v c.tree is.0.preorder is.0.counted is.0.nodes is.1.tree is.0.version in
    let all_rounds = all_rounds_run v c.rounds is.0.rounds is.1.rounds in
    let all_walks = all_walks_run c.walks is.0.walks is.1.walks in
    let behind_tree = runs-append (counted v) (tree v 0 0 0) (rounds 0 0) the_tree the_rounds all_tree all_rounds in
    let behind_rounds = runs-append (counted v) (rounds 0 0) (walks 0 0) (the_tree ++ the_rounds) the_walks behind_tree all_walks in
    let last = first_line (walks 0 0) ended ended end_line [] at_end (no_line ended) in
    let behind_walks = runs-append (counted v) (walks 0 0) ended (the_tree ++ the_rounds ++ the_walks) (end_line ∷ []) behind_rounds last in
    first_line start (headed v) ended (head_line v) _ (at_head v is.0.version)
    (first_line (headed v) (counted v) ended (counts_line c.counts) _ (at_counts v c.counts is.1.counts) behind_walks)
