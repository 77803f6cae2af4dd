-- A text is one certificate's at most, and begins no other's.
use Rattle.std.proofs.Common.{◌≡◌, ℕ, ◌+◌, ◌≤◌, ◌⊎◌, length, map, List, [], ◌∷◌, ◌++◌, refl, sym, ap, ◌∙◌, subst, arith, append_assoc, append-nil, codes, All}
use Rattle.std.proofs.lemmas.List.Elements.{All-head, All-tail}
use Rattle.arrayvec.specs.ArrayVec.{ArrayVec}
use Rattle.tl_geom.specs.declared.rect.Rect.{Rect}
use Rattle.tl_tree_index.specs.declared.node.TreeNode.{TreeNode}
use Rattle.tl_tree_index.specs.declared.node.TreeNode.TheVariants.{Inner, Leaf}
use Rattle.tl_record.specs.Lines.{joined_lines}
use Rattle.tl_cert.specs.Certificates.{TheCertificate, IsNumber, IsCounted, IsDartList, AreDartLists, IsNode, IsNodeInRange, IsCertificate}
use Rattle.tl_cert.specs.Text.{numbered_line, head_line, counts_line, end_line, item_lines, dart_lines, nodes_lines, tree_lines, all_darts_lines}
use Rattle.tl_cert.specs.Text.{rounds_lines, walks_lines, certificate_lines, certificate_text}
use Rattle.tl_cert.specs.Keeping.Steps.{State, start, ended, Runs, roots}
use Rattle.tl_cert.proofs.LineWords.{number_line_only, counts_only, inner_only, leaf_only, inner_not_leaf}
use Rattle.tl_cert.proofs.StepLemmas.{leads}
use Rattle.tl_cert.proofs.StandingTrees.{Stand}
use Rattle.tl_cert.proofs.RunLemmas.{run_first, runs_same, certificate_runs, preorder_stand, low_known}
use Rattle.tl_cert.proofs.JoinedLines.{joined_apart, run_holds}

first_same : (line other : List ℕ) (lines others : List (List ℕ)) → line ∷ lines ≡ other ∷ others → line ≡ other
first_same line other lines others same = cc

rest_same : (line other : List ℕ) (lines others : List (List ℕ)) → line ∷ lines ≡ other ∷ others → lines ≡ others
rest_same line other lines others same = cc

-- as many lines of one word, and other lines behind them
pub numbered_lines_only : (word : List ℕ) (xs ys : List ℕ) (front behind : List (List ℕ)) → length xs ≡ length ys → All IsNumber xs → All IsNumber ys
    → map (numbered_line word) xs ++ front ≡ map (numbered_line word) ys ++ behind → (xs ≡ ys) × (front ≡ behind)
numbered_lines_only word [] [] front behind counts low small same = (refl, same)
numbered_lines_only word [] (y ∷ ys) front behind counts low small same = absurd (omega (arith, counts))
numbered_lines_only word (x ∷ xs) [] front behind counts low small same = absurd (omega (arith, counts))
numbered_lines_only word (x ∷ xs) (y ∷ ys) front behind counts low small same =
    let first = number_line_only word x y (All-head IsNumber x xs low) (All-head IsNumber y ys small) (first_same _ _ _ _ same) in
    let rest = numbered_lines_only word xs ys front behind (omega (arith, counts)) (All-tail IsNumber x xs low) (All-tail IsNumber y ys small)
    (rest_same _ _ _ _ same) in
    (cc (first, rest.0), rest.1)

-- nodes of a certificate of this version, or the last of them
pub record AreNodes (v p : ℕ) (nodes : List TreeNode) : Type 0 where
  pub stand : Stand nodes p
  pub each : All (IsNode v) nodes
  pub range : All IsNodeInRange nodes

leaf_rest : (v p : ℕ) (r : Rect) (w : ArrayVec ℕ) (nodes : List TreeNode) (are : AreNodes v p (Leaf r w ∷ nodes)) → AreNodes v are.stand.0 nodes
leaf_rest v p r w nodes are =
    record { stand = are.stand.2; each = All-tail (IsNode v) (Leaf r w) nodes are.each; range = All-tail IsNodeInRange (Leaf r w) nodes are.range }

inner_rest : (v p : ℕ) (r : Rect) (k : ℕ) (nodes : List TreeNode) (are : AreNodes v p (Inner r k ∷ nodes)) → AreNodes v (k + are.stand.0) nodes
inner_rest v p r k nodes are =
    record { stand = are.stand.4; each = All-tail (IsNode v) (Inner r k) nodes are.each; range = All-tail IsNodeInRange (Inner r k) nodes are.range }

-- as many nodes, and other lines behind them
pub nodes_only : (v p q : ℕ) (nodes others : List TreeNode) (front behind : List (List ℕ)) → (v ≤ 1 → v ≡ 1) → length nodes ≡ length others
    → AreNodes v p nodes → AreNodes v q others → nodes_lines v nodes ++ front ≡ nodes_lines v others ++ behind → (nodes ≡ others) × (front ≡ behind)
nodes_only v p q [] [] front behind low counts are too same = (refl, same)
nodes_only v p q [] (other ∷ others) front behind low counts are too same = absurd (omega (arith, counts))
nodes_only v p q (node ∷ nodes) [] front behind low counts are too same = absurd (omega (arith, counts))
nodes_only v p q (Inner r k ∷ nodes) (Leaf s w ∷ others) front behind low counts are too same =
    absurd (inner_not_leaf v r s k (length w.items) (first_same _ _ _ _ same))
nodes_only v p q (Leaf s w ∷ nodes) (Inner r k ∷ others) front behind low counts are too same =
    absurd (inner_not_leaf v r s k (length w.items) (sym (first_same _ _ _ _ same)))
nodes_only v p q (Inner r k ∷ nodes) (Inner s l ∷ others) front behind low counts are too same =
    let two : v ≤ 1 → k ≡ 2 = λ h. All-head (IsNode v) (Inner r k) nodes are.each (low h) in
    let twice : v ≤ 1 → l ≡ 2 = λ h. All-head (IsNode v) (Inner s l) others too.each (low h) in
    let first = inner_only v r s k l (All-head IsNodeInRange (Inner r k) nodes are.range) (All-head IsNodeInRange (Inner s l) others too.range)
    are.stand.3 too.stand.3 two twice (first_same _ _ _ _ same) in
    let rest = nodes_only v (k + are.stand.0) (l + too.stand.0) nodes others front behind low (omega (arith, counts))
    (inner_rest v p r k nodes are) (inner_rest v q s l others too) (rest_same _ _ _ _ same) in
    (λ i. Inner (first.0 i) (first.1 i) ∷ rest.0 i, rest.1)
nodes_only v p q (Leaf r w ∷ nodes) (Leaf s x ∷ others) front behind low counts are too same =
    let here = All-head IsNodeInRange (Leaf r w) nodes are.range in
    let there = All-head IsNodeInRange (Leaf s x) others too.range in
    let first = leaf_only r s (length w.items) (length x.items) here.0 there.0 here.1 there.1 (first_same _ _ _ _ same) in
    let items = numbered_lines_only (codes "S") w.items x.items (nodes_lines v nodes ++ front) (nodes_lines v others ++ behind) first.1 here.2 there.2
    (sym (append_assoc (item_lines w.items) (nodes_lines v nodes) front) ∙ rest_same _ _ _ _ same
    ∙ append_assoc (item_lines x.items) (nodes_lines v others) behind) in
    let rest = nodes_only v are.stand.0 too.stand.0 nodes others front behind low (omega (arith, counts))
    (leaf_rest v p r w nodes are) (leaf_rest v q s x others too) items.1 in
    (λ i. Leaf (first.0 i) record { items = items.0 i } ∷ rest.0 i, rest.1)

pub lists_only : (word : List ℕ) (lists others : List (List ℕ)) (front behind : List (List ℕ)) → length lists ≡ length others
    → All IsDartList lists → All IsDartList others → All (All IsNumber) lists → All (All IsNumber) others
    → all_darts_lines word lists ++ front ≡ all_darts_lines word others ++ behind → (lists ≡ others) × (front ≡ behind)
lists_only word [] [] front behind counts each every all alls same = (refl, same)
lists_only word [] (other ∷ others) front behind counts each every all alls same = absurd (omega (arith, counts))
lists_only word (list ∷ lists) [] front behind counts each every all alls same = absurd (omega (arith, counts))
lists_only word (list ∷ lists) (other ∷ others) front behind counts each every all alls same =
    let here = All-head IsDartList list lists each in
    let there = All-head IsDartList other others every in
    let count = number_line_only word (length list) (length other) here.counted there.counted (first_same _ _ _ _ same) in
    let darts = numbered_lines_only (codes "D") list other (all_darts_lines word lists ++ front) (all_darts_lines word others ++ behind) count
    (All-head (All IsNumber) list lists all) (All-head (All IsNumber) other others alls)
    (sym (append_assoc (dart_lines list) (all_darts_lines word lists) front) ∙ rest_same _ _ _ _ same
    ∙ append_assoc (dart_lines other) (all_darts_lines word others) behind) in
    let rest = lists_only word lists others front behind (omega (arith, counts)) (All-tail IsDartList list lists each) (All-tail IsDartList other others every)
    (All-tail (All IsNumber) list lists all) (All-tail (All IsNumber) other others alls) darts.1 in
    (cc (darts.0, rest.0), rest.1)

-- lists behind the line of their number
counted_lists_only : (word each_word : List ℕ) (lists others front behind : List (List ℕ)) → AreDartLists lists → AreDartLists others
    → All (All IsNumber) lists → All (All IsNumber) others
    → (numbered_line word (length lists) ∷ all_darts_lines each_word lists) ++ front
    ≡ (numbered_line word (length others) ∷ all_darts_lines each_word others) ++ behind
    → (lists ≡ others) × (front ≡ behind)
counted_lists_only word each_word lists others front behind are too all alls same =
    let count = number_line_only word (length lists) (length others) are.counted too.counted (first_same _ _ _ _ same) in
    lists_only each_word lists others front behind count are.each too.each all alls (rest_same _ _ _ _ same)

-- a certificate's lines, part by part
certificate_parts : (head counts last : List ℕ) (nodes the_rounds the_walks : List (List ℕ))
    → head ∷ counts ∷ nodes ++ the_rounds ++ the_walks ++ last ∷ [] ≡ head ∷ counts ∷ (nodes ++ (the_rounds ++ (the_walks ++ last ∷ [])))
certificate_parts head counts last nodes the_rounds the_walks =
    ap (λ (l : List (List ℕ)). head ∷ counts ∷ l)
    (append_assoc (nodes ++ the_rounds) the_walks (last ∷ []) ∙ append_assoc nodes the_rounds (the_walks ++ last ∷ []))

-- what follows the tree, and the rounds
abbrev behind_rounds : TheCertificate → List (List ℕ)
behind_rounds c = walks_lines (length c.walks) c.walks ++ end_line ∷ []

abbrev behind_tree : TheCertificate → List (List ℕ)
behind_tree c = rounds_lines (length c.rounds) c.rounds ++ behind_rounds c

version_small : (v : ℕ) → (v ≡ 1) ⊎ (v ≡ 2) → IsNumber v
version_small v known = omega arith

-- the tree's lines, and others behind them
tree_only : (v : ℕ) (nodes others : List TreeNode) (front behind : List (List ℕ)) → (v ≤ 1 → v ≡ 1) → IsCounted nodes → IsCounted others
    → AreNodes v (roots (length nodes)) nodes → AreNodes v (roots (length others)) others → tree_lines v nodes ++ front ≡ tree_lines v others ++ behind
    → (nodes ≡ others) × (front ≡ behind)
tree_only v nodes others front behind low small few are too same =
    let count = number_line_only (codes "T") (length nodes) (length others) small few (first_same _ _ _ _ same) in
    nodes_only v (roots (length nodes)) (roots (length others)) nodes others front behind low count are too (rest_same _ _ _ _ same)

nodes_of : (c : TheCertificate) → IsCertificate c → AreNodes c.version (roots (length c.tree)) c.tree
nodes_of c is = record { stand = preorder_stand c.tree is.0.preorder; each = is.0.nodes; range = is.1.tree }

pub one_by_lines : (c d : TheCertificate) → IsCertificate c → IsCertificate d → certificate_lines c ≡ certificate_lines d → c ≡ d
one_by_lines c d is too same =
    let parts : (c : TheCertificate) → certificate_lines c ≡
    head_line c.version ∷ counts_line c.counts ∷ (tree_lines c.version c.tree ++ behind_tree c) = λ c.
    certificate_parts (head_line c.version) (counts_line c.counts) end_line (tree_lines c.version c.tree)
    (rounds_lines (length c.rounds) c.rounds) (walks_lines (length c.walks) c.walks) in
    let apart = sym (parts c) ∙ same ∙ parts d in
    let version = number_line_only (codes "TIGERCERT") c.version d.version (version_small c.version is.0.version) (version_small d.version too.0.version)
    (first_same _ _ _ _ apart) in
    let behind_head = rest_same _ _ _ _ apart in
    let counts = counts_only c.counts d.counts is.1.counts too.1.counts (first_same _ _ _ _ behind_head) in
    let other_nodes = subst (λ v. AreNodes v (roots (length d.tree)) d.tree) (sym version) (nodes_of d too) in
    let the_tree = tree_only c.version c.tree d.tree (behind_tree c) (behind_tree d) (low_known c.version is.0.version) is.0.counted too.0.counted
    (nodes_of c is) other_nodes (rest_same _ _ _ _ behind_head ∙ ap (λ v. tree_lines v d.tree ++ behind_tree d) (sym version)) in
    let the_rounds = counted_lists_only (codes "N") (codes "R") c.rounds d.rounds (behind_rounds c) (behind_rounds d)
    is.0.rounds too.0.rounds is.1.rounds too.1.rounds the_tree.1 in
    let the_walks = counted_lists_only (codes "W") (codes "K") c.walks d.walks (end_line ∷ []) (end_line ∷ [])
    is.0.walks too.0.walks is.1.walks too.1.walks the_rounds.1 in
    λ i. record { version = version i; counts = counts i; tree = the_tree.0 i; rounds = the_rounds.0 i; walks = the_walks.0 i }

-- the lines of counts and tree, and others behind them
pub leading_only : (c d : TheCertificate) (front behind : List (List ℕ)) → IsCertificate c → IsCertificate d
    → head_line c.version ∷ counts_line c.counts ∷ (tree_lines c.version c.tree ++ front) ≡ head_line d.version ∷ counts_line d.counts ∷ (tree_lines d.version d.tree ++ behind)
    → (c.counts ≡ d.counts) × (c.tree ≡ d.tree)
leading_only c d front behind is too same =
    let version = number_line_only (codes "TIGERCERT") c.version d.version (version_small c.version is.0.version) (version_small d.version too.0.version)
    (first_same _ _ _ _ same) in
    let behind_head = rest_same _ _ _ _ same in
    let counts = counts_only c.counts d.counts is.1.counts too.1.counts (first_same _ _ _ _ behind_head) in
    let other_nodes = subst (λ v. AreNodes v (roots (length d.tree)) d.tree) (sym version) (nodes_of d too) in
    let the_tree = tree_only c.version c.tree d.tree front behind (low_known c.version is.0.version) is.0.counted too.0.counted
    (nodes_of c is) other_nodes (rest_same _ _ _ _ behind_head ∙ ap (λ v. tree_lines v d.tree ++ behind) (sym version)) in
    (counts, the_tree.0)

-- nothing leads on from the end
ended_run : (t : State) (lines : List (List ℕ)) → Runs ended lines t → lines ≡ []
ended_run t [] run = refl
ended_run t (line ∷ lines) run = let parts = run_first ended t line lines run in absurd (leads ended parts.0 line parts.1)

pub no_text_further : (c d : TheCertificate) (more : List ℕ) → IsCertificate c → IsCertificate d → certificate_text c ++ more ≡ certificate_text d
    → (c ≡ d) × (more ≡ [])
no_text_further c d more is too same =
    let run = certificate_runs c is in
    let whole = certificate_runs d too in
    let parts = joined_apart (certificate_lines c) (certificate_lines d) more (run_holds start ended (certificate_lines c) run)
    (run_holds start ended (certificate_lines d) whole) same in
    let none = ended_run ended parts.0
    (runs_same start ended ended (certificate_lines c) parts.0 run (subst (λ l. Runs start l ended) parts.1 whole)) in (
      one_by_lines c d is too
          (sym (parts.1 ∙ ap (λ (l : List (List ℕ)). certificate_lines c ++ l) none ∙ append-nil (certificate_lines c))),
      parts.2 ∙ ap joined_lines none,
    )

pub one_by_text : (c d : TheCertificate) → IsCertificate c → IsCertificate d → certificate_text c ≡ certificate_text d → c ≡ d
one_by_text c d is too same = (no_text_further c d [] is too (append-nil (certificate_text c) ∙ same)).0
