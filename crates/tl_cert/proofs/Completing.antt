-- Lines that lead from the start to the end are a certificate's, so those that lead from the start begin some certificate's text.
use Rattle.std.proofs.Common.{◌≡◌, ℕ, zero, suc, ◌+◌, ◌<◌, ◌≤◌, ◌⊎◌, inl, inr, length, List, [], ◌∷◌, ◌++◌, refl, sym, ap, ◌∙◌, subst, arith, append_assoc}
use Rattle.std.proofs.Common.{codes, All}
use Rattle.std.proofs.lemmas.List.Elements.{All-nil, All-cons}
use Rattle.tl_geom.specs.declared.rect.Rect.{Rect}
use Rattle.tl_tree_index.specs.declared.node.TreeNode.{TreeNode}
use Rattle.tl_tree_index.specs.declared.node.TreeNode.TheVariants.{Inner, Leaf}
use Rattle.tl_tree_index.specs.Preorder.{IsPreorder}
use Rattle.tl_record.specs.Lines.{line_feed, joined_lines}
use Rattle.tl_cert.specs.declared.certificate.Counts.{Counts}
use Rattle.tl_cert.specs.Certificates.{TheCertificate, IsNumber, IsCounted, IsDartList, AreDartLists, IsNode, IsNodeInRange, IsInRange, IsCertificate}
use Rattle.tl_cert.specs.Certificates.{AreCountsInRange}
use Rattle.tl_cert.specs.Text.{numbered_line, head_line, counts_line, end_line, inner_line, leaf_line, item_lines, dart_lines, nodes_lines, tree_lines}
use Rattle.tl_cert.specs.Text.{all_darts_lines, rounds_lines, walks_lines, certificate_lines}
use Rattle.tl_cert.specs.Beginnings.{BeginsSome}
use Rattle.tl_cert.specs.Keeping.Steps.{State, start, headed, counted, tree, rounds, walks, ended, roots, Steps, at_head, at_counts, at_nodes, at_inner}
use Rattle.tl_cert.specs.Keeping.Steps.{at_leaf, at_item, at_rounds, at_round, at_round_dart, at_walks, at_walk, at_walk_dart, at_end, Runs, no_line}
use Rattle.tl_cert.specs.Keeping.Steps.{first_line}
use Rattle.tl_cert.proofs.StandingTrees.{Stand, standing_trees}
use Rattle.tl_cert.proofs.RunLemmas.{runs-append}
use Rattle.tl_cert.proofs.Ending.{run_open, all_reach}

-- ---- what lines that lead to the end say

-- k darts, m lists of darts, each behind a line of this word, and other lines
pub record HasDarts (word : List ℕ) (m k : ℕ) (lines behind : List (List ℕ)) : Type 0 where
  pub darts : List ℕ
  pub lists : List (List ℕ)
  pub darts_counted : length darts ≡ k
  pub lists_counted : length lists ≡ m
  pub numbers : All IsNumber darts
  pub each : All IsDartList lists
  pub all : All (All IsNumber) lists
  pub spelt : lines ≡ dart_lines darts ++ (all_darts_lines word lists ++ behind)

-- the walks, and the end
pub record HasWalks (lines : List (List ℕ)) : Type 0 where
  pub walks : List (List ℕ)
  pub are : AreDartLists walks
  pub all : All (All IsNumber) walks
  pub spelt : lines ≡ walks_lines (length walks) walks ++ end_line ∷ []

-- k darts, m rounds, and what follows them
pub record HasRoundsLeft (m k : ℕ) (lines : List (List ℕ)) : Type 0 where
  pub behind : List (List ℕ)
  pub darts : HasDarts (codes "R") m k lines behind
  pub walks : HasWalks behind

-- the rounds, and what follows them
pub record HasRounds (lines : List (List ℕ)) : Type 0 where
  pub rounds : List (List ℕ)
  pub are : AreDartLists rounds
  pub all : All (All IsNumber) rounds
  pub behind : List (List ℕ)
  pub walks : HasWalks behind
  pub spelt : lines ≡ rounds_lines (length rounds) rounds ++ behind

-- i items, r nodes that are p trees, and what follows them
pub record HasNodesLeft (v p r i : ℕ) (lines : List (List ℕ)) : Type 0 where
  pub items : List ℕ
  pub nodes : List TreeNode
  pub items_counted : length items ≡ i
  pub nodes_counted : length nodes ≡ r
  pub numbers : All IsNumber items
  pub stand : Stand nodes p
  pub each : All (IsNode v) nodes
  pub range : All IsNodeInRange nodes
  pub behind : List (List ℕ)
  pub rounds : HasRounds behind
  pub spelt : lines ≡ item_lines items ++ (nodes_lines v nodes ++ behind)

-- the tree, and what follows it
pub record HasTree (v : ℕ) (lines : List (List ℕ)) : Type 0 where
  pub nodes : List TreeNode
  pub preorder : IsPreorder nodes
  pub counted : IsCounted nodes
  pub each : All (IsNode v) nodes
  pub range : All IsNodeInRange nodes
  pub behind : List (List ℕ)
  pub rounds : HasRounds behind
  pub spelt : lines ≡ tree_lines v nodes ++ behind

-- the counts, and what follows them
pub record HasCounts (v : ℕ) (lines : List (List ℕ)) : Type 0 where
  pub counts : Counts
  pub range : AreCountsInRange counts
  pub behind : List (List ℕ)
  pub tree : HasTree v behind
  pub spelt : lines ≡ counts_line counts ∷ behind

-- a certificate's lines
pub record AreCertificateLines (lines : List (List ℕ)) : Type 0 where
  pub certificate : TheCertificate
  pub is : IsCertificate certificate
  pub spelt : lines ≡ certificate_lines certificate

-- by cases on the state that they lead from
abbrev Says : State → List (List ℕ) → Type 0
Says start lines = AreCertificateLines lines
Says (headed v) lines = HasCounts v lines
Says (counted v) lines = HasTree v lines
Says (tree v p r i) lines = HasNodesLeft v p r i lines
Says (rounds m k) lines = HasRoundsLeft m k lines
Says (walks m k) lines = HasDarts (codes "K") m k lines (end_line ∷ [])
Says ended lines = lines ≡ []

-- ---- line by line

-- a dart before others
dart_more : (word : List ℕ) (m k x : ℕ) (lines behind : List (List ℕ)) → IsNumber x → HasDarts word m k lines behind
    → HasDarts word m (suc k) (numbered_line (codes "D") x ∷ lines) behind
dart_more word m k x lines behind small has =
    record {
      darts = x ∷ has.darts;
      lists = has.lists;
      darts_counted = ap suc has.darts_counted;
      lists_counted = has.lists_counted;
      numbers = All-cons IsNumber x has.darts small has.numbers;
      each = has.each;
      all = has.all;
      spelt = ap (λ (l : List (List ℕ)). numbered_line (codes "D") x ∷ l) has.spelt;
    }

-- the line of a list before its darts
list_more : (word : List ℕ) (m k : ℕ) (lines behind : List (List ℕ)) → 0 < k → IsNumber k → HasDarts word m k lines behind
    → HasDarts word (suc m) 0 (numbered_line word k ∷ lines) behind
list_more word m k lines behind some small has =
    let count : k ≡ length has.darts = sym has.darts_counted in
    record {
      darts = [];
      lists = has.darts ∷ has.lists;
      darts_counted = refl;
      lists_counted = ap suc has.lists_counted;
      numbers = All-nil IsNumber;
      each = All-cons IsDartList has.darts has.lists record { some = omega (arith, count); counted = omega (arith, count) } has.each;
      all = All-cons (All IsNumber) has.darts has.lists has.numbers has.all;
      spelt =
          ap (λ n. numbered_line word n ∷ lines) count
          ∙ ap (λ (l : List (List ℕ)). numbered_line word (length has.darts) ∷ l)
          (has.spelt ∙ sym (append_assoc (dart_lines has.darts) (all_darts_lines word has.lists) behind));
    }

-- no list and no dart
no_darts : (word : List ℕ) (behind : List (List ℕ)) → HasDarts word 0 0 behind behind
no_darts word behind =
    record {
      darts = [];
      lists = [];
      darts_counted = refl;
      lists_counted = refl;
      numbers = All-nil IsNumber;
      each = All-nil IsDartList;
      all = All-nil (All IsNumber);
      spelt = refl;
    }

no_element : {A : Type 0} (xs : List A) → length xs ≡ 0 → xs ≡ []
no_element [] none = refl
no_element (x ∷ xs) none = absurd (omega (arith, none))

-- the lines of lists alone
lists_alone : (word : List ℕ) (m : ℕ) (lines behind : List (List ℕ)) (has : HasDarts word m 0 lines behind) → lines ≡ all_darts_lines word has.lists ++ behind
lists_alone word m lines behind has =
    has.spelt ∙ ap (λ darts. dart_lines darts ++ (all_darts_lines word has.lists ++ behind)) (no_element has.darts has.darts_counted)

walks_line : (m : ℕ) (lines : List (List ℕ)) → IsNumber m → HasDarts (codes "K") m 0 lines (end_line ∷ []) → HasWalks (numbered_line (codes "W") m ∷ lines)
walks_line m lines small has =
    let count : m ≡ length has.lists = sym has.lists_counted in
    record {
      walks = has.lists;
      are = record { counted = omega (arith, count); each = has.each };
      all = has.all;
      spelt =
          ap (λ n. numbered_line (codes "W") n ∷ lines) count
          ∙ ap (λ (l : List (List ℕ)). numbered_line (codes "W") (length has.lists) ∷ l) (lists_alone (codes "K") m lines (end_line ∷ []) has);
    }

rounds_line : (m : ℕ) (lines : List (List ℕ)) → IsNumber m → HasRoundsLeft m 0 lines → HasRounds (numbered_line (codes "N") m ∷ lines)
rounds_line m lines small left =
    let has = left.darts in
    let count : m ≡ length has.lists = sym has.lists_counted in
    record {
      rounds = has.lists;
      are = record { counted = omega (arith, count); each = has.each };
      all = has.all;
      behind = left.behind;
      walks = left.walks;
      spelt =
          ap (λ n. numbered_line (codes "N") n ∷ lines) count
          ∙ ap (λ (l : List (List ℕ)). numbered_line (codes "N") (length has.lists) ∷ l) (lists_alone (codes "R") m lines left.behind has);
    }

no_node : (v : ℕ) (lines : List (List ℕ)) → HasRounds lines → HasNodesLeft v 0 0 0 lines
no_node v lines has =
    record {
      items = [];
      nodes = [];
      items_counted = refl;
      nodes_counted = refl;
      numbers = All-nil IsNumber;
      stand = refl;
      each = All-nil (IsNode v);
      range = All-nil IsNodeInRange;
      behind = lines;
      rounds = has;
      spelt = refl;
    }

item_more : (v p r i x : ℕ) (lines : List (List ℕ)) → IsNumber x → HasNodesLeft v p r i lines
    → HasNodesLeft v p r (suc i) (numbered_line (codes "S") x ∷ lines)
item_more v p r i x lines small has =
    record {
      items = x ∷ has.items;
      nodes = has.nodes;
      items_counted = ap suc has.items_counted;
      nodes_counted = has.nodes_counted;
      numbers = All-cons IsNumber x has.items small has.numbers;
      stand = has.stand;
      each = has.each;
      range = has.range;
      behind = has.behind;
      rounds = has.rounds;
      spelt = ap (λ (l : List (List ℕ)). numbered_line (codes "S") x ∷ l) has.spelt;
    }

leaf_more : (v p r : ℕ) (rect : Rect) (k : ℕ) (lines : List (List ℕ)) → IsInRange rect → 1 ≤ k → k ≤ 8 → HasNodesLeft v p r k lines
    → HasNodesLeft v (suc p) (suc r) 0 (leaf_line rect k ∷ lines)
leaf_more v p r rect k lines range least most has =
    let count : k ≡ length has.items = sym has.items_counted in
    let leaf : TreeNode = Leaf rect record { items = has.items } in
    record {
      items = [];
      nodes = leaf ∷ has.nodes;
      items_counted = refl;
      nodes_counted = ap suc has.nodes_counted;
      numbers = All-nil IsNumber;
      stand = (p, refl, has.stand);
      each = All-cons (IsNode v) leaf has.nodes (omega (arith, count)) has.each;
      range = All-cons IsNodeInRange leaf has.nodes (range, omega (arith, count), has.numbers) has.range;
      behind = has.behind;
      rounds = has.rounds;
      spelt =
          ap (λ n. leaf_line rect n ∷ lines) count
          ∙ ap (λ (l : List (List ℕ)). leaf_line rect (length has.items) ∷ l)
          (has.spelt ∙ sym (append_assoc (item_lines has.items) (nodes_lines v has.nodes) has.behind));
    }

-- a tree's node stands behind no item
inner_more : (v p r : ℕ) (rect : Rect) (k : ℕ) (lines : List (List ℕ)) → IsInRange rect → 2 ≤ k → k ≤ 8 → (v ≤ 1 → k ≡ 2)
    → HasNodesLeft v (k + p) r 0 lines → HasNodesLeft v (suc p) (suc r) 0 (inner_line v rect k ∷ lines)
inner_more v p r rect k lines range least most two has =
    let node : TreeNode = Inner rect k in
    let here : v ≡ 1 → k ≡ 2 = λ e. two (omega (arith, e)) in
    record {
      items = [];
      nodes = node ∷ has.nodes;
      items_counted = refl;
      nodes_counted = ap suc has.nodes_counted;
      numbers = All-nil IsNumber;
      stand = (p, refl, least, most, has.stand);
      each = All-cons (IsNode v) node has.nodes here has.each;
      range = All-cons IsNodeInRange node has.nodes range has.range;
      behind = has.behind;
      rounds = has.rounds;
      spelt =
          ap (λ (l : List (List ℕ)). inner_line v rect k ∷ l)
          (has.spelt ∙ ap (λ items. item_lines items ++ (nodes_lines v has.nodes ++ has.behind)) (no_element has.items has.items_counted));
    }

-- so many nodes that stand as one tree or none are a preorder
standing_preorder : (nodes : List TreeNode) (n : ℕ) → length nodes ≡ n → Stand nodes (roots n) → IsPreorder nodes
standing_preorder [] n count stand = inl refl
standing_preorder (node ∷ nodes) zero count stand = absurd (omega (arith, count))
standing_preorder (node ∷ nodes) (suc n) count stand = inr (standing_trees (node ∷ nodes) 1 stand)

nodes_line : (v n : ℕ) (lines : List (List ℕ)) → IsNumber n → HasNodesLeft v (roots n) n 0 lines → HasTree v (numbered_line (codes "T") n ∷ lines)
nodes_line v n lines small has =
    let count : n ≡ length has.nodes = sym has.nodes_counted in
    record {
      nodes = has.nodes;
      preorder = standing_preorder has.nodes n has.nodes_counted has.stand;
      counted = omega (arith, count);
      each = has.each;
      range = has.range;
      behind = has.behind;
      rounds = has.rounds;
      spelt =
          ap (λ m. numbered_line (codes "T") m ∷ lines) count
          ∙ ap (λ (l : List (List ℕ)). numbered_line (codes "T") (length has.nodes) ∷ l)
          (has.spelt ∙ ap (λ items. item_lines items ++ (nodes_lines v has.nodes ++ has.behind)) (no_element has.items has.items_counted));
    }

-- the lines of the parts, each behind the one before it
parts_joined : (head counts last : List ℕ) (nodes the_rounds the_walks : List (List ℕ))
    → head ∷ counts ∷ (nodes ++ (the_rounds ++ (the_walks ++ last ∷ []))) ≡ head ∷ counts ∷ nodes ++ the_rounds ++ the_walks ++ last ∷ []
parts_joined head counts last nodes the_rounds the_walks =
    ap (λ (l : List (List ℕ)). head ∷ counts ∷ l)
    (sym (append_assoc (nodes ++ the_rounds) the_walks (last ∷ []) ∙ append_assoc nodes the_rounds (the_walks ++ last ∷ [])))

head_certificate : (v : ℕ) (lines : List (List ℕ)) → (v ≡ 1) ⊎ (v ≡ 2) → HasCounts v lines → AreCertificateLines (head_line v ∷ lines)
head_certificate v lines known has =
    let the_tree = has.tree in
    let the_rounds = the_tree.rounds in
    let the_walks = the_rounds.walks in
    let node_lines = tree_lines v the_tree.nodes in
    let round_lines = rounds_lines (length the_rounds.rounds) the_rounds.rounds in
    record {
      certificate = record { version = v; counts = has.counts; tree = the_tree.nodes; rounds = the_rounds.rounds; walks = the_walks.walks };
      is = (
        record {
          version = known;
          preorder = the_tree.preorder;
          counted = the_tree.counted;
          nodes = the_tree.each;
          rounds = the_rounds.are;
          walks = the_walks.are;
        },
        record { counts = has.range; tree = the_tree.range; rounds = the_rounds.all; walks = the_walks.all },
      );
      spelt =
          ap (λ (l : List (List ℕ)). head_line v ∷ l) has.spelt
          ∙ ap (λ (l : List (List ℕ)). head_line v ∷ counts_line has.counts ∷ l) the_tree.spelt
          ∙ ap (λ (l : List (List ℕ)). head_line v ∷ counts_line has.counts ∷ (node_lines ++ l)) the_rounds.spelt
          ∙ ap
          (λ (l : List (List ℕ)). head_line v ∷ counts_line has.counts ∷ (node_lines ++ (round_lines ++ l)))
          the_walks.spelt
          ∙ parts_joined (head_line v) (counts_line has.counts) end_line node_lines round_lines
          (walks_lines (length the_walks.walks) the_walks.walks);
    }

says_more : (s t : State) (line : List ℕ) (lines : List (List ℕ)) → Steps s line t → Says t lines → Says s (line ∷ lines)
says_more s t line lines (at_head v known) says = head_certificate v lines known says
says_more s t line lines (at_counts v c range) says = record { counts = c; range = range; behind = lines; tree = says; spelt = refl }
says_more s t line lines (at_nodes v n small can) says = nodes_line v n lines small says
says_more s t line lines (at_inner v p r rect k range least most two can) says = inner_more v p r rect k lines range least most two says
says_more s t line lines (at_leaf v p r rect k range least most can) says = leaf_more v p r rect k lines range least most says
says_more s t line lines (at_item v p r i x small) says = item_more v p r i x lines small says
says_more s t line lines (at_rounds v m small) says = no_node v (numbered_line (codes "N") m ∷ lines) (rounds_line m lines small says)
says_more s t line lines (at_round m k some small) says =
    record { behind = says.behind; darts = list_more (codes "R") m k lines says.behind some small says.darts; walks = says.walks }
says_more s t line lines (at_round_dart m k x small) says =
    record { behind = says.behind; darts = dart_more (codes "R") m k x lines says.behind small says.darts; walks = says.walks }
says_more s t line lines (at_walks m small) says =
    let behind : List (List ℕ) = numbered_line (codes "W") m ∷ lines in
    record { behind = behind; darts = no_darts (codes "R") behind; walks = walks_line m lines small says }
says_more s t line lines (at_walk m k some small) says = list_more (codes "K") m k lines (end_line ∷ []) some small says
says_more s t line lines (at_walk_dart m k x small) says = dart_more (codes "K") m k x lines (end_line ∷ []) small says
says_more s t line lines at_end says =
    subst (λ (l : List (List ℕ)). HasDarts (codes "K") 0 0 (end_line ∷ l) (end_line ∷ [])) (sym says) (no_darts (codes "K") (end_line ∷ []))

all_says : (s t : State) (lines : List (List ℕ)) → Runs s lines t → t ≡ ended → Says s lines
all_says s t lines (no_line s') is = subst (λ u. Says u []) (sym is) refl
all_says s t lines (first_line s' next t' line others step more) is = says_more s' next line others step (all_says next t' others more is)

-- lines from the start to the end are those of a certificate
pub certificate_lines_of : (lines : List (List ℕ)) → Runs start lines ended → AreCertificateLines lines
certificate_lines_of lines run = all_says start ended lines run refl

pub certificate_of : (lines : List (List ℕ)) → Runs start lines ended → (c : TheCertificate) × IsCertificate c × (lines ≡ certificate_lines c)
certificate_of lines run = let are = certificate_lines_of lines run in (are.certificate, are.is, are.spelt)

-- ---- beginnings

pub joined-append : (xs ys : List (List ℕ)) → joined_lines (xs ++ ys) ≡ joined_lines xs ++ joined_lines ys
joined-append [] ys = refl
joined-append (line ∷ lines) ys =
    ap (λ (l : List ℕ). line ++ line_feed ∷ l) (joined-append lines ys) ∙ sym (append_assoc line (line_feed ∷ joined_lines lines) (joined_lines ys))

pub completes : (lines : List (List ℕ)) (s : State) → Runs start lines s → BeginsSome (joined_lines lines)
completes lines s run =
    let more = all_reach s (run_open start s lines run tt) in
    let whole = certificate_lines_of (lines ++ more.lines) (runs-append start s ended lines more.lines run more.run) in
    record {
      certificate = whole.certificate;
      rest = joined_lines more.lines;
      whole = record { certificate = whole.is; spelt = sym (joined-append lines more.lines) ∙ ap joined_lines whole.spelt };
    }
