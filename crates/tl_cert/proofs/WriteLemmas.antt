-- A certificate's text, printed piece by piece.
use Rattle.std.proofs.Common.{◌≡◌, ℕ, ◌+◌, ◌-◌, ◌<◌, ◌≤◌, List, [], ◌∷◌, ◌++◌, length, take, drop, map, get_or, refl, sym, ap, ◌∙◌, arith}
use Rattle.std.proofs.Common.{append_assoc, append-nil, add-one, decimal, set, length-set, length-drop}
use Rattle.std.proofs.Math.Seq.{take-suc}
use Rattle.std.proofs.lemmas.List.{take_all, map-append, length-map, drop-set}
use Rattle.std.specs.Global.{Global}
use Rattle.std.specs.Prelude.{codes, Vec}
use Rattle.tl_cert_output.specs.Writing.{line_of}
use Rattle.tl_record.specs.Lines.{line_feed, joined_lines}
use Rattle.tl_tree_index.specs.declared.node.TreeNode.{TreeNode}
use Rattle.tl_tree_index.specs.declared.node.TreeNode.TheVariants.{Inner, Leaf}
use Rattle.tl_cert.specs.Certificates.{TheCertificate}
use Rattle.tl_cert.specs.declared.certificate.Counts.{Counts}
use Rattle.tl_cert.specs.Text.{numbered_line, head_line, counts_line, nodes_lines, tree_lines, leaf_line, inner_line, item_lines}
use Rattle.tl_cert.specs.Text.{darts_lines, all_darts_lines, rounds_lines, walks_lines, end_line, certificate_text}
use Rattle.tl_cert.proofs.Completing.{joined-append}
use Rattle.tl_cert.proofs.TreeLemmas.{nodes_lines-append}

-- ---- the text of a list is the texts of its elements, one behind the other
module _ {X : Type 0} (text : List X → List ℕ) (joins : (xs ys : List X) → text (xs ++ ys) ≡ text xs ++ text ys) where
  -- one element more
  pub text_next : (xs : List X) (i : ℕ) (d x : X) → i < length xs → get_or xs i d ≡ x → text (take (i + 1) xs) ≡ text (take i xs) ++ text (x ∷ [])
  text_next xs i d x within here = rw (add-one, take-suc xs i d within, here) (joins (take i xs) (x ∷ []))

-- all elements
pub text_all : {X : Type 0} (text : List X → List ℕ) (xs : List X) (i : ℕ) → length xs ≤ i → text (take i xs) ≡ text xs
text_all text xs i most = ap text (take_all i xs most)

-- ---- such texts

abbrev pub numbers_text : List ℕ → List ℕ → List ℕ
numbers_text word numbers = joined_lines (map (numbered_line word) numbers)

abbrev pub nodes_text : ℕ → List TreeNode → List ℕ
nodes_text version nodes = joined_lines (nodes_lines version nodes)

abbrev pub lists_text : List ℕ → List (Vec ℕ Global) → List ℕ
lists_text word lists = joined_lines (all_darts_lines word (map (λ l. l.items) lists))

pub numbers_joins : (word xs ys : List ℕ) → numbers_text word (xs ++ ys) ≡ numbers_text word xs ++ numbers_text word ys
numbers_joins word xs ys =
    ap joined_lines (map-append (numbered_line word) xs ys)
    ∙ joined-append (map (numbered_line word) xs) (map (numbered_line word) ys)

pub nodes_joins : (version : ℕ) (xs ys : List TreeNode) → nodes_text version (xs ++ ys) ≡ nodes_text version xs ++ nodes_text version ys
nodes_joins version xs ys =
    ap joined_lines (nodes_lines-append version xs ys) ∙ joined-append (nodes_lines version xs) (nodes_lines version ys)

all_darts_lines-append : (word : List ℕ) (xs ys : List (List ℕ)) → all_darts_lines word (xs ++ ys) ≡ all_darts_lines word xs ++ all_darts_lines word ys
all_darts_lines-append word [] ys = refl
all_darts_lines-append word (darts ∷ xs) ys =
    ap (λ (l : List (List ℕ)). darts_lines word darts ++ l) (all_darts_lines-append word xs ys)
    ∙ sym (append_assoc (darts_lines word darts) (all_darts_lines word xs) (all_darts_lines word ys))

pub lists_joins : (word : List ℕ) (xs ys : List (Vec ℕ Global)) → lists_text word (xs ++ ys) ≡ lists_text word xs ++ lists_text word ys
lists_joins word xs ys =
    ap (λ (l : List (List ℕ)). joined_lines (all_darts_lines word l)) (map-append (λ (l : Vec ℕ Global). l.items) xs ys)
    ∙ ap joined_lines (all_darts_lines-append word (map (λ l. l.items) xs) (map (λ l. l.items) ys))
    ∙ joined-append (all_darts_lines word (map (λ l. l.items) xs)) (all_darts_lines word (map (λ l. l.items) ys))

-- ---- lines behind a line

pub line_first : (line : List ℕ) (lines : List (List ℕ)) → line_of line ++ joined_lines lines ≡ joined_lines (line ∷ lines)
line_first line lines = append_assoc line (line_feed ∷ []) (joined_lines lines)

pub line_last : (line last : List ℕ) → line_of line ++ line_of last ≡ joined_lines (line ∷ last ∷ [])
line_last line last = line_first line (last ∷ [])

-- a letter and a space put before the digits of a number
pub line_put : (letter start n : ℕ) (line : List ℕ) → 2 ≤ start → start ≤ length line → drop start line ≡ decimal n ++ line_feed ∷ []
    → drop (start - 2) (set (set line (start - 1) 32) (start - 2) letter) ≡ line_of (numbered_line (letter ∷ []) n)
line_put letter start n line room within digits =
    let second : start - 2 + 1 ≡ start - 1 = omega (arith, room) in
    let third : start - 1 + 1 ≡ start = omega (arith, room) in
    drop-set (set line (start - 1) 32) (start - 2) letter (omega (arith, room, within, length-set line (start - 1) 32))
    ∙ ap (λ i. letter ∷ drop i (set line (start - 1) 32)) second
    ∙ ap (λ l. letter ∷ l) (drop-set line (start - 1) 32 (omega (arith, room, within)))
    ∙ ap (λ i. letter ∷ 32 ∷ drop i line) third
    ∙ ap (λ l. letter ∷ 32 ∷ l) digits

-- the same, as a slice to the end
pub line_slice : (letter start n size : ℕ) (line : List ℕ) → length line ≡ size → 2 ≤ start → start ≤ size
    → drop start line ≡ decimal n ++ line_feed ∷ []
    → take (size - (start - 2)) (drop (start - 2) (set (set line (start - 1) 32) (start - 2) letter)) ≡ line_of (numbered_line (letter ∷ []) n)
line_slice letter start n size line long room within digits =
    let put = set (set line (start - 1) 32) (start - 2) letter in
    let same : length put ≡ size = length-set (set line (start - 1) 32) (start - 2) letter ∙ length-set line (start - 1) 32 ∙ long in
    let few = length-drop (start - 2) put in
    take_all (size - (start - 2)) (drop (start - 2) put) (omega (arith, few, same))
    ∙ line_put letter start n line room (omega (arith, within, long)) digits

-- a list of darts alone
pub list_alone : (word darts : List ℕ) (list : Vec ℕ Global) → darts ≡ list.items → joined_lines (darts_lines word darts) ≡ lists_text word (list ∷ [])
list_alone word darts list same =
    ap (λ l. joined_lines (darts_lines word l)) same ∙ ap joined_lines (sym (append-nil (darts_lines word list.items)))

-- lists behind the line of their number
pub lists_counted : (word each : List ℕ) (lists : List (Vec ℕ Global)) → line_of (numbered_line word (length lists)) ++ lists_text each lists
    ≡ joined_lines (numbered_line word (length (map (λ l. l.items) lists)) ∷ all_darts_lines each (map (λ l. l.items) lists))
lists_counted word each lists =
    let all = map (λ (l : Vec ℕ Global). l.items) lists in
    ap (λ n. line_of (numbered_line word n) ++ lists_text each lists) (sym (length-map lists (λ (l : Vec ℕ Global). l.items)))
    ∙ line_first (numbered_line word (length all)) (all_darts_lines each all)

-- the text of these parts
abbrev pub parts_text : ℕ → Counts → List TreeNode → List (List ℕ) → List (List ℕ) → List ℕ
parts_text version counts nodes rounds walks =
    joined_lines (head_line version ∷ counts_line counts ∷ []) ++ joined_lines (tree_lines version nodes)
    ++ joined_lines (rounds_lines (length rounds) rounds) ++ joined_lines (walks_lines (length walks) walks) ++ codes "END\n"

whole_text : (c : TheCertificate) → parts_text c.version c.counts c.tree c.rounds c.walks ≡ certificate_text c
whole_text c =
    let front : List (List ℕ) = head_line c.version ∷ counts_line c.counts ∷ [] in
    let nodes = tree_lines c.version c.tree in
    let rounds = rounds_lines (length c.rounds) c.rounds in
    let walks = walks_lines (length c.walks) c.walks in
    sym
    (joined-append (front ++ nodes ++ rounds ++ walks) (end_line ∷ [])
    ∙ ap (λ l. l ++ joined_lines (end_line ∷ []))
    (joined-append (front ++ nodes ++ rounds) walks
    ∙ ap (λ l. l ++ joined_lines walks)
    (joined-append (front ++ nodes) rounds ∙ ap (λ l. l ++ joined_lines rounds) (joined-append front nodes))))

-- the text of a certificate from its parts
pub parts_of : (c : TheCertificate) (version : ℕ) (counts : Counts) (nodes : List TreeNode) (rounds walks : List (List ℕ))
    → version ≡ c.version → counts ≡ c.counts → nodes ≡ c.tree → rounds ≡ c.rounds → walks ≡ c.walks
    → parts_text version counts nodes rounds walks ≡ certificate_text c
parts_of c version counts nodes rounds walks v k n r w =
    ap (λ x. parts_text x counts nodes rounds walks) v
    ∙ ap (λ x. parts_text c.version x nodes rounds walks) k
    ∙ ap (λ x. parts_text c.version c.counts x rounds walks) n
    ∙ ap (λ x. parts_text c.version c.counts c.tree x walks) r
    ∙ ap (λ x. parts_text c.version c.counts c.tree c.rounds x) w
    ∙ whole_text c
