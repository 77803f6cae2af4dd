-- What reading a part takes, and where a text is refused on the way.
use Rattle.std.specs.Prelude.{◌≡◌, ℕ, suc, ◌+◌, ◌*◌, ◌≤◌, ◌⊎◌, List, [], ◌∷◌, ◌++◌, length, All, Vec, Option, Result, Ok, Err, codes, ⊤}
use Rattle.std.specs.Global.{Global}
use Rattle.std.specs.Option.{IfSome}
use Rattle.arrayvec.specs.ArrayVec.{ArrayVec}
use Rattle.tl_record.specs.Lines.{joined_lines}
use Rattle.tl_tree_index.specs.declared.node.TreeNode.{TreeNode}
use Rattle.tl_tree_index.specs.declared.node.TreeNode.TheVariants.{Inner, Leaf}
use Rattle.tl_tree_index.specs.Preorder.{IsPreorder}
use Rattle.tl_cert.specs.declared.certificate.Counts.{Counts}
use Rattle.tl_cert.specs.declared.parts.DartLists.{DartLists}
use Rattle.tl_cert.specs.declared.parts.DartLists.TheVariants.{Rounds, Walks}
use Rattle.tl_cert.specs.declared.stop.CertStop.{CertStop}
use Rattle.tl_cert.specs.declared.stop.CertStop.TheVariants.{Text, Memory, Device}
use Rattle.tl_cert.specs.Certificates.{IsNumber, IsCounted, IsDartList, IsNode, IsNodeInRange, AreCountsInRange}
use Rattle.tl_cert.specs.Text.{head_line, counts_line, nodes_lines, numbered_line}
use Rattle.tl_cert.specs.Keeping.Lines.{LineState, taken, untaken, TakesLines}
use Rattle.tl_cert.specs.Keeping.Steps.{State, counted, tree, rounds, walks, CanHave, roots, Runs, IsStuck, stage}

-- the nodes are p trees, by what follows each
abbrev pub Stand : List TreeNode → ℕ → Type 0
Stand [] p = p ≡ 0
Stand (Leaf r v ∷ nodes) p = (q : ℕ) × (p ≡ suc q) × Stand nodes q
Stand (Inner r k ∷ nodes) p = (q : ℕ) × (p ≡ suc q) × (2 ≤ k) × (k ≤ 8) × Stand nodes (k + q)

-- some lines of the text lead on from this state, within the counts or within the tree where it is there, and no line leads on
-- behind them: the answer is the number of the line after them, where so many stand before the text
pub record IsStuckAfter (s : State) (before : ℕ) (text : List ℕ) (answer : ℕ) : Type 0 where
  pub lines : List (List ℕ)
  pub state : State
  pub rest : List ℕ
  pub runs : Runs s lines state
  pub within : stage state ≡ stage s
  pub whole : text ≡ joined_lines lines ++ rest
  pub stuck : IsStuck state rest
  pub told : answer ≡ 1 + (before + length lines)

-- so it is of what the reader hasn't taken, where that is known
abbrev pub Sticks : {R : Type 0} → (R → Option (List ℕ)) → State → LineState R → ℕ → Type 0
Sticks remaining s reader answer = IfSome (untaken remaining reader) (λ text. IsStuckAfter s (taken reader) text answer)

-- a part was read, or the text is refused behind this state; memory may lack, and reads may fail
abbrev pub Reads : {R T : Type 0} → (R → Option (List ℕ)) → (T → Type 0) → (T → List (List ℕ)) → State → LineState R → LineState R → Result T CertStop → Type 0
Reads remaining fits lines s old new (Ok part) = fits part × TakesLines remaining old new (lines part)
Reads remaining fits lines s old new (Err (Text line)) = Sticks remaining s old line
Reads remaining fits lines s old new (Err Memory) = ⊤
Reads remaining fits lines s old new (Err Device) = ⊤

-- items of a leaf: so many, and numbers
abbrev pub AreItems : ℕ → ArrayVec ℕ → Type 0
AreItems count v = (length v.items ≡ count) × All IsNumber v.items

-- counts with a version
abbrev pub AreVersionedCounts : Counts × ℕ → Type 0
AreVersionedCounts (counts, version) = AreCountsInRange counts × ((version ≡ 1) ⊎ (version ≡ 2))

abbrev pub versioned_lines : Counts × ℕ → List (List ℕ)
versioned_lines (counts, version) = head_line version ∷ counts_line counts ∷ []

-- the nodes of a certificate's tree
pub record IsTree (version : ℕ) (nodes : List TreeNode) : Type 0 where
  pub preorder : IsPreorder nodes
  pub few : IsCounted nodes
  pub each : All (IsNode version) nodes
  pub range : All IsNodeInRange nodes

-- the darts of a round or of a walk
abbrev pub AreDarts : Vec ℕ Global → Type 0
AreDarts v = IsDartList v.items × All IsNumber v.items

-- the letter before their number, and the state among rounds or walks
abbrev pub letter_of : DartLists → ℕ
letter_of Rounds = 82
letter_of Walks = 75

abbrev pub among : DartLists → ℕ → ℕ → State
among Rounds others darts = rounds others darts
among Walks others darts = walks others darts

-- the nodes of a tree that were read, where so many subtrees and nodes are still to come
pub record IsTreeSoFar {R : Type 0} (remaining : R → Option (List ℕ)) (version count subtrees left : ℕ) (nodes : List TreeNode) (old new : LineState R) : Type 0 where
  pub takes : TakesLines remaining old new (numbered_line (codes "T") count ∷ nodes_lines version nodes)
  pub runs : Runs (counted version) (numbered_line (codes "T") count ∷ nodes_lines version nodes) (tree version subtrees left 0)
  pub can : CanHave version subtrees left
  pub trees : (rest : List TreeNode) → Stand rest subtrees → Stand (nodes ++ rest) (roots count)
  pub size : length nodes + left ≡ count
  pub each : All (IsNode version) nodes
  pub range : All IsNodeInRange nodes
  pub few : length (nodes_lines version nodes) ≤ 9 * length nodes

-- a node that was read with its number of children, and what it leaves to come besides so many subtrees and nodes
pub record IsNodeRead (version p r : ℕ) (read : TreeNode × ℕ) : Type 0 where
  pub runs : Runs (tree version (suc p) (suc r) 0) (nodes_lines version (read.0 ∷ [])) (tree version (read.1 + p) r 0)
  pub can : CanHave version (read.1 + p) r
  pub stand : (rest : List TreeNode) → Stand rest (read.1 + p) → Stand (read.0 ∷ rest) (suc p)
  pub kind : IsNode version read.0
  pub range : IsNodeInRange read.0
  pub few : length (nodes_lines version (read.0 ∷ [])) ≤ 9
  pub small : read.1 ≤ 8
