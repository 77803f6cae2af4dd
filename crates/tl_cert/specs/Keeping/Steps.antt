-- Where a reader stands between two lines of a certificate, which lines take it on, and how many parts they spell.
use Rattle.std.specs.Prelude.{◌≡◌, ℕ, zero, suc, ◌+◌, ◌*◌, ◌<◌, ◌≤◌, ◌⊎◌, List, [], ◌∷◌, ◌++◌, codes}
use Rattle.tl_geom.specs.declared.rect.Rect.{Rect}
use Rattle.tl_record.specs.Lines.{line_feed}
use Rattle.tl_cert.specs.declared.certificate.Counts.{Counts}
use Rattle.tl_cert.specs.Certificates.{IsNumber, IsInRange, AreCountsInRange}
use Rattle.tl_cert.specs.Text.{head_line, counts_line, numbered_line, inner_line, leaf_line, end_line}

-- at the start, behind the head and behind the counts; in a tree with so many subtrees, nodes and items of a leaf still
-- to come; in rounds and in walks, with so many and so many darts still to come; behind the end
pub data State : Type 0 where
  start : State
  headed : (version : ℕ) → State
  counted : (version : ℕ) → State
  tree : (version subtrees nodes items : ℕ) → State
  rounds : (others darts : ℕ) → State
  walks : (others darts : ℕ) → State
  ended : State

-- some p trees have r nodes in all
abbrev pub CanHave : ℕ → ℕ → ℕ → Type 0
CanHave (suc (suc version)) p r = (p ≡ r) ⊎ ((1 ≤ p) × (p + 2 ≤ r))
CanHave version p r = (p ≡ r) ⊎ ((1 ≤ p) × ((inner : ℕ) × (r ≡ p + 2 * inner)))

-- how many trees are these nodes: one, or none
abbrev pub roots : ℕ → ℕ
roots zero = 0
roots (suc n) = 1

-- a line leads from one state to another
pub data Steps : State → List ℕ → State → Type 0 where
  at_head : (v : ℕ) → (v ≡ 1) ⊎ (v ≡ 2) → Steps start (head_line v) (headed v)
  at_counts : (v : ℕ) (c : Counts) → AreCountsInRange c → Steps (headed v) (counts_line c) (counted v)
  at_nodes : (v n : ℕ) → IsNumber n → CanHave v (roots n) n → Steps (counted v) (numbered_line (codes "T") n) (tree v (roots n) n 0)
  at_inner :
      (v p r : ℕ) (rect : Rect) (k : ℕ) → IsInRange rect → 2 ≤ k → k ≤ 8 → (v ≤ 1 → k ≡ 2) → CanHave v (k + p) r →
      Steps (tree v (suc p) (suc r) 0) (inner_line v rect k) (tree v (k + p) r 0)
  at_leaf :
      (v p r : ℕ) (rect : Rect) (k : ℕ) → IsInRange rect → 1 ≤ k → k ≤ 8 → CanHave v p r →
      Steps (tree v (suc p) (suc r) 0) (leaf_line rect k) (tree v p r k)
  at_item : (v p r i x : ℕ) → IsNumber x → Steps (tree v p r (suc i)) (numbered_line (codes "S") x) (tree v p r i)
  at_rounds : (v m : ℕ) → IsNumber m → Steps (tree v 0 0 0) (numbered_line (codes "N") m) (rounds m 0)
  at_round : (m k : ℕ) → 0 < k → IsNumber k → Steps (rounds (suc m) 0) (numbered_line (codes "R") k) (rounds m k)
  at_round_dart : (m k x : ℕ) → IsNumber x → Steps (rounds m (suc k)) (numbered_line (codes "D") x) (rounds m k)
  at_walks : (m : ℕ) → IsNumber m → Steps (rounds 0 0) (numbered_line (codes "W") m) (walks m 0)
  at_walk : (m k : ℕ) → 0 < k → IsNumber k → Steps (walks (suc m) 0) (numbered_line (codes "K") k) (walks m k)
  at_walk_dart : (m k x : ℕ) → IsNumber x → Steps (walks m (suc k)) (numbered_line (codes "D") x) (walks m k)
  at_end : Steps (walks 0 0) end_line ended

-- lines lead from one state to another
pub data Runs : State → List (List ℕ) → State → Type 0 where
  no_line : (s : State) → Runs s [] s
  first_line : (s t u : State) (line : List ℕ) (lines : List (List ℕ)) → Steps s line t → Runs t lines u → Runs s (line ∷ lines) u

-- no line that may stand here, with its line feed, begins the text; and where the end was read there is some text
pub record IsStuck (s : State) (text : List ℕ) : Type 0 where
  pub none : (line rest : List ℕ) (t : State) → Steps s line t → ¬ (text ≡ line ++ line_feed ∷ rest)
  pub some : s ≡ ended → ¬ (text ≡ [])

-- how many of the counts and the tree are behind a state: 2 where both are
abbrev pub tree_stage : (items nodes : ℕ) → ℕ
tree_stage (suc items) nodes = 1
tree_stage zero (suc nodes) = 1
tree_stage zero zero = 2

abbrev pub stage : State → ℕ
stage start = 0
stage (headed v) = 0
stage (counted v) = 1
stage (tree v p r i) = tree_stage i r
stage (rounds m k) = 2
stage (walks m k) = 2
stage ended = 2
