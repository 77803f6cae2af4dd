-- A certificate's parts, and which parts make one.
use Rattle.std.specs.Prelude.{◌≡◌, ℕ, ◌<◌, ◌≤◌, ◌^◌, ◌⊎◌, List, length, map, All, FitsSigned, Vec}
use Rattle.std.specs.Global.{Global}
use Rattle.std.specs.Int.{w32}
use Rattle.tl_geom.specs.declared.rect.Rect.{Rect}
use Rattle.tl_tree_index.specs.declared.node.TreeNode.{TreeNode}
use Rattle.tl_tree_index.specs.declared.node.TreeNode.TheVariants.{Inner, Leaf}
use Rattle.tl_tree_index.specs.Preorder.{IsPreorder}
use Rattle.tl_cert.specs.declared.certificate.Counts.{Counts}

-- a version and counts, the nodes of a tree, the darts of each round and of each walk
pub record TheCertificate : Type 0 where
  pub version : ℕ
  pub counts : Counts
  pub tree : List TreeNode
  pub rounds : List (List ℕ)
  pub walks : List (List ℕ)

-- the certificate of these parts, the darts in lists of their own
abbrev pub made : ℕ → Counts → List TreeNode → List (Vec ℕ Global) → List (Vec ℕ Global) → TheCertificate
made version counts tree rounds walks = record {
  version = version;
  counts = counts;
  tree = tree;
  rounds = map (λ r. r.items) rounds;
  walks = map (λ w. w.items) walks;
}

-- a number of 32 bits
abbrev pub IsNumber : ℕ → Type 0
IsNumber n = n < 2 ^ 32

-- a list whose length is such a number
abbrev pub IsCounted : {X : Type 0} → List X → Type 0
IsCounted xs = IsNumber (length xs)

-- a list of darts: at least one
pub record IsDartList (darts : List ℕ) : Type 0 where
  pub some : 0 < length darts
  pub counted : IsCounted darts

-- the lists of darts of rounds, or of walks
pub record AreDartLists (lists : List (List ℕ)) : Type 0 where
  pub counted : IsCounted lists
  pub each : All IsDartList lists

-- a node as a certificate of this version has it: an inner node of version 1 has two children, and a leaf has some item
abbrev pub IsNode : ℕ → TreeNode → Type 0
IsNode version (Inner r k) = version ≡ 1 → k ≡ 2
IsNode version (Leaf r v) = 0 < length v.items

-- the parts make a certificate
pub record MakesCertificate (c : TheCertificate) : Type 0 where
  pub version : (c.version ≡ 1) ⊎ (c.version ≡ 2)
  pub preorder : IsPreorder c.tree
  pub counted : IsCounted c.tree
  pub nodes : All (IsNode c.version) c.tree
  pub rounds : AreDartLists c.rounds
  pub walks : AreDartLists c.walks

-- a rectangle whose coordinates are signed numbers of 32 bits
pub record IsInRange (r : Rect) : Type 0 where
  pub xmin : FitsSigned w32 r.xmin
  pub ymin : FitsSigned w32 r.ymin
  pub xmax : FitsSigned w32 r.xmax
  pub ymax : FitsSigned w32 r.ymax

-- a node whose coordinates and items are numbers of 32 bits, with at most eight items
abbrev pub IsNodeInRange : TreeNode → Type 0
IsNodeInRange (Inner r k) = IsInRange r
IsNodeInRange (Leaf r v) = IsInRange r × (length v.items ≤ 8) × All IsNumber v.items

-- counts that are such numbers
pub record AreCountsInRange (c : Counts) : Type 0 where
  pub chains : IsNumber c.chains
  pub segments : IsNumber c.segments
  pub nodes : IsNumber c.nodes
  pub polygons : IsNumber c.polygons

-- all of a certificate's numbers have 32 bits, as those of the types that hold them do
pub record HasNumbersInRange (c : TheCertificate) : Type 0 where
  pub counts : AreCountsInRange c.counts
  pub tree : All IsNodeInRange c.tree
  pub rounds : All (All IsNumber) c.rounds
  pub walks : All (All IsNumber) c.walks

-- a certificate: parts that make one, of numbers in range
abbrev pub IsCertificate : TheCertificate → Type 0
IsCertificate c = MakesCertificate c × HasNumbersInRange c
