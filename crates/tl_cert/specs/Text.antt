-- The text of a certificate: its lines, each with a line feed.
use Rattle.std.specs.Prelude.{ℕ, ℤ, suc, List, [], ◌∷◌, ◌++◌, length, map, codes, decimal}
use Rattle.std.specs.Fmt.{signed_decimal}
use Rattle.tl_geom.specs.declared.rect.Rect.{Rect}
use Rattle.tl_record.specs.Lines.{joined_lines}
use Rattle.tl_tree_index.specs.declared.node.TreeNode.{TreeNode}
use Rattle.tl_tree_index.specs.declared.node.TreeNode.TheVariants.{Inner, Leaf}
use Rattle.tl_cert.specs.declared.certificate.Counts.{Counts}
use Rattle.tl_cert.specs.Certificates.{TheCertificate}

-- a number, or a coordinate_text, behind a space
abbrev pub number : ℕ → List ℕ
number n = codes " " ++ decimal n

abbrev pub coordinate_text : ℤ → List ℕ
coordinate_text z = codes " " ++ signed_decimal z

-- a line of a word and a number
abbrev pub numbered_line : List ℕ → ℕ → List ℕ
numbered_line word n = word ++ number n

abbrev pub head_line : ℕ → List ℕ
head_line version = numbered_line (codes "TIGERCERT") version

abbrev pub counts_line : Counts → List ℕ
counts_line c = codes "C" ++ number c.chains ++ number c.segments ++ number c.nodes ++ number c.polygons

abbrev pub end_line : List ℕ
end_line = codes "END"

-- a rectangle's minimum and maximum, longitude before latitude
abbrev pub rectangle : Rect → List ℕ
rectangle r = coordinate_text r.xmin ++ coordinate_text r.ymin ++ coordinate_text r.xmax ++ coordinate_text r.ymax

-- how many children an inner node has: version 1 doesn't say it
abbrev pub children : ℕ → ℕ → List ℕ
children (suc (suc version)) k = number k
children version k = []

abbrev pub inner_line : ℕ → Rect → ℕ → List ℕ
inner_line version r k = codes "B" ++ rectangle r ++ children version k

-- a leaf's line tells the number of its items
abbrev pub leaf_line : Rect → ℕ → List ℕ
leaf_line r k = codes "L" ++ rectangle r ++ number k

-- a line for each item of a leaf, and for each dart of a list
abbrev pub item_lines : List ℕ → List (List ℕ)
item_lines items = map (numbered_line (codes "S")) items

abbrev pub dart_lines : List ℕ → List (List ℕ)
dart_lines darts = map (numbered_line (codes "D")) darts

-- the nodes: behind a leaf come its items
abbrev pub nodes_lines : ℕ → List TreeNode → List (List ℕ)
nodes_lines version [] = []
nodes_lines version (Inner r k ∷ nodes) = inner_line version r k ∷ nodes_lines version nodes
nodes_lines version (Leaf r v ∷ nodes) = leaf_line r (length v.items) ∷ item_lines v.items ++ nodes_lines version nodes

abbrev pub tree_lines : ℕ → List TreeNode → List (List ℕ)
tree_lines version nodes = numbered_line (codes "T") (length nodes) ∷ nodes_lines version nodes

-- a list of darts: their number behind this word, and a line for each
abbrev pub darts_lines : List ℕ → List ℕ → List (List ℕ)
darts_lines word darts = numbered_line word (length darts) ∷ dart_lines darts

abbrev pub all_darts_lines : List ℕ → List (List ℕ) → List (List ℕ)
all_darts_lines word [] = []
all_darts_lines word (darts ∷ others) = darts_lines word darts ++ all_darts_lines word others

-- so many rounds, or walks, of which the first are these
abbrev pub rounds_lines : ℕ → List (List ℕ) → List (List ℕ)
rounds_lines count rounds = numbered_line (codes "N") count ∷ all_darts_lines (codes "R") rounds

abbrev pub walks_lines : ℕ → List (List ℕ) → List (List ℕ)
walks_lines count walks = numbered_line (codes "W") count ∷ all_darts_lines (codes "K") walks

-- head, counts, tree, rounds, walks and end
abbrev pub certificate_lines : TheCertificate → List (List ℕ)
certificate_lines c =
    head_line c.version ∷ counts_line c.counts ∷ tree_lines c.version c.tree
    ++ rounds_lines (length c.rounds) c.rounds
    ++ walks_lines (length c.walks) c.walks
    ++ end_line ∷ []

-- the text of a certificate
abbrev pub certificate_text : TheCertificate → List ℕ
certificate_text c = joined_lines (certificate_lines c)
