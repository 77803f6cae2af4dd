-- The parts that were given before a place, and their lines.
use Rattle.std.specs.Prelude.{◌≡◌, ℕ, ◌+◌, ◌^◌, List, [], ◌∷◌, ◌++◌, length, ⊤}
use Rattle.tl_cert.specs.declared.place.NextPart.{NextPart}
use Rattle.tl_cert.specs.declared.place.NextPart.TheVariants.{Start, Counted, Treed, Rounds, Walks}
use Rattle.tl_cert.specs.declared.place.CertPart.{CertPart}
use Rattle.tl_cert.specs.declared.place.CertPart.TheVariants as part
use Rattle.tl_cert.specs.Certificates.{TheCertificate, IsCertificate, IsNumber}
use Rattle.tl_cert.specs.Text.{head_line, counts_line, tree_lines, rounds_lines, walks_lines}

-- a certificate with one part more
abbrev pub with_part : TheCertificate → CertPart → TheCertificate
with_part c (part.Counts counts version) = record c { counts = counts; version = version }
with_part c (part.Tree nodes) = record c { tree = nodes.items }
with_part c (part.Round darts) = record c { rounds = c.rounds ++ darts.items ∷ [] }
with_part c (part.Walk darts) = record c { walks = c.walks ++ darts.items ∷ [] }

-- the parts that were given before this place, as a certificate where all others are missing
abbrev pub AreGiven : NextPart → TheCertificate → Type 0
AreGiven Start c = (c.tree ≡ []) × (c.rounds ≡ []) × (c.walks ≡ [])
AreGiven (Counted version) c = IsCertificate c × (c.version ≡ version) × (c.tree ≡ []) × (c.rounds ≡ []) × (c.walks ≡ [])
AreGiven (Treed version) c = IsCertificate c × (c.version ≡ version) × (c.rounds ≡ []) × (c.walks ≡ [])
AreGiven (Rounds left) c = IsCertificate c × IsNumber (length c.rounds + left) × (c.walks ≡ [])
AreGiven (Walks left) c = IsCertificate c × IsNumber (length c.walks + left)

-- their lines: the numbers of rounds and of walks count those that are still to come
abbrev pub given_lines : NextPart → TheCertificate → List (List ℕ)
given_lines Start c = []
given_lines (Counted version) c = head_line c.version ∷ counts_line c.counts ∷ []
given_lines (Treed version) c = head_line c.version ∷ counts_line c.counts ∷ tree_lines c.version c.tree
given_lines (Rounds left) c = head_line c.version ∷ counts_line c.counts ∷ tree_lines c.version c.tree ++ rounds_lines (length c.rounds + left) c.rounds
given_lines (Walks left) c =
    head_line c.version ∷ counts_line c.counts ∷ tree_lines c.version c.tree
    ++ rounds_lines (length c.rounds) c.rounds
    ++ walks_lines (length c.walks + left) c.walks

-- a round that leads on to rounds, or a walk
abbrev pub IsRoundOrWalk : CertPart → NextPart → Type 0
IsRoundOrWalk (part.Counts counts version) next = ⊥
IsRoundOrWalk (part.Tree nodes) next = ⊥
IsRoundOrWalk (part.Round darts) next = (left : ℕ) × (next ≡ Rounds left)
IsRoundOrWalk (part.Walk darts) next = (left : ℕ) × (next ≡ Walks left)

-- a walk that leads on to walks
abbrev pub IsWalk : CertPart → NextPart → Type 0
IsWalk (part.Counts counts version) next = ⊥
IsWalk (part.Tree nodes) next = ⊥
IsWalk (part.Round darts) next = ⊥
IsWalk (part.Walk darts) next = (left : ℕ) × (next ≡ Walks left)

-- which part comes at a place, and the place behind it
abbrev pub LeadsTo : NextPart → CertPart → NextPart → Type 0
LeadsTo Start (part.Counts counts version) next = next ≡ Counted version
LeadsTo Start other next = ⊥
LeadsTo (Counted version) (part.Tree nodes) next = next ≡ Treed version
LeadsTo (Counted version) other next = ⊥
LeadsTo (Treed version) given next = IsRoundOrWalk given next
LeadsTo (Rounds left) given next = IsRoundOrWalk given next
LeadsTo (Walks left) given next = IsWalk given next

-- the end comes behind the tree
abbrev pub MayEnd : NextPart → Type 0
MayEnd Start = ⊥
MayEnd (Counted version) = ⊥
MayEnd (Treed version) = ⊤
MayEnd (Rounds left) = ⊤
MayEnd (Walks left) = ⊤

-- at most how many parts still come, and the end
abbrev pub parts_left : NextPart → ℕ
parts_left Start = 2 ^ 34 + 2
parts_left (Counted version) = 2 ^ 34 + 1
parts_left (Treed version) = 2 ^ 34
parts_left (Rounds left) = 2 ^ 33 + left
parts_left (Walks left) = left
