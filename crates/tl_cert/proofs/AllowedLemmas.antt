-- Which lines lead on from a state, as the kinds of lines that are read there.
use Rattle.std.proofs.Common.{◌≡◌, ◌⊎◌, inl, inr, ℕ, zero, suc, ◌+◌, ◌<◌, ◌≤◌, List, [], ◌∷◌, subst, arith}
use Rattle.tl_cert.specs.declared.certificate.Counts.{Counts}
use Rattle.tl_cert.specs.declared.node_line.NodeStart.{NodeStart}
use Rattle.tl_cert.specs.declared.node_line.NodeStart.TheVariants.{Inner, Leaf}
use Rattle.tl_cert.specs.declared.parts.DartLists.{DartLists}
use Rattle.tl_cert.specs.declared.parts.DartLists.TheVariants.{Rounds, Walks}
use Rattle.tl_cert.specs.Certificates.{IsNumber, AreCountsInRange}
use Rattle.tl_cert.specs.Text.{head_line, counts_line, numbered_line}
use Rattle.tl_cert.specs.Keeping.Kinds.{node_line, NodeFits, children_told}
use Rattle.tl_cert.specs.Keeping.Parts.{letter_of, among}
use Rattle.tl_cert.specs.Keeping.Steps.{State, start, headed, counted, tree, rounds, walks, ended, Steps, CanHave, roots}
use Rattle.tl_cert.proofs.StepLemmas.{leads}

-- a number behind a letter, of which this holds
abbrev pub Tells : ℕ → (ℕ → Type 0) → List ℕ → Type 0
Tells letter may l = (n : ℕ) × may n × (l ≡ numbered_line (letter ∷ []) n)

pub allowed_head : (l : List ℕ) (u : State) → Steps start l u → (v : ℕ) × ((v ≡ 1) ⊎ (v ≡ 2)) × (l ≡ head_line v)
allowed_head l u step = let k = leads start u l step in (k.value, k.holds, k.spelt)

pub allowed_counts : (v : ℕ) (l : List ℕ) (u : State) → Steps (headed v) l u → (c : Counts) × AreCountsInRange c × (l ≡ counts_line c)
allowed_counts v l u step = let k = leads (headed v) u l step in (k.0, k.1, k.2)

pub allowed_size : (v : ℕ) (l : List ℕ) (u : State) → Steps (counted v) l u → Tells 84 (λ n. IsNumber n × CanHave v (roots n) n) l
allowed_size v l u step = let k = leads (counted v) u l step in (k.value, (k.small, k.holds), k.spelt)

pub allowed_item : (v p r i : ℕ) → 0 < i → (l : List ℕ) (u : State) → Steps (tree v p r i) l u → Tells 83 (λ n. IsNumber n × (0 ≤ n)) l
allowed_item v p r zero some l u step = absurd (omega arith)
allowed_item v p r (suc i) some l u step = let k = leads (tree v p r (suc i)) u l step in (k.value, (k.small, omega arith), k.spelt)

-- lists of darts
pub allowed_list : (lists : DartLists) (m : ℕ) (l : List ℕ) (u : State) → Steps (among lists (suc m) 0) l u → Tells (letter_of lists) (λ n. IsNumber n × (1 ≤ n)) l
allowed_list Rounds m l u step = let k = leads (rounds (suc m) 0) u l step in (k.value, (k.small, omega (arith, k.holds)), k.spelt)
allowed_list Walks m l u step = let k = leads (walks (suc m) 0) u l step in (k.value, (k.small, omega (arith, k.holds)), k.spelt)

pub allowed_dart : (lists : DartLists) (m i : ℕ) → 0 < i → (l : List ℕ) (u : State) → Steps (among lists m i) l u → Tells 68 (λ n. IsNumber n × (0 ≤ n)) l
allowed_dart lists m zero some l u step = absurd (omega arith)
allowed_dart Rounds m (suc i) some l u step = let k = leads (rounds m (suc i)) u l step in (k.value, (k.small, omega arith), k.spelt)
allowed_dart Walks m (suc i) some l u step = let k = leads (walks m (suc i)) u l step in (k.value, (k.small, omega arith), k.spelt)

pub never_ended : (lists : DartLists) (m i : ℕ) → among lists m i ≡ ended → ⊥
never_ended Rounds m i same = cc
never_ended Walks m i same = cc

-- the numbers of rounds and of walks, and the end
pub allowed_rounds : (v : ℕ) (l : List ℕ) (u : State) → Steps (tree v 0 0 0) l u → Tells 78 (λ n. IsNumber n × (0 ≤ n)) l
allowed_rounds v l u step = let k = leads (tree v 0 0 0) u l step in (k.value, (k.small, omega arith), k.spelt)

pub allowed_walks : (l : List ℕ) (u : State) → Steps (rounds 0 0) l u → Tells 87 (λ n. IsNumber n × (0 ≤ n)) l
allowed_walks l u step = let k = leads (rounds 0 0) u l step in (k.value, (k.small, omega arith), k.spelt)

-- a node
pub allowed_node : (v p r : ℕ) → (v ≡ 1) ⊎ (v ≡ 2) → (l : List ℕ) (u : State) → Steps (tree v (suc p) (suc r) 0) l u
    → (node : NodeStart) × (NodeFits v node × CanHave v (children_told node + p) r) × (l ≡ node_line v node)
allowed_node v p r known l u step =
    elim (leads (tree v (suc p) (suc r) 0) u l step) [
      | inl k ↦ (Inner k.rect k.k, ((k.range, record { least = k.least; most = k.most; two = λ low. k.two (omega (arith, low)) }), k.can), k.spelt)
      | inr k ↦ (Leaf k.rect k.k, ((k.range, k.least, k.most), let none : p ≡ 0 + p = omega arith in subst (λ n. CanHave v n r) none k.can), k.spelt)
    ]
