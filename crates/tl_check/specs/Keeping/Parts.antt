-- What was found of a certificate's rounds and walks so far, behind counts that are the map's and a tree that was taken.
use Rattle.std.specs.Prelude.{◌≡◌, ℕ, ◌≤◌, List, [], ◌++◌, length, Result, Ok, Err, ⊤}
use Rattle.tl_map_county.specs.TheMap.{TheMap}
use Rattle.tl_tree_index.specs.declared.node.TreeNode.{TreeNode}
use Rattle.tl_check_planar.specs.Planar.{IsPlanar}
use Rattle.tl_check_planar.specs.Searching.{meeting_segments, AreBeyond}
use Rattle.tl_check_sides.specs.Sides.{SidesAgree}
use Rattle.tl_check_inside.specs.Placed.{ArePlaced}
use Rattle.tl_check_sides.specs.Cells.Cells.{CellsAgree}
use Rattle.tl_check_sides.specs.Lists.{and_list}
use Rattle.tl_check_sides.specs.Rounds.{AreRounds, IsRoundFault}
use Rattle.tl_check_sides.specs.declared.rounds.Rounds.{Rounds}
use Rattle.tl_check_sides.specs.declared.walks.Walks.{Walks}
use Rattle.tl_check_sides.specs.Keeping.Rounded.{AreSized, HaveTaken}
use Rattle.tl_check_sides.specs.Keeping.Walked.{AreReady, HaveWalked}
use Rattle.tl_cert.specs.Certificates.{TheCertificate}
use Rattle.tl_check.specs.declared.state.State.{State}
use Rattle.tl_check.specs.declared.state.State.TheVariants as state
use Rattle.tl_check.specs.declared.state.Halt.{Halt}
use Rattle.tl_check.specs.declared.state.Halt.TheVariants as halt
use Rattle.tl_check.specs.declared.search.LeftOpen.{LeftOpen}
use Rattle.tl_check.specs.Keeping.Searching.{IsLeftOpen}
use Rattle.tl_check_verdict.specs.declared.fault.CertFault.{CertFault}
use Rattle.tl_check_verdict.specs.declared.fault.MapFault.TheVariants.{Meet}
use Rattle.tl_check_verdict.specs.Valid.{AreCounts, IsTree, AllowsSearch, IsValid}
use Rattle.tl_check_verdict.specs.Truth.{IsTrueOfMap, IsTrueOfCert, IsOfDarts}

-- the certificate with a round more, or a walk
abbrev pub with_round : TheCertificate → List ℕ → TheCertificate
with_round c round = record c { rounds = and_list c.rounds round }

abbrev pub with_walk : TheCertificate → List ℕ → TheCertificate
with_walk c walk = record c { walks = and_list c.walks walk }

-- the certificate d is c with more rounds, and more walks
pub record Continues (c d : TheCertificate) : Type 0 where
  pub counts : d.counts ≡ c.counts
  pub tree : d.tree ≡ c.tree
  pub more_rounds : List (List ℕ)
  pub rounds : d.rounds ≡ c.rounds ++ more_rounds
  pub more_walks : List (List ℕ)
  pub walks : d.walks ≡ c.walks ++ more_walks

-- the counts are the map's, the tree fits its segments, its chains are planar, and its zero-cell ids agree
pub record IsFounded (m : TheMap) (c : TheCertificate) : Type 0 where
  pub counts : AreCounts m c.counts
  pub tree : IsTree m c.tree
  pub planar : IsPlanar m.chains
  pub cells : CellsAgree m.chains

-- so far the rounds have no fault, there are no walks yet, and no more than this is left open
pub record AreRoundsSoFar (m : TheMap) (c : TheCertificate) (rounds : Rounds) (left : LeftOpen) : Type 0 where
  pub founded : IsFounded m c
  pub no_walks : c.walks ≡ []
  pub sized : AreSized m.chains rounds
  pub taken : HaveTaken m.chains c.rounds rounds
  pub no_more : IsLeftOpen m left

-- the rounds are the map's, sides agree, so far the walks have no fault, and no more than this is left open
pub record AreWalksSoFar (m : TheMap) (c : TheCertificate) (walks : Walks) (left : LeftOpen) : Type 0 where
  pub founded : IsFounded m c
  pub rounds : AreRounds m.chains c.rounds
  pub sides : SidesAgree m.chains
  pub ready : AreReady m.chains walks
  pub walked : HaveWalked m.chains c.walks walks
  pub no_more : IsLeftOpen m left

-- what a state says of the parts that were taken, which are those of c
abbrev pub Holds : TheMap → TheCertificate → State → Type 0
Holds m c (state.Rounding rounds left) = AreRoundsSoFar m c rounds left
Holds m c (state.Walking walks left) = AreWalksSoFar m c walks left
Holds m c (state.Unrounded fault) = IsRoundFault m.chains c.rounds fault
Holds m c (state.Wrong fault) = (d : TheCertificate) → Continues c d → IsTrueOfCert m d fault

-- further rounds may be taken
abbrev pub TakesRounds : State → Type 0
TakesRounds (state.Rounding rounds left) = ⊤
TakesRounds (state.Walking walks left) = ⊥
TakesRounds (state.Unrounded fault) = ⊥
TakesRounds (state.Wrong fault) = ⊤

-- walks may be taken
abbrev pub TakesWalks : State → Type 0
TakesWalks (state.Rounding rounds left) = ⊥
TakesWalks (state.Walking walks left) = ⊤
TakesWalks (state.Unrounded fault) = ⊤
TakesWalks (state.Wrong fault) = ⊤

-- unless the parts are wrong, the search was made, and at most n pairs of segments have rectangles that meet
abbrev pub IsSearched : TheMap → ℕ → State → Type 0
IsSearched m n (state.Rounding rounds left) = meeting_segments m.chains ≤ n
IsSearched m n (state.Walking walks left) = meeting_segments m.chains ≤ n
IsSearched m n (state.Unrounded fault) = meeting_segments m.chains ≤ n
IsSearched m n (state.Wrong fault) = ⊤

-- unless the parts are wrong in another way than by rounds or walks, the search was made, and the chains are planar
abbrev pub IsBehindSearch : TheMap → State → Type 0
IsBehindSearch m (state.Rounding rounds left) = IsPlanar m.chains
IsBehindSearch m (state.Walking walks left) = IsPlanar m.chains
IsBehindSearch m (state.Unrounded fault) = IsPlanar m.chains
IsBehindSearch m (state.Wrong fault) = IsOfDarts fault → IsPlanar m.chains

-- why no further part is looked at
abbrev pub MayHalt : TheMap → ℕ → Halt → Type 0
MayHalt m budget (halt.Fault fault) = IsTrueOfMap m fault
MayHalt m budget halt.Memory = ⊤
MayHalt m budget halt.Budget = AreBeyond m.chains budget

-- so that is true, unless memory was refused
abbrev pub UnlessMemory : Halt → Type 0 → Type 0
UnlessMemory (halt.Fault fault) P = P
UnlessMemory halt.Memory P = ⊤
UnlessMemory halt.Budget P = P

-- so that is true, unless two segments meet where they may not, memory was refused, or the budget is spent
abbrev pub UnlessMet : Halt → Type 0 → Type 0
UnlessMet (halt.Fault (Meet meet)) P = ⊤
UnlessMet (halt.Fault fault) P = P
UnlessMet halt.Memory P = ⊤
UnlessMet halt.Budget P = ⊤

-- the same behind the search
abbrev pub MayEnd : TheMap → Halt → Type 0
MayEnd m (halt.Fault fault) = IsTrueOfMap m fault
MayEnd m halt.Memory = ⊤
MayEnd m halt.Budget = ⊥

-- behind a step that takes parts, the state holds of those too and takes what may come, and what was so of the search still is
pub record IsLed (m : TheMap) (step : TheCertificate → TheCertificate) (Takes : State → Type 0) (old next : State) : Type 0 where
  pub holds : (c : TheCertificate) → Holds m c old → Holds m (step c) next
  pub takes : Takes next
  pub searched : (n : ℕ) → IsSearched m n old → IsSearched m n next
  pub behind : IsBehindSearch m old → IsBehindSearch m next

-- no further part is looked at behind a search that may be made
pub record IsHalted (m : TheMap) (old : State) (halt : Halt) : Type 0 where
  pub halts : MayEnd m halt
  pub allowed : (c : TheCertificate) → Holds m c old → AllowsSearch m c

-- where a step leads that walks are taken behind
abbrev pub Leads : TheMap → (TheCertificate → TheCertificate) → State → Result State Halt → Type 0
Leads m step old (Ok next) = IsLed m step TakesWalks old next
Leads m step old (Err halt) = IsHalted m old halt

-- what the parts of valid certificates show, with that many walks, where no more than this is left open
pub record IsWalked (m : TheMap) (c : TheCertificate) (count : ℕ) (left : LeftOpen) : Type 0 where
  pub valid : IsValid m c
  pub planar : IsPlanar m.chains
  pub sides : SidesAgree m.chains
  pub cells : CellsAgree m.chains
  pub counted : count ≡ length c.walks
  pub no_more : IsLeftOpen m left

-- what valid certificates show, with that many walks
pub record IsShown (m : TheMap) (c : TheCertificate) (rings : ℕ) : Type 0 where
  pub valid : IsValid m c
  pub planar : IsPlanar m.chains
  pub sides : SidesAgree m.chains
  pub points : ArePlaced m
  pub cells : CellsAgree m.chains
  pub counted : rings ≡ length c.walks

-- the walks have ended: what the state held is shown of so many walks, or its certificates have a fault
pub record IsEnded (m : TheMap) (old : State) (count : ℕ) (left : LeftOpen) : Type 0 where
  pub walked : (c : TheCertificate) → Holds m c old → IsWalked m c count left
  pub searched : (n : ℕ) → IsSearched m n old → meeting_segments m.chains ≤ n

pub record IsFaulty (m : TheMap) (old : State) (wrong : CertFault) : Type 0 where
  pub fault : (c : TheCertificate) → Holds m c old → IsTrueOfCert m c wrong
  pub behind : IsBehindSearch m old → IsOfDarts wrong → IsPlanar m.chains

-- behind counts of which so much is known, and a tree, further rounds may be taken, and the search was made
pub record IsBegun (m : TheMap) (budget : ℕ) (Counted : TheCertificate → Type 0) (nodes : List TreeNode) (state : State) : Type 0 where
  pub holds : (c : TheCertificate) → Counted c → c.tree ≡ nodes → c.rounds ≡ [] → c.walks ≡ [] → Holds m c state
  pub rounds : TakesRounds state
  pub searched : IsSearched m budget state
  pub behind : IsBehindSearch m state

-- or no further part is looked at
pub record EndsEarly (m : TheMap) (budget : ℕ) (Known : Type 0) (halt : Halt) : Type 0 where
  pub halts : MayHalt m budget halt
  pub tree : UnlessMemory halt Known
  pub meets : UnlessMet halt (IsPlanar m.chains)

abbrev pub LeadsBehindTree : TheMap → ℕ → Type 0 → (TheCertificate → Type 0) → List TreeNode → Result State Halt → Type 0
LeadsBehindTree m budget Known Counted nodes (Ok state) = IsBegun m budget Counted nodes state
LeadsBehindTree m budget Known Counted nodes (Err halt) = EndsEarly m budget Known halt
