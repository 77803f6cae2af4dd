-- What is true of a fault and of what it faults can't be true of one map and one certificate.
use Rattle.std.proofs.Common.{◌≡◌, ℕ, Bool, false, zero, suc, ◌-◌, ◌<◌, ◌≤◌, inl, inr, Some, List, sym, ◌∙◌, arith}
use Rattle.std.proofs.lemmas.Bool.{cases_lt}
use Rattle.std.proofs.lemmas.Option.{slice_get_within}
use Rattle.tl_geom.specs.declared.rect.Rect.{Rect}
use Rattle.tl_map_county.specs.TheMap.{TheMap, MapChain}
use Rattle.tl_tree_index.specs.declared.fault.TreeFault.{TreeFault}
use Rattle.tl_tree_index.specs.declared.fault.TreeFault.TheVariants.{UnknownIndex, IndexTwice, IndexMissing, RectTooSmall}
use Rattle.tl_tree_index.specs.Trees.{Forest, none, leaf, inner, node_count, leaf_items}
use Rattle.tl_tree_index.specs.Fits.{CoversBelow, Fits, IsTooSmall, IsFaultOf}
use Rattle.tl_tree_index.proofs.Times.{times-above}
use Rattle.tl_check_planar.proofs.Planes.{meet_not_planar}
use Rattle.tl_check_sides.specs.declared.fault.RoundFault.{RoundFault}
use Rattle.tl_check_sides.specs.declared.fault.RoundFault.TheVariants as round
use Rattle.tl_check_sides.specs.declared.fault.WalkFault.{WalkFault}
use Rattle.tl_check_sides.specs.declared.fault.WalkFault.TheVariants as walk
use Rattle.tl_check_sides.specs.Lists.{HoldOnce, times_in, list_at}
use Rattle.tl_check_sides.specs.Rounds.{AreRounds, HasTwoNodes, HasFall, IsRoundFault, HasOneNode, AreHeadingsRising}
use Rattle.tl_check_sides.specs.Walks.{AreWalks, IsWalkFault}
use Rattle.tl_check_sides.proofs.Headings.{with_heads}
use Rattle.tl_check_inside.specs.declared.misplaced.Misplaced.{Misplaced}
use Rattle.tl_check_inside.specs.declared.misplaced.Misplaced.TheVariants.{OnChain, Outside, InOther}
use Rattle.tl_check_inside.specs.Placed.{ArePlaced, IsTrueMisplaced}
use Rattle.tl_check_sides.specs.Cells.Cells.{CellsAgree, AreCellsAtOdds}
use Rattle.tl_cert.specs.Certificates.{TheCertificate}
use Rattle.tl_check_verdict.specs.declared.fault.MapFault.{MapFault}
use Rattle.tl_check_verdict.specs.declared.fault.MapFault.TheVariants.{Records, NoRecords, Meet, Side, PolygonPoint, Cell, Face}
use Rattle.tl_check_verdict.specs.declared.fault.CertFault.{CertFault}
use Rattle.tl_check_verdict.specs.declared.fault.CertFault.TheVariants as fault
use Rattle.tl_check_verdict.specs.Sound.{IsSound, IsSoundFor}
use Rattle.tl_check_verdict.specs.Truth.{IsTrueOfMap, IsTrueOfMapFor, IsTrueOfCert, IsOfDarts}
use Rattle.tl_check_verdict.specs.Valid.{AllowsSearch, IsValid}

-- darts that are at odds deny that cells agree
odds_deny : (chains : List MapChain) (a b id_a id_b : ℕ) → AreCellsAtOdds chains a b id_a id_b → ¬ CellsAgree chains
odds_deny chains a b id_a id_b odds agree = elim odds.odd [
  | inl same ↦ same.1 ((agree a b id_a id_b odds.a_has odds.b_has).0 same.0)
  | inr start ↦ start.1 ((agree a b id_a id_b odds.a_has odds.b_has).1 start.0)
]

-- what is wrong with a polygon's point denies that points are where they have to be
misplaced_denies : (m : TheMap) (fault : Misplaced) → IsTrueMisplaced m fault → ¬ ArePlaced m
misplaced_denies m (OnChain polygon tlid) true placed = (placed true.p (record { key = polygon; point = true.point }) true.of).off true.c true.held
misplaced_denies m (Outside polygon) true placed = true.outside (placed true.p (record { key = polygon; point = true.point }) true.of).inside
misplaced_denies m (InOther polygon other) true placed =
    let lt = slice_get_within m.polygons true.q (record { key = other; point = true.other_point }) true.other_of in
    true.within ((placed true.p (record { key = polygon; point = true.point }) true.of).clear true.q lt true.two)

-- a fault that is true denies what is asked
pub not_sound : (faces : Bool) (m : TheMap) (f : MapFault) → IsTrueOfMapFor faces m f → ¬ IsSoundFor faces m
not_sound faces m (Records f) true sound = absurd true
not_sound faces m (NoRecords lacking) true sound = absurd true
not_sound faces m (Meet meet) true sound = meet_not_planar m.chains meet.s meet.t meet.at true.ordered true.told.meet sound.sound.planar
not_sound faces m (Side node first next) true sound = true.differ (sound.sound.sides first next true.is_next)
not_sound faces m (PolygonPoint fault) true sound = misplaced_denies m fault true sound.sound.points
not_sound faces m (Cell odds) true sound = odds_deny m.chains odds.first odds.second odds.first_id odds.second_id true sound.sound.cells
not_sound faces m (Face fault) true sound = true.1.1.1 (sound.facing true.0)

-- a fault that is true where faces aren't asked for is true where they are
pub true_still : (faces : Bool) (m : TheMap) (f : MapFault) → IsTrueOfMap m f → IsTrueOfMapFor faces m f
true_still faces m (Records f) true = absurd true
true_still faces m (NoRecords lacking) true = absurd true
true_still faces m (Meet meet) true = true
true_still faces m (Side node first next) true = true
true_still faces m (PolygonPoint fault) true = true
true_still faces m (Cell odds) true = true
true_still faces m (Face fault) true = absurd true

-- and one that is true where they aren't asked for is none of faces
pub true_alone : (m : TheMap) (f : MapFault) → IsTrueOfMapFor false m f → IsTrueOfMap m f
true_alone m (Records f) true = true
true_alone m (NoRecords lacking) true = true
true_alone m (Meet meet) true = true
true_alone m (Side node first next) true = true
true_alone m (PolygonPoint fault) true = true
true_alone m (Cell odds) true = true
true_alone m (Face fault) true = absurd (cc)

-- where faces aren't asked for, it denies that the map is sound
pub not_sound_alone : (m : TheMap) (f : MapFault) → IsTrueOfMap m f → ¬ IsSound m
not_sound_alone m f true sound = not_sound false m f (true_still false m f true) (record { sound = sound; facing = λ asked. absurd (cc) })

-- a rectangle that is too small doesn't cover what is below it
small_uncovers : (bounds : ℕ → Rect) (f : Forest) (k : ℕ) → IsTooSmall bounds f k → ¬ CoversBelow bounds f
small_uncovers bounds none k small covers = absurd small
small_uncovers bounds (leaf r xs others) zero small covers = small covers.0
small_uncovers bounds (leaf r xs others) (suc k) small covers = small_uncovers bounds others k small covers.1
small_uncovers bounds (inner r children others) zero small covers = small covers.0
small_uncovers bounds (inner r children others) (suc k) (inl small) covers = small_uncovers bounds children k small covers.1
small_uncovers bounds (inner r children others) (suc k) (inr small) covers = small_uncovers bounds others (k - node_count children) small.1 covers.2

no_tree_fault : (f : Forest) (n : ℕ) (bounds : ℕ → Rect) (fault : TreeFault) → Fits f n bounds → ¬ IsFaultOf f n bounds fault
no_tree_fault f n bounds (UnknownIndex i) fits true = let no = times-above n i (leaf_items f) fits.known true.0 in omega (arith, no, true.1)
no_tree_fault f n bounds (IndexTwice i) fits true = elim (cases_lt i n) [
  | inl lt ↦ let once = fits.once i lt in omega (arith, once, true)
  | inr past ↦ let no = times-above n i (leaf_items f) fits.known past in omega (arith, no, true)
]
no_tree_fault f n bounds (IndexMissing i) fits true = let once = fits.once i true.0 in omega (arith, once, true.1)
no_tree_fault f n bounds (RectTooSmall k) fits true = small_uncovers bounds f k true fits.covers

-- lists that hold each number below n once hold none that is beyond, none twice, and miss none
no_unknown : (n d : ℕ) (lists : List (List ℕ)) → HoldOnce n lists → n ≤ d → 1 ≤ times_in d lists → ⊥
no_unknown n d lists hold past some = let no = hold.no_other d past in omega (arith, no, some)

none_twice : (n d : ℕ) (lists : List (List ℕ)) → HoldOnce n lists → 2 ≤ times_in d lists → ⊥
none_twice n d lists hold twice = elim (cases_lt d n) [
  | inl lt ↦ let once = hold.once d lt in omega (arith, once, twice)
  | inr past ↦ let no = hold.no_other d past in omega (arith, no, twice)
]

none_missing : (n d : ℕ) (lists : List (List ℕ)) → HoldOnce n lists → d < n → times_in d lists ≡ 0 → ⊥
none_missing n d lists hold lt absent = let once = hold.once d lt in omega (arith, once, absent)

one_start : (chains : List MapChain) (xs : List ℕ) → HasOneNode chains xs → ¬ HasTwoNodes chains xs
one_start chains xs one two =
    let e : Some two.other ≡ Some two.one = sym two.place_starts ∙ one two.place two.within ∙ two.first_starts in
    let same : two.one ≡ two.other = cc in
    two.differ same

no_fall : (chains : List MapChain) (xs : List ℕ) → AreHeadingsRising chains xs → ¬ HasFall chains xs
no_fall chains xs rising fall =
    fall.falls (with_heads chains _ _ fall.first fall.second (rising fall.place fall.within) fall.place_heads fall.behind_heads)

no_round_fault : (chains : List MapChain) (rounds : List (List ℕ)) (fault : RoundFault) → AreRounds chains rounds → ¬ IsRoundFault chains rounds fault
no_round_fault chains rounds (round.UnknownDart d) are true = no_unknown _ d rounds are.hold true.0 true.1
no_round_fault chains rounds (round.DartTwice d) are true = none_twice _ d rounds are.hold true
no_round_fault chains rounds (round.DartMissing d) are true = none_missing _ d rounds are.hold true.0 true.1
no_round_fault chains rounds (round.StartsElsewhere r) are true = one_start chains (list_at rounds r) (are.one_node r true.0) true.1
no_round_fault chains rounds (round.NodeRepeated r) are true = are.apart true.earlier r true.node true.is_earlier true.within true.earlier_starts true.starts
no_round_fault chains rounds (round.OrderNotRising r) are true = no_fall chains (list_at rounds r) (are.rising r true.0) true.1

no_walk_fault : (chains : List MapChain) (walks : List (List ℕ)) (fault : WalkFault) → AreWalks chains walks → ¬ IsWalkFault chains walks fault
no_walk_fault chains walks (walk.UnknownDart d) are true = no_unknown _ d walks are.hold true.0 true.1
no_walk_fault chains walks (walk.DartTwice d) are true = none_twice _ d walks are.hold true
no_walk_fault chains walks (walk.DartMissing d) are true = none_missing _ d walks are.hold true.0 true.1
no_walk_fault chains walks (walk.WrongStep w) are true =
    let step = true.1 in step.wrong.not ((are.rings w true.0).follows (suc step.place) step.within)
no_walk_fault chains walks (walk.NotClosed w) are true =
    let step = true.1 in step.wrong.not ((are.rings w true.0).follows zero step.some)

-- a fault that is true where a search may be made is of rounds or of walks
pub of_darts_alone : (m : TheMap) (c : TheCertificate) (f : CertFault) → IsTrueOfCert m c f → AllowsSearch m c → IsOfDarts f
of_darts_alone m c (fault.Text line) true allows = absurd true
of_darts_alone m c fault.Counts true allows = absurd (true allows.counts)
of_darts_alone m c (fault.Tree t) true allows = absurd (no_tree_fault _ _ _ t allows.tree.fits true)
of_darts_alone m c fault.TooDeep true allows = let shallow = allows.tree.shallow in absurd (omega (arith, shallow, true))
of_darts_alone m c (fault.Round r) true allows = tt
of_darts_alone m c (fault.Walk w) true allows = tt

pub not_valid : (m : TheMap) (c : TheCertificate) (f : CertFault) → IsTrueOfCert m c f → ¬ IsValid m c
not_valid m c (fault.Text line) true valid = absurd true
not_valid m c fault.Counts true valid = true valid.counts
not_valid m c (fault.Tree t) true valid = no_tree_fault _ _ _ t valid.tree.fits true
not_valid m c fault.TooDeep true valid = let shallow = valid.tree.shallow in omega (arith, shallow, true)
not_valid m c (fault.Round r) true valid = no_round_fault m.chains c.rounds r valid.rounds true
not_valid m c (fault.Walk w) true valid = no_walk_fault m.chains c.walks w valid.walks true
