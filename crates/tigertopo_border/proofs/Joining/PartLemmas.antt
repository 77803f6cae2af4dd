-- The map of joined records is joined from the maps of each list of records.
use Rattle.std.proofs.Common.{◌≡◌, ℕ, ◌<◌, ◌≤◌, ◌⊎◌, eqb, ◌&&◌, ◌||◌, Bool, true, false, List, length, Option, Some, None, refl, sym, ap, subst, ◌∙◌, inl, inr, arith}
use Rattle.std.specs.Prelude.{slice_get}
use Rattle.std.specs.List.{AllByRecursion}
use Rattle.std.proofs.lemmas.Bool.{true≢false, cases_lt, eq-eqb, eqb-true}
use Rattle.std.proofs.lemmas.Option.{slice_get_within}
use Rattle.tl_record_key.specs.declared.key.PolyKey.{PolyKey}
use Rattle.tl_record.specs.declared.record.Record.{Record}
use Rattle.tl_record.specs.declared.record.Record.TheVariants.{Chain, Sides}
use Rattle.tl_map.specs.Joined.Keeping.Places.{is_at}
use Rattle.tl_map.proofs.JoinedLemmas.ApartLemmas.{key}
use Rattle.tl_map_county.specs.declared.polygons.Polygon.{Polygon}
use Rattle.tl_map_county.specs.declared.sides.Side.{Side}
use Rattle.tl_map_county.specs.declared.sides.Side.TheVariants.{Outside}
use Rattle.tl_map_county.specs.TheMap.{TheMap, MapChain}
use Rattle.tl_map_rules.specs.declared.fault.RecordFault.TheVariants.{DuplicatePolygon}
use Rattle.tl_map_rules.specs.MapOf.{polygons_in, keys, place_of, side_of, IsMapOf}
use Rattle.tl_map_rules.specs.Faults.{HasChain, StandsTwice}
use Rattle.tigertopo_border.specs.Whole.Told.{AreTold}
use Rattle.tigertopo_border.specs.Whole.Homes.{is_of, is_blank, own, tells, IsOfParts, IsToldByParts}
use Rattle.tigertopo_border.specs.Whole.Joined.{IsJoined}
use Rattle.tigertopo_border.specs.Parts.{all_records, has_chain, part_at, teller_at, homes_of, DrawParts, HaveNoFaultButMany}
use Rattle.tigertopo_border.proofs.Joining.KeyedLemmas.{told, AreJoinedOf}
use Rattle.tigertopo_border.proofs.Joining.InLemmas.{In, from_place, from_passing, one_in, contained, from_contained}
use Rattle.tigertopo_border.proofs.Joining.TellLemmas.{Tells, tells_once, tells as tells_of, at_chain, chain_of_sides}
use Rattle.tigertopo_border.proofs.Joining.SeveralLemmas.{chains, two_here}
use Rattle.tigertopo_border.proofs.Joining.HomeLemmas.{polygons_of, AreDistinct, distinct, homes_apart, has_place, has_home, found_teller, teller_before, some_chain, chain_there}
use Rattle.tigertopo_border.proofs.Joining.AlikeLemmas.{IsOthers, AreSidesOf, own as own_sides, left_half, right_half, told_by}
use Rattle.tigertopo_border.proofs.Joining.WalkLemmas.{HasNamed, HasTlid, told_from, rising_chains}
use Rattle.tigertopo_border.proofs.Joining.NameLemmas.{names_known, own_side, is_own, other_side, part_is}
use Rattle.tigertopo_border.proofs.Joining.DrawnLemmas.{by_places, item_beside, polygons_are, drawn_in, sided_in, chain_with, chain_of, same_points, AreSides, sides_are, IsSomeones, someones}

module _ (lists : List (List Record)) (parts : List TheMap) (m : TheMap) (draw : DrawParts false lists parts) (js : List Record) (of : AreJoinedOf js (all_records lists)) (fine : HaveNoFaultButMany js) (is_map : IsMapOf js m) where
  abbrev ks : List PolyKey
  ks = keys (polygons_in js)

  all_fine : AllByRecursion HaveNoFaultButMany lists
  all_fine = by_places HaveNoFaultButMany lists draw.no_fault

  list_of : (k : ℕ) (part : TheMap) → slice_get parts k ≡ Some part → (rs : List Record) × (slice_get lists k ≡ Some rs)
  list_of k part is = item_beside lists parts k part draw.many is

  part_of : (k : ℕ) (rs : List Record) → slice_get lists k ≡ Some rs → (part : TheMap) × (slice_get parts k ≡ Some part)
  part_of k rs is = item_beside parts lists k rs (sym draw.many) is

  joined_polygons : polygons_in js ≡ polygons_of parts
  joined_polygons =
      of.polygons ∙ polygons_are lists parts draw.many (λ k rs part is at. (draw.drawn k rs part is at).polygons)

  ks_are : keys (polygons_in js) ≡ keys (polygons_of parts)
  ks_are = ap keys joined_polygons

  keys_distinct : AreDistinct (keys (polygons_of parts))
  keys_distinct = distinct (keys (polygons_of parts)) (λ k twice. fine (DuplicatePolygon k) (λ what same. cc) (subst (λ (l : List PolyKey). StandsTwice l k) (sym ks_are) twice))

  -- a name of a record of a list is one of its part
  known_in : (k : ℕ) (rs : List Record) (part : TheMap) → slice_get lists k ≡ Some rs → slice_get parts k ≡ Some part → (name : PolyKey) → In name (keys (polygons_in rs)) → In name (keys part.polygons)
  known_in k rs part is at name has = rw (draw.drawn k rs part is at).polygons has

  -- ---- who names what

  pub record IsNamedBy (t : ℕ) (name : PolyKey) : Type 0 where
    place : ℕ
    list : List Record
    part : TheMap
    is : slice_get lists place ≡ Some list
    part_at_place : slice_get parts place ≡ Some part
    known : In name (keys part.polygons)
    chain : HasChain list t

  abbrev named_by : (t : ℕ) (k : ℕ) (rs : List Record) (is : slice_get lists k ≡ Some rs) → (s e : Option ℕ) (l r : Option PolyKey) (name : PolyKey) → In (Sides t s e l r) rs → (l ≡ Some name) ⊎ (r ≡ Some name) → IsNamedBy t name
  named_by t k rs is s e l r name has names =
      let rs_fine = draw.no_fault k rs is in
      let part = part_of k rs is in
      record {
        place = k;
        list = rs;
        part = part.0;
        is = is;
        part_at_place = part.1;
        known = known_in k rs part.0 is part.1 name (names_known rs rs_fine t s e l r name has names);
        chain = chain_of_sides rs rs_fine t s e l r has;
      }

  abbrev others_name : (t k : ℕ) (name : PolyKey) → IsOthers lists k t name → IsNamedBy t name
  others_name t k name o = named_by t o.place o.other o.is o.start o.end o.left o.right name o.has o.names

  own_has : (t : ℕ) (rs : List Record) (it : Tells rs t) → In (Sides t it.start it.end it.left it.right) rs
  own_has t rs it = (from_passing (is_at (key t 73 0)) rs (Sides t it.start it.end it.left it.right) (one_in _ _ it.sides)).0

  -- each name of what joined records tell of a chain is named by some list
  left_named : (t k : ℕ) (rs : List Record) → slice_get lists k ≡ Some rs → (it : Tells rs t) (l r : Option PolyKey) → AreSidesOf lists k t it.left it.right l r → (name : PolyKey) → l ≡ Some name → IsNamedBy t name
  left_named t k rs is it l r (own_sides x y few) name e = named_by t k rs is it.start it.end it.left it.right name (own_has t rs it) (inl (x ∙ e))
  left_named t k rs is it l r (left_half a b x y left right o) name e = named_by t k rs is it.start it.end it.left it.right name (own_has t rs it) (inl (x ∙ sym left ∙ e))
  left_named t k rs is it l r (right_half a b x y left right o) name e =
      let same : Some a ≡ Some name = sym left ∙ e in
      let one : a ≡ name = cc in
      rw (← one) (others_name t k a o)

  right_named : (t k : ℕ) (rs : List Record) → slice_get lists k ≡ Some rs → (it : Tells rs t) (l r : Option PolyKey) → AreSidesOf lists k t it.left it.right l r → (name : PolyKey) → r ≡ Some name → IsNamedBy t name
  right_named t k rs is it l r (own_sides x y few) name e = named_by t k rs is it.start it.end it.left it.right name (own_has t rs it) (inr (y ∙ e))
  right_named t k rs is it l r (right_half a b x y left right o) name e = named_by t k rs is it.start it.end it.left it.right name (own_has t rs it) (inr (y ∙ sym right ∙ e))
  right_named t k rs is it l r (left_half a b x y left right o) name e =
      let same : Some b ≡ Some name = sym right ∙ e in
      let one : b ≡ name = cc in
      rw (← one) (others_name t k b o)

  -- a chain of the joined map with what it names
  pub record IsKnown (c : MapChain) : Type 0 where
    left : Option PolyKey
    right : Option PolyKey
    sides : AreSides js c left right
    left_by : (name : PolyKey) → left ≡ Some name → IsNamedBy c.tlid name
    right_by : (name : PolyKey) → right ≡ Some name → IsNamedBy c.tlid name
    someone : IsSomeones lists c.tlid

  known_chain : (c : MapChain) → In c m.chains → IsKnown c
  known_chain c has =
      let t = c.tlid in
      let who = someones lists js of draw.no_fault c.tlid (chain_of js m c.tlid c is_map has refl) in
      let by = told_by lists all_fine js of fine who.place who.one who.is c.tlid who.it in
      record {
        left = by.left;
        right = by.right;
        sides = sides_are js c.tlid c by.start by.end by.left by.right (sided_in js m c is_map has) refl by.sides;
        left_by = left_named c.tlid who.place who.one who.is by.own by.left by.right by.how;
        right_by = right_named c.tlid who.place who.one who.is by.own by.left by.right by.how;
        someone = who;
      }

  -- ---- what is told

  part_within : (t : ℕ) (name : PolyKey) → IsNamedBy t name → part_at parts (place_of (keys (polygons_in js)) name) < length parts
  part_within t name by =
      let at = part_is parts ks ks_are keys_distinct by.place by.part name by.part_at_place by.known in
      omega (arith, at, slice_get_within parts by.place by.part by.part_at_place)

  of_parts : (t : ℕ) (side : Side) (name : Option PolyKey) → side ≡ side_of (keys (polygons_in js)) name → ((k : PolyKey) → name ≡ Some k → IsNamedBy t k) → IsOfParts (homes_of parts) (length parts) side
  of_parts t side None is by = rw is tt
  of_parts t side (Some k) is by = rw is (part_within t k (by k refl))

  -- a part that has a chain
  part_has : (k : ℕ) (rs : List Record) (part : TheMap) → slice_get lists k ≡ Some rs → slice_get parts k ≡ Some part → (t : ℕ) → HasChain rs t → has_chain t part ≡ true
  part_has k rs part is at t has = let found = chain_with rs part t (draw.drawn k rs part is at) has in chain_there t part.chains found.one found.has found.tlid

  tells_chain_of : (t : ℕ) (rs : List Record) (it : Tells rs t) → HasChain rs t
  tells_chain_of t rs it =
      let there = (from_passing (is_at (key t 49 0)) rs (Chain t it.from it.to) (one_in _ _ it.chain)).0 in
      (it.from, it.to, contained rs (Chain t it.from it.to) there)

  teller_within : (t : ℕ) → IsSomeones lists t → teller_at parts t < length parts
  teller_within t who =
      let part = part_of who.place who.one who.is in
      let has = part_has who.place who.one part.0 who.is part.1 t (tells_chain_of t who.one who.it) in
      omega (arith, teller_before parts t who.place part.0 part.1 has, slice_get_within parts who.place part.0 part.1)

  is_told : (c : MapChain) → In c m.chains → IsToldByParts (homes_of parts) (length parts) c
  is_told c has =
      let known = known_chain c has in
      record {
        left = of_parts c.tlid c.left known.left known.sides.left known.left_by;
        right = of_parts c.tlid c.right known.right known.sides.right known.right_by;
        blank = λ left right. teller_within c.tlid known.someone;
      }

  -- ---- one part's chains

  module _ (k : ℕ) (rs : List Record) (part : TheMap) (is : slice_get lists k ≡ Some rs) (at : slice_get parts k ≡ Some part) where
    rs_fine : HaveNoFaultButMany rs
    rs_fine = draw.no_fault k rs is

    is_part : IsMapOf rs part
    is_part = draw.drawn k rs part is at

    -- what a part tells has a chain there
    of_name : (t : ℕ) (name : PolyKey) → IsNamedBy t name → is_of (homes_of parts) k (side_of (keys (polygons_in js)) (Some name)) ≡ true → HasTlid part.chains t
    of_name t name by of_it =
        let here = eqb-true (part_at parts (place_of ks name)) k of_it in
        let there = part_is parts ks ks_are keys_distinct by.place by.part name by.part_at_place by.known in
        let place : by.place ≡ k = sym there ∙ here in
        let found : Some by.list ≡ Some rs = sym by.is ∙ ap (slice_get lists) place ∙ is in
        let one : by.list ≡ rs = cc in
        let has : HasChain rs t = rw one at by.chain in
        let chain = chain_with rs part t is_part has in
        record { one = chain.one; has = chain.has; tlid = chain.tlid }

    of_side : (t : ℕ) (side : Side) (name : Option PolyKey) → side ≡ side_of (keys (polygons_in js)) name → ((j : PolyKey) → name ≡ Some j → IsNamedBy t j)
        → is_of (homes_of parts) k side ≡ true → HasTlid part.chains t
    of_side t side None side_is by of_it = absurd (true≢false (sym of_it ∙ ap (is_of (homes_of parts) k) side_is))
    of_side t side (Some j) side_is by of_it = of_name t j (by j refl) (ap (is_of (homes_of parts) k) (sym side_is) ∙ of_it)

    of_teller : (t : ℕ) → teller_at parts t ≡ k → HasTlid part.chains t
    of_teller t same =
        let within = slice_get_within parts k part at in
        let found = found_teller parts t (omega (arith, same, within)) in
        let both : Some found.0 ≡ Some part = sym found.1 ∙ ap (slice_get parts) same ∙ at in
        let one : found.0 ≡ part = cc in
        let has : has_chain t part ≡ true = rw one at found.2 in
        let chain = some_chain t part.chains has in
        record { one = chain.0; has = chain.1; tlid = chain.2 }

    data TellsHow (c : MapChain) : Type 0 where
      by_left : is_of (homes_of parts) k c.left ≡ true → TellsHow c
      by_right : is_of (homes_of parts) k c.right ≡ true → TellsHow c
      by_teller : teller_at parts c.tlid ≡ k → TellsHow c

    how_told : (c : MapChain) → tells (homes_of parts) k c ≡ true → TellsHow c
    how_told c told_is = go (is_of (homes_of parts) k c.left) (is_of (homes_of parts) k c.right) (is_blank c.left) (is_blank c.right) refl refl told_is
      where
        go : (l r a b : Bool) → is_of (homes_of parts) k c.left ≡ l → is_of (homes_of parts) k c.right ≡ r → (l || (r || (a && (b && eqb (teller_at parts c.tlid) k)))) ≡ true → TellsHow c
        go true r a b left right so = by_left left
        go false true a b left right so = by_right right
        go false false true true left right so = by_teller (eqb-true (teller_at parts c.tlid) k so)
        go false false true false left right so = absurd (true≢false (sym so))
        go false false false b left right so = absurd (true≢false (sym so))

    need : (c : MapChain) → In c m.chains → tells (homes_of parts) k c ≡ true → HasTlid part.chains c.tlid
    need c has told_is = go (known_chain c has) (how_told c told_is)
      where
        go : IsKnown c → TellsHow c → HasTlid part.chains c.tlid
        go known (by_left of_it) = of_side c.tlid c.left known.left known.sides.left known.left_by of_it
        go known (by_right of_it) = of_side c.tlid c.right known.right known.sides.right known.right_by of_it
        go known (by_teller same) = of_teller c.tlid same

    -- and each chain that is there is told
    own_known : (t : ℕ) (it : Tells rs t) (name : PolyKey) → (it.left ≡ Some name) ⊎ (it.right ≡ Some name) → In name (keys part.polygons)
    own_known t it name names = known_in k rs part is at name (names_known rs rs_fine t it.start it.end it.left it.right name (own_has t rs it) names)

    pub record IsNamedThere (c o : MapChain) : Type 0 where
      left : o.left ≡ own (homes_of parts) k c.left
      right : o.right ≡ own (homes_of parts) k c.right
      told_is : tells (homes_of parts) k c ≡ true

    tells_left : (c : MapChain) → is_of (homes_of parts) k c.left ≡ true → tells (homes_of parts) k c ≡ true
    tells_left c of_it = rw of_it refl

    tells_right : (c : MapChain) → is_of (homes_of parts) k c.right ≡ true → tells (homes_of parts) k c ≡ true
    tells_right c of_it = rw of_it (either (is_of (homes_of parts) k c.left))
      where
        either : (b : Bool) → (b || true) ≡ true
        either true = refl
        either false = refl

    tells_blank : (c : MapChain) → c.left ≡ Outside → c.right ≡ Outside → teller_at parts c.tlid ≡ k → tells (homes_of parts) k c ≡ true
    tells_blank c left right same = rw (left, right) (eq-eqb (teller_at parts c.tlid) k same)

    -- a side that the part names itself
    own_named : (side own_is : Side) (name : PolyKey) → side ≡ side_of (keys (polygons_in js)) (Some name) → own_is ≡ side_of (keys (polygons_in rs)) (Some name) → In name (keys part.polygons)
        → (own_is ≡ own (homes_of parts) k side) × (is_of (homes_of parts) k side ≡ true)
    own_named side own_is name side_is it known = (
      it ∙ ap (λ (ps : List Polygon). side_of (keys ps) (Some name)) (sym is_part.polygons) ∙ sym (own_side parts ks ks_are keys_distinct k part name at known) ∙ ap (own (homes_of parts) k) (sym side_is),
      ap (is_of (homes_of parts) k) side_is ∙ is_own parts ks ks_are keys_distinct k part name at known,
    )

    -- one that another part names
    others_named : (side own_is : Side) (t : ℕ) (name : PolyKey) → side ≡ side_of (keys (polygons_in js)) (Some name) → own_is ≡ Outside → (by : IsNamedBy t name) → (by.place ≡ k → ⊥)
        → own_is ≡ own (homes_of parts) k side
    others_named side own_is t name side_is it by apart =
        it ∙ sym (other_side parts ks ks_are keys_distinct k by.place by.part name apart by.part_at_place by.known) ∙ ap (own (homes_of parts) k) (sym side_is)

    -- a list's sides are those of the joined records: who tells the chain is found by what it names
    teller_is : (o : MapChain) → In o part.chains → (t : ℕ) → o.tlid ≡ t → (it : Tells rs t) → chains t (all_records lists) ≤ 1 → teller_at parts t ≡ k
    teller_is o has t same it few =
        let here : has_chain t part ≡ true = chain_there t part.chains o has same in
        let before = teller_before parts t k part at here in
        let within = slice_get_within parts k part at in
        elim (cases_lt (teller_at parts t) k) [
          | inl earlier ↦
              let found = found_teller parts t (omega (arith, earlier, within)) in
              let list = list_of (teller_at parts t) found.0 found.1 in
              let chain = some_chain t found.0.chains found.2 in
              let other = tells_of list.0 (draw.no_fault (teller_at parts t) list.0 list.1) t
              (chain_of list.0 found.0 t chain.0 (draw.drawn (teller_at parts t) list.0 found.0 list.1 found.1) chain.1 chain.2) in
              absurd (omega (arith, few, tells_once rs t it, tells_once list.0 t other, two_here t lists (teller_at parts t) k list.0 rs earlier list.1 is))
          | inr not_earlier ↦ omega (arith, before, not_earlier)
        ]

    named_there : (c o : MapChain) → In o part.chains → c.tlid ≡ o.tlid → (it : Tells rs o.tlid) (l r : Option PolyKey) → AreSides js c l r → AreSides rs o it.left it.right
        → AreSidesOf lists k o.tlid it.left it.right l r → IsNamedThere c o
    named_there c o has same it l r sides own_sides_are (own_sides x y few) = go it.left it.right x y own_sides_are.left own_sides_are.right (λ name e. own_known o.tlid it name (inl e)) (λ name e. own_known o.tlid it name (inr e))
      where
        go : (a b : Option PolyKey) → a ≡ l → b ≡ r → o.left ≡ side_of (keys (polygons_in rs)) a → o.right ≡ side_of (keys (polygons_in rs)) b
            → ((name : PolyKey) → a ≡ Some name → In name (keys part.polygons)) → ((name : PolyKey) → b ≡ Some name → In name (keys part.polygons)) → IsNamedThere c o
        go None None x y left right left_known right_known =
            let c_left : c.left ≡ Outside = sides.left ∙ ap (side_of ks) (sym x) in
            let c_right : c.right ≡ Outside = sides.right ∙ ap (side_of ks) (sym y) in
            record {
              left = left ∙ ap (own (homes_of parts) k) (sym c_left);
              right = right ∙ ap (own (homes_of parts) k) (sym c_right);
              told_is = tells_blank c c_left c_right (ap (teller_at parts) same ∙ teller_is o has o.tlid refl it few);
            }
        go (Some a) None x y left right left_known right_known =
            let c_right : c.right ≡ Outside = sides.right ∙ ap (side_of ks) (sym y) in
            let named = own_named c.left o.left a (sides.left ∙ ap (side_of ks) (sym x)) left (left_known a refl) in
            record { left = named.0; right = right ∙ ap (own (homes_of parts) k) (sym c_right); told_is = tells_left c named.1 }
        go None (Some b) x y left right left_known right_known =
            let c_left : c.left ≡ Outside = sides.left ∙ ap (side_of ks) (sym x) in
            let named = own_named c.right o.right b (sides.right ∙ ap (side_of ks) (sym y)) right (right_known b refl) in
            record { left = left ∙ ap (own (homes_of parts) k) (sym c_left); right = named.0; told_is = tells_right c named.1 }
        go (Some a) (Some b) x y left right left_known right_known =
            let named = own_named c.left o.left a (sides.left ∙ ap (side_of ks) (sym x)) left (left_known a refl) in
            let other = own_named c.right o.right b (sides.right ∙ ap (side_of ks) (sym y)) right (right_known b refl) in
            record { left = named.0; right = other.0; told_is = tells_left c named.1 }
    named_there c o has same it l r sides own_sides_are (left_half a b x y left right others) =
        let named = own_named c.left o.left a (sides.left ∙ ap (side_of ks) left) (own_sides_are.left ∙ ap (side_of (keys (polygons_in rs))) x) (own_known o.tlid it a (inl x)) in
        record {
          left = named.0;
          right = others_named c.right o.right o.tlid b (sides.right ∙ ap (side_of ks) right) (own_sides_are.right ∙ ap (side_of (keys (polygons_in rs))) y) (others_name o.tlid k b others) others.apart;
          told_is = tells_left c named.1;
        }
    named_there c o has same it l r sides own_sides_are (right_half a b x y left right others) =
        let named = own_named c.right o.right b (sides.right ∙ ap (side_of ks) right) (own_sides_are.right ∙ ap (side_of (keys (polygons_in rs))) y) (own_known o.tlid it b (inr y)) in
        record {
          left = others_named c.left o.left o.tlid a (sides.left ∙ ap (side_of ks) left) (own_sides_are.left ∙ ap (side_of (keys (polygons_in rs))) x) (others_name o.tlid k a others) others.apart;
          right = named.0;
          told_is = tells_right c named.1;
        }

    have : (o : MapChain) → In o part.chains → HasNamed (own (homes_of parts) k) (tells (homes_of parts) k) m.chains o
    have o has =
        let drawn = drawn_in rs part o is_part has in
        let by = told_by lists all_fine js of fine k rs is o.tlid (tells_of rs rs_fine o.tlid (drawn.from, drawn.to, drawn.record_of_it)) in
        let there : In (Chain o.tlid drawn.from drawn.to) (told (key o.tlid 49 0) rs) = at_chain rs o.tlid drawn.from drawn.to (from_contained rs (Chain o.tlid drawn.from drawn.to) drawn.record_of_it) in
        let here : In (Chain o.tlid drawn.from drawn.to) (told (key o.tlid 49 0) js) = rw by.chain there in
        let in_joined = (from_passing (is_at (key o.tlid 49 0)) js (Chain o.tlid drawn.from drawn.to) here).0 in
        let found = chain_with js m o.tlid is_map (drawn.from, drawn.to, contained js (Chain o.tlid drawn.from drawn.to) in_joined) in
        let names = named_there found.one o has found.tlid by.own by.left by.right
        (sides_are js o.tlid found.one by.start by.end by.left by.right (sided_in js m found.one is_map found.has) found.tlid by.sides)
        (sides_are rs o.tlid o by.own.start by.own.end by.own.left by.own.right (sided_in rs part o is_part has) refl by.own.sides) by.how in
        record {
          chain = found.one;
          has = found.has;
          told_is = names.told_is;
          named = record {
            tlid = sym {a = found.one.tlid} found.tlid;
            points = same_points js rs o.tlid found.one o found.tlid refl (drawn_in js m found.one is_map found.has) drawn by.chain by.pairs by.own;
            left = names.left;
            right = names.right;
          };
        }

    part_told : AreTold (own (homes_of parts) k) (tells (homes_of parts) k) m.chains part.chains
    part_told =
        told_from (own (homes_of parts) k) (tells (homes_of parts) k) m.chains part.chains (rising_chains m.chains is_map.chains.rising) (rising_chains part.chains is_part.chains.rising) have need

  polygons_all : m.polygons ≡ polygons_of parts
  polygons_all = is_map.polygons ∙ joined_polygons

  pub is_joined : IsJoined (homes_of parts) parts m
  is_joined = record {
    apart = homes_apart parts;
    each = λ k part at. let list = list_of k part at in part_told k list.0 part list.1 at;
    told = λ c chain at. is_told chain (from_place m.chains c chain at);
    known = λ k p part polygon at there.
        let place = has_place parts k p part polygon at there in
        record { place = place.place; is = ap (λ (ps : List Polygon). slice_get ps place.place) polygons_all ∙ place.is; part = place.part; number = place.number };
    no_other = λ p polygon at.
        let home = has_home parts p polygon (ap (λ (ps : List Polygon). slice_get ps p) (sym polygons_all) ∙ at) in
        record { part = home.part; is = home.is; polygon_is = home.polygon_is };
  }
