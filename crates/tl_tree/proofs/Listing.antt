-- Lists of trees that a tree is searched against.
use Rattle.std.proofs.Common.{◌≡◌, ℕ, ◌+◌, ◌<◌, ◌≤◌, Bool, true, false, List, [], ◌∷◌, ◌++◌, length, drop, get_or, take, Option, Some, None, refl, sym, ap, subst, ◌∙◌, arith}
use Rattle.tl_geom.specs.declared.rect.Rect.{Rect}
use Rattle.std.proofs.lemmas.List.{at_drop_more}
use Rattle.tl_geom.specs.Rectangle.{AreMeeting, Covers}
use Rattle.tl_tree.specs.declared.walk.Tree.{Tree}
use Rattle.tl_tree.specs.declared.walk.Below.{Below}
use Rattle.tl_tree.specs.declared.walk.Below.TheVariants.{Items, Children}
use Rattle.tl_tree_index.specs.Pairs.{meeting, cross_sum, AllRow, AllCross, AreToldApart}
use Rattle.tl_tree_index.specs.Fits.{AreBelow, CoversAll}
use Rattle.tl_tree_index.specs.Trees.{Forest}
use Rattle.tl_tree.specs.Keeping.Listing.{first_items, listed_items, AllSound, IsFirst, StandsFor, StandsForItems, AreListed, MayList, AreListedItems, MayListItems}
use Rattle.tl_tree.specs.Keeping.Walking.{followed, items_below, AreSound, IsSound}
use Rattle.tl_tree.proofs.Apart.{cross-apart, cross-free}
use Rattle.tl_tree.proofs.PairLemmas.{cross-nil, cross-append_right, all_cross-nil, all_cross-join}
use Rattle.tl_tree.proofs.PairTests.{KeepsLaw}

-- by whether a test holds
pub by_Bool : {P : Type 0} (t : Bool) → (t ≡ true → P) → (t ≡ false → P) → P
by_Bool true f g = f refl
by_Bool false f g = g refl

module _ (P : ℕ → ℕ → Type 0) where
  all_row-parts : (x : ℕ) (ys zs : List ℕ) → AllRow P x (ys ++ zs) → AllRow P x ys × AllRow P x zs
  all_row-parts x [] zs h = (tt, h)
  all_row-parts x (y ∷ ys) zs h = let k = all_row-parts x ys zs h.1 in ((h.0, k.0), k.1)

  pub all_cross-parts : (xs ys zs : List ℕ) → AllCross P xs (ys ++ zs) → AllCross P xs ys × AllCross P xs zs
  all_cross-parts [] ys zs h = (tt, tt)
  all_cross-parts (x ∷ xs) ys zs h =
      let r = all_row-parts x ys zs h.0 in
      let k = all_cross-parts xs ys zs h.1 in
      ((r.0, k.0), (r.1, k.1))

module _ {W : Type 0} (see : W → Forest) where
  first-followed : (r : Rect) (t : Below W) (others : Forest) → first_items (followed see r t others) ≡ items_below see t
  first-followed r (Items xs) others = refl
  first-followed r (Children w) others = refl

  -- the items of the first tree
  pub first-items-of : (f : Forest) (t : Tree W) (others : Forest) → f ≡ followed see t.rect t.below others → first_items f ≡ items_below see t.below
  first-items-of f t others e = ap first_items e ∙ first-followed t.rect t.below others

  cross-more : (f : ℕ → ℕ → ℕ) (xs : List ℕ) (ws : List W) (w : W) → cross_sum f xs (listed_items see (ws ++ w ∷ [])) ≡ cross_sum f xs (listed_items see ws) + cross_sum f xs (first_items (see w))
  cross-more f xs [] w = omega (arith, cross-append_right f xs (first_items (see w)) [], cross-nil f xs)
  cross-more f xs (v ∷ ws) w =
      omega (arith, cross-append_right f xs (first_items (see v)) (listed_items see (ws ++ w ∷ [])), cross-append_right f xs (first_items (see v)) (listed_items see ws), cross-more f xs ws w)

  all-more : (P : ℕ → ℕ → Type 0) (xs : List ℕ) (ws : List W) (w : W) → AllCross P xs (listed_items see (ws ++ w ∷ [])) → AllCross P xs (listed_items see ws) × AllCross P xs (first_items (see w))
  all-more P xs [] w h = (all_cross-nil P xs, (all_cross-parts P xs (first_items (see w)) [] h).0)
  all-more P xs (v ∷ ws) w h =
      let k = all_cross-parts P xs (first_items (see v)) (listed_items see (ws ++ w ∷ [])) h in
      let m = all-more P xs ws w k.1 in
      (all_cross-join P xs (first_items (see v)) (listed_items see ws) k.0 m.0, m.1)

  sound-more : (n : ℕ) (b : ℕ → Rect) (ws : List W) (w : W) → AreSound n b (see w) → AllSound n b see ws → AllSound n b see (ws ++ w ∷ [])
  sound-more n b [] w h k = (h, tt)
  sound-more n b (v ∷ ws) w h k = (k.0, sound-more n b ws w h k.1)

  module _ {C : Type 0} (n : ℕ) (b : ℕ → Rect) (tells : ℕ → ℕ → Option C → Type 0) (xs : List ℕ) where
    -- a tree is listed
    pub one-listed : (old : List W) (at : W) (first : Tree W) → IsFirst see first (see at) → AreSound n b (see at) → StandsFor n b tells see xs old (items_below see first.below) (old ++ at ∷ [])
    one-listed old at first h k =
        let e = first-items-of (see at) first h.others h.split in
        let P : List ℕ → Type 0 = AllCross (AreToldApart tells) xs in
        record {
          sum = omega (arith, cross-more (meeting b) xs old at, ap (cross_sum (meeting b) xs) e);
          most = λ f. omega (arith, cross-more f xs old at, ap (cross_sum f xs) e);
          free = λ f. let m = all-more (AreToldApart tells) xs old at f in (m.0, subst P e m.1);
          sound = sound-more n b old at k;
        }

    -- a tree whose rectangle doesn't meet that of the searched one isn't
    pub one-apart : KeepsLaw tells n b → (old : List W) (tree first : Tree W) → xs ≡ items_below see tree.below → IsSound n b see tree → IsSound n b see first → (AreMeeting first.rect tree.rect → ⊥) → StandsFor n b tells see xs old (items_below see first.below) old
    one-apart law old tree first same s k ne =
        let ys = items_below see first.below in
        let no : AreMeeting tree.rect first.rect → ⊥ = λ m. ne (record { point = m.point; in_first = m.in_second; in_second = m.in_first }) in
        let e = cross-apart b tree.rect first.rect (items_below see tree.below) ys no s.covers k.covers in
        let f = cross-free b n tells law tree.rect first.rect (items_below see tree.below) ys no s.known k.known s.covers k.covers in
        let P : List ℕ → Type 0 = λ zs. AllCross (AreToldApart tells) zs ys in
        record {
          sum = omega (arith, e, ap (λ zs. cross_sum (meeting b) zs ys) same);
          most = λ f. omega arith;
          free = λ h. (h, subst P (sym same) f);
          sound = λ h. h;
        }

    -- nothing is to be listed
    pub none-listed : (old : List W) (more : List ℕ) → more ≡ [] → StandsFor n b tells see xs old more old
    none-listed old more e =
        let P : List ℕ → Type 0 = AllCross (AreToldApart tells) xs in
        record {
          sum = omega (arith, cross-nil (meeting b) xs, ap (cross_sum (meeting b) xs) e);
          most = λ f. omega arith;
          free = λ h. (h, subst P (sym e) (all_cross-nil (AreToldApart tells) xs));
          sound = λ h. h;
        }

    -- one after the other
    pub both-listed : (old mid new : List W) (ys zs more : List ℕ) → more ≡ ys ++ zs → StandsFor n b tells see xs old ys mid → StandsFor n b tells see xs mid zs new → StandsFor n b tells see xs old more new
    both-listed old mid new ys zs more e h k =
        let P : List ℕ → Type 0 = AllCross (AreToldApart tells) xs in
        record {
          sum = omega (arith, h.sum, k.sum, ap (cross_sum (meeting b) xs) e, cross-append_right (meeting b) xs ys zs);
          most = λ f. omega (arith, h.most f, k.most f, ap (cross_sum f xs) e, cross-append_right f xs ys zs);
          free = λ f. let m = k.free f in let l = h.free m.0 in (l.0, subst P (sym e) (all_cross-join (AreToldApart tells) xs ys zs l.1 m.1));
          sound = λ s. k.sound (h.sound s);
        }

  module _ {C : Type 0} (n : ℕ) (b : ℕ → Rect) (tells : ℕ → ℕ → Option C → Type 0) (xs : List ℕ) where
    -- some were listed, and then others
    pub then-listed : (first old mid new : List W) (m : ℕ) (ys zs more : List ℕ) (r : Option ℕ) → more ≡ ys ++ zs → AreListed n b tells see xs first old ys mid m → MayList n b tells see xs (take m mid) mid zs new r → MayList n b tells see xs first old more new r
    then-listed first old mid new m ys zs more None e h k = k ∙ h.complete
    then-listed first old mid new m ys zs more (Some o) e h k =
        record { complete = k.complete ∙ h.complete; fits = omega (arith, k.fits, h.complete); listed = both-listed n b tells xs first (take m mid) (take o new) ys zs more e h.listed k.listed }

-- the items of no listed tree
pub listed-none : {W : Type 0} (see : W → Forest) (ws : List W) → length ws ≡ 0 → listed_items see ws ≡ []
listed-none see [] e = refl
listed-none see (w ∷ ws) e = absurd (omega (arith, e))

-- two lists before another
pub all_cross-append : (P : ℕ → ℕ → Type 0) (xs ys zs : List ℕ) → AllCross P xs zs → AllCross P ys zs → AllCross P (xs ++ ys) zs
all_cross-append P [] ys zs h k = k
all_cross-append P (x ∷ xs) ys zs h k = (h.0, all_cross-append P xs ys zs h.1 k)

-- ---- items that are listed

-- what is known where one more item was listed or passed over
pub record Lists {C : Type 0} (n : ℕ) (b : ℕ → Rect) (tells : ℕ → ℕ → Option C → Type 0) (xs : List ℕ) (y : ℕ) (old new : List ℕ) : Type 0 where
  pub sum : cross_sum (meeting b) xs new ≡ cross_sum (meeting b) xs old + cross_sum (meeting b) xs (y ∷ [])
  pub most : (f : ℕ → ℕ → ℕ) → cross_sum f xs new ≤ cross_sum f xs old + cross_sum f xs (y ∷ [])
  pub free : AllCross (AreToldApart tells) xs new → AllCross (AreToldApart tells) xs old × AllCross (AreToldApart tells) xs (y ∷ [])
  pub known : AreBelow n old → AreBelow n new

below-more : (n : ℕ) (ys : List ℕ) (y : ℕ) → y < n → AreBelow n ys → AreBelow n (ys ++ y ∷ [])
below-more n [] y h k = (h, tt)
below-more n (x ∷ ys) y h k = (k.0, below-more n ys y h k.1)

covers-self : (r : Rect) → Covers r r
covers-self r p h = h

module _ {C : Type 0} (n : ℕ) (b : ℕ → Rect) (tells : ℕ → ℕ → Option C → Type 0) (xs : List ℕ) where
  pub item-listed : (old : List ℕ) (y : ℕ) → y < n → Lists n b tells xs y old (old ++ y ∷ [])
  item-listed old y h =
      record {
        sum = cross-append_right (meeting b) xs old (y ∷ []);
        most = λ f. omega (arith, cross-append_right f xs old (y ∷ []));
        free = all_cross-parts (AreToldApart tells) xs old (y ∷ []);
        known = below-more n old y h;
      }

  pub item-apart : KeepsLaw tells n b → (around : Rect) → CoversAll b around xs → AreBelow n xs → (old : List ℕ) (y : ℕ) → y < n → (AreMeeting (b y) around → ⊥) → Lists n b tells xs y old old
  item-apart law around covers below old y h ne =
      let no : AreMeeting around (b y) → ⊥ = λ m. ne (record { point = m.point; in_first = m.in_second; in_second = m.in_first }) in
      let e = cross-apart b around (b y) xs (y ∷ []) no covers (covers-self (b y), tt) in
      record {
        sum = omega (arith, e);
        most = λ f. omega arith;
        free = λ f. (f, cross-free b n tells law around (b y) xs (y ∷ []) no below (h, tt) covers (covers-self (b y), tt));
        known = λ k. k;
      }

  -- a step of a loop over others
  pub item-sum : (others : List ℕ) (k : ℕ) → k < length others → cross_sum (meeting b) xs (drop k others) ≡ cross_sum (meeting b) xs (get_or others k 0 ∷ []) + cross_sum (meeting b) xs (drop (k + 1) others)
  item-sum others k h =
      let e = at_drop_more (λ (zs : List ℕ). cross_sum (meeting b) xs zs) others k 0 h in
      omega (arith, e, cross-append_right (meeting b) xs (get_or others k 0 ∷ []) (drop (k + 1) others))

  pub item-most : (f : ℕ → ℕ → ℕ) (others : List ℕ) (k : ℕ) → k < length others → cross_sum f xs (drop k others) ≡ cross_sum f xs (get_or others k 0 ∷ []) + cross_sum f xs (drop (k + 1) others)
  item-most f others k h =
      let e = at_drop_more (λ (zs : List ℕ). cross_sum f xs zs) others k 0 h in
      omega (arith, e, cross-append_right f xs (get_or others k 0 ∷ []) (drop (k + 1) others))

  pub item-free : (others : List ℕ) (k : ℕ) → k < length others → AllCross (AreToldApart tells) xs (get_or others k 0 ∷ []) → AllCross (AreToldApart tells) xs (drop (k + 1) others) → AllCross (AreToldApart tells) xs (drop k others)
  item-free others k h p q =
      let e = at_drop_more (λ (zs : List ℕ). zs) others k 0 h in
      let P : List ℕ → Type 0 = AllCross (AreToldApart tells) xs in
      subst P (sym e) (all_cross-join (AreToldApart tells) xs (get_or others k 0 ∷ []) (drop (k + 1) others) p q)

  -- nothing is to be listed
  pub none-items : (old more : List ℕ) → more ≡ [] → StandsForItems n b tells xs old more old
  none-items old more e =
      let P : List ℕ → Type 0 = AllCross (AreToldApart tells) xs in
      record {
        sum = omega (arith, cross-nil (meeting b) xs, ap (cross_sum (meeting b) xs) e);
        most = λ f. omega arith;
        free = λ h. (h, subst P (sym e) (all_cross-nil (AreToldApart tells) xs));
        known = λ k. k;
      }

  -- the items of a tree whose rectangle doesn't meet the one around those of xs aren't listed
  pub items-apart : KeepsLaw tells n b → (around rect : Rect) → CoversAll b around xs → AreBelow n xs → (old ys : List ℕ) → CoversAll b rect ys → AreBelow n ys → (AreMeeting around rect → ⊥) → StandsForItems n b tells xs old ys old
  items-apart law around rect covers below old ys h k ne =
      let e = cross-apart b around rect xs ys ne covers h in
      record {
        sum = omega (arith, e);
        most = λ f. omega arith;
        free = λ f. (f, cross-free b n tells law around rect xs ys ne below k covers h);
        known = λ m. m;
      }

  -- some items were listed, and then others
  pub both-items : (old mid new ys zs more : List ℕ) → more ≡ ys ++ zs → StandsForItems n b tells xs old ys mid → StandsForItems n b tells xs mid zs new → StandsForItems n b tells xs old more new
  both-items old mid new ys zs more e h k =
      let P : List ℕ → Type 0 = AllCross (AreToldApart tells) xs in
      record {
        sum = omega (arith, h.sum, k.sum, ap (cross_sum (meeting b) xs) e, cross-append_right (meeting b) xs ys zs);
        most = λ f. omega (arith, h.most f, k.most f, ap (cross_sum f xs) e, cross-append_right f xs ys zs);
        free = λ f. let m = k.free f in let l = h.free m.0 in (l.0, subst P (sym e) (all_cross-join (AreToldApart tells) xs ys zs l.1 m.1));
        known = λ m. k.known (h.known m);
      }

  pub then-items : (first old mid new : List ℕ) (m : ℕ) (ys zs more : List ℕ) (r : Option ℕ) → more ≡ ys ++ zs → AreListedItems n b tells xs first old ys mid m → MayListItems n b tells xs (take m mid) mid zs new r → MayListItems n b tells xs first old more new r
  then-items first old mid new m ys zs more None e h k = k ∙ h.complete
  then-items first old mid new m ys zs more (Some o) e h k =
      record { complete = k.complete ∙ h.complete; fits = omega (arith, k.fits, h.complete); listed = both-items first (take m mid) (take o new) ys zs more e h.listed k.listed }
