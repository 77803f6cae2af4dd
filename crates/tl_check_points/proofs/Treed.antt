-- Ways in the tree of gaps.
use Rattle.std.proofs.Common.{◌≡◌, ℕ, zero, suc, ◌<◌, Some, List, [], ◌∷◌, ◌++◌, length, refl, sym, ap, ap₂, subst, ◌∙◌, arith}
use Rattle.std.specs.Prelude.{slice_get}
use Rattle.tl_check_planar.specs.Keeping.Apart.{one_found}
use Rattle.tl_check_inside.specs.declared.flanks.Flanks.{Flanks}
use Rattle.tl_check_points.specs.declared.labels.Gap.{Gap}
use Rattle.tl_check_points.specs.Keeping.Balances.{AreAmong, HaveOneBalance}
use Rattle.tl_check_points.specs.Keeping.Ways.{IsWay, TellGap, AreKept}
use Rattle.tl_check_points.proofs.Balances.{balance_by, balance_more}

pub one_way : (n : ℕ) (gaps : List Gap) (g : ℕ) (one other : List Flanks) → IsWay n gaps g one → IsWay n gaps g other → one ≡ other
one_way n gaps g [] [] a b = refl
one_way n gaps g [] (f ∷ other) a b = absurd (let lower = b.0.lower in omega (arith, a, lower))
one_way n gaps g (f ∷ one) [] a b = absurd (let lower = a.0.lower in omega (arith, b, lower))
one_way n gaps g (f ∷ one) (f' ∷ other) a b =
    let same : a.0.gap ≡ b.0.gap = one_found a.0.gap b.0.gap (slice_get gaps g) a.0.is b.0.is in
    ap₂ (λ x xs. x ∷ xs) (sym a.0.flanks_are ∙ ap (λ (x : Gap). x.flanks) same ∙ b.0.flanks_are)
    (one_way n gaps b.0.gap.parent one other (subst (λ (p : ℕ). IsWay n gaps p one) (ap (λ (x : Gap). x.parent) same) a.1) b.1)

pub found_more : {X : Type 0} (xs ys : List X) (k : ℕ) (x : X) → slice_get xs k ≡ Some x → slice_get (xs ++ ys) k ≡ Some x
found_more [] ys k x e = absurd (cc)
found_more (y ∷ xs) ys zero x e = e
found_more (y ∷ xs) ys (suc k) x e = found_more xs ys k x e

pub found_last : {X : Type 0} (xs : List X) (x : X) → slice_get (xs ++ x ∷ []) (length xs) ≡ Some x
found_last [] x = refl
found_last (y ∷ xs) x = found_last xs x

-- a way stays as it is where more gaps are made
pub kept_more : (n : ℕ) (gaps more : List Gap) → AreKept n gaps (gaps ++ more)
kept_more n gaps more g [] way = way
kept_more n gaps more g (f ∷ rest) way = (
  record { gap = way.0.gap; is = found_more gaps more g way.0.gap way.0.is; flanks_are = way.0.flanks_are; lower = way.0.lower; among = way.0.among },
  kept_more n gaps more way.0.gap.parent rest way.1,
)

pub kept_none : (n : ℕ) (gaps : List Gap) → AreKept n gaps gaps
kept_none n gaps g way is = is

pub kept_on : (n : ℕ) (a b c : List Gap) → AreKept n a b → AreKept n b c → AreKept n a c
kept_on n a b c one other g way is = other g way (one g way is)

pub still_told : (n : ℕ) (old new : List Gap) (g : ℕ) (flanks : List Flanks) → AreKept n old new → TellGap n old g flanks → TellGap n new g flanks
still_told n old new g flanks kept told = record { way = told.way; is = kept g told.way told.is; one = told.one }

pub told_by : (n : ℕ) (gaps : List Gap) (g : ℕ) (a b : List Flanks) → HaveOneBalance a b → TellGap n gaps g a → TellGap n gaps g b
told_by n gaps g a b one told = record { way = told.way; is = told.is; one = balance_by told.way a b told.one one }

-- the outside is told by nothing
pub told_none : (n : ℕ) (gaps : List Gap) → TellGap n gaps 0 []
told_none n gaps = record { way = []; is = refl; one = λ S none. omega arith }

-- a gap that is made on the west of a segment
pub told_more : (n : ℕ) (gaps new : List Gap) (gap : Gap) (g : ℕ) (flanks : List Flanks) → new ≡ gaps ++ gap ∷ [] → g ≡ length gaps →
    gap.parent < length gaps → AreAmong n gap.flanks → TellGap n gaps gap.parent flanks → TellGap n new g (gap.flanks ∷ flanks)
told_more n gaps new gap g flanks pushed at lower among told =
    subst (λ xs. TellGap n xs g (gap.flanks ∷ flanks)) (sym pushed)
    (subst (λ k. TellGap n (gaps ++ gap ∷ []) k (gap.flanks ∷ flanks)) (sym at)
    (record {
      way = gap.flanks ∷ told.way;
      is = (
        record { gap = gap; is = found_last gaps gap; flanks_are = refl; lower = lower; among = among },
        kept_more n gaps (gap ∷ []) gap.parent told.way told.is,
      );
      one = balance_more gap.flanks told.way flanks told.one;
    }))
