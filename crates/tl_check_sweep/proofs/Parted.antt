-- The part of a map that has no chain.
use Rattle.std.proofs.Common.{◌≡◌, ◌⊎◌, ⊎_elim, inl, ℕ, ◌<◌, All, Contains, Bool, true, false, None, Some, List, [], ◌∷◌, length, replicate, refl, sym, ap, subst, ◌∙◌}
use Rattle.std.specs.Prelude.{slice_index_or, Vec}
use Rattle.std.proofs.lemmas.Option.{slice_get_within}
use Rattle.tl_check_inside.specs.Suspects.{AreSuspects}
use Rattle.std.specs.Global.{Global}
use Rattle.std.proofs.lemmas.List.{length-replicate}
use Rattle.tl_map_county.specs.TheMap.{TheMap, MapChain}
use Rattle.tl_map_county.specs.Remaining.{remaining, map_without}
use Rattle.tl_check_planar.specs.Planar.{IsPlanar}
use Rattle.tl_check_sweep.specs.Parts.{IsPlanarPart}

all_gone : (chains : List MapChain) → remaining (replicate (length chains) true) chains ≡ []
all_gone [] = refl
all_gone (c ∷ chains) = all_gone chains

none_planar : IsPlanar []
none_planar = record {
  apart = λ c d one other differ at. absurd (let e : None ≡ Some one = at in cc);
  simple = λ c chain at. absurd (let e : None ≡ Some chain = at in cc);
}

pub none_long : {n m : ℕ} → n ≡ m → replicate n true ≡ replicate m true
none_long e = ap (λ k. replicate k true) e

-- all polygons are listed, since none has a mark
pub all_suspected : (m : TheMap) (suspects : List ℕ) → All (λ p. p < length m.polygons) suspects
    → ((p : ℕ) → p < length m.polygons → Contains suspects p ⊎ (slice_index_or [] p false ≡ true)) → AreSuspects m suspects
all_suspected m suspects known others = record {
  known = known;
  others = λ p polygon is. ⊎_elim (λ listed. inl listed) (λ marked. absurd (let h : false ≡ true = marked in cc)) (others p (slice_get_within m.polygons p polygon is));
}

pub none_remain : (m : TheMap) (items : List Bool) (marks : Vec Bool Global) (rest : TheMap) (suspects : Vec ℕ Global) → marks.items ≡ replicate (length m.chains) true
    → rest ≡ map_without marks.items m → AreSuspects rest suspects.items → IsPlanarPart m (record { marks = marks; map = rest; suspects = suspects })
none_remain m items marks rest suspects all is listed = record {
  long = ap length all ∙ length-replicate (length m.chains) true;
  is = is;
  planar = subst IsPlanar (sym (ap (λ (x : TheMap). x.chains) is ∙ ap (λ ms. remaining ms m.chains) all ∙ all_gone m.chains)) none_planar;
  suspects = listed;
}
