-- Keys of polygons are one by what they say.
use Rattle.std.proofs.Common.{◌≡◌, Bool, true, false, eqb, ◌&&◌, refl, sym}
use Rattle.std.specs.Prelude.{nat_eq}
use Rattle.std.specs.Cmp.Lexicographic.{pointwise, same_text, nat_list_eq_equiv}
use Rattle.std.proofs.lemmas.Bool.{eq-eqb, eqb-true}
use Rattle.tl_record_key.specs.declared.key.PolyKey.{PolyKey}
use Rattle.tl_map_rules.specs.MapOf.{same_key}

pub key_is : (k l : PolyKey) → k.cenid ≡ l.cenid → k.polyid ≡ l.polyid → k ≡ l
key_is k l a b = λ i. record { cenid = a i; polyid = b i }

-- one key is the same as itself, and as no other
pub same_key-refl : (k : PolyKey) → same_key k k ≡ true
same_key-refl k = rw (nat_list_eq_equiv.refl k.cenid) (eq-eqb k.polyid k.polyid refl)

pub same_key-is : (k l : PolyKey) → same_key k l ≡ true → k ≡ l
same_key-is k l h =
    let one = both_true (pointwise nat_eq k.cenid l.cenid) (eqb k.polyid l.polyid) h in
    key_is k l (same_text k.cenid l.cenid (sym one.0)) (eqb-true k.polyid l.polyid one.1)
  where
    both_true : (a b : Bool) → (a && b) ≡ true → (a ≡ true) × (b ≡ true)
    both_true true b e = (refl, e)
    both_true false b e = absurd (let h : false ≡ true = e in cc)
