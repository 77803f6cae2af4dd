-- What a hasher is fed of a polygon's key.
use Rattle.std.proofs.Common.{◌≡◌, ℕ, Bool, true, false, eqb, ◌&&◌, List, [], ◌∷◌, sym, ap, refl, eqb-true}
use Rattle.std.specs.Prelude.{nat_eq, slice_index}
use Rattle.std.specs.Cmp.Lexicographic.{pointwise, same_text}
use Rattle.std.specs.Hash as fed
use Rattle.tl_record_key.specs.declared.key.PolyKey.{PolyKey}

-- the CENID filled up to eight bytes, and the POLYID: two whole words, which a hasher takes in at once
abbrev pub key_words : PolyKey → List (List ℕ)
key_words k =
    (slice_index k.cenid 0 ∷ slice_index k.cenid 1 ∷ slice_index k.cenid 2 ∷ slice_index k.cenid 3 ∷ slice_index k.cenid 4 ∷ 0 ∷ 0 ∷ 0 ∷ []) ∷ fed.u64 k.polyid

both : (a b : Bool) → (a && b) ≡ true → (a ≡ true) × (b ≡ true)
both true b e = (refl, e)
both false b e = absurd (let h : false ≡ true = e in cc)

-- equal keys have the same words
pub same_words : (k l : PolyKey) → (pointwise nat_eq k.cenid l.cenid && eqb k.polyid l.polyid) ≡ true → key_words k ≡ key_words l
same_words k l e =
    let parts = both (pointwise nat_eq k.cenid l.cenid) (eqb k.polyid l.polyid) e in
    let c = same_text k.cenid l.cenid (sym parts.0) in
    let p = eqb-true k.polyid l.polyid parts.1 in
    let same : k ≡ l = λ i. record { cenid = c i; polyid = p i } in
    ap key_words same
