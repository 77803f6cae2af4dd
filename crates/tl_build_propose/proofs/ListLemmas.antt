-- Lists that are cut off another.
use Rattle.std.proofs.Common.{◌≡◌, ℕ, ◌++◌, List, [], ◌∷◌, map, refl, ap, sym, ◌∙◌, append_assoc, append-nil, Vec, Global}
use Rattle.std.specs.List.{concat}
use Rattle.std.proofs.lemmas.List.{map-append}

abbrev pub all_in : List (Vec ℕ Global) → List ℕ
all_in lists = concat (map (λ r. r.items) lists)

pub all_in_append : (xs ys : List (Vec ℕ Global)) → all_in (xs ++ ys) ≡ all_in xs ++ all_in ys
all_in_append [] ys = refl
all_in_append (x ∷ xs) ys = ap (λ l. x.items ++ l) (all_in_append xs ys) ∙ sym (append_assoc x.items (all_in xs) (all_in ys))

-- one list more is cut off the rest
pub cut_more : {X : Type 0} (number : X → ℕ) (lists more : List (Vec ℕ Global)) (v : Vec ℕ Global) (rest front back all : List X) →
    rest ≡ front ++ back → v.items ≡ map number front → more ≡ lists ++ v ∷ [] →
    all_in lists ++ map number rest ≡ map number all → all_in more ++ map number back ≡ map number all
cut_more number lists more v rest front back all e at pushed h =
    let one : all_in (v ∷ []) ≡ map number front = append-nil v.items ∙ at in
    let grown : all_in more ≡ all_in lists ++ map number front =
    ap all_in pushed ∙ (all_in_append lists (v ∷ []) ∙ ap (λ l. all_in lists ++ l) one) in
    ap (λ l. l ++ map number back) grown
    ∙ (append_assoc (all_in lists) (map number front) (map number back)
    ∙ (ap (λ l. all_in lists ++ l) (sym (ap (map number) e ∙ map-append number front back)) ∙ h))
