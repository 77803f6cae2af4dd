-- Lists that are lent one by one.
use Rattle.std.proofs.Common.{◌≡◌, ℕ, ◌<◌, List, [], Vec, Global, length, get_or, map, sym, ap, ◌∙◌}
use Rattle.std.proofs.lemmas.List.{get_or-map}
use Rattle.tl_check_sides.specs.Lists.{list_at}

-- the lists of a lender, by place
pub list_is : (vs : List (Vec ℕ Global)) (lists : List (List ℕ)) (i : ℕ) (v : Vec ℕ Global) (now : List ℕ) → map (λ r. r.items) vs ≡ lists → i < length vs → v ≡ get_or vs i v → now ≡ v.items → list_at lists i ≡ now
list_is vs lists i v now are h v_is now_is =
    ap (λ ls. list_at ls i) (sym are) ∙ get_or-map (λ (r : Vec ℕ Global). r.items) vs i v [] h ∙ ap (λ (r : Vec ℕ Global). r.items) (sym v_is) ∙ sym now_is
