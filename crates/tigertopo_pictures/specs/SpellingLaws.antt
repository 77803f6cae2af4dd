-- Why spelt text is added as a page's text is.
use Rattle.std.proofs.Common.{◌≡◌, ℕ, List, [], ◌∷◌, ◌++◌, refl, ap, subst, ◌∙◌, append_assoc}
use Rattle.std.specs.List.{flat_map}
use Rattle.tl_cert_output.specs.Pages.{IsAdding}
use Rattle.tigertopo_pictures.specs.declared.spelling.Spelt.{Spelt}
use Rattle.tigertopo_pictures.specs.Spelling.{AddsSpelt}

spelt_both : (spelt : ℕ → List ℕ) (first last : List ℕ) → flat_map spelt first ++ flat_map spelt last ≡ flat_map spelt (first ++ last)
spelt_both spelt [] last = refl
spelt_both spelt (b ∷ first) last = append_assoc (spelt b) (flat_map spelt first) (flat_map spelt last) ∙ ap (λ l. spelt b ++ l) (spelt_both spelt first last)

pub spelt_adds : {E P : Type 0} (spelt : ℕ → List ℕ) {adds : P → P → List ℕ → Type 0} → IsAdding adds → IsAdding {P = Spelt E P} (AddsSpelt spelt adds)
spelt_adds spelt {adds} page = record {
  nothing = record { same = refl; spells = page.nothing };
  both = λ {before} {between} {behind} {first} {last} one two. record {
    same = two.same ∙ one.same;
    spells = subst (adds before.page.now behind.page.now) (spelt_both spelt first last) (page.both one.spells two.spells);
  };
}
