-- Texts on a page.
use Rattle.std.proofs.Common.{◌≡◌, ℕ, List, [], ◌++◌, subst}
use Rattle.tl_cert_output.specs.Pages.{IsAdding}

module _ {P : Type 0} {adds : P → P → List ℕ → Type 0} (page : IsAdding adds) where
  -- one text behind another
  pub both : {a b c : P} {x y : List ℕ} → adds a b x → adds b c y → adds a c (x ++ y)
  both one two = page.both one two

  -- the text, otherwise put
  pub as_text : {a b : P} {x y : List ℕ} → adds a b x → x ≡ y → adds a b y
  as_text {a} {b} one same = subst (adds a b) same one

  -- no text
  pub nothing : {a : P} → adds a a []
  nothing = page.nothing
