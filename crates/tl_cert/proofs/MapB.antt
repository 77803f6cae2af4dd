-- The certificate of the test map, a square of one chain: its text by the definition is the worked one.
use Rattle.std.proofs.Common.{◌≡◌, ℕ, pos, [], ◌∷◌, refl, codes}
use Rattle.arrayvec.specs.ArrayVec.{ArrayVec}
use Rattle.tl_geom.specs.declared.rect.Rect.{Rect}
use Rattle.tl_tree_index.specs.declared.node.TreeNode.TheVariants.{Leaf}
use Rattle.tl_cert.specs.Certificates.{TheCertificate}
use Rattle.tl_cert.specs.Text.{certificate_text}
use Rattle.std.specs.Fmt.{digits}

abbrev pub square : Rect
square = record { xmin = pos 10; ymin = pos 10; xmax = pos 30; ymax = pos 30 }

-- the leaf's items are its four segments
abbrev pub of_leaf : ArrayVec ℕ → TheCertificate
of_leaf items = record {
  version = 1;
  counts = record { chains = 1; segments = 4; nodes = 1; polygons = 1 };
  tree = Leaf square items ∷ [];
  rounds = (0 ∷ 1 ∷ []) ∷ [];
  walks = (0 ∷ []) ∷ (1 ∷ []) ∷ [];
}

pub text_of_square : (v : ArrayVec ℕ) → v.items ≡ 0 ∷ 1 ∷ 2 ∷ 3 ∷ []
    → certificate_text (of_leaf v) ≡ codes "TIGERCERT 1\nC 1 4 1 1\nT 1\nL 10 10 30 30 4\nS 0\nS 1\nS 2\nS 3\nN 1\nR 2\nD 0\nD 1\nW 2\nK 1\nD 0\nK 1\nD 1\nEND\n"
unfolding digits
text_of_square v are = rw are refl
