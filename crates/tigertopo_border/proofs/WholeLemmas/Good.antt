-- Joined chains are sound with true faces exactly where the parts are, and the border between them.
use Rattle.std.proofs.Common.{◌≡◌, ℕ, List, refl}
use Rattle.tl_map_county.specs.TheMap.{MapChain}
use Rattle.tigertopo_border.specs.Whole.Told.{AreTold}
use Rattle.tigertopo_border.specs.Whole.Homes.{Homes, own, tells, name, is_border}
use Rattle.tigertopo_border.proofs.WholeLemmas.Lies.{AreGood}
use Rattle.tigertopo_border.proofs.WholeLemmas.Names.{passed, inner_names}
use Rattle.tigertopo_border.proofs.WholeLemmas.Fitting.{AreParts}
use Rattle.tigertopo_border.proofs.WholeLemmas.Planar.{joined_planar}
use Rattle.tigertopo_border.proofs.WholeLemmas.TrueSides.{joined_faces, sides_true, polygons_stay}
use Rattle.tigertopo_border.proofs.WholeLemmas.Sectors.{sides_agree}
use Rattle.tigertopo_border.proofs.WholeLemmas.Parting.{told_good}

-- where each part and the border are, joined chains are
pub joined_good : (homes : Homes) → ((p q : ℕ) → homes.part p ≡ homes.part q → homes.number p ≡ homes.number q → p ≡ q) →
    (n : ℕ) (chains border : List MapChain) → AreParts homes n chains border → AreGood chains
joined_good homes two n chains border parts = record {
  proper = parts.proper;
  planar = joined_planar homes n chains border parts;
  agree = sides_agree chains parts.proper (joined_planar homes n chains border parts) (sides_true homes two n chains border parts) (polygons_stay homes two n chains border parts);
  truth = joined_faces homes two n chains border parts;
}

-- where joined chains are, each part is, and the border is
pub part_good : (homes : Homes) (k : ℕ) (chains part : List MapChain) → AreTold (own homes k) (tells homes k) chains part → AreGood chains → AreGood part
part_good homes k chains part told good = told_good (own homes k) (tells homes k) refl (λ c e. passed homes k c e) chains part told good

pub border_good : (homes : Homes) (chains border : List MapChain) → AreTold (name homes) (is_border homes) chains border → AreGood chains → AreGood border
border_good homes chains border told good = told_good (name homes) (is_border homes) refl (λ c e. inner_names homes c e) chains border told good
