-- The chains of a map that records draw are proper.
use Rattle.std.proofs.Common.{◌≡◌, ◌≢◌, ℕ, List, ◌∷◌, [], ◌++◌, length, Some, sym, subst}
use Rattle.std.specs.Prelude.{slice_get}
use Rattle.std.specs.List.{dedup}
use Rattle.tl_record.specs.declared.record.Record.{Record}
use Rattle.tl_map_county.specs.Chains.{IsProperChain}
use Rattle.tl_map_county.specs.TheMap.{TheMap, MapChain}
use Rattle.tl_map_rules.specs.declared.fault.RecordFault.TheVariants.{DuplicateChain, ShapeGap, DegenerateChain}
use Rattle.tl_map_rules.specs.ChainsOf.{pairs_of, used}
use Rattle.tl_record.specs.Joining.{same_point}
use Rattle.tl_map_rules.specs.MapOf.{IsMapOf}
use Rattle.tl_map.proofs.ProperLemmas.{proper_dedup}
use Rattle.tigertopo_border.specs.Parts.{HaveNoFaultButMany}
use Rattle.tigertopo_border.proofs.Joining.InLemmas.{from_place}
use Rattle.tigertopo_border.proofs.Joining.TellLemmas.{numbered}
use Rattle.tigertopo_border.proofs.Joining.DrawnLemmas.{drawn_in}

pub proper_chains : (rs : List Record) (m : TheMap) → HaveNoFaultButMany rs → IsMapOf rs m → (c : ℕ) (chain : MapChain) → slice_get m.chains c ≡ Some chain → IsProperChain chain.points
proper_chains rs m none is c chain at =
    let drawn = drawn_in rs m chain is (from_place m.chains c chain at) in
    let several : length (dedup same_point (drawn.from ∷ (used (pairs_of rs chain.tlid) ++ drawn.to ∷ []))) ≢ 1 = λ one. none (DegenerateChain chain.tlid) (λ what same. cc) (record {
      once = none (DuplicateChain chain.tlid) (λ what same. cc);
      numbered = numbered rs none chain.tlid;
      no_gap = none (ShapeGap chain.tlid) (λ what same. cc);
      from = drawn.from;
      to = drawn.to;
      record_of_it = drawn.record_of_it;
      one_point = one;
    }) in
    subst IsProperChain (sym drawn.points) (proper_dedup drawn.from (used (pairs_of rs chain.tlid) ++ drawn.to ∷ []) several)
