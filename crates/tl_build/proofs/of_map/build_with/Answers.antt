use Rattle.std.proofs.Common.{◌≡◌, ◌≤◌}
use Rattle.tl_tree_index.specs.Trees.{depth, tree_of}
use Rattle.tl_tree_index.specs.Packed.{IsEvenlySplit}
use Rattle.tl_check_verdict.specs.Sound.{IsSoundFor}
use Rattle.tl_check_verdict.specs.Valid.{IsValid}
use Rattle.tl_build.proofs.Decided.{on_cert, if_cert, if_fault, built_exactly, built_stops}
use Rattle.tl_build.proofs.of_map.build_with.Goals as goal

pub returns : goal.returns
returns c =
    let faces = c.args.faces in
    let m = c.args.map.now in
    let answer = c.build_for.result in
    let says = c.build_for.ensures in
    record {
      sound = on_cert faces m (IsSoundFor faces m) (λ s. s) answer says;
      valid = if_cert faces m (IsValid m) (λ cert is. is.valid) answer says;
      version = if_cert faces m (λ cert. cert.version ≡ 2) (λ cert is. is.version) answer says;
      shallow = if_cert faces m (λ cert. depth (tree_of cert.tree) ≤ 8) (λ cert is. is.shallow) answer says;
      split = if_cert faces m (λ cert. IsEvenlySplit (tree_of cert.tree)) (λ cert is. is.split) answer says;
      fault = if_fault faces m answer says;
      exactly = built_exactly faces m answer says;
      stops = built_stops faces m answer says;
    }
