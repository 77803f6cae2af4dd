use Rattle.std.proofs.Common.{◌≡◌, ◌++◌, List, map, ap, ◌∙◌}
use Rattle.std.proofs.lemmas.Result.{on_ok_weaker}
use Rattle.tl_check_faces.specs.declared.fault.FaceFault.{FaceFault}
use Rattle.tl_check_verdict.specs.declared.fault.MapFault.TheVariants as fault
use Rattle.tl_decide.proofs.Faced.{untrue}
use Rattle.tl_decide.proofs.agreeing.push_all_faces.Goals as goal

pub returns : goal.returns
returns c =
    let m = c.args.map.now in
    let told = c.in-Ok.disagreeing.items in
    let are = c.in-Ok.ensures in
    on_ok_weaker c.push_faces.result
    (λ (is : c.push_faces.new.faults.items ≡ c.args.faults.now.items ++ map fault.Face c.deref.result.now). record {
      told = told;
      all = record {
        true_ones = are.true_ones;
        all = are.all;
        untrue = untrue m told c.has_proper_chains.ensures c.requires.planar c.requires.agree are.true_ones;
      };
      agree = λ none. are.agree.0 none;
      are = is ∙ ap (λ (fs : List FaceFault). c.args.faults.now.items ++ map fault.Face fs) c.deref.ensures.value;
    }) c.push_faces.ensures
