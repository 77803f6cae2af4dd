use Rattle.std.proofs.Common.{subst, false}
use Rattle.tl_check_verdict.specs.Texts.{IsTrueWhereKnown, IsValidWhereKnown, AllowsSearchWhereKnown, IsPlanarWhereAllowed}
use Rattle.tl_check_verdict.specs.Verdicts.{OnSound, IfCertFault, UnlessMeet, OnSearched}
use Rattle.tl_check_verdict.specs.Sound.{IsSoundFor}
use Rattle.tl_check_verdict.specs.Truth.{IsTrueOfMapFor}
use Rattle.tl_check_verdict.proofs.Denials.{true_still}
use Rattle.tl_check.proofs.Deciding.{is_sound, valid, reported, map_fault, cert_fault, stops}
use Rattle.tl_check.proofs.Facing.{alone, but, sound_so, fault_so}
use Rattle.tl_check.proofs.as_read.check_text.Goals as goal

pub check_parts-requires : goal.check_parts-requires
check_parts-requires g c = record { standing = c.new-reader.ensures.standing; lines = c.new-reader.ensures.lines }

pub returns-clause-decides : goal.returns-clause-decides
returns-clause-decides g c =
    let m = c.args.map.now in
    let answer = c.check_parts.result in
    let answers = c.check_parts.ensures.answers in
    let says = answers.decides in
    let bytes = c.new-reader.ensures.bytes in
    let true = map_fault m c.args.budget _ answer says in
    record {
      sound = sound_so answer _ (IsSoundFor false m) (is_sound m c.args.budget _ answer says) (alone m);
      is_valid = but m _ answer true (subst (λ t. OnSound answer (IsValidWhereKnown t m)) bytes (valid m c.args.budget _ answer says));
      within = but m _ answer true answers.within;
      report = reported m c.args.budget _ answer says;
      map_fault = fault_so answer _ (IsTrueOfMapFor false m) true (true_still false m);
      cert_fault = subst (λ t. IfCertFault answer (IsTrueWhereKnown t m)) bytes (cert_fault m c.args.budget _ answer says);
      behind = answers.behind;
      meets = subst (λ t. UnlessMeet answer (IsPlanarWhereAllowed t m)) bytes answers.meets;
      searched = subst (λ t. OnSearched answer (AllowsSearchWhereKnown t m)) bytes answers.searched;
      stops = stops m c.args.budget _ answer says;
    }
