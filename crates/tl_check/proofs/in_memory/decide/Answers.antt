use Rattle.std.proofs.Common.{false}
use Rattle.tl_check_verdict.specs.Sound.{IsSoundFor}
use Rattle.tl_check_verdict.specs.Truth.{IsTrueOfMapFor}
use Rattle.tl_check_verdict.proofs.Denials.{true_still}
use Rattle.tl_check.specs.Keeping.Read.{IsOfCert}
use Rattle.tl_check.proofs.Halting.{is_sound, valid, within, reported, map_fault, cert_fault, behind, stops, searched}
use Rattle.tl_check.proofs.Facing.{alone, but, decided, sound_so, fault_so}
use Rattle.tl_check.proofs.in_memory.decide.Goals as goal

pub with_faces-requires : goal.with_faces-requires
with_faces-requires c = record {
  sound = is_sound c.args.map.now c.args.cert.now c.args.budget c.check_whole-decided.result c.check_whole-decided.ensures.shows;
  told = rw c.deref.ensures.value c.check_whole-decided.ensures.told;
}

pub returns : goal.returns
returns c =
    let m = c.args.map.now in
    let cert = c.args.cert.now in
    let answer = c.check_whole-decided.result in
    let shows = c.check_whole-decided.ensures.shows in
    let true = map_fault m cert c.args.budget answer shows in
    let so : IsOfCert m false c.args.budget cert answer =
    record {
      sound = sound_so answer _ (IsSoundFor false m) (is_sound m cert c.args.budget answer shows) (alone m);
      is_valid = but m _ answer true (valid m cert c.args.budget answer shows);
      within = but m _ answer true (within m cert c.args.budget answer shows);
      report = reported m cert c.args.budget answer shows;
      map_fault = fault_so answer _ (IsTrueOfMapFor false m) true (true_still false m);
      cert_fault = cert_fault m cert c.args.budget answer shows;
      behind = behind m cert c.args.budget answer shows;
      meets = c.check_whole-decided.ensures.meets;
      searched = searched m cert c.args.budget answer shows;
      stops = stops m cert c.args.budget answer shows;
    } in
    decided c.args.faces m c.args.budget _ _ _ _ _ answer c.with_faces.result c.with_faces.ensures so
