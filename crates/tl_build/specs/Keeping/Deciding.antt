-- Answers to maps, with one clause for all that each says.
use Rattle.std.specs.Prelude.{◌≡◌, ◌≤◌, Result, Ok, Err, Bool}
use Rattle.tl_map_rules.specs.declared.fault.MapStop.{MapStop}
use Rattle.tl_map_county.specs.TheMap.{TheMap}
use Rattle.tl_map_county.specs.declared.map.Map.{Map}
use Rattle.tl_tree_index.specs.Trees.{depth, tree_of}
use Rattle.tl_tree_index.specs.Packed.{IsEvenlySplit}
use Rattle.tl_cert.specs.Certificates.{TheCertificate}
use Rattle.tl_check_verdict.specs.Sound.{IsSoundFor}
use Rattle.tl_check_verdict.specs.Valid.{IsValid}
use Rattle.tl_check_verdict.specs.Truth.{IsTrueOfMapFor}
use Rattle.tl_check_verdict.specs.Verdicts.{IsReport}
use Rattle.tl_build.specs.declared.answer.Audit.TheVariants as audit
use Rattle.tl_build.specs.declared.answer.Built.TheVariants as built
use Rattle.tl_build.specs.Auditing.{Auditing, IsMemoryStop}
use Rattle.tl_build.specs.Building.{Building}
use Rattle.tl_build.specs.Keeping.Refusing.{refusal_of}

-- what an audit says of a map, where faces may be asked for
abbrev pub AuditsFor : (faces : Bool) → TheMap → Auditing → Type 0
AuditsFor faces m (Ok (audit.Sound report)) = IsSoundFor faces m × IsReport m report
AuditsFor faces m (Ok (audit.Fault fault)) = IsTrueOfMapFor faces m fault
AuditsFor faces m (Err stop) = IsMemoryStop stop

-- what an audit says of what was read of records: where there is no map, why that is so
abbrev pub AuditsRead : (faces : Bool) → Result Map MapStop → Auditing → Type 0
AuditsRead faces (Ok m) answer = AuditsFor faces m answer
AuditsRead faces (Err why) answer = answer ≡ refusal_of why

-- a certificate of version 2 that is valid for a map, with a tree of at most 8 levels that is split evenly
pub record IsBuilt (m : TheMap) (cert : TheCertificate) : Type 0 where
  pub valid : IsValid m cert
  pub version : cert.version ≡ 2
  pub shallow : depth (tree_of cert.tree) ≤ 8
  pub split : IsEvenlySplit (tree_of cert.tree)

-- what a build says of a map, where faces may be asked for
abbrev pub BuildsFor : (faces : Bool) → TheMap → Building → Type 0
BuildsFor faces m (Ok (built.Cert cert)) = IsSoundFor faces m × IsBuilt m cert
BuildsFor faces m (Ok (built.Fault fault)) = IsTrueOfMapFor faces m fault
BuildsFor faces m (Err stop) = IsMemoryStop stop
