-- What the answers say of a map that is sound.
use Rattle.std.proofs.Common.{◌≡◌, ◌≢◌, inl, inr, ℕ, ◌≤◌, ◌<◌, List, Option, Some, refl, sym, subst, ◌∙◌, arith}
use Rattle.std.specs.Option.{IfSome}
use Rattle.std.proofs.lemmas.Option.{IfSome_then}
use Rattle.tl_record.specs.declared.options.Options.{Options}
use Rattle.tl_record.specs.Layout.{layout_with}
use Rattle.tl_record.specs.Records.{records_of}
use Rattle.tl_cert_output.specs.declared.stop.Stop.{Stop}
use Rattle.tl_cert_output.specs.declared.stop.Stop.TheVariants.{Record, Memory, Device, Budget}
use Rattle.tl_check_planar.specs.Searching.{meeting_segments, AreBeyond}
use Rattle.tl_cert.specs.Text.{certificate_text}
use Rattle.tl_check_verdict.specs.declared.fault.MapFault.{MapFault as TheMapFault}
use Rattle.tl_check_verdict.specs.declared.verdict.Verdict.{Verdict}
use Rattle.tl_check_verdict.specs.declared.verdict.Verdict.TheVariants.{Sound, MapFault, CertFault}
use Rattle.tl_check_verdict.specs.Sound.{IsSoundFor}
use Rattle.tl_check_verdict.specs.Texts.{IsValidText, IsTrueOfText}
use Rattle.tl_check_verdict.specs.Records.{HaveMap}
use Rattle.tl_check_verdict.proofs.OneMap.{both, weaker}
use Rattle.tl_check_verdict.proofs.Deciding.{not_sound_records, not_valid_text}
use Rattle.tigertopo_files.specs.World.{World}
use Rattle.tigertopo_program.specs.Answers.{AuditAnswers, CheckAnswers}
use Rattle.tigertopo_program.specs.Texts.{verdict_status}
use Rattle.tigertopo_program.specs.Records.{IsAudited, IsChecked, IsTrueFault, IsDoneWhereSound, StopsCheck}
use Rattle.tigertopo_program.specs.Building.{AreSoundWith, BuildAnswers}

-- ---- the status

-- with the status 0 the records are sound, and so they are where it is that
pub done : (options : Options) (known : Option (List ℕ)) (status : ℕ) → status ≡ 0 → IfSome known (λ text. HaveMap (records_of (layout_with options) text) (IsSoundFor options.faces))
    → IsDoneWhereSound options known status
done options known status is so = IfSome_then known so (λ text have. ((λ again. have), (λ have. is)))

-- with another they aren't
pub undone : (options : Options) (known : Option (List ℕ)) (status : ℕ) → status ≡ 1 → (fault : TheMapFault) → IsTrueFault options known fault → IsDoneWhereSound options known status
undone options known status is fault holds =
    IfSome_then known holds (λ text true. ((λ again. cc (sym again ∙ is)), (λ have. absurd (not_sound_records options.faces (records_of (layout_with options) text) fault true have))))

audited : (options : Options) (known : Option (List ℕ)) (status : ℕ) (verdict : Verdict) → IsAudited options known verdict → status ≡ verdict_status verdict → IsDoneWhereSound options known status
audited options known status (Sound report) so is =
    done options known status is (IfSome_then known so (λ text have. weaker (records_of (layout_with options) text) _ _ (λ m it. it.sound) have))
audited options known status (MapFault fault) so is = undone options known status is fault so
audited options known status (CertFault fault) so is = absurd so

pub audit_is_exact : (options : Options) (known : Option (List ℕ)) (status : ℕ) (said : List ℕ) → AuditAnswers options known status said → IsDoneWhereSound options known status
audit_is_exact options known status said a = audited options known status a.verdict a.so a.is

checked : (options : Options) (budget : ℕ) (known spelt : Option (List ℕ)) (status : ℕ) (verdict : Verdict) → IsChecked options budget known spelt verdict → status ≡ verdict_status verdict → status ≢ 2
    → IsDoneWhereSound options known status
checked options budget known spelt status (Sound report) so is other =
    done options known status is (IfSome_then known so (λ text have. weaker (records_of (layout_with options) text) _ _ (λ m it. it.sound) have))
checked options budget known spelt status (MapFault fault) so is other = undone options known status is fault so.holds
checked options budget known spelt status (CertFault fault) so is other = absurd (other is)

pub check_is_exact : (options : Options) (budget : ℕ) (known spelt : Option (List ℕ)) (status : ℕ) (said : List ℕ) → CheckAnswers options budget known spelt status said → status ≢ 2
    → IsDoneWhereSound options known status
check_is_exact options budget known spelt status said a other = checked options budget known spelt status a.verdict a.so a.is other

pub build_is_exact : (w : World) (options : Options) (known : Option (List ℕ)) (name : List ℕ) (status : ℕ) (said : List ℕ) → BuildAnswers w options known name status said
    → IsDoneWhereSound options known status
build_is_exact w options known name status said (inl a) =
    done options known status a.is (IfSome_then known a.drawn (λ text read. record { map = a.map; is_read = read; so = a.built.decided.sound }))
build_is_exact w options known name status said (inr a) = undone options known status a.is a.fault a.holds

-- ---- what was built, and a check of it

-- what stands there is its text
same_text : (held : Option (Option (List ℕ))) (spelt text : List ℕ) → held ≡ Some (Some spelt) → IfSome held (λ file. file ≡ Some text) → spelt ≡ text
same_text held spelt text holds stands = cc (subst (λ h. IfSome h (λ file. file ≡ Some text)) holds stands)

-- the two statuses differ
differs : (done fault : ℕ) → done ≡ 0 → fault ≡ 1 → done ≡ fault → ⊥
differs done fault zero one same = cc (sym zero ∙ same ∙ one)

pub built_is_valid : (w : World) (options : Options) (text spelt name said : List ℕ) → BuildAnswers w options (Some text) name 0 said → w.after name ≡ Some (Some spelt) → AreSoundWith options text spelt
built_is_valid w options text spelt name said (inl a) holds =
    let built = a.built in
    record {
      sound = record { map = a.map; is_read = a.drawn; so = built.decided.sound };
      valid = record {
        map = a.map;
        is_read = a.drawn;
        so = (built.certificate, record { certificate = built.certifies; spelt = same_text (w.after name) spelt (certificate_text built.certificate) holds built.kept }, built.valid);
      };
    }
built_is_valid w options text spelt name said (inr a) holds = absurd (differs 0 1 refl refl a.is)

passing : (options : Options) (budget : ℕ) (text spelt : List ℕ) (verdict : Verdict) → AreSoundWith options text spelt → IsChecked options budget (Some text) (Some spelt) verdict → verdict_status verdict ≡ 0
passing options budget text spelt (Sound report) are so = refl
passing options budget text spelt (MapFault fault) are so = absurd (not_sound_records options.faces (records_of (layout_with options) text) fault so.holds are.sound)
passing options budget text spelt (CertFault fault) are so =
    let one = both (records_of (layout_with options) text) (λ m. IsTrueOfText m spelt fault) (λ m. IsValidText m spelt) so.holds are.valid in
    absurd (not_valid_text one.map spelt fault one.so.0 one.so.1)

pub passes : (options : Options) (budget : ℕ) (text spelt : List ℕ) (status : ℕ) (said : List ℕ) → AreSoundWith options text spelt
    → CheckAnswers options budget (Some text) (Some spelt) status said → status ≡ 0
passes options budget text spelt status said are a = a.is ∙ passing options budget text spelt a.verdict are a.so

pub not_stopped : (options : Options) (budget : ℕ) (text spelt : List ℕ) (stop : Stop) → AreSoundWith options text spelt
    → HaveMap (records_of (layout_with options) text) (λ m. meeting_segments m.chains ≤ budget) → ¬ StopsCheck options budget (Some text) (Some spelt) stop
not_stopped options budget text spelt (Record line cause) are enough stops = cc (sym are.sound.is_read.no_refusal ∙ stops)
not_stopped options budget text spelt Memory are enough stops = stops
not_stopped options budget text spelt Device are enough stops = stops
not_stopped options budget text spelt Budget are enough stops =
    let one = both (records_of (layout_with options) text) (λ m. meeting_segments m.chains ≤ budget) (λ m. AreBeyond m.chains budget) enough stops.0 in
    let most : meeting_segments one.map.chains ≤ budget = one.so.0 in
    let more : budget < meeting_segments one.map.chains = one.so.1.more in
    omega (arith, most, more)
