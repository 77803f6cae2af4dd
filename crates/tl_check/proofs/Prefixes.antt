-- Certificates of the first rounds, and of the first walks, of a certificate.
use Rattle.std.proofs.Common.{◌≡◌, ℕ, ◌+◌, ◌<◌, ◌≤◌, List, [], Vec, Global, length, map, take, sym, ap, subst, ◌∙◌}
use Rattle.std.proofs.lemmas.List.{take_more, take_all, length-map}
use Rattle.tl_map_county.specs.TheMap.{TheMap}
use Rattle.tl_cert.specs.Certificates.{TheCertificate, IsDartList, AreDartLists}
use Rattle.tl_check_sides.specs.Lists.{list_at}
use Rattle.tl_check.specs.declared.state.State.{State}
use Rattle.tl_check.specs.Keeping.Parts.{Holds, with_round, with_walk}

-- the certificate with its first n rounds, and no walk
abbrev pub first_rounds : TheCertificate → ℕ → TheCertificate
first_rounds c n = record c { rounds = take n c.rounds; walks = [] }

-- the certificate with its first n walks
abbrev pub first_walks : TheCertificate → ℕ → TheCertificate
first_walks c n = record c { walks = take n c.walks }

pub one_round_more : (c : TheCertificate) (n : ℕ) → n < length c.rounds → with_round (first_rounds c n) (list_at c.rounds n) ≡ first_rounds c (n + 1)
one_round_more c n h = λ i. record c { rounds = sym (take_more c.rounds n [] h) i; walks = [] }

pub one_walk_more : (c : TheCertificate) (n : ℕ) → n < length c.walks → with_walk (first_walks c n) (list_at c.walks n) ≡ first_walks c (n + 1)
one_walk_more c n h = λ i. record c { walks = sym (take_more c.walks n [] h) i }

pub all_rounds : (c : TheCertificate) (n : ℕ) → length c.rounds ≤ n → first_rounds c n ≡ first_walks c 0
all_rounds c n h = λ i. record c { rounds = take_all n c.rounds h i; walks = [] }

pub all_walks : (c : TheCertificate) (n : ℕ) → length c.walks ≤ n → first_walks c n ≡ c
all_walks c n h = λ i. record c { walks = take_all n c.walks h i }

pub as_many : (vs : List (Vec ℕ Global)) (lists : List (List ℕ)) → map (λ r. r.items) vs ≡ lists → length vs ≡ length lists
as_many vs lists are = sym (length-map vs (λ (r : Vec ℕ Global). r.items)) ∙ ap length are

pub round_taken : (m : TheMap) (c : TheCertificate) (i : ℕ) (now : List ℕ) (s : State) → list_at c.rounds i ≡ now → i < length c.rounds → Holds m (with_round (first_rounds c i) now) s → Holds m (first_rounds c (i + 1)) s
round_taken m c i now s e h held =
    subst (λ d. Holds m d s) (one_round_more c i h) (subst (λ xs. Holds m (with_round (first_rounds c i) xs) s) (sym e) held)

pub walk_taken : (m : TheMap) (c : TheCertificate) (i : ℕ) (now : List ℕ) (s : State) → list_at c.walks i ≡ now → i < length c.walks → Holds m (with_walk (first_walks c i) now) s → Holds m (first_walks c (i + 1)) s
walk_taken m c i now s e h held =
    subst (λ d. Holds m d s) (one_walk_more c i h) (subst (λ xs. Holds m (with_walk (first_walks c i) xs) s) (sym e) held)

-- a list of a certificate has a dart
pub has_some : (lists : List (List ℕ)) (i : ℕ) (now : List ℕ) → AreDartLists lists → list_at lists i ≡ now → i < length lists → 0 < length now
has_some lists i now are e h = let d : IsDartList (list_at lists i) = are.each i [] h in rw (← e) d.some
