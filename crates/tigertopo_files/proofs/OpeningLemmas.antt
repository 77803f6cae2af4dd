-- Files that are opened together.
use Rattle.std.proofs.Common.{◌≡◌, ℕ, ◌+◌, ◌<◌, ◌≤◌, List, [], ◌∷◌, ◌++◌, map, length, drop, get_or, Contains, None, sym, ap, ◌∙◌, arith, append_assoc, append-nil}
use Rattle.std.proofs.lemmas.List.Sums.{sum_by_push}
use Rattle.std.proofs.lemmas.List.{drop_more, drop_all, map-append, get_or-map, length-map}
use Rattle.std.specs.List.{sum_by}
use Rattle.tl_cert_output.specs.declared.stop.Stop.{Stop}
use Rattle.tl_cert_output.specs.declared.stop.Stop.TheVariants.{Record, Memory, Device, Budget}
use Rattle.tl_cert_output.specs.Stops.{StopsFor}
use Rattle.tigertopo_files.specs.Files.{Under, bytes_under}
use Rattle.tigertopo_files.specs.World.{SomeMissing}

-- ---- what is opened of a list of names: what is told of each file that stands opened, and behind it of those to come

pub none_opened : {A B X : Type 0} (f : A → X) (h : B → X) (opened : List A) (names : List B) → opened ≡ [] → map f opened ++ map h (drop 0 names) ≡ map h names
none_opened f h opened names none = ap (λ l. map f l ++ map h names) none

pub one_more_opened : {A B X : Type 0} (f : A → X) (h : B → X) (opened grown : List A) (file : A) (names : List B) (i : ℕ) (name : B) → i < length names → name ≡ get_or names i name → f file ≡ h name
    → grown ≡ opened ++ file ∷ [] → map f opened ++ map h (drop i names) ≡ map h names → map f grown ++ map h (drop (i + 1) names) ≡ map h names
one_more_opened f h opened grown file names i name lt at same is before =
    ap (λ l. map f l ++ map h (drop (i + 1) names)) is ∙ ap (λ l. l ++ map h (drop (i + 1) names)) (map-append f opened (file ∷ []))
    ∙ append_assoc (map f opened) (f file ∷ []) (map h (drop (i + 1) names)) ∙ ap (λ x. map f opened ++ x ∷ map h (drop (i + 1) names)) same
    ∙ ap (λ l. map f opened ++ map h l) (sym (drop_more names i name lt ∙ ap (λ x. x ∷ drop (i + 1) names) (sym at))) ∙ before

pub all_opened : {A B X : Type 0} (f : A → X) (h : B → X) (opened : List A) (names : List B) (i : ℕ) → length names ≤ i → map f opened ++ map h (drop i names) ≡ map h names
    → map f opened ≡ map h names
all_opened f h opened names i past before = sym (append-nil (map f opened)) ∙ ap (λ l. map f opened ++ map h l) (sym (drop_all i names past)) ∙ before

-- one of the names can't be opened
among : {X : Type 0} (f : X → List ℕ) (xs : List X) (i : ℕ) (x : X) → i < length xs → x ≡ get_or xs i x → Contains (map f xs) (f x)
among f xs i x lt at = let long = length-map xs f in (i, omega (arith, lt, long), get_or-map f xs i x (f x) lt ∙ ap f (sym at))

pub missing_item : {X : Type 0} (f : X → List ℕ) (under : Under) (xs : List X) (i : ℕ) (x : X) (stop : Stop) → i < length xs → x ≡ get_or xs i x → StopsFor (bytes_under under (f x) ≡ None) stop
    → StopsFor (SomeMissing under (map f xs)) stop
missing_item f under xs i x (Record line cause) lt at may = may
missing_item f under xs i x Memory lt at may = tt
missing_item f under xs i x Device lt at may = (f x, among f xs i x lt at, may)
missing_item f under xs i x Budget lt at may = may

-- no read of one more failed
pub one_more_clear : {A : Type 0} (f : A → ℕ) (xs grown : List A) (x : A) → grown ≡ xs ++ x ∷ [] → sum_by f xs ≡ 0 → f x ≡ 0 → sum_by f grown ≡ 0
one_more_clear f xs grown x is clear none = let more = sum_by_push f xs x in ap (sum_by f) is ∙ omega (arith, more, clear, none)
