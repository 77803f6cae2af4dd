-- Texts that are shown where words make no command.
use Rattle.std.specs.Prelude.{◌≢◌, ◌==◌, ℕ, List, not, All, ⊤, String, string_bytes, filter}
use Rattle.tigertopo_words.specs.declared.stop.WordsStop.{WordsStop}
use Rattle.tigertopo_words.specs.declared.stop.WordsStop.TheVariants.{Usage, Help, Memory}

-- the byte that begins a terminal's escape sequence
abbrev pub escape : ℕ
escape = 27

-- the text with its escapes left out
abbrev pub plain_text : List ℕ → List ℕ
plain_text text = filter (λ byte. not (byte == escape)) text

-- no byte of the text is an escape
abbrev pub HasNoEscape : {A : Type 0} → String A → Type 0
HasNoEscape text = All (λ byte. byte ≢ escape) (string_bytes text)

-- the text that is shown, if there is one, has no escape
abbrev pub ShowsNoEscape : WordsStop → Type 0
ShowsNoEscape (Usage text) = HasNoEscape text
ShowsNoEscape (Help text) = HasNoEscape text
ShowsNoEscape Memory = ⊤
