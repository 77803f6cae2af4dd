-- What helps beyond the place of a refused line: other columns, and what a file is that holds no records.
use Rattle.std.specs.Prelude.{ℕ, ◌==◌, ◌&&◌, ◌||◌, nat_eq, not, Bool, true, false, List, [], ◌∷◌, ◌++◌, length, Option, None, Some, codes, map, slice_index, string_bytes, if◌then◌else◌}
use Rattle.std.specs.Cmp.Lexicographic.{pointwise}
use Rattle.tl_record.specs.declared.options.Options.{Options}
use Rattle.tl_record.specs.declared.judge.Judgement.{Judgement}
use Rattle.tl_record.specs.declared.judge.Judgement.TheVariants.{PassedOver, Read, Refused}
use Rattle.tl_record.specs.Layout.{layout_with}
use Rattle.tl_record.specs.Judgement.{judgement}
use Rattle.tl_cert_output.specs.Writing.{line_of}
use Rattle.tigertopo_words.specs.Names.{shown_name}
use Rattle.tigertopo_words.specs.Shell.{shell_word}
use Rattle.tigertopo_faults.specs.declared.hint.asking.Asking.{Asking}
use Rattle.tigertopo_faults.specs.declared.hint.advice.FileForm.{FileForm}
use Rattle.tigertopo_faults.specs.declared.hint.advice.FileForm.TheVariants.{Archive, Compressed, Shapefile, Wide, Marked}

-- who asks: the words that were given, the command's name first, and how it reads records
pub record Asker : Type 0 where
  pub words : List (List ℕ)
  pub options : Options

abbrev pub asker : List (List ℕ) → Options → Asker
asker words options = record { words = words; options = options }

abbrev pub asking : Asking → Asker
asking by = asker (map string_bytes by.words.now) by.options

-- the other columns of type I: those of the released files, or where these are asked for the plain ones
abbrev pub other_columns : Options → Options
other_columns options = record options { released = not options.released }

-- does the line hold a record
abbrev pub is_read : Judgement → Bool
is_read PassedOver = false
is_read (Read held) = true
is_read (Refused cause) = false

-- is the line with this number one of type I (73 is 'I') that the other columns would take
abbrev pub reads_otherwise : Options → ℕ → List ℕ → Bool
reads_otherwise options number line = slice_index line 0 == 73 && is_read (judgement (layout_with (other_columns options)) number line)

-- what is said then
abbrev pub otherwise_text : Options → List ℕ
otherwise_text options =
    if options.released then line_of (codes "  these type I lines read without --released") else line_of (codes "  these type I lines read with --released")

-- the first bytes of an archive of files (`PK`), of a compressed file, and the first line of a shapefile, whose fourth byte is a
-- line feed
abbrev pub is_archive : List ℕ → Bool
is_archive line = slice_index line 0 == 80 && slice_index line 1 == 75

abbrev pub is_compressed : List ℕ → Bool
is_compressed line = slice_index line 0 == 31 && slice_index line 1 == 139

abbrev pub is_shapefile : List ℕ → Bool
is_shapefile line = (length line == 3 && slice_index line 0 == 0) && (slice_index line 1 == 0 && slice_index line 2 == 39)

-- the byte order mark of UTF-16 text, in either order, and that of UTF-8
abbrev pub is_wide : List ℕ → Bool
is_wide line = (slice_index line 0 == 255 && slice_index line 1 == 254) || (slice_index line 0 == 254 && slice_index line 1 == 255)

abbrev pub is_marked : List ℕ → Bool
is_marked line = (slice_index line 0 == 239 && slice_index line 1 == 187) && slice_index line 2 == 191

-- what a file with this first line is, where it is none of records
abbrev pub form_of : List ℕ → Option FileForm
form_of line =
    if is_archive line then Some Archive else
    if is_compressed line then Some Compressed else
    if is_shapefile line then Some Shapefile else
    if is_wide line then Some Wide else
    if is_marked line then Some Marked else
    None

-- a word of a command that is to read what comes of a file in place of it
abbrev pub word_instead : (name word : List ℕ) → List ℕ
word_instead name word = if pointwise nat_eq word name then codes "/dev/stdin" else word

-- such words as they are typed, each behind a blank
abbrev pub words_instead : List ℕ → List (List ℕ) → List ℕ
words_instead name [] = []
words_instead name (word ∷ words) = codes " " ++ shell_word (word_instead name word) ++ words_instead name words

-- the words that were given, the command's name first, as they are typed to have it read what comes of a file; and with switches more
abbrev pub command_instead : (switches name : List ℕ) → List (List ℕ) → List ℕ
command_instead switches name [] = []
command_instead switches name (command ∷ words) = shell_word command ++ switches ++ words_instead name words

-- is this the name of a command that has --complete
abbrev pub asks_for_records : List ℕ → Bool
asks_for_records command =
    (pointwise nat_eq command (codes "audit") || pointwise nat_eq command (codes "build"))
    || (pointwise nat_eq command (codes "check") || pointwise nat_eq command (codes "border"))

-- do words begin with one
abbrev pub may_ask_for_records : List (List ℕ) → Bool
may_ask_for_records [] = false
may_ask_for_records (command ∷ words) = asks_for_records command

-- the switches for the columns of released files and for records of each type, where these are given and where not
abbrev pub switches_for : (released complete : Bool) → List ℕ
switches_for true true = []
switches_for true false = codes " --complete"
switches_for false true = codes " --released"
switches_for false false = codes " --released --complete"

-- those for what is unpacked, which may be nothing: where they aren't given, and the command has them
abbrev pub unpacked_switches : Asker → List ℕ
unpacked_switches by = switches_for by.options.released (by.options.complete || not (may_ask_for_records by.words))

-- a line that makes records of a file by these words, and has the command read them
abbrev pub piped_text : (tool switches name : List ℕ) → List (List ℕ) → List ℕ
piped_text tool switches name words = tool ++ shell_word name ++ codes " | tigertopo " ++ command_instead switches name words

-- what is said of a file: what it is, and what to type
abbrev pub words_of : FileForm → List ℕ → Asker → List ℕ
words_of Archive name by = piped_text (codes " is an archive: unzip -p ") (unpacked_switches by) name by.words
words_of Compressed name by = piped_text (codes " is compressed: gzip -dc ") (unpacked_switches by) name by.words
words_of Shapefile name by = codes " is a shapefile, which isn't read: tigertopo reads record files"
words_of Wide name by = piped_text (codes " is UTF-16 text: iconv -f UTF-16 -t UTF-8 ") [] name by.words
words_of Marked name by = piped_text (codes " begins with a byte order mark: tail -c +4 ") [] name by.words

abbrev pub form_text : List ℕ → Asker → FileForm → List ℕ
form_text name by form = line_of (codes "  " ++ shown_name name ++ words_of form name by)
