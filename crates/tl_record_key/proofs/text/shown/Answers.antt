use Rattle.tl_record_key.specs.KeyText.{shown_byte}
use Rattle.std.proofs.Common.{◌≡◌, ℕ, ap, sym, ◌∙◌, refl, rules}
use Rattle.tl_record_key.proofs.text.shown.Goals as goal

other_byte : (b : ℕ) → (b ≡ 32 → ⊥) → b ≡ shown_byte b
other_byte b h = search rules

pub char : goal.char
char c = refl

pub returns-then-byte-eq32 : goal.returns-then-byte-eq32
returns-then-byte-eq32 c = ap shown_byte (sym c.if-byte-eq32.true)

pub returns-else-byte-eq32 : goal.returns-else-byte-eq32
returns-else-byte-eq32 c = c.from.ensures ∙ other_byte c.args.byte c.if-byte-eq32.false
