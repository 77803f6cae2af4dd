-- What begins some certificate's text, and the line of a text that no certificate has.
use Rattle.std.specs.Prelude.{◌≡◌, ℕ, ◌+◌, ◌≤◌, List, ◌++◌, take}
use Rattle.tl_record.specs.Lines.{line_feeds}
use Rattle.tl_cert.specs.Certificates.{TheCertificate, IsCertificate}
use Rattle.tl_cert.specs.Text.{certificate_text}

-- the text is that of this certificate
pub record IsTextOf (c : TheCertificate) (text : List ℕ) : Type 0 where
  pub certificate : IsCertificate c
  pub spelt : text ≡ certificate_text c

-- no certificate has this text
abbrev pub HasNoCertificate : List ℕ → Type 0
HasNoCertificate text = (c : TheCertificate) → ¬ IsTextOf c text

-- the bytes begin some certificate's text
pub record BeginsSome (front : List ℕ) : Type 0 where
  pub certificate : TheCertificate
  pub rest : List ℕ
  pub whole : IsTextOf certificate (front ++ rest)

-- The line that no certificate has at its place: one more than the line feeds in the longest beginning of the text that
-- begins some certificate's text. No such beginning has more line feeds than this one.
pub record IsBadLine (text : List ℕ) (line : ℕ) : Type 0 where
  pub len : ℕ
  pub begins : BeginsSome (take len text)
  pub most : (more : ℕ) → BeginsSome (take more text) → line_feeds (take more text) ≤ line_feeds (take len text)
  pub counted : line ≡ 1 + line_feeds (take len text)

-- no certificate has this text, and the line is where it is seen
pub record IsRefused (text : List ℕ) (line : ℕ) : Type 0 where
  pub none : HasNoCertificate text
  pub seen : IsBadLine text line
