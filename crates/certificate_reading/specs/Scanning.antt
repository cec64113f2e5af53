-- where the reader of the lines behind a table stands
use Rattle.std.specs.Prelude.{◌≡◌, ℕ, ◌+◌, ◌≤◌, List, [], ◌∷◌, ◌++◌, map, length, drop, All}
use Rattle.std.specs.List.{filter}
use Rattle.sidb_units.specs.declared.TheConstants.{MAX_ENTRIES, MAX_TOKENS}
use Rattle.charge_model.specs.Problem.{Problem}
use Rattle.charge_model.specs.GroundList.{Entry as Marked}
use Rattle.certificate_model.specs.declared.token.Token.{Token}
use Rattle.ground_entries.specs.Seen.{seen}
use Rattle.text_rows.specs.Rows.{text_of}
use Rattle.certificate_lines.specs.declared.line.CertLine.{CertLine}
use Rattle.certificate_lines.specs.declared.line.CertLine.TheVariants.{Tokens, End}
use Rattle.certificate_lines.specs.Lines.{certificate_line_words, entry_line}
use Rattle.certificate_reading.specs.declared.counts.TextPart.{TextPart}
use Rattle.certificate_reading.specs.declared.counts.TextPart.TheVariants as part
use Rattle.certificate_reading.specs.declared.counts.Counts.{Counts}
use Rattle.certificate_reading.specs.declared.scanned.Scanned.{Scanned}
use Rattle.certificate_reading.specs.declared.fault.CertText.{CertText}
use Rattle.certificate_reading.specs.declared.fault.CertText.TheVariants.{Line}
use Rattle.certificate_reading.specs.Counts.{no_counts, counts_after, counts_of}
use Rattle.certificate_reading.specs.Order.{is_entry}
use Rattle.certificate_reading.specs.Ranges.{FitsLine}
use Rattle.certificate_reading.specs.Body.{AreFineCertificateLines, AreCertificateLinesOf, IsBody, IsBodyFault, token_lines}
use Rattle.certificate_reading.specs.Texts.{token_part}

-- behind the line `tokens`, which ends at `start`, stand these tokens, and then the rest
abbrev pub StandsBehind : TextPart → List ℕ → ℕ → List Token → List ℕ → Type 0
StandsBehind part.Start text start tokens rest = tokens ≡ []
StandsBehind part.Entries text start tokens rest = tokens ≡ []
StandsBehind part.Tokens text start tokens rest =
    drop start text ≡ text_of (map certificate_line_words (token_lines tokens)) ++ rest
StandsBehind part.End text start tokens rest =
    drop start text ≡ text_of (map certificate_line_words (token_lines tokens ++ End ∷ [])) ++ rest

-- the lines that were read, with what was kept of them
pub record IsReadTo (p : Problem) (text rest : List ℕ) (c : Counts) (es : List Marked)
    (ts : List Token) (start : ℕ) (lines : List CertLine) : Type 0 where
  pub whole : text ≡ text_of (map certificate_line_words lines) ++ rest
  pub fine : AreFineCertificateLines p no_counts lines
  pub counted : c ≡ counts_of lines
  pub of : AreCertificateLinesOf es ts lines
  pub entries : c.entries ≡ length es
  pub tokens : c.tokens ≡ length ts
  pub fit : All FitsLine ts
  pub within : start ≤ length text
  pub place : StandsBehind c.part text start ts rest

-- the place behind the line `tokens`, after one more line that ends at `place`
abbrev pub start_after : ℕ → ℕ → CertLine → ℕ
start_after start place Tokens = place
start_after start place _ = start

-- one more line was taken
pub record Takes (old new : Scanned) (place : ℕ) (l : CertLine) : Type 0 where
  pub counts : new.counts ≡ counts_after old.counts l
  pub entries : map entry_line (map seen new.entries.items)
      ≡ map entry_line (map seen old.entries.items) ++ filter is_entry (l ∷ [])
  pub start : new.start ≡ start_after old.start place l

-- what was read of the text up to the rest, where the next line has this number
pub record IsScannedTo (p : Problem) (first : ℕ) (text rest : List ℕ) (s : Scanned) (number : ℕ)
    : Type 0 where
  pub lines : List CertLine
  pub tokens : List Token
  pub numbered : number ≡ first + length lines
  pub read : IsReadTo p text rest s.counts (map seen s.entries.items) tokens s.start lines

-- the whole text was read
pub record IsScanned (p : Problem) (text : List ℕ) (s : Scanned) : Type 0 where
  pub tokens : List Token
  pub body : IsBody p (map seen s.entries.items) tokens text
  pub within : s.start ≤ length text
  pub place : drop s.start text ≡ token_part tokens
  pub count : s.counts.tokens ≡ length tokens
  pub fit : All FitsLine tokens
  pub few_tokens : s.counts.tokens ≤ MAX_TOKENS
  pub few_entries : length s.entries.items ≤ MAX_ENTRIES

-- the fault of a text of lines behind a table
abbrev pub IsScanFault : Problem → ℕ → List ℕ → CertText → Type 0
IsScanFault p first text (Line number why) = IsBodyFault p first text number why
IsScanFault p first text _ = ⊥
