-- a certificate text as its parts
use Rattle.std.proofs.Common.{◌≡◌, ◌∙◌, sym, ap, refl, subst, ℕ, ◌+◌, ◌-◌, ◌≤◌, List, [], ◌∷◌, ◌++◌, map, length, take, drop, Bool, true, false, eqb, append_assoc, arith, length-append, length-drop, inl, inr, ◌⊎◌}
use Rattle.std.proofs.lemmas.List.{take-append-drop, length-map, length-take, drop-drop}
use Rattle.std.proofs.lemmas.List.Sums.{count_by-le-length}
use Rattle.std.proofs.lemmas.List.Splits.{length-slice_split}
use Rattle.charge_model.specs.Problem.{Problem}
use Rattle.charge_model.specs.GroundList.{Entry as Marked}
use Rattle.ground_entries.specs.Seen.{seen}
use Rattle.text_rows.specs.Rows.{rows, lines, words, text_of}
use Rattle.table_lines.specs.Lines.{table_line_words as table_words}
use Rattle.table_reading.specs.Reading.{IsTableText}
use Rattle.certificate_reading.specs.declared.scanned.Scanned.{Scanned}
use Rattle.certificate_reading.specs.declared.fault.CertText.{CertText}
use Rattle.certificate_reading.specs.declared.fault.CertText.TheVariants.{Table, Line, Memory}
use Rattle.certificate_reading.specs.Body.{IsBody, IsBodyFault}
use Rattle.certificate_reading.specs.Scanning.{IsScanned, IsScanFault}
use Rattle.certificate_reading.specs.Texts.{IsHeaded, BeginsWithLine, HasTableOf, IsCertFault, IsCertificateFront, head_words, table_head}
use Rattle.certificate_reading.proofs.FineLemmas.{behind_front}

-- the first line and the table were read, and this is behind them
pub record IsTableRead (p : Problem) (text rest body : List ℕ) (second : Bool) (bytes many : ℕ) : Type 0 where
  pub head : IsHeaded second text rest
  pub same : BeginsWithLine (table_words (table_head second)) rest
  pub of : IsTableText (take bytes rest) p
  pub within : bytes ≤ length rest
  pub count : length (rows (take bytes rest)) ≡ many + 1
  pub behind : body ≡ drop bytes rest

-- a text has no more lines than bytes, and one
few_rows : (text : List ℕ) → length (rows text) ≤ length text + 1
few_rows text =
    let all = length-map (lines text) words in
    let parts = length-slice_split (λ b. eqb b 10) text in
    let few = count_by-le-length (λ b. eqb b 10) text in
    omega (arith, all, parts, few)

-- the first line has nineteen bytes
head_size : (second : Bool) → length (text_of (head_words second ∷ [])) ≡ 19
head_size second = elim second as (λ s. length (text_of (head_words s ∷ [])) ≡ 19) [ true ↦ refl | false ↦ refl ]

pub numbers_fit : (p : Problem) (text rest body : List ℕ) (second : Bool) (bytes many : ℕ) → IsTableRead p text rest body second bytes many → many + 2 + length body + 17 ≤ length text
numbers_fit p text rest body second bytes many read =
    let rows = few_rows (take bytes rest) in
    let taken = length-take bytes rest in
    let dropped = length-drop bytes rest in
    let whole = ap length read.head in
    let both = length-append (text_of (head_words second ∷ [])) rest in
    let head = head_size second in
    let behind = ap length read.behind in
    omega (arith, rows, taken, dropped, whole, both, head, behind, read.count, read.within)

abbrev pub table_part : (p : Problem) (text rest body : List ℕ) (second : Bool) (bytes many : ℕ) → IsTableRead p text rest body second bytes many → HasTableOf p text body
table_part p text rest body second bytes many read =
    let whole : rest ≡ take bytes rest ++ body = sym (take-append-drop bytes rest) ∙ ap (λ b. take bytes rest ++ b) (sym read.behind) in
    record {
      second = second;
      table = take bytes rest;
      opened = record { head = subst (IsHeaded second text) whole read.head; same = subst (BeginsWithLine (table_words (table_head second))) whole read.same };
      of = read.of;
    }

-- the number of the table's lines
pub table_lines : (p : Problem) (text rest body : List ℕ) (second : Bool) (bytes many : ℕ) → (read : IsTableRead p text rest body second bytes many) → many + 2 ≡ 2 + length read.of.lines
table_lines p text rest body second bytes many read =
    let count = read.count in
    let rows = ap length read.of.whole.rows_are in
    let both = length-append (map table_words read.of.lines) (words [] ∷ []) in
    let lines = length-map read.of.lines table_words in
    omega (arith, count, rows, both, lines)

pub body_fault : (p : Problem) (text rest body : List ℕ) (second : Bool) (bytes many : ℕ) (fault : CertText) → IsTableRead p text rest body second bytes many → (fault ≡ Memory) ⊎ IsScanFault p (many + 2) body fault → (fault ≡ Memory) ⊎ IsCertFault text fault
body_fault p text rest body second bytes many fault read (inl memory) = inl memory
body_fault p text rest body second bytes many (Line number why) read (inr wrong) =
    inr (inr (record {
      problem = p;
      body = body;
      front = table_part p text rest body second bytes many read;
      wrong = subst (λ first. IsBodyFault p first body number why) (table_lines p text rest body second bytes many read) wrong;
    }))
body_fault p text rest body second bytes many (Table fault) read (inr wrong) = absurd wrong
body_fault p text rest body second bytes many Memory read (inr wrong) = absurd wrong

-- the front of the text
pub front_of : (p : Problem) (text rest body : List ℕ) (second : Bool) (bytes many size : ℕ) (s : Scanned) (list : List Marked) → size ≡ length text → IsTableRead p text rest body second bytes many → IsScanned p body s → list ≡ map seen s.entries.items
    → IsCertificateFront text (record { problem = p; list = list; bytes = size - length body + s.start; tokens = s.counts.tokens })
front_of p text rest body second bytes many size s list long read scanned same =
    let part = table_part p text rest body second bytes many read in
    let head = text_of (head_words second ∷ []) in
    let split : text ≡ (head ++ take bytes rest) ++ body = part.opened.head ∙ sym (append_assoc head (take bytes rest) body) in
    let all = ap length split in
    let both = length-append (head ++ take bytes rest) body in (
      scanned.tokens,
      record {
        of = record { body = body; front = part; whole = subst (λ es. IsBody p es scanned.tokens body) (sym same) scanned.body };
        within = omega (arith, long, all, both, scanned.within);
        place = ap (λ n. drop (n - length body + s.start) text) long ∙ sym (drop-drop s.start (length text - length body) text) ∙ ap (drop s.start) (behind_front text (head ++ take bytes rest) body split) ∙ scanned.place;
        count = scanned.count;
        few = scanned.few_tokens;
        fit = scanned.fit;
      },
    )
