-- the lines that a run prints where it refuses its words, its input, or the work that it asks for
use Rattle.std.specs.Prelude.{◌≢◌, ℕ, List, [], ◌∷◌, codes, decimal}
use Rattle.text_rows.specs.Rows.{text_of}
use Rattle.table_lines.specs.declared.fault.LineWhy.{LineWhy}
use Rattle.table_lines.specs.declared.fault.LineWhy.TheVariants.{Form, Range}
use Rattle.table_lines.specs.declared.fault.TableFault.{TableFault}
use Rattle.table_lines.specs.declared.fault.TableFault.TheVariants as table
use Rattle.sqd_scan.specs.declared.fault.SqdFault.{SqdFault}
use Rattle.sqd_scan.specs.declared.fault.SqdFault.TheVariants as layout
use Rattle.certificate_reading.specs.declared.fault.CertText.{CertText}
use Rattle.certificate_reading.specs.declared.fault.CertText.TheVariants as text
use Rattle.fault_lines.specs.declared.input_fault.InputFault.{InputFault}
use Rattle.fault_lines.specs.declared.input_fault.InputFault.TheVariants.{TooLong, Layout, Table, Text, GateSite}

-- the word of what is wrong with a line
abbrev pub why_word : LineWhy → List ℕ
why_word Form = codes "form"
why_word Range = codes "range"

-- what is wrong with a table text; want of memory is no fault of a text, and has no words
abbrev pub table_fault_words : TableFault → List (List ℕ)
table_fault_words (table.Line k why) = codes "line" ∷ decimal k ∷ why_word why ∷ []
table_fault_words table.TooMany = codes "too-many" ∷ []
table_fault_words table.TooManyFixed = codes "too-many-fixed" ∷ []
table_fault_words (table.BadSpan c) = codes "span" ∷ decimal c ∷ []
table_fault_words (table.TwicePair i j) = codes "twice" ∷ decimal i ∷ decimal j ∷ []
table_fault_words (table.TwiceNear i a) = codes "twice-near" ∷ decimal i ∷ decimal a ∷ []
table_fault_words (table.MissingPair i j) = codes "missing" ∷ decimal i ∷ decimal j ∷ []
table_fault_words (table.MissingNear i a) = codes "missing-near" ∷ decimal i ∷ decimal a ∷ []
table_fault_words table.Memory = []

-- what is wrong with the text of a layout; want of memory has no words here either
abbrev pub layout_fault_words : SqdFault → List (List ℕ)
layout_fault_words (layout.BadMark at) = codes "bad-mark" ∷ decimal at ∷ []
layout_fault_words (layout.NotClosed at) = codes "not-closed" ∷ decimal at ∷ []
layout_fault_words (layout.WrongClose at) = codes "wrong-close" ∷ decimal at ∷ []
layout_fault_words (layout.Doctype at) = codes "doctype" ∷ decimal at ∷ []
layout_fault_words (layout.Cdata at) = codes "cdata" ∷ decimal at ∷ []
layout_fault_words layout.NotSiqad = codes "not-siqad" ∷ []
layout_fault_words (layout.BadSite at) = codes "bad-site" ∷ decimal at ∷ []
layout_fault_words (layout.BadLine k) = codes "bad-line" ∷ decimal k ∷ []
layout_fault_words (layout.OutOfRange k) = codes "out-of-range" ∷ decimal k ∷ []
layout_fault_words layout.TooMany = codes "too-many" ∷ []
layout_fault_words layout.TooManyFixes = codes "too-many-fixes" ∷ []
layout_fault_words (layout.Duplicate a b) = codes "duplicate" ∷ decimal a ∷ decimal b ∷ []
layout_fault_words (layout.TooClose a b) = codes "too-close" ∷ decimal a ∷ decimal b ∷ []
layout_fault_words layout.Memory = []

-- what is wrong with a certificate text: with its table, or with another line
abbrev pub text_fault_words : CertText → List (List ℕ)
text_fault_words (text.Table fault) = codes "table" ∷ table_fault_words fault
text_fault_words (text.Line k why) =
    codes "certificate" ∷ codes "line" ∷ decimal k ∷ why_word why ∷ []
text_fault_words text.Memory = []

-- what is wrong with an input
abbrev pub input_fault_words : InputFault → List (List ℕ)
input_fault_words TooLong = codes "too-long" ∷ []
input_fault_words (Layout fault) = layout_fault_words fault
input_fault_words (Table fault) = codes "table" ∷ table_fault_words fault
input_fault_words (Text fault) = text_fault_words fault
input_fault_words (GateSite place) = codes "gate-site" ∷ decimal place ∷ []

-- a fault of the input itself, and not that memory ran out
pub record IsNamed (fault : InputFault) : Type 0 where
  pub layout : fault ≢ Layout layout.Memory
  pub certificate : fault ≢ Text text.Memory
  pub certificate_table : fault ≢ Text (text.Table table.Memory)
  pub table : fault ≢ Table table.Memory

-- one line of words that begin with `fault`
abbrev pub fault_line : List (List ℕ) → List ℕ
fault_line words = text_of ((codes "fault" ∷ words) ∷ [])

-- the line where the words are refused
abbrev pub words_line : List ℕ
words_line = fault_line (codes "words" ∷ [])

-- the line where the input is refused
abbrev pub input_line : InputFault → List ℕ
input_line fault = fault_line (codes "input" ∷ input_fault_words fault)

-- the line where more nodes would have to be searched than this limit
abbrev pub budget_line : ℕ → List ℕ
budget_line limit = fault_line (codes "budget" ∷ decimal limit ∷ [])

-- the line where the ground list has too many entries
abbrev pub list_too_long_line : List ℕ
list_too_long_line = fault_line (codes "list-too-long" ∷ [])
