-- no fault of a certificate text, and no refusal of a certificate, is want of memory
use Rattle.std.proofs.Common.{◌≡◌, ◌≢◌, subst, ℕ, ◌+◌, pos, List, [], ◌∷◌, length, ◌⊎◌, inl, inr, Option, None, Some, Bool, true, false, cond, not}
use Rattle.charge_model.specs.Problem.{Problem}
use Rattle.charge_model.specs.GroundList.{Entry}
use Rattle.table_lines.specs.declared.line.TableLine.{TableLine}
use Rattle.table_lines.specs.declared.line.TableLine.TheVariants as lines
use Rattle.table_lines.specs.declared.fault.LineWhy.TheVariants as why
use Rattle.table_lines.specs.declared.fault.TableFault.{TableFault}
use Rattle.table_lines.specs.declared.fault.TableFault.TheVariants as table
use Rattle.table_lines.specs.Kinds.{spans_of}
use Rattle.table_lines.specs.Ranges.{fault_in, has_many_sites, has_many_fixed, is_table_line_in_range, is_reversed, twice_in}
use Rattle.table_lines.specs.FineLines.{IsTableRowFault}
use Rattle.table_reading.specs.Reading.{IsFrontFault, IsLack}
use Rattle.certificate_model.specs.declared.token.Token.{Token}
use Rattle.certificate_model.specs.declared.refusal.CertRefusal.{CertRefusal}
use Rattle.certificate_model.specs.declared.refusal.CertRefusal.TheVariants as refusal
use Rattle.certificate_model.specs.Certificates.{IsCertificateRefusal}
use Rattle.certificate_reading.specs.declared.fault.CertText.{CertText}
use Rattle.certificate_reading.specs.declared.fault.CertText.TheVariants as cert
use Rattle.certificate_reading.specs.Texts.{IsCertFault}
use Rattle.fault_lines.specs.declared.input_fault.InputFault.TheVariants.{TooLong, Text}
use Rattle.fault_lines.specs.FaultLines.{IsNamed}

-- none, or another fault than want of memory
IsOther : Option TableFault → Type 0
IsOther o = o ≢ Some table.Memory

-- either of two, by a test
one_of : (b : Bool) (x y : Option TableFault) → IsOther x → IsOther y → IsOther (cond b x y)
one_of true x y here there = here
one_of false x y here there = there

-- a pair that came before
no_twice : (before : List TableLine) (l : TableLine) → IsOther (twice_in before l)
unfolding IsOther
no_twice before lines.FirstVersion e = absurd (cc)
no_twice before lines.SecondVersion e = absurd (cc)
no_twice before (lines.Sites n) e = absurd (cc)
no_twice before (lines.Fixed n) e = absurd (cc)
no_twice before (lines.Base b) e = absurd (cc)
no_twice before (lines.Levels m p) e = absurd (cc)
no_twice before (lines.Charge q) e = absurd (cc)
no_twice before (lines.Class lo hi) e = absurd (cc)
no_twice before (lines.Pair i j c) e = one_of _ (Some (table.TwicePair _ _)) None (λ e. absurd (cc)) (λ e. absurd (cc)) e
no_twice before (lines.Near i a c) e = one_of _ (Some (table.TwiceNear _ _)) None (λ e. absurd (cc)) (λ e. absurd (cc)) e
no_twice before lines.End e = absurd (cc)

-- the fault of a line
no_line_fault : (before : List TableLine) (number : ℕ) (l : TableLine) → IsOther (fault_in before number l)
unfolding IsOther
no_line_fault before number l =
    one_of (has_many_sites l) (Some table.TooMany) _ (λ e. absurd (cc))
    (one_of (has_many_fixed l) (Some table.TooManyFixed) _ (λ e. absurd (cc))
    (one_of (not (is_table_line_in_range before l)) (Some (table.Line number why.Range)) _ (λ e. absurd (cc))
    (one_of (is_reversed l) (Some (table.BadSpan (length (spans_of before)))) _ (λ e. absurd (cc))
    (no_twice before l))))

-- the fault of a row
no_row_fault : (number : ℕ) (before : List TableLine) (row : List (List ℕ)) (rest : List (List (List ℕ))) → IsTableRowFault number before row rest table.Memory → ⊥
unfolding IsOther
no_row_fault number before row [] wrong = let other = wrong.0 in absurd (cc (other))
no_row_fault number before row (next ∷ rest) (inl misplaced) = let other = misplaced.0 in absurd (cc (other))
no_row_fault number before row (next ∷ rest) (inr (l, is, short, follows, fault)) = no_line_fault before number l fault

-- of a text that begins with a table text
front_named : (first : ℕ) (text : List ℕ) → IsFrontFault first text table.Memory → ⊥
front_named first text (inl (wrong, ended)) = no_row_fault (first + length wrong.before) wrong.before wrong.row wrong.rest wrong.wrong
front_named first text (inr (ls, bytes, are, lack)) = lack

-- of a certificate text
not_of_table : (text : List ℕ) → IsCertFault text (cert.Table table.Memory) → ⊥
not_of_table text (inl version) = let other = version.form in absurd (cc (other))
not_of_table text (inr part) = front_named 2 part.behind part.wrong

-- so its fault, as that of an input, is named
pub text_named : (text : List ℕ) (f : CertText) → IsCertFault text f → IsNamed (Text f)
text_named text f found = record {
  layout = λ e. absurd (cc);
  certificate = λ e. let same : f ≡ cert.Memory = cc in subst (IsCertFault text) same found;
  certificate_table = λ e. let same : f ≡ cert.Table table.Memory = cc in not_of_table text (subst (IsCertFault text) same found);
  table = λ e. absurd (cc);
}

pub too_long_named : IsNamed TooLong
too_long_named = record { layout = λ e. absurd (cc); certificate = λ e. absurd (cc); certificate_table = λ e. absurd (cc); table = λ e. absurd (cc) }

-- the first test that a certificate fails
pub refusal_named : (p : Problem) (es : List Entry) (ts : List Token) (r : CertRefusal) → IsCertificateRefusal p (pos 0) es ts r → r ≢ refusal.Memory
refusal_named p es ts r refused e = let wrong = subst (IsCertificateRefusal p (pos 0) es ts) e refused in wrong.1
