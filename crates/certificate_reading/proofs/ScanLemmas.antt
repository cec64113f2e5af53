-- reading all lines behind a table
use Rattle.std.proofs.Common.{◌≡◌, ◌∙◌, sym, ap, refl, subst, ℕ, suc, ◌+◌, ◌-◌, ◌≤◌, List, [], ◌∷◌, ◌++◌, map, length, drop, true, false, ◌==◌, arith, length-append}
use Rattle.std.proofs.lemmas.Int.{ints}
use Rattle.std.proofs.lemmas.Bool.Decides.{nat_tests}
use Rattle.std.proofs.lemmas.List.{append-nil, length-map}
use Rattle.std.proofs.lemmas.List.Elements.{All-nil}
use Rattle.charge_model.specs.Problem.{Problem}
use Rattle.ground_entries.specs.Seen.{seen}
use Rattle.text_rows.specs.Rows.{rows, words, text_of, lines}
use Rattle.text_rows.proofs.RowLemmas.{one_text, rows_back}
use Rattle.table_lines.proofs.FrontLemmas.{some_row}
use Rattle.table_lines.specs.declared.fault.LineWhy.{LineWhy}
use Rattle.table_lines.specs.declared.fault.LineWhy.TheVariants.{Form}
use Rattle.certificate_lines.specs.declared.line.CertLine.{CertLine}
use Rattle.certificate_lines.specs.Lines.{certificate_line_words, entry_line}
use Rattle.certificate_reading.specs.declared.counts.TextPart.{TextPart}
use Rattle.certificate_reading.specs.declared.counts.TextPart.TheVariants as part
use Rattle.certificate_reading.specs.declared.counts.Counts.{Counts}
use Rattle.certificate_reading.specs.declared.scanned.Scanned.{Scanned}
use Rattle.certificate_reading.specs.Counts.{no_counts, counts_after, counts_of, is_certificate_ended, is_last_part}
use Rattle.certificate_reading.specs.Order.{may_follow_counts, may_follow_part}
use Rattle.certificate_model.specs.declared.token.Token.{Token as Closing}
use Rattle.certificate_reading.specs.Texts.{token_part}
use Rattle.certificate_reading.specs.Ranges.{AreCountsInRange}
use Rattle.certificate_reading.specs.Body.{IsFineCertificateLine, IsBodyFault, IsCertificateRowFault, IsWrongCertificateRow}
use Rattle.certificate_reading.specs.Scanning.{StandsBehind, IsReadTo, IsScannedTo, IsScanned, Takes}
use Rattle.certificate_reading.proofs.FineLemmas.{in_range, front_rows, fine_rows, many_lines}
use Rattle.certificate_reading.proofs.StepLemmas.{read_more}

-- the bytes of the lines of tokens and of the line `end`
abbrev token_bytes : List Closing → List ℕ
token_bytes ts = token_part ts

-- nothing is read yet
pub begin : (p : Problem) (first : ℕ) (text : List ℕ) (s : Scanned) → s.counts ≡ no_counts → s.entries.items ≡ [] → s.start ≡ 0 → IsScannedTo p first text text s first
begin p first text s counts entries start = record {
  lines = [];
  tokens = [];
  numbered = omega arith;
  read = record {
    whole = refl;
    fine = tt;
    counted = counts;
    of = record { entries = ap (λ x. map entry_line (map seen x)) (sym entries); tokens = refl };
    entries = ap (λ c. c.entries) counts ∙ ap (λ x. length (map seen x)) (sym entries);
    tokens = ap (λ c. c.tokens) counts;
    fit = All-nil _;
    within = omega (arith, start);
    place = subst (λ c. StandsBehind c.part text s.start [] text) (sym counts) refl;
  };
}

-- one more line is read
pub more : (p : Problem) (first : ℕ) (text rest line behind : List ℕ) (old new : Scanned) (number : ℕ) (l : CertLine) → IsScannedTo p first text rest old number → rest ≡ line ++ 10 ∷ behind → words line ≡ certificate_line_words l → IsFineCertificateLine p old.counts l
    → Takes old new (length text - length behind) l → IsScannedTo p first text behind new (number + 1)
more p first text rest line behind old new number l at bytes row fine takes =
    let read = read_more p text rest line behind old.counts _ (map seen new.entries.items) at.tokens old.start at.lines l at.read (record { bytes = bytes; row = row; fine = fine }) takes.entries in
    record {
      lines = at.lines ++ l ∷ [];
      tokens = read.0;
      numbered = omega (arith, at.numbered, length-append at.lines (l ∷ []));
      read = subst (λ c. IsReadTo p text behind c (map seen new.entries.items) read.0 new.start (at.lines ++ l ∷ [])) (sym takes.counts)
          (subst (λ n. IsReadTo p text behind (counts_after old.counts l) (map seen new.entries.items) read.0 n (at.lines ++ l ∷ [])) (sym takes.start) read.1);
    }

pub ranges : (p : Problem) (first : ℕ) (text rest : List ℕ) (s : Scanned) (number : ℕ) → IsScannedTo p first text rest s number → AreCountsInRange s.counts
ranges p first text rest s number at = subst AreCountsInRange (sym at.read.counted) (in_range p at.lines at.read.fine)

-- the next number fits
pub few : (p : Problem) (first : ℕ) (text rest : List ℕ) (s : Scanned) (number : ℕ) → IsScannedTo p first text rest s number → number + length rest ≤ first + length text
few p first text rest s number at = omega (arith, at.numbered, many_lines text rest (map certificate_line_words at.lines) at.read.whole, length-map at.lines certificate_line_words)

-- there is no line feed
pub no_feed : (p : Problem) (first : ℕ) (text rest : List ℕ) (s : Scanned) (number : ℕ) → IsScannedTo p first text rest s number → lines rest ≡ rest ∷ [] → is_certificate_ended s.counts ≡ false → IsBodyFault p first text number Form
no_feed p first text rest s number at last open' = record {
  before = at.lines;
  row = words rest;
  rest = [];
  rows_are = front_rows p text rest at.lines at.read.whole at.read.fine ∙ ap (λ r. map certificate_line_words at.lines ++ map words r) last;
  fine = at.read.fine;
  numbered = at.numbered;
  wrong = (refl, λ ended row. let no : is_certificate_ended s.counts ≡ true = ap is_certificate_ended at.read.counted ∙ ended in absurd (cc (no, open')));
}

-- the row is wrong
pub wrong_row : (p : Problem) (first : ℕ) (text rest line behind : List ℕ) (s : Scanned) (number : ℕ) (why : LineWhy) → IsScannedTo p first text rest s number → lines rest ≡ line ∷ lines behind → IsWrongCertificateRow p s.counts (words line) why → IsBodyFault p first text number why
wrong_row p first text rest line behind s number why at cut wrong =
    let next = some_row behind in
    record {
      before = at.lines;
      row = words line;
      rest = next.0 ∷ next.1;
      rows_are = front_rows p text rest at.lines at.read.whole at.read.fine ∙ ap (λ r. map certificate_line_words at.lines ++ r) (ap (map words) cut ∙ ap (λ r. words line ∷ r) next.2);
      fine = at.read.fine;
      numbered = at.numbered;
      wrong = subst (λ c. IsWrongCertificateRow p c (words line) why) at.read.counted wrong;
    }

-- nothing may follow the line `end`
pub after_end : (p : Problem) (c : Counts) (l : CertLine) → is_certificate_ended c ≡ true → may_follow_counts p c l ≡ false
after_end p c l ended = by c.part ended
  where
    by : (q : TextPart) → is_last_part q ≡ true → may_follow_part p c q l ≡ false
    by part.Start h = absurd (cc (h))
    by part.Entries h = absurd (cc (h))
    by part.Tokens h = absurd (cc (h))
    by part.End h = refl

-- there are bytes behind the line `end`
pub bytes_behind : (p : Problem) (first : ℕ) (text rest : List ℕ) (s : Scanned) (number : ℕ) → IsScannedTo p first text rest s number → is_certificate_ended s.counts ≡ true → (rest ≡ [] → ⊥) → IsBodyFault p first text number Form
bytes_behind p first text rest s number at ended some = by (some_row rest).0 (some_row rest).1 (some_row rest).2
  where
    done : is_certificate_ended (counts_of at.lines) ≡ true
    done = ap is_certificate_ended (sym at.read.counted) ∙ ended

    wrong : (row : List (List ℕ)) (more : List (List (List ℕ))) → rows rest ≡ row ∷ more → IsCertificateRowFault p (counts_of at.lines) row more Form
    wrong row [] e = (refl, λ _ none. some (one_text rest [] (e ∙ ap (λ r. r ∷ []) none)))
    wrong row (next ∷ more) e = λ l short is. after_end p (counts_of at.lines) l done

    by : (row : List (List ℕ)) (more : List (List (List ℕ))) → rows rest ≡ row ∷ more → IsBodyFault p first text number Form
    by row more e = record {
      before = at.lines;
      row = row;
      rest = more;
      rows_are = front_rows p text rest at.lines at.read.whole at.read.fine ∙ ap (λ r. map certificate_line_words at.lines ++ r) e;
      fine = at.read.fine;
      numbered = at.numbered;
      wrong = wrong row more e;
    }

-- the text is read to its end
pub end : (p : Problem) (first : ℕ) (text rest : List ℕ) (s : Scanned) (number : ℕ) → IsScannedTo p first text rest s number → is_certificate_ended s.counts ≡ true → rest ≡ [] → IsScanned p text s
end p first text rest s number at ended none =
    let all : text ≡ text_of (map certificate_line_words at.lines) = at.read.whole ∙ ap (λ r. text_of (map certificate_line_words at.lines) ++ r) none ∙ append-nil (text_of (map certificate_line_words at.lines)) in
    let ranges = ranges p first text rest s number at in
    let count = at.read.entries in
    record {
      tokens = at.tokens;
      body = record {
        lines = at.lines;
        whole = record {
          rows_are = ap rows all ∙ rows_back (map certificate_line_words at.lines) (fine_rows p no_counts at.lines at.read.fine);
          fine = at.read.fine;
          ended = ap is_certificate_ended (sym at.read.counted) ∙ ended;
        };
        of = at.read.of;
      };
      within = at.read.within;
      place = last s.counts.part ended at.read.place ∙ ap (λ r. token_bytes at.tokens ++ r) none ∙ append-nil (token_bytes at.tokens);
      count = at.read.tokens;
      fit = at.read.fit;
      few_tokens = ranges.tokens;
      few_entries = omega (arith, ints, ranges.entries, ranges.greatest, count, length-map s.entries.items seen);
    }
  where
    last : (q : TextPart) → is_last_part q ≡ true → StandsBehind q text s.start at.tokens rest → drop s.start text ≡ token_bytes at.tokens ++ rest
    last part.Start h place = absurd (cc (h))
    last part.Entries h place = absurd (cc (h))
    last part.Tokens h place = absurd (cc (h))
    last part.End h place = place

-- a text that is empty, or not
pub is_nothing : (text : List ℕ) → (length text == 0) ≡ true → text ≡ []
is_nothing [] h = refl
is_nothing (b ∷ text) h = absurd (no_zero (length text) h)
  where
    no_zero : (n : ℕ) → (suc n == 0) ≡ true → ⊥
    no_zero n e = grind (arith, nat_tests)

pub is_something : (text : List ℕ) → (length text == 0) ≡ false → text ≡ [] → ⊥
is_something [] h e = grind (arith, nat_tests)
is_something (b ∷ text) h e = cc (e)
