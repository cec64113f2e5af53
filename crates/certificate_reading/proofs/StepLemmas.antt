-- one more line of a certificate text behind its table
use Rattle.std.proofs.Common.{◌≡◌, ◌∙◌, sym, ap, refl, subst, ℕ, ℤ, pos, ◌+◌, ◌-◌, ◌≤◌, ◌≤ℤ◌, List, [], ◌∷◌, ◌++◌, map, length, drop, true, not, length-append, arith, unsigned_abs, int_lt, All}
use Rattle.std.specs.List.{filter}
use Rattle.std.proofs.lemmas.List.Elements.{filter-append}
use Rattle.std.proofs.lemmas.Int.{ints}
use Rattle.std.proofs.lemmas.Bool.Decides.{nat_tests}
use Rattle.std.proofs.lemmas.List.{map-append, append-nil, length-map}
use Rattle.std.proofs.lemmas.List.Elements.{All-push}
use Rattle.charge_model.specs.declared.charge.Charge.{Charge}
use Rattle.charge_model.specs.Problem.{Problem}
use Rattle.charge_model.specs.GroundList.{Entry as Marked}
use Rattle.charge_model.specs.declared.mark.Mark.{Mark}
use Rattle.certificate_model.specs.declared.token.Token.{Token as Closing}
use Rattle.certificate_model.specs.declared.token.Token.TheVariants as closing
use Rattle.ground_entries.specs.declared.ground_list.Entry.{Entry as Fields}
use Rattle.ground_entries.specs.Seen.{seen}
use Rattle.text_rows.specs.Rows.{words, text_of}
use Rattle.text_rows.proofs.RowLemmas.{and_parts}
use Rattle.certificate_lines.specs.declared.line.TokenLine.{TokenLine}
use Rattle.certificate_lines.specs.declared.line.TokenLine.TheVariants as token
use Rattle.certificate_lines.specs.declared.line.MarkLine.{MarkLine}
use Rattle.certificate_lines.specs.declared.line.CertLine.{CertLine}
use Rattle.certificate_lines.specs.declared.line.CertLine.TheVariants.{Entries, Entry, Tokens, Token, End}
use Rattle.certificate_lines.specs.TokenRows.{line_of_token}
use Rattle.certificate_lines.specs.MarkRows.{mark_line}
use Rattle.certificate_lines.specs.Lines.{certificate_line_words, entry_line}
use Rattle.certificate_reading.specs.declared.counts.TextPart.{TextPart}
use Rattle.certificate_reading.specs.declared.counts.TextPart.TheVariants as part
use Rattle.certificate_reading.specs.declared.counts.Counts.{Counts}
use Rattle.certificate_reading.specs.Counts.{counts_after}
use Rattle.certificate_reading.specs.Order.{is_entry, is_token}
use Rattle.certificate_reading.specs.Ranges.{is_token_in_range, is_token_number, FitsLine}
use Rattle.certificate_reading.specs.Body.{IsFineCertificateLine, token_lines}
use Rattle.certificate_reading.specs.Scanning.{StandsBehind, IsReadTo, start_after}
use Rattle.certificate_reading.proofs.RangeLemmas.{entries_first, entry_place, tokens_place, token_place}
use Rattle.certificate_reading.proofs.FineLemmas.{counts_push, fine_more, front_more, behind_front}

-- the entry of a line, added to the others
pub entry_pushed : (old new : List Fields) (cs : List Charge) (m : MarkLine) (l : CertLine) (mark : Mark) → l ≡ Entry cs m → mark_line mark ≡ m → new ≡ old ++ record { charges = cs; mark = mark } ∷ []
    → map entry_line (map seen new) ≡ map entry_line (map seen old) ++ filter is_entry (l ∷ [])
entry_pushed old new cs m l mark is same push =
    ap (map entry_line) (ap (map seen) push ∙ map-append seen old (record { charges = cs; mark = mark } ∷ []))
    ∙ map-append entry_line (map seen old) (record { charges = cs; mark = mark } ∷ [])
    ∙ ap (λ x. map entry_line (map seen old) ++ Entry cs x ∷ []) same
    ∙ ap (λ x. map entry_line (map seen old) ++ filter is_entry (x ∷ [])) (sym is)

-- the token of a line in range
abbrev IsTokenOf : TokenLine → Type 0
IsTokenOf t = (tok : Closing) × (line_of_token tok ≡ t)

number_of : (z : ℤ) → is_token_number z ≡ true → pos (unsigned_abs z) ≡ z
number_of z h =
    let both = and_parts (not (int_lt z (pos 0))) (not (int_lt (pos 9999) z)) h in
    let low = both.0 in
    let from : pos 0 ≤ℤ z = grind (arith, ints, nat_tests) in
    omega (arith, ints, from)

pub token_of_line : (t : TokenLine) → is_token_in_range t ≡ true → IsTokenOf t
token_of_line token.Node h = (closing.Node, refl)
token_of_line (token.Site k) h = (closing.Site (unsigned_abs k), ap token.Site (number_of k h))
token_of_line (token.Energy k) h = (closing.Energy (unsigned_abs k), ap token.Energy (number_of k h))
token_of_line (token.Listed k) h = (closing.Listed (unsigned_abs k), ap token.Listed (number_of k h))
token_of_line (token.Population k) h = (closing.Population (unsigned_abs k), ap token.Population (number_of k h))
token_of_line (token.Beaten k) h = (closing.Beaten (unsigned_abs k), ap token.Beaten (number_of k h))
token_of_line (token.Hop i j) h =
    let both = and_parts (is_token_number i) (is_token_number j) h in
    let first = number_of i both.0 in
    let second = number_of j both.1 in
    (closing.Hop (unsigned_abs i) (unsigned_abs j), ap (λ x. token.Hop x (pos (unsigned_abs j))) first ∙ ap (λ x. token.Hop i x) second)

-- a line that is read, behind those that were
pub record IsLineRead (p : Problem) (c : Counts) (text rest line behind : List ℕ) (l : CertLine) : Type 0 where
  pub bytes : rest ≡ line ++ 10 ∷ behind
  pub row : words line ≡ certificate_line_words l
  pub fine : IsFineCertificateLine p c l

-- what one more line adds to the entries and the tokens
abbrev pub AddsEntries : List Marked → List Marked → CertLine → Type 0
AddsEntries es fs l = map entry_line fs ≡ map entry_line es ++ filter is_entry (l ∷ [])

pub record HasTokens (p : Problem) (c : Counts) (text behind : List ℕ) (start : ℕ) (ts : List Closing) (l : CertLine) : Type 0 where
  pub tokens : List Closing
  pub are : token_lines tokens ≡ token_lines ts ++ filter is_token (l ∷ [])
  pub count : (counts_after c l).tokens ≡ length tokens
  pub fit : All FitsLine tokens
  pub place : StandsBehind (counts_after c l).part text (start_after start (length text - length behind) l) tokens behind

moved : (q r : TextPart) (text rest : List ℕ) (start : ℕ) (ts : List Closing) → q ≡ r → StandsBehind q text start ts rest → StandsBehind r text start ts rest
moved q r text rest start ts e h = subst (λ x. StandsBehind x text start ts rest) e h

same_tokens : (ts : List Closing) → token_lines ts ≡ token_lines ts ++ []
same_tokens ts = sym (append-nil (token_lines ts))

tokens_more : (p : Problem) (text rest line behind : List ℕ) (c : Counts) (ls : List CertLine) (start : ℕ) (ts : List Closing) (l : CertLine) → text ≡ text_of (map certificate_line_words ls) ++ rest
    → c.tokens ≡ length ts → All FitsLine ts → StandsBehind c.part text start ts rest → IsLineRead p c text rest line behind l → HasTokens p c text behind start ts l
tokens_more p text rest line behind c ls start ts (Entries n) whole count fit place read = record {
  tokens = ts;
  are = same_tokens ts;
  count = count;
  fit = fit;
  place = moved c.part part.Start text rest start ts (entries_first p c c.part n read.fine.follows) place;
}
tokens_more p text rest line behind c ls start ts (Entry cs m) whole count fit place read = record {
  tokens = ts;
  are = same_tokens ts;
  count = count;
  fit = fit;
  place = moved c.part part.Entries text rest start ts (entry_place p c c.part (Entry cs m) refl refl refl refl read.fine.follows).part place;
}
tokens_more p text rest line behind c ls start ts Tokens whole count fit place read =
    let none : ts ≡ [] = moved c.part part.Entries text rest start ts (tokens_place p c c.part read.fine.follows) place in
    record {
      tokens = ts;
      are = same_tokens ts;
      count = count;
      fit = fit;
      place = behind_front text (text_of (map certificate_line_words (ls ++ Tokens ∷ []))) behind (front_more text rest line behind ls Tokens whole read.bytes read.row) ∙ ap (λ x. text_of (map certificate_line_words (token_lines x)) ++ behind) (sym none);
    }
tokens_more p text rest line behind c ls start ts (Token t) whole count fit place read =
    let of = token_of_line t (and_parts (is_token_in_range t) _ read.fine.in_range).0 in
    let at = moved c.part part.Tokens text rest start ts (token_place p c c.part (Token t) refl refl refl read.fine.follows) place in
    let lines : token_lines (ts ++ of.0 ∷ []) ≡ token_lines ts ++ Token t ∷ [] = map-append (λ x. Token (line_of_token x)) ts (of.0 ∷ []) ∙ ap (λ x. token_lines ts ++ Token x ∷ []) of.1 in
    record {
      tokens = ts ++ of.0 ∷ [];
      are = lines;
      count = omega (arith, count, length-append ts (of.0 ∷ []));
      fit = All-push FitsLine ts of.0 fit (ap is_token_in_range of.1 ∙ (and_parts (is_token_in_range t) _ read.fine.in_range).0);
      place = front_more (drop start text) rest line behind (token_lines ts) (Token t) at read.bytes read.row ∙ ap (λ x. text_of (map certificate_line_words x) ++ behind) (sym lines);
    }
tokens_more p text rest line behind c ls start ts End whole count fit place read =
    let at = moved c.part part.Tokens text rest start ts (token_place p c c.part End refl refl refl read.fine.follows) place in
    record {
      tokens = ts;
      are = same_tokens ts;
      count = count;
      fit = fit;
      place = front_more (drop start text) rest line behind (token_lines ts) End at read.bytes read.row;
    }

-- one more line was read
pub read_more : (p : Problem) (text rest line behind : List ℕ) (c : Counts) (es fs : List Marked) (ts : List Closing) (start : ℕ) (ls : List CertLine) (l : CertLine) → IsReadTo p text rest c es ts start ls
    → IsLineRead p c text rest line behind l → AddsEntries es fs l
    → (us : List Closing) × IsReadTo p text behind (counts_after c l) fs us (start_after start (length text - length behind) l) (ls ++ l ∷ [])
read_more p text rest line behind c es fs ts start ls l read line_read adds =
    let more = tokens_more p text rest line behind c ls start ts l read.whole read.tokens read.fit read.place line_read in (
      more.tokens,
      record {
        whole = front_more text rest line behind ls l read.whole line_read.bytes line_read.row;
        fine = fine_more p ls l read.fine (subst (λ x. IsFineCertificateLine p x l) read.counted line_read.fine);
        counted = ap (λ x. counts_after x l) read.counted ∙ sym (counts_push ls l);
        of = record {
          entries = filter-append is_entry ls (l ∷ []) ∙ ap (λ x. x ++ filter is_entry (l ∷ [])) read.of.entries ∙ sym adds;
          tokens = filter-append is_token ls (l ∷ []) ∙ ap (λ x. x ++ filter is_token (l ∷ [])) read.of.tokens ∙ sym more.are;
        };
        entries = entries_count c es fs l read.entries adds;
        tokens = more.count;
        fit = more.fit;
        within = start_within l;
        place = more.place;
      },
    )
  where
    start_within : (l : CertLine) → start_after start (length text - length behind) l ≤ length text
    start_within (Entries n) = read.within
    start_within (Entry cs m) = read.within
    start_within Tokens = omega arith
    start_within (Token t) = read.within
    start_within End = read.within

    many : (es fs : List Marked) (l : CertLine) → AddsEntries es fs l → length fs ≡ length es + length (filter is_entry (l ∷ []))
    many es fs l adds = simp (length-map, length-append) at (ap length adds)

    entries_count : (c : Counts) (es fs : List Marked) (l : CertLine) → c.entries ≡ length es → AddsEntries es fs l → (counts_after c l).entries ≡ length fs
    entries_count c es fs (Entries n) count adds = omega (arith, count, many es fs (Entries n) adds)
    entries_count c es fs (Entry cs m) count adds = omega (arith, count, many es fs (Entry cs m) adds)
    entries_count c es fs Tokens count adds = omega (arith, count, many es fs Tokens adds)
    entries_count c es fs (Token t) count adds = omega (arith, count, many es fs (Token t) adds)
    entries_count c es fs End count adds = omega (arith, count, many es fs End adds)
