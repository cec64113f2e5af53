-- the whole text from its parts
use Rattle.std.proofs.Common.{◌≡◌, ◌∙◌, ap, sym, refl, ℕ, List, [], ◌∷◌, ◌++◌, append_assoc, length, map, suc, Bool, true, false}
use Rattle.std.specs.Prelude.{zip}
use Rattle.std.proofs.lemmas.List.{length-map}
use Rattle.charge_model.specs.Problem.{Problem}
use Rattle.charge_model.specs.declared.span.Span.{Span}
use Rattle.charge_model.specs.GroundList.{Entry}
use Rattle.ground_report.specs.declared.about.About.{About}
use Rattle.ground_report.specs.Energies.{AreEnergies}
use Rattle.text_rows.specs.Rows.{text_of, end_rows}
use Rattle.entry_lines.specs.EntryLines.{entry_words}
use Rattle.sim_report.specs.GroundText.{layout_rows, count_rows, titled_text, energy_row, AreEntryLines, IsTitledText}
use Rattle.sim_report.proofs.RowLemmas.{text_of-append}

-- a list of energies is as long as its list of entries
one_each : (p : Problem) (es : List Entry) (spans : List Span) → AreEnergies p es spans → length (zip es spans) ≡ length es
one_each p [] [] energies = refl
one_each p [] (s ∷ spans) energies = elim energies [ ]
one_each p (e ∷ es) [] energies = elim energies [ ]
one_each p (e ∷ es) (s ∷ spans) energies = ap suc (one_each p es spans energies.1)

-- the lines before the entries, these, and the last line
whole_text : (title : List (List (List ℕ))) (a : About) (n : ℕ) (rows : List (List (List ℕ))) (head entries body text : List ℕ) → head ≡ text_of (title ++ (layout_rows a.layout ++ count_rows a n)) → length rows ≡ n → entries ≡ text_of rows → body ≡ head ++ entries → text ≡ body ++ text_of end_rows → text ≡ titled_text title a rows
whole_text title a n rows head entries body text before count is more whole =
    let counted : head ≡ text_of (title ++ (layout_rows a.layout ++ count_rows a (length rows))) = before ∙ ap (λ k. text_of (title ++ (layout_rows a.layout ++ count_rows a k))) (sym count) in
    let behind : entries ++ text_of end_rows ≡ text_of (rows ++ end_rows) = ap (λ t. t ++ text_of end_rows) is ∙ sym (text_of-append rows end_rows) in
    whole ∙ ap (λ t. t ++ text_of end_rows) more ∙ append_assoc head entries (text_of end_rows) ∙ ap (λ t. head ++ t) behind ∙ ap (λ t. t ++ text_of (rows ++ end_rows)) counted
    ∙ sym (text_of-append (title ++ (layout_rows a.layout ++ count_rows a (length rows))) (rows ++ end_rows))
    ∙ ap text_of (append_assoc title (layout_rows a.layout ++ count_rows a (length rows)) (rows ++ end_rows) ∙ ap (λ t. title ++ t) (append_assoc (layout_rows a.layout) (count_rows a (length rows)) (rows ++ end_rows)))

-- the text under this title from the lines of its entries
pub whole : (title : List (List (List ℕ))) (a : About) (p : Problem) (es : List Entry) (energies : Bool) (n : ℕ) (head entries body text : List ℕ) → head ≡ text_of (title ++ (layout_rows a.layout ++ count_rows a n)) → length es ≡ n → AreEntryLines p es energies entries → body ≡ head ++ entries → text ≡ body ++ text_of end_rows → IsTitledText title a p es energies text
whole title a p es false n head entries body text before count is more end =
    whole_text title a n (map entry_words es) head entries body text before (length-map es entry_words ∙ count) is more end
whole title a p es true n head entries body text before count is more end =
    record { spans = is.spans; energies = is.energies; prints = whole_text title a n (map energy_row (zip es is.spans)) head entries body text before (length-map (zip es is.spans) energy_row ∙ one_each p es is.spans is.energies ∙ count) is.prints more end }
