-- texts that say something else
use Rattle.std.proofs.Common.{◌≡◌, ℕ, List, [], get_or, ap, arith, pos, None, Some, false}
use Rattle.std.specs.Fmt.{digits}
use Rattle.charge_model.specs.Problem.{Problem}
use Rattle.charge_model.specs.GroundList.{Entry}
use Rattle.sidb_layout.specs.Lattice.{silicon}
use Rattle.sidb_layout.specs.Layout.{arrangement_of}
use Rattle.ground_report.specs.declared.about.About.{About}
use Rattle.sim_report.specs.GroundText.{lattice_rows, ground_title_rows, count_rows, IsGroundText}
use Rattle.sidb_units.specs.Decimal.{last_digits}
use Rattle.sim_report.specs.OccupationText.{occupation_title_rows, share_row}
use Rattle.sim_report.specs.WindowText.{window_title_rows}
use Rattle.sim_report.proofs.StandardFacts.{closer, beside_fixed, neutral}

no_line_for_silicon : lattice_rows silicon ≡ [] → lattice_rows closer ≡ [] → ⊥
no_line_for_silicon is other = absurd (cc)

not_version_1 : (n : ℕ) → ground_title_rows beside_fixed n ≡ ground_title_rows (record { layout = None; skipped = 0 }) n → ⊥
unfolding digits
not_version_1 n is = let differ : 50 ≡ 49 = ap (λ (rows : List (List (List ℕ))). get_or (get_or (get_or rows 0 []) 1 []) 0 0) is in omega (arith, differ)

skipped_items_count : count_rows (record { layout = Some (arrangement_of silicon [] []); skipped = 1 }) 0 ≡ count_rows (record { layout = None; skipped = 1 }) 0 → ⊥
unfolding digits
skipped_items_count is = let differ : 49 ≡ 48 = ap (λ (rows : List (List (List ℕ))). get_or (get_or (get_or rows 0 []) 1 []) 0 0) is in omega (arith, differ)

no_empty_text : (a : About) (p : Problem) (es : List Entry) → IsGroundText a p es false [] → ⊥
no_empty_text a p es is = absurd (cc)

the_window_is_named : (n : ℕ) → window_title_rows (pos 1) n ≡ window_title_rows (pos 2) n → ⊥
unfolding digits
the_window_is_named n is = let differ : 49 ≡ 50 = ap (λ (rows : List (List (List ℕ))). get_or (get_or (get_or rows 1 []) 1 []) 0 0) is in omega (arith, differ)

kt_is_named : (n k : ℕ) → occupation_title_rows (pos 0) (pos 1) n k ≡ occupation_title_rows (pos 0) (pos 2) n k → ⊥
unfolding digits
kt_is_named n k is = let differ : 49 ≡ 50 = ap (λ (rows : List (List (List ℕ))). get_or (get_or (get_or rows 2 []) 1 []) 0 0) is in omega (arith, differ)

ends_of_shares_are_two : share_row (neutral, record { lo = pos 0; hi = pos 1 }) ≡ share_row (neutral, record { lo = pos 0; hi = pos 0 }) → ⊥
unfolding digits last_digits
ends_of_shares_are_two is = let differ : 49 ≡ 48 = ap (λ (row : List (List ℕ)). get_or (get_or row 2 []) 10 0) is in omega (arith, differ)
